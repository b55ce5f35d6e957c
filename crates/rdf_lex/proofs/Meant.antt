-- A token's text stands for one text.
use Rattle.std.proofs.Common.{◌≡◌, ℕ, true, List, [], ◌∷◌, Result, Ok, Err, refl, sym, ap, subst, ◌∙◌, arith, string_bytes}
use Rattle.std.specs.Prelude.{String}
use Rattle.std.specs.declared.alloc.Global.{Global}
use Rattle.std.specs.List.{list_all}
use Rattle.std.specs.Str.{chars, all_scalars}
use Rattle.std.proofs.lemmas.Bool.Decides.{nat_tests}
use Rattle.std.proofs.lemmas.Str.{chars-encodes}
use Rattle.std.proofs.Math.Utf8.{scalar}
use Rattle.rdf_lex.specs.declared.escapes.Inside.{Inside}
use Rattle.rdf_lex.specs.declared.escapes.Inside.TheVariants.{Iri, Text, Local}
use Rattle.rdf_lex.specs.declared.escapes.Reading.{Reading}
use Rattle.rdf_lex.specs.declared.escapes.Reading.TheVariants as reading
use Rattle.rdf_lex.specs.declared.escapes.Step.{Step}
use Rattle.rdf_lex.specs.declared.escapes.Step.TheVariants as step
use Rattle.rdf_lex.specs.declared.escapes.LexError.{LexError}
use Rattle.rdf_lex.specs.declared.escapes.LexError.TheVariants as error
use Rattle.rdf_lex.specs.declared.kinds.Kind.{Kind}
use Rattle.rdf_lex.specs.Characters.{has, iri_char}
use Rattle.rdf_lex.specs.Escapes.{StandsFor, fits, is_character, step_after, inside_of, Body, IsSpelled, holds_text, ReadsAs, IsMeaning, Unescapes}
use Rattle.rdf_lex.proofs.Languages.{and_true}
use Rattle.rdf_lex.proofs.Meanings.{has_meaning}
use Rattle.rdf_lex.proofs.Unescaping.{ReadsFrom, AfterStep, after_step, at_end}

-- the numbers that a reader of escapes gives
abbrev given_on : (Reading → List ℕ) → Step → List ℕ
given_on go (step.On t) = go t
given_on go (step.Gives n) = n ∷ go reading.Plain

abbrev given : Inside → List ℕ → Reading → List ℕ
given w [] s = []
given w (c ∷ cs) s = given_on (given w cs) (step_after w s c)

given_by : (w : Inside) (cs out : List ℕ) (st : Step) → ((s : Reading) (r : List ℕ) → ReadsFrom w s cs r → r ≡ given w cs s) → AfterStep w st cs out → out ≡ given_on (given w cs) st
given_by w cs out (step.On t) ih h = ih t out h
given_by w cs out (step.Gives n) ih (r, e, h) = e ∙ ap (λ (v : List ℕ). n ∷ v) (ih reading.Plain r h)

is_given : (w : Inside) (cs out : List ℕ) (s : Reading) → ReadsFrom w s cs out → out ≡ given w cs s
is_given w [] out s h = at_end w s [] out refl h
is_given w (c ∷ cs) out s h = given_by w cs out (step_after w s c) (λ t r k. is_given w cs r t k) (after_step w s c cs out h)

pub stands_for_one : (w : Inside) (cs a b : List ℕ) → StandsFor w cs a → StandsFor w cs b → a ≡ b
stands_for_one w cs a b h k = is_given w cs a reading.Plain h ∙ sym (is_given w cs b reading.Plain k)

-- characters
scalar_is : (n : ℕ) → is_character n ≡ true → scalar n ≡ true
scalar_is n e = grind (arith, nat_tests)

fit_scalar : (w : Inside) (n : ℕ) → fits w n ≡ true → scalar n ≡ true
fit_scalar Iri n e = scalar_is n (and_true (is_character n) (has iri_char n) e).0
fit_scalar Text n e = scalar_is n e
fit_scalar Local n e = scalar_is n e

fit_scalars : (w : Inside) (out : List ℕ) → list_all (fits w) out ≡ true → all_scalars out ≡ true
fit_scalars w [] e = refl
fit_scalars w (n ∷ ns) e = let p = and_true (fits w n) (list_all (fits w) ns) e in rw (fit_scalar w n p.0, fit_scalars w ns p.1) refl

answers : (k : Kind) (text out : List ℕ) (r : Result (String Global) LexError) → IsMeaning k text out → ReadsAs (inside_of k) out r → Unescapes k text r
answers k text out (Ok t) m (e, f) =
    let same : out ≡ chars (string_bytes t) = sym (chars-encodes out (fit_scalars (inside_of k) out f)) ∙ ap chars (sym e) in
    (subst (IsMeaning k text) same m, subst (λ (v : List ℕ). list_all (fits (inside_of k)) v ≡ true) same f)
answers k text out (Err error.Escape) m e = (out, m, e)
answers k text out (Err error.Memory) m e = tt

pub unescapes : (k : Kind) (text part : List ℕ) (r : Result (String Global) LexError) → holds_text k ≡ true → IsSpelled k text → ((body : List ℕ) → Body k text body → chars part ≡ body)
    → ((out : List ℕ) → StandsFor (inside_of k) (chars part) out → ReadsAs (inside_of k) out r) → Unescapes k text r
unescapes k text part r holds spelled body reads =
    let (out, (b, hb, hs)) = has_meaning k text holds spelled in
    let here : StandsFor (inside_of k) (chars part) out = subst (λ (v : List ℕ). StandsFor (inside_of k) v out) (sym (body b hb)) hs in
    answers k text out r
    (record {
      means = (b, hb, hs);
      only = λ other (b2, hb2, hs2). stands_for_one (inside_of k) (chars part) other out (subst (λ (v : List ℕ). StandsFor (inside_of k) v other) (sym (body b2 hb2)) hs2) here;
    })
    (reads out here)

-- there is such a part
pub has_body : (k : Kind) (text : List ℕ) → holds_text k ≡ true → IsSpelled k text → (body : List ℕ) × Body k text body
has_body k text holds spelled = let (out, (b, hb, hs)) = has_meaning k text holds spelled in (b, hb)
