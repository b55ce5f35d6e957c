-- Reading a part of a text character by character gives what it stands for.
use Rattle.std.proofs.Common.{◌≡◌, ℕ, suc, ◌<◌, Bool, true, false, cond, ◌&&◌, List, [], ◌∷◌, ◌++◌, length, Result, Ok, Err, refl, sym, ap, subst, ◌∙◌, arith, inl, inr, append_assoc, encode_utf8, encode_utf8_all}
use Rattle.std.specs.Prelude.{nat_eq, String}
use Rattle.std.specs.declared.alloc.Global.{Global}
use Rattle.std.specs.List.{fold, list_all}
use Rattle.std.specs.Str.{chars, IsUtf8}
use Rattle.std.proofs.lemmas.Bool.{eqb-true}
use Rattle.std.proofs.lemmas.List.{append-nil}
use Rattle.std.proofs.lemmas.List.Folds.{list_all-append}
use Rattle.std.proofs.lemmas.Str.{chars_past_char, IsUtf8-past_char, chars-nil, encodes-append}
use Rattle.std.proofs.lemmas.List.{nil_from_length}
use Rattle.std.proofs.Math.Utf8.{encode}
use Rattle.rdf_lex.specs.declared.escapes.Inside.{Inside}
use Rattle.rdf_lex.specs.declared.escapes.Inside.TheVariants.{Iri, Text, Local}
use Rattle.rdf_lex.specs.declared.escapes.Reading.{Reading}
use Rattle.rdf_lex.specs.declared.escapes.Reading.TheVariants as reading
use Rattle.rdf_lex.specs.declared.escapes.Step.{Step}
use Rattle.rdf_lex.specs.declared.escapes.Step.TheVariants as step
use Rattle.rdf_lex.specs.declared.escapes.LexError.{LexError}
use Rattle.rdf_lex.specs.declared.escapes.LexError.TheVariants as error
use Rattle.rdf_lex.specs.declared.machine.Left.{Left}
use Rattle.rdf_lex.specs.declared.machine.Left.TheVariants as left
use Rattle.rdf_lex.specs.Machine.{fewer_of}
use Rattle.rdf_lex.specs.Characters.{has, hexadecimal, text_escaped}
use Rattle.rdf_lex.specs.Escapes.{StandsFor, ends, plain, named, numbered, fits, IsNumeric, number_of, goes_on, escaped, escapes, numbers, count_of, IsBelow, digit_step, step_after, Gave, ReadsAs}
use Rattle.rdf_lex.proofs.Languages.{heads, and_true}

-- what stands for numbers, read so far
abbrev pub ReadsFrom : Inside → Reading → List ℕ → List ℕ → Type 0
ReadsFrom w reading.Plain cs out = StandsFor w cs out
ReadsFrom w reading.Behind cs out = StandsFor w (92 ∷ cs) out
ReadsFrom w (reading.Digits l v) cs out = (digits : List ℕ) × (rest : List ℕ) × (r : List ℕ) × (cs ≡ digits ++ rest) × (length digits ≡ count_of l) × (list_all (has hexadecimal) digits ≡ true)
    × (out ≡ fold goes_on v digits ∷ r) × StandsFor w rest r

abbrev pub AfterStep : Inside → Step → List ℕ → List ℕ → Type 0
AfterStep w (step.On t) cs out = ReadsFrom w t cs out
AfterStep w (step.Gives n) cs out = (r : List ℕ) × (out ≡ n ∷ r) × StandsFor w cs r

no_ends : (b : Bool) → b ≡ true → b ≡ false → ⊥
no_ends b e f = cc

-- a character that is no backslash
as_plain : (w : Inside) (c : ℕ) (cs all out : List ℕ) → nat_eq c 92 ≡ false → all ≡ c ∷ cs → StandsFor w all out → AfterStep w (step.Gives c) cs out
as_plain w c cs all out e p ends = absurd cc
as_plain w c cs all out e p (plain {cs = ds} {out = r} d f k) =
    let h = heads d c ds cs p in (r, ap (λ (x : ℕ). x ∷ r) h.0, subst (λ (v : List ℕ). StandsFor w v r) h.1 k)
as_plain w c cs all out e p (named {cs = ds} d q f k) =
    let h = heads 92 c (d ∷ ds) cs (sym q ∙ p) in absurd (no_ends (nat_eq c 92) (ap (λ (x : ℕ). nat_eq x 92) (sym h.0)) e)
as_plain w c cs all out e p (numbered {cs = ds} mark digits q f g i k) =
    let h = heads 92 c (mark ∷ (digits ++ ds)) cs (sym q ∙ p) in absurd (no_ends (nat_eq c 92) (ap (λ (x : ℕ). nat_eq x 92) (sym h.0)) e)

from_plain : (w : Inside) (c : ℕ) (cs out : List ℕ) (b : Bool) → nat_eq c 92 ≡ b → StandsFor w (c ∷ cs) out → AfterStep w (cond b (step.On reading.Behind) (step.Gives c)) cs out
from_plain w c cs out true e h = subst (λ (d : ℕ). StandsFor w (d ∷ cs) out) (eqb-true c 92 e) h
from_plain w c cs out false e h = as_plain w c cs (c ∷ cs) out e refl h

-- behind a backslash
text_mark : (c : ℕ) → has text_escaped c ≡ true → (nat_eq c 117 ≡ false) × (nat_eq c 85 ≡ false)
unfolding text_escaped
text_mark c e = (by (nat_eq c 117) 117 refl e (refl), by (nat_eq c 85) 85 refl e refl)
  where
    by : (b : Bool) (d : ℕ) → nat_eq c d ≡ b → has text_escaped c ≡ true → has text_escaped d ≡ false → nat_eq c d ≡ false
    by true d f g h = absurd (no_ends (has text_escaped d) (ap (has text_escaped) (sym (eqb-true c d f)) ∙ g) h)
    by false d f g h = f

no_mark : (w : Inside) (c : ℕ) → has (escapes w) c ≡ true → ((numbers w && nat_eq c 117) ≡ false) × ((numbers w && nat_eq c 85) ≡ false)
no_mark Iri c e = absurd cc
no_mark Text c e = text_mark c e
no_mark Local c e = (refl, refl)

as_named : (w : Inside) (c : ℕ) (cs r : List ℕ) → has (escapes w) c ≡ true → StandsFor w cs r → AfterStep w (step_after w reading.Behind c) cs (escaped w c ∷ r)
as_named w c cs r e k = let n = no_mark w c e in rw (n.0, n.1) (r, refl, k)

as_four : (w : Inside) (c : ℕ) (cs digits ds r : List ℕ) → numbers w ≡ true → c ≡ 117 → length digits ≡ 4 → (list_all (has hexadecimal) digits ≡ true) → cs ≡ digits ++ ds → StandsFor w ds r
    → AfterStep w (step_after w reading.Behind c) cs (number_of digits ∷ r)
as_four w c cs digits ds r n e len hex p k = rw (e, n) (digits, ds, r, p, len, hex, refl, k)

as_eight : (w : Inside) (c : ℕ) (cs digits ds r : List ℕ) → numbers w ≡ true → c ≡ 85 → length digits ≡ 8 → (list_all (has hexadecimal) digits ≡ true) → cs ≡ digits ++ ds → StandsFor w ds r
    → AfterStep w (step_after w reading.Behind c) cs (number_of digits ∷ r)
as_eight w c cs digits ds r n e len hex p k = rw (e, n) (digits, ds, r, p, len, hex, refl, k)

as_number : (w : Inside) (c : ℕ) (cs digits ds r : List ℕ) → numbers w ≡ true → IsNumeric c digits → (list_all (has hexadecimal) digits ≡ true) → cs ≡ digits ++ ds → StandsFor w ds r
    → AfterStep w (step_after w reading.Behind c) cs (number_of digits ∷ r)
as_number w c cs digits ds r n (inl (e, len)) hex p k = as_four w c cs digits ds r n e len hex p k
as_number w c cs digits ds r n (inr (e, len)) hex p k = as_eight w c cs digits ds r n e len hex p k

from_behind : (w : Inside) (c : ℕ) (cs all out : List ℕ) → all ≡ 92 ∷ c ∷ cs → StandsFor w all out → AfterStep w (step_after w reading.Behind c) cs out
from_behind w c cs all out p ends = absurd cc
from_behind w c cs all out p (plain {cs = ds} d f k) = let h = heads d 92 ds (c ∷ cs) p in absurd (no_ends (nat_eq d 92) (ap (λ (x : ℕ). nat_eq x 92) h.0) f)
from_behind w c cs all out p (named {cs = ds} {out = r} d q f k) =
    let h = heads 92 92 (d ∷ ds) (c ∷ cs) (sym q ∙ p) in
    let i = heads d c ds cs h.1 in
    subst (λ (x : ℕ). AfterStep w (step_after w reading.Behind c) cs (escaped w x ∷ r)) (sym i.0)
    (as_named w c cs r (ap (has (escapes w)) (sym i.0) ∙ f) (subst (λ (v : List ℕ). StandsFor w v r) i.1 k))
from_behind w c cs all out p (numbered {cs = ds} {out = r} mark digits q n num hex k) =
    let h = heads 92 92 (mark ∷ (digits ++ ds)) (c ∷ cs) (sym q ∙ p) in
    let i = heads mark c (digits ++ ds) cs h.1 in
    as_number w c cs digits ds r n (subst (λ (x : ℕ). IsNumeric x digits) i.0 num) hex (sym i.1) k

-- among digits
one_digit : (w : Inside) (l : Left) (v c : ℕ) (cs ds rest r : List ℕ) → suc (length ds) ≡ count_of l → cs ≡ ds ++ rest → (list_all (has hexadecimal) ds ≡ true) → StandsFor w rest r
    → AfterStep w (digit_step (fewer_of l) (goes_on v c)) cs (fold goes_on (goes_on v c) ds ∷ r)
one_digit w left.One v c cs [] rest r len p hex k = (r, refl, subst (λ (z : List ℕ). StandsFor w z r) (sym p) k)
one_digit w left.One v c cs (d ∷ ds) rest r len p hex k = absurd (omega arith)
one_digit w left.Two v c cs ds rest r len p hex k = (ds, rest, r, p, omega arith, hex, refl, k)
one_digit w left.Three v c cs ds rest r len p hex k = (ds, rest, r, p, omega arith, hex, refl, k)
one_digit w left.Four v c cs ds rest r len p hex k = (ds, rest, r, p, omega arith, hex, refl, k)
one_digit w left.Five v c cs ds rest r len p hex k = (ds, rest, r, p, omega arith, hex, refl, k)
one_digit w left.Six v c cs ds rest r len p hex k = (ds, rest, r, p, omega arith, hex, refl, k)
one_digit w left.Seven v c cs ds rest r len p hex k = (ds, rest, r, p, omega arith, hex, refl, k)
one_digit w left.Eight v c cs ds rest r len p hex k = (ds, rest, r, p, omega arith, hex, refl, k)

some_left : (l : Left) → 0 < count_of l
some_left left.One = omega arith
some_left left.Two = omega arith
some_left left.Three = omega arith
some_left left.Four = omega arith
some_left left.Five = omega arith
some_left left.Six = omega arith
some_left left.Seven = omega arith
some_left left.Eight = omega arith

from_digits : (w : Inside) (l : Left) (v c : ℕ) (cs digits rest r : List ℕ) → (c ∷ cs) ≡ digits ++ rest → length digits ≡ count_of l → (list_all (has hexadecimal) digits ≡ true) → StandsFor w rest r
    → AfterStep w (digit_step (fewer_of l) (goes_on v c)) cs (fold goes_on v digits ∷ r)
from_digits w l v c cs [] rest r p len hex k = let s = some_left l in absurd (omega arith)
from_digits w l v c cs (d ∷ ds) rest r p len hex k =
    let h = heads c d cs (ds ++ rest) p in
    subst (λ (x : ℕ). AfterStep w (digit_step (fewer_of l) (goes_on v c)) cs (fold goes_on (goes_on v x) ds ∷ r)) h.0 (one_digit w l v c cs ds rest r len h.1 (and_true (has hexadecimal d) (list_all (has hexadecimal) ds) hex).1 k)

pub after_step : (w : Inside) (s : Reading) (c : ℕ) (cs out : List ℕ) → ReadsFrom w s (c ∷ cs) out → AfterStep w (step_after w s c) cs out
after_step w reading.Plain c cs out h = from_plain w c cs out (nat_eq c 92) refl h
after_step w reading.Behind c cs out h = from_behind w c cs (92 ∷ c ∷ cs) out refl h
after_step w (reading.Digits l v) c cs out (digits, rest, r, p, len, hex, e, k) =
    subst (λ (o : List ℕ). AfterStep w (digit_step (fewer_of l) (goes_on v c)) cs o) (sym e) (from_digits w l v c cs digits rest r p len hex k)

-- at the end
plain_end : (w : Inside) (all out : List ℕ) → all ≡ [] → StandsFor w all out → out ≡ []
plain_end w all out p ends = refl
plain_end w all out p (plain c e k) = absurd cc
plain_end w all out p (named c q e k) = absurd (no_list _ _ (sym q ∙ p))
  where
    no_list : (c : ℕ) (cs : List ℕ) → Path (List ℕ) (c ∷ cs) [] → ⊥
    no_list c cs e = cc
plain_end w all out p (numbered mark digits q n num hex k) = absurd (no_list _ _ (sym q ∙ p))
  where
    no_list : (c : ℕ) (cs : List ℕ) → Path (List ℕ) (c ∷ cs) [] → ⊥
    no_list c cs e = cc

no_rest : (c d e : ℕ) (cs : List ℕ) → Path (List ℕ) (c ∷ []) (d ∷ e ∷ cs) → ⊥
no_rest c d e cs p = cc

behind_end : (w : Inside) (all out : List ℕ) → all ≡ 92 ∷ [] → StandsFor w all out → ⊥
behind_end w all out p ends = cc
behind_end w all out p (plain {cs = ds} d f k) = let h = heads d 92 ds [] p in no_ends (nat_eq d 92) (ap (λ (x : ℕ). nat_eq x 92) h.0) f
behind_end w all out p (named {cs = ds} d q e k) = no_rest 92 92 d ds (sym p ∙ q)
behind_end w all out p (numbered {cs = ds} mark digits q n num hex k) = no_rest 92 92 mark (digits ++ ds) (sym p ∙ q)

digits_end : (l : Left) (digits rest : List ℕ) → Path (List ℕ) [] (digits ++ rest) → length digits ≡ count_of l → ⊥
digits_end l [] rest p len = let s = some_left l in absurd (omega arith)
digits_end l (d ∷ ds) rest p len = cc

pub at_end : (w : Inside) (s : Reading) (cs out : List ℕ) → cs ≡ [] → ReadsFrom w s cs out → out ≡ []
at_end w reading.Plain cs out p h = plain_end w cs out p h
at_end w reading.Behind cs out p h = absurd (behind_end w (92 ∷ cs) out (ap (λ (v : List ℕ). 92 ∷ v) p) h)
at_end w (reading.Digits l v) cs out p (digits, rest, r, q, len, hex, e, k) = absurd (digits_end l digits rest (sym p ∙ q) len)

-- the numbers named so far, and what is left
pub record Part (w : Inside) (s : Reading) (text cs out : List ℕ) : Type 0 where
  pub done : List ℕ
  pub rest : List ℕ
  pub written : text ≡ encode_utf8_all done
  pub parts : out ≡ done ++ rest
  pub fitting : list_all (fits w) done ≡ true
  pub left : ReadsFrom w s cs rest

one_done : (w : Inside) (n : ℕ) (text cs out : List ℕ) (s : Reading) (p : Part w s text cs out) (ds r : List ℕ) → p.rest ≡ n ∷ r → fits w n ≡ true → StandsFor w ds r
    → Part w reading.Plain (text ++ encode_utf8 n) ds out
one_done w n text cs out s p ds r e f k = record {
  done = p.done ++ n ∷ [];
  rest = r;
  written = ap (λ (v : List ℕ). v ++ encode_utf8 n) p.written ∙ ap (λ (v : List ℕ). encode_utf8_all p.done ++ v) (sym (append-nil (encode_utf8 n))) ∙ sym (encodes-append p.done (n ∷ []));
  parts = p.parts ∙ ap (λ (v : List ℕ). p.done ++ v) e ∙ sym (append_assoc p.done (n ∷ []) r);
  fitting = list_all-append (fits w) p.done (n ∷ []) ∙ rw (p.fitting, f) refl;
  left = k;
}

on_step : (w : Inside) (s t : Reading) (st : Step) (cs rest old new out : List ℕ) (p : Part w s old cs out) → AfterStep w st rest p.rest → Gave w old new st (Ok t) → Part w t new rest out
on_step w s t (step.On u) cs rest old new out p a (e, f) = record {
  done = p.done;
  rest = p.rest;
  written = f ∙ p.written;
  parts = p.parts;
  fitting = p.fitting;
  left = subst (λ (v : Reading). ReadsFrom w v rest p.rest) (sym e) a;
}
on_step w s t (step.Gives n) cs rest old new out p (r, q, k) (e, f, g) =
    subst (λ (v : Reading). Part w v new rest out) (sym e)
    (subst (λ (v : List ℕ). Part w reading.Plain v rest out) (sym f) (one_done w n old cs out s p rest r q g k))

not_all : (w : Inside) (done : List ℕ) (n : ℕ) (r : List ℕ) → fits w n ≡ false → list_all (fits w) (done ++ n ∷ r) ≡ false
not_all w [] n r f = rw f refl
not_all w (d ∷ ds) n r f = rw (not_all w ds n r f) (and_false (fits w d))
  where
    and_false : (b : Bool) → (b && false) ≡ false
    and_false true = refl
    and_false false = refl

on_escape : (w : Inside) (s : Reading) (st : Step) (cs rest old new out : List ℕ) (p : Part w s old cs out) → AfterStep w st rest p.rest →
    Gave w old new st (Err error.Escape) → list_all (fits w) out ≡ false
on_escape w s (step.On u) cs rest old new out p a g = absurd g
on_escape w s (step.Gives n) cs rest old new out p (r, q, k) g =
    ap (list_all (fits w)) (p.parts ∙ ap (λ (v : List ℕ). p.done ++ v) q) ∙ not_all w p.done n r g

-- the loop
abbrev pub Spent : Inside → List ℕ → List ℕ → Reading → List ℕ → Type 0
Spent w src bs s text = ((out : List ℕ) → StandsFor w (chars src) out → Part w s text (chars bs) out) × IsUtf8 bs × IsBelow s

pub begins : (w : Inside) (src bs text : List ℕ) → bs ≡ src → IsUtf8 src → text ≡ [] → Spent w src bs reading.Plain text
begins w src bs text e u f =
    (λ out h. record { done = []; rest = out; written = f; parts = refl; fitting = refl; left = subst (λ (v : List ℕ). StandsFor w (chars v) out) (sym e) h }, subst IsUtf8 (sym e) u, tt)

part_on : (w : Inside) (s t : Reading) (c : ℕ) (bs rest old new out : List ℕ) → chars bs ≡ c ∷ chars rest → Gave w old new (step_after w s c) (Ok t) →
    Part w s old (chars bs) out → Part w t new (chars rest) out
part_on w s t c bs rest old new out e g p =
    on_step w s t (step_after w s c) (chars bs) (chars rest) old new out p (after_step w s c (chars rest) p.rest (subst (λ (v : List ℕ). ReadsFrom w s v p.rest) e p.left)) g

pub goes : (w : Inside) (src bs rest old new : List ℕ) (s t : Reading) (c : ℕ) → bs ≡ encode c ++ rest → Gave w old new (step_after w s c) (Ok t) → IsBelow t →
    Spent w src bs s old → Spent w src rest t new
goes w src bs rest old new s t c e g b (f, u, below) =
    (λ out h. part_on w s t c bs rest old new out (chars_past_char bs rest c u e) g (f out h), IsUtf8-past_char bs rest c u e, b)

pub refused : (w : Inside) (src bs rest old new out : List ℕ) (s : Reading) (c : ℕ) → bs ≡ encode c ++ rest →
    Gave w old new (step_after w s c) (Err error.Escape) → Spent w src bs s old → StandsFor w (chars src) out
    → list_all (fits w) out ≡ false
refused w src bs rest old new out s c e g (f, u, below) h =
    let p = f out h in
    on_escape w s (step_after w s c) (chars bs)
    (chars rest) old new out p (after_step w s c (chars rest) p.rest (subst (λ (v : List ℕ). ReadsFrom w s v p.rest) (chars_past_char bs rest c u e) p.left)) g

pub finished : (w : Inside) (src bs text out : List ℕ) (s : Reading) → length bs ≡ 0 → Spent w src bs s text → StandsFor w (chars src) out →
    (text ≡ encode_utf8_all out) × (list_all (fits w) out ≡ true)
finished w src bs text out s z (f, u, below) h =
    let p = f out h in
    let none : p.rest ≡ [] = at_end w s (chars bs) p.rest (ap chars (nil_from_length bs z) ∙ chars-nil) p.left in
    let all : out ≡ p.done = p.parts ∙ ap (λ (v : List ℕ). p.done ++ v) none ∙ append-nil p.done in
    (p.written ∙ ap encode_utf8_all (sym all), ap (list_all (fits w)) all ∙ p.fitting)

pub stopped : (w : Inside) (src bs rest old new : List ℕ) (s : Reading) (c : ℕ) (e : LexError) (r : Result (String Global) LexError) → bs ≡ encode c ++ rest →
    Gave w old new (step_after w s c) (Err e) → Spent w src bs s old → r ≡ Err e
    → (out : List ℕ) → StandsFor w (chars src) out → ReadsAs w out r
stopped w src bs rest old new s c error.Escape r e g f is out h = subst (λ (v : Result (String Global) LexError). ReadsAs w out v) (sym is) (refused w src bs rest old new out s c e g f h)
stopped w src bs rest old new s c error.Memory r e g f is out h = subst (λ (v : Result (String Global) LexError). ReadsAs w out v) (sym is) tt
