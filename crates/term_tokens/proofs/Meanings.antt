-- What a token stands for is one thing, and `text_of` says it.
use Rattle.std.proofs.Common.{◌≡◌, ℕ, Bool, true, false, ◌&&◌, cond, List, [], ◌∷◌, ◌++◌, drop, Option, Some, None, Ok, Err, refl, sym, ap, subst, ◌∙◌, arith, inl, inr, string_bytes, codes}
use Rattle.std.specs.Prelude.{nat_eq, nat_le, String}
use Rattle.std.specs.declared.alloc.Global.{Global}
use Rattle.std.specs.Fmt.{decimal}
use Rattle.std.specs.List.{list_all}
use Rattle.std.specs.Str.{chars, bytes_eq, NonePass}
use Rattle.std.specs.Str.Parse.{digits_value}
use Rattle.std.proofs.lemmas.Bool.{eq-eqb}
use Rattle.std.proofs.lemmas.Bool.Decides.{nat_tests}
use Rattle.std.proofs.lemmas.Fmt.{decimal_is_IsNumeral}
use Rattle.std.proofs.lemmas.List.{append_cancel_right, append_cancel_left}
use Rattle.std.proofs.lemmas.Slice.Eq.{bytes_eq-Decides}
use Rattle.rdf_terms.specs.Names.{IsAnonymous, IsNameOf, written_label}
use Rattle.rdf_terms.specs.declared.terms.Name.{Name}
use Rattle.rdf_terms.specs.declared.terms.Name.TheVariants.{Label, Fresh}
use Rattle.rdf_terms.proofs.PrintedNames.{names_one}
use Rattle.rdf_lex.specs.declared.kinds.Kind.{Kind}
use Rattle.rdf_lex.specs.declared.kinds.Kind.TheVariants as kinds
use Rattle.rdf_lex.specs.declared.kinds.Mode.{Mode}
use Rattle.rdf_lex.specs.declared.kinds.Mode.TheVariants.{NTriples, Turtle, Map, Schema}
use Rattle.rdf_lex.specs.declared.machine.State.TheVariants.{Start}
use Rattle.rdf_lex.specs.declared.escapes.LexError.TheVariants as error
use Rattle.rdf_lex.specs.Escapes.{StandsFor, fits, inside_of, IsBehindColon, IsQuoted, Body, holds_text, IsSpelled, Means, Unescapes}
use Rattle.rdf_lex.specs.Phrases.{Spells}
use Rattle.rdf_lex.specs.Spelling.{Spelling, short_body}
use Rattle.rdf_lex.specs.Tokens.{Spelled}
use Rattle.rdf_lex.proofs.Enclosing.{not_double, not_single}
use Rattle.rdf_lex.proofs.Languages.{heads}
use Rattle.rdf_lex.proofs.Meanings.{has_meaning}
use Rattle.rdf_lex.proofs.Meant.{stands_for_one}
use Rattle.rdf_lex.proofs.Recognised.{kind_from, to_kind, from_kind}
use Rattle.rdf_lex.proofs.Residuals.{is_kind, is_kind_some, some_is_kind}
use Rattle.term_tokens.specs.Meanings.{IsText, is_spelled, all_fit, text_by, text_of, anonymous_number, is_anonymous, name_of}

-- one part between marks
framed_one : (x y : ℕ) (text a b : List ℕ) → text ≡ x ∷ (a ++ y ∷ []) → text ≡ x ∷ (b ++ y ∷ []) → a ≡ b
framed_one x y text a b e f = append_cancel_right a b (y ∷ []) (heads x x (a ++ y ∷ []) (b ++ y ∷ []) (sym e ∙ f)).1

three_one : (q : ℕ) (text a b : List ℕ) → text ≡ q ∷ q ∷ q ∷ (a ++ q ∷ q ∷ q ∷ []) → text ≡ q ∷ q ∷ q ∷ (b ++ q ∷ q ∷ q ∷ []) → a ≡ b
three_one q text a b e f =
    append_cancel_right a b (q ∷ q ∷ q ∷ []) (append_cancel_left (q ∷ q ∷ q ∷ []) (a ++ q ∷ q ∷ q ∷ []) (b ++ q ∷ q ∷ q ∷ []) (sym e ∙ f))

not_both : (q : ℕ) (text a b : List ℕ) → ((cs : List ℕ) → Spells (short_body q) (q ∷ cs) → ⊥) → Spells (short_body q) a → text ≡ q ∷ (a ++ q ∷ []) → text ≡ q ∷ q ∷ q ∷ (b ++ q ∷ q ∷ q ∷ []) → ⊥
not_both q text [] b never h e f =
    let i = heads q q (q ∷ []) (q ∷ q ∷ (b ++ q ∷ q ∷ q ∷ [])) (sym e ∙ f) in
    no_more q (b ++ q ∷ q ∷ q ∷ []) i.1
  where
    no_more : (q : ℕ) (r : List ℕ) → Path (List ℕ) (q ∷ []) (q ∷ q ∷ r) → ⊥
    no_more q r p = cc
not_both q text (x ∷ a) b never h e f =
    let i = heads q q (x ∷ (a ++ q ∷ [])) (q ∷ q ∷ (b ++ q ∷ q ∷ q ∷ [])) (sym e ∙ f) in
    let j = heads x q (a ++ q ∷ []) (q ∷ (b ++ q ∷ q ∷ q ∷ [])) i.1 in
    never a (subst (λ (c : ℕ). Spells (short_body q) (c ∷ a)) j.0 h)

quoted_one : (q : ℕ) (text a b : List ℕ) → ((cs : List ℕ) → Spells (short_body q) (q ∷ cs) → ⊥) → IsQuoted q text a → IsQuoted q text b → a ≡ b
quoted_one q text a b never (inl (e, h)) (inl (f, k)) = framed_one q q text a b e f
quoted_one q text a b never (inl (e, h)) (inr (f, k)) = absurd (not_both q text a b never h e f)
quoted_one q text a b never (inr (e, h)) (inl (f, k)) = absurd (not_both q text b a never k f e)
quoted_one q text a b never (inr (e, h)) (inr (f, k)) = three_one q text a b e f

quote_first : (q : ℕ) (text a : List ℕ) → IsQuoted q text a → (rest : List ℕ) × (text ≡ q ∷ rest)
quote_first q text a (inl (e, h)) = (a ++ q ∷ [], e)
quote_first q text a (inr (e, h)) = (q ∷ q ∷ (a ++ q ∷ q ∷ q ∷ []), e)

other_quote : (text a b : List ℕ) → IsQuoted 34 text a → IsQuoted 39 text b → ⊥
other_quote text a b h k =
    let (r, e) = quote_first 34 text a h in
    let (s, f) = quote_first 39 text b k in
    absurd (omega (arith, (heads 34 39 r s (sym e ∙ f)).0))

text_one : (text a b : List ℕ) → Body kinds.Str text a → Body kinds.Str text b → a ≡ b
text_one text a b (inl h) (inl k) = quoted_one 34 text a b not_double h k
text_one text a b (inl h) (inr k) = absurd (other_quote text a b h k)
text_one text a b (inr h) (inl k) = absurd (other_quote text b a k h)
text_one text a b (inr h) (inr k) = quoted_one 39 text a b not_single h k

-- behind the first colon
colon_one : (xs ys a b : List ℕ) → xs ++ 58 ∷ a ≡ ys ++ 58 ∷ b → NonePass (λ c. nat_eq c 58) xs → NonePass (λ c. nat_eq c 58) ys → a ≡ b
colon_one [] [] a b e h k = (heads 58 58 a b e).1
colon_one [] (y ∷ ys) a b e h k = absurd (no_colon y (heads 58 y a (ys ++ 58 ∷ b) e).0 k.0)
  where
    no_colon : (y : ℕ) → 58 ≡ y → nat_eq y 58 ≡ false → ⊥
    no_colon y e f = let g = eq-eqb y 58 (sym e) in cc
colon_one (x ∷ xs) [] a b e h k = absurd (no_colon x (heads x 58 (xs ++ 58 ∷ a) b e).0 h.0)
  where
    no_colon : (x : ℕ) → x ≡ 58 → nat_eq x 58 ≡ false → ⊥
    no_colon x e f = let g = eq-eqb x 58 e in cc
colon_one (x ∷ xs) (y ∷ ys) a b e h k = colon_one xs ys a b (heads x y (xs ++ 58 ∷ a) (ys ++ 58 ∷ b) e).1 h.1 k.1

behind_one : (text a b : List ℕ) → IsBehindColon text a → IsBehindColon text b → a ≡ b
behind_one text a b (xs, e, h) (ys, f, k) = colon_one xs ys a b (sym e ∙ f) h k

body_one : (k : Kind) (text a b : List ℕ) → Body k text a → Body k text b → a ≡ b
body_one kinds.IriRef text a b h k = framed_one 60 62 text a b h k
body_one kinds.Str text a b h k = text_one text a b h k
body_one kinds.PnameNs text a b h k = behind_one text a b h k
body_one kinds.PnameLn text a b h k = behind_one text a b h k
body_one kinds.AtName text a b h k = behind_one text a b h k
body_one kinds.BlankLabel text a b h k = absurd h
body_one kinds.LangTag text a b h k = absurd h
body_one kinds.Integer text a b h k = absurd h
body_one kinds.Decimal text a b h k = absurd h
body_one kinds.Double text a b h k = absurd h
body_one kinds.Word text a b h k = absurd h
body_one kinds.Punct text a b h k = absurd h
body_one kinds.Line text a b h k = absurd h
body_one kinds.Pattern text a b h k = absurd h

pub means_one : (k : Kind) (text a b : List ℕ) → Means k text a → Means k text b → a ≡ b
means_one k text a b (p, h, s) (q, i, r) = stands_for_one (inside_of k) p a b s (subst (λ (v : List ℕ). StandsFor (inside_of k) v b) (body_one k text q p i h) r)

-- a kind that stands for characters holds a text
holds : (k : Kind) (text a : List ℕ) → Means k text a → holds_text k ≡ true
holds kinds.IriRef text a h = refl
holds kinds.Str text a h = refl
holds kinds.PnameNs text a h = refl
holds kinds.PnameLn text a h = refl
holds kinds.AtName text a h = refl
holds kinds.BlankLabel text a h = absurd h.1
holds kinds.LangTag text a h = absurd h.1
holds kinds.Integer text a h = absurd h.1
holds kinds.Decimal text a h = absurd h.1
holds kinds.Double text a h = absurd h.1
holds kinds.Word text a h = absurd h.1
holds kinds.Punct text a h = absurd h.1
holds kinds.Line text a h = absurd h.1
holds kinds.Pattern text a h = absurd h.1

no_ends : (b : Bool) → b ≡ true → b ≡ false → ⊥
no_ends b e f = cc

some_is : {X : Type 0} (x y : X) → Path (Option X) (Some x) (Some y) → x ≡ y
some_is x y e = cc

-- text_of, by its cases
fit_is : (t : Spelled) (a text : List ℕ) (b : Bool) → list_all (fits (inside_of t.kind)) a ≡ b → cond b (Some a) None ≡ Some text → (a ≡ text) × (list_all (fits (inside_of t.kind)) a ≡ true)
fit_is t a text true f e = (some_is a text e, f)
fit_is t a text false f e = absurd cc

by_is : (t : Spelled) (text : List ℕ) (b c : Bool) (e : is_spelled t ≡ b) (h : holds_text t.kind ≡ c) → text_by t b c e h ≡ Some text → IsText t text
by_is t text true true e h is =
    let s = from_kind Map t.kind (chars t.text) (is_kind_some t.kind (kind_from Map Start (chars t.text)) e) in
    let found = has_meaning t.kind (chars t.text) h (Map, s) in
    let f = fit_is t found.0 text (list_all (fits (inside_of t.kind)) found.0) refl is in
    record {
      spelled = (Map, s);
      means = subst (Means t.kind (chars t.text)) f.0 found.1;
      fitting = ap (list_all (fits (inside_of t.kind))) (sym f.0) ∙ f.1;
    }
by_is t text true false e h is = absurd cc
by_is t text false c e h is = absurd cc

pub text_of_is : (t : Spelled) (text : List ℕ) → text_of t ≡ Some text → IsText t text
unfolding text_of
text_of_is t text is = by_is t text (is_spelled t) (holds_text t.kind) refl refl is

-- what stands for characters in some language is spelled in that of shape maps
in_maps : (m : Mode) (k : Kind) (cs : List ℕ) → holds_text k ≡ true → Spells (Spelling m k) cs → Spells (Spelling Map k) cs
in_maps m kinds.IriRef cs h s = s
in_maps m kinds.Str cs h s = s
in_maps m kinds.PnameNs cs h s = s
in_maps m kinds.PnameLn cs h s = s
in_maps NTriples kinds.AtName cs h s = absurd s
in_maps Turtle kinds.AtName cs h s = absurd s
in_maps Map kinds.AtName cs h s = s
in_maps Schema kinds.AtName cs h s = s
in_maps m k cs h s = absurd cc

is_by : (t : Spelled) (text : List ℕ) (b c : Bool) (e : is_spelled t ≡ b) (h : holds_text t.kind ≡ c) → IsText t text → text_by t b c e h ≡ Some text
is_by t text true true e h is =
    let s = from_kind Map t.kind (chars t.text) (is_kind_some t.kind (kind_from Map Start (chars t.text)) e) in
    let found = has_meaning t.kind (chars t.text) h (Map, s) in
    let same : found.0 ≡ text = means_one t.kind (chars t.text) found.0 text found.1 is.means in
    ap (all_fit t) same ∙ ap (λ (b : Bool). cond b (Some text) None) is.fitting
is_by t text true false e h is = absurd (no_ends (holds_text t.kind) (holds t.kind (chars t.text) text is.means) h)
is_by t text false c e h is =
    let s = in_maps is.spelled.0 t.kind (chars t.text) (holds t.kind (chars t.text) text is.means) is.spelled.1 in
    absurd (no_ends (is_spelled t) (ap (is_kind t.kind) (to_kind Map t.kind (chars t.text) s) ∙ some_is_kind t.kind (Some t.kind) refl) e)

pub text_is : (t : Spelled) (text : List ℕ) → IsText t text → text_of t ≡ Some text
unfolding text_of
text_is t text is = is_by t text (is_spelled t) (holds_text t.kind) refl refl is

none_or : (t : Spelled) (o : Option (List ℕ)) → text_of t ≡ o → ((text : List ℕ) → ¬ IsText t text) → o ≡ None
none_or t None e none = refl
none_or t (Some text) e none = absurd (none text (text_of_is t text e))

pub text_is_none : (t : Spelled) → ((text : List ℕ) → ¬ IsText t text) → text_of t ≡ None
text_is_none t none = none_or t (text_of t) refl none

-- what unescaping a token answers
pub unescaped : (t : Spelled) (s : String Global) → IsSpelled t.kind (chars t.text) → Unescapes t.kind (chars t.text) (Ok s) → text_of t ≡ Some (chars (string_bytes s))
unescaped t s spelled u = text_is t (chars (string_bytes s)) (record { spelled = spelled; means = u.0.means; fitting = u.1 })

pub not_unescaped : (t : Spelled) → Unescapes t.kind (chars t.text) (Err error.Escape) → text_of t ≡ None
not_unescaped t (out, meaning, bad) = text_is_none t (λ text is.
    no_ends (list_all (fits (inside_of t.kind)) text) is.fitting (ap (list_all (fits (inside_of t.kind))) (meaning.only text is.means) ∙ bad))

-- names of blank nodes
both : (a b : Bool) → (a && b) ≡ true → (a ≡ true) × (b ≡ true)
both true true e = (refl, refl)
both true false e = absurd cc
both false b e = absurd cc

and_true : (a b : Bool) → a ≡ true → b ≡ true → (a && b) ≡ true
and_true a b e f = rw (e, f) refl

anonymous_is : (text : List ℕ) → is_anonymous text ≡ true → IsAnonymous text (anonymous_number text)
anonymous_is text e =
    let n = anonymous_number text in
    let p = both (bytes_eq text (codes "anon" ++ decimal n)) (nat_le 1 n && nat_le n 4294967295) e in
    let q = both (nat_le 1 n) (nat_le n 4294967295) p.1 in
    record { first = grind (arith, nat_tests); last = grind (arith, nat_tests); spelled = (bytes_eq-Decides text (codes "anon" ++ decimal n)).0 p.0 }

is_anonymous_of : (text : List ℕ) (n : ℕ) → IsAnonymous text n → is_anonymous text ≡ true
is_anonymous_of text n h =
    let low = h.last in
    let digits : drop 4 text ≡ decimal n = ap (drop 4) h.spelled in
    let same : anonymous_number text ≡ n = ap (digits_value 10) digits ∙ (decimal_is_IsNumeral n (omega arith)).1 in
    let whole : text ≡ codes "anon" ++ decimal (anonymous_number text) = h.spelled ∙ ap (λ (k : ℕ). codes "anon" ++ decimal k) (sym same) in
    let first = h.first in
    let one : nat_le 1 (anonymous_number text) ≡ true = rw same (grind (arith, nat_tests)) in
    let last : nat_le (anonymous_number text) 4294967295 ≡ true = rw same (grind (arith, nat_tests)) in
    and_true _ _ ((bytes_eq-Decides text (codes "anon" ++ decimal (anonymous_number text))).1 whole) (and_true _ _ one last)

name_by : (text : List ℕ) (b : Bool) → is_anonymous text ≡ b → IsNameOf text (cond b (Fresh (anonymous_number text)) (Label (written_label text)))
name_by text true e = anonymous_is text e
name_by text false e = (λ n h. no_ends (is_anonymous text) (is_anonymous_of text n h) e, refl)

pub name_of_is : (text : List ℕ) → IsNameOf text (name_of text)
unfolding name_of
name_of_is text = name_by text (is_anonymous text) refl

pub name_is : (text : List ℕ) (name : Name) → IsNameOf text name → name_of text ≡ name
name_is text name h = names_one text (name_of text) name (name_of_is text) h
