-- Printed names are read as their names.
use Rattle.std.proofs.Common.{◌≡◌, ℕ, ◌≤◌, List, [], ◌∷◌, ◌++◌, refl, ap, sym, ◌∙◌, get_or, drop, arith, codes, nat_eq, Bool, true, false, true≢false, encode_utf8_all, if◌then◌else◌, subst, cond}
use Rattle.std.proofs.lemmas.Bool.{cond-false}
use Rattle.std.proofs.lemmas.Fmt.{decimal_is_IsNumeral, decimal_injective}
use Rattle.std.proofs.lemmas.List.{append_cancel_left}
use Rattle.std.proofs.lemmas.Str.{chars-IsAscii, chars-encodes, encodes_same}
use Rattle.std.proofs.lemmas.Str.Parse.{digit_at}
use Rattle.std.specs.Fmt.{decimal}
use Rattle.std.specs.List.{starts_with}
use Rattle.std.specs.Str.{chars, all_scalars}
use Rattle.rdf_terms.specs.Laws.{PrintedNamesAreRead, NamesAreOne, PrintedNamesAreDistinct}
use Rattle.rdf_terms.specs.Names.{IsNameOf, written_label}
use Rattle.rdf_terms.specs.declared.terms.Name.TheVariants.{Label, Fresh}
use Rattle.rdf_terms.proofs.Anonymous.{ascii_name}
use Rattle.rdf_terms.proofs.Characters.{starts, starts_not, starts_encodes, front_chars, ascii_codes}

-- the digits of a number have no underscore
no_underscore : (n : ℕ) (rest : List ℕ) → n ≤ 4294967295 → 95 ∷ rest ≡ decimal n → ⊥
no_underscore n rest last e =
    let d = decimal_is_IsNumeral n (omega arith) in
    let k = digit_at (decimal n) 0 d.0.1 d.0.0 in
    let most : get_or (decimal n) 0 0 ≤ 57 = k.1 in
    omega (arith, ap (λ z. get_or z 0 0) e)

marked_read : (label rest text : List ℕ) → label ≡ codes "anon" ++ rest → text ≡ codes "anon_" ++ label → IsNameOf text (Label label)
marked_read label rest text e is = (
  λ n h. no_underscore n label h.last (append_cancel_left (codes "anon") (95 ∷ label) (decimal n) (sym is ∙ h.spelled)),
  e ∙ sym (ap written_label (is ∙ ap (λ z. codes "anon_" ++ z) e)),
)

bare_read : (label : List ℕ) → starts_with nat_eq label (codes "anon") ≡ false → IsNameOf label (Label label)
bare_read label other = (
  λ n h. absurd (true≢false (sym (ap (λ z. starts_with nat_eq z (codes "anon")) h.spelled) ∙ other)),
  sym (cond-false (starts_with nat_eq label (codes "anon_anon")) (drop 5 label) label (starts_not label (codes "anon_anon") (λ rest e. absurd (true≢false (sym (ap (λ z. starts_with nat_eq z (codes "anon")) e) ∙ other))))),
)

label_read : (label : List ℕ) (b : Bool) → starts_with nat_eq label (codes "anon") ≡ b → all_scalars label ≡ true →
    IsNameOf (chars ((if b then codes "anon_" else []) ++ encode_utf8_all label)) (Label label)
label_read label true is scalars =
    marked_read label (drop 4 label) _ (starts label (codes "anon") is) (front_chars (codes "anon_") (encode_utf8_all label) (ascii_codes (codes "anon_") refl)
    ∙ ap (λ z. codes "anon_" ++ z) (chars-encodes label scalars))
label_read label false is scalars = subst (λ z. IsNameOf z (Label label)) (sym (chars-encodes label scalars)) (bare_read label is)

pub printed_read : PrintedNamesAreRead
printed_read (Label label) h = label_read label (starts_with nat_eq label (codes "anon")) refl h
printed_read (Fresh n) h = record { first = h.0; last = h.1; spelled = chars-IsAscii (codes "anon" ++ decimal n) (ascii_name n h.1) }

pub names_one : NamesAreOne
names_one text (Label a) (Label b) h k = ap (λ z. Label z) (h.1 ∙ sym k.1)
names_one text (Label a) (Fresh n) h k = absurd (h.0 n k)
names_one text (Fresh m) (Label b) h k = absurd (k.0 m h)
names_one text (Fresh m) (Fresh n) h k =
    let small : m ≤ 4294967295 = h.last in
    let low : n ≤ 4294967295 = k.last in
    ap (λ z. Fresh z) (decimal_injective m n (omega arith) (omega arith) (append_cancel_left (codes "anon") (decimal m) (decimal n) (sym h.spelled ∙ k.spelled)))

-- what stands before a label
abbrev mark : Bool → List ℕ
mark b = cond b (codes "anon_") []

-- a label begins with the name of an anonymous node, or not
same_start : (l m : List ℕ) → encode_utf8_all l ≡ m → starts_with nat_eq l (codes "anon") ≡ starts_with nat_eq m (codes "anon")
same_start l m e = sym (starts_encodes l (codes "anon") refl) ∙ ap (λ z. starts_with nat_eq z (codes "anon")) e

labels_apart : (a b : List ℕ) (p q : Bool) → starts_with nat_eq a (codes "anon") ≡ p → starts_with nat_eq b (codes "anon") ≡ q → mark p ++ encode_utf8_all a ≡ mark q ++ encode_utf8_all b → a ≡ b
labels_apart a b true true s t e = encodes_same a b (append_cancel_left (codes "anon_") (encode_utf8_all a) (encode_utf8_all b) e)
labels_apart a b false false s t e = encodes_same a b e
labels_apart a b true false s t e = absurd (true≢false (sym (same_start b (mark true ++ encode_utf8_all a) (sym e)) ∙ t))
labels_apart a b false true s t e = absurd (true≢false (sym (same_start a (mark true ++ encode_utf8_all b) e) ∙ s))

label_not_number : (a : List ℕ) (n : ℕ) (p : Bool) → starts_with nat_eq a (codes "anon") ≡ p → n ≤ 4294967295 → mark p ++ encode_utf8_all a ≡ codes "anon" ++ decimal n → ⊥
label_not_number a n true s few e = no_underscore n (encode_utf8_all a) few (append_cancel_left (codes "anon") (95 ∷ encode_utf8_all a) (decimal n) e)
label_not_number a n false s few e = true≢false (sym (same_start a (codes "anon" ++ decimal n) e) ∙ s)

-- no two nodes share a printed name
pub printed_distinct : PrintedNamesAreDistinct
printed_distinct (Label a) (Label b) h k e = ap (λ z. Label z) (labels_apart a b (starts_with nat_eq a (codes "anon")) (starts_with nat_eq b (codes "anon")) refl refl e)
printed_distinct (Label a) (Fresh n) h k e = absurd (label_not_number a n (starts_with nat_eq a (codes "anon")) refl k e)
printed_distinct (Fresh m) (Label b) h k e = absurd (label_not_number b m (starts_with nat_eq b (codes "anon")) refl h (sym e))
printed_distinct (Fresh m) (Fresh n) h k e = ap (λ z. Fresh z) (decimal_injective m n (omega (arith, h)) (omega (arith, k)) (append_cancel_left (codes "anon") (decimal m) (decimal n) e))
