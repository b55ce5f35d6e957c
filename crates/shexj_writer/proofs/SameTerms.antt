-- A constraint in plain form holds of the same terms.
use Rattle.std.proofs.Common.{◌≡◌, ◌∙◌, refl, sym, subst, ℕ, Bool, true, false, true≢false, List, [], ◌∷◌, ◌++◌, map, cond, encode_utf8_all, inl, inr}
use Rattle.std.proofs.lemmas.Str.{encodes-IsAscii}
use Rattle.std.specs.List.{AllByRecursion, flat_map, list_all, list_any}
use Rattle.std.specs.Prelude.{◌↔◌, ◌⊎◌, ◌||◌, IsSomeAnd, Option, Some, None}
use Rattle.std.specs.Str.{bytes_eq}
use Rattle.std.specs.Fmt.{signed_decimal}
use Rattle.xs_text.specs.Decimal.{HasSameValue, IsBelow}
use Rattle.xs_text.proofs.OrderLaws.{order_is_of_values, same_value_is_transitive}
use Rattle.rdf_terms.specs.declared.terms.Term.{Term}
use Rattle.node_constraint.specs.Datatypes.{decimal_of}
use Rattle.node_constraint.specs.Facets.{IsAtMost, SatFacet, text_of}
use Rattle.node_constraint.specs.declared.facet.Facet.{Facet}
use Rattle.node_constraint.specs.declared.facet.Facet.TheVariants as Facets
use Rattle.shexj_reader.proofs.Decimals.{signed_ascii}
use Rattle.shexj_writer.specs.Constraints.{facet_key}
use Rattle.shexj_writer.specs.Laws.{PlainHoldsOfTheSame}
use Rattle.shexj_writer.specs.Numbers.{is_whole, whole_value}
use Rattle.shexj_writer.specs.Plain.{all_under, facet_keys, plain_digits, plain_facet, plain_facets}
use Rattle.shexj_writer.specs.Whole.{is_whole_facet}
use Rattle.shexj_writer.proofs.Digits.{same_value}
use Rattle.shexj_writer.proofs.FacetsBack.{all_tests}
use Rattle.shexj_writer.proofs.Sound.{all_plain}

-- ---- the order of numbers of the same value

both_ways : (a b : List ℕ) → HasSameValue a b → HasSameValue b a
both_ways a b e = sym e

below_same : (a b c : List ℕ) → HasSameValue a b → IsBelow b c ↔ IsBelow a c
below_same a b c e = ((order_is_of_values b a c (both_ways a b e)).0, (order_is_of_values a b c e).0)

above_same : (a b c : List ℕ) → HasSameValue a b → IsBelow c b ↔ IsBelow c a
above_same a b c e = ((order_is_of_values b a c (both_ways a b e)).1, (order_is_of_values a b c e).1)

value_same : (a b c : List ℕ) → HasSameValue a b → HasSameValue b c ↔ HasSameValue a c
value_same a b c e = (same_value_is_transitive a b c e, same_value_is_transitive b a c (both_ways a b e))

turned : (a b : List ℕ) → HasSameValue a b ↔ HasSameValue b a
turned a b = (both_ways a b, both_ways b a)

either_same : {A B C D : Type 0} → A ↔ B → C ↔ D → (A ⊎ C) ↔ (B ⊎ D)
either_same p q = (
  (λ h. elim h [ inl a ↦ inl (p.0 a) | inr c ↦ inr (q.0 c) ]),
  (λ h. elim h [ inl b ↦ inl (p.1 b) | inr d ↦ inr (q.1 d) ]),
)

most_same : (a b c : List ℕ) → HasSameValue a b → IsAtMost b c ↔ IsAtMost a c
most_same a b c e = either_same (below_same a b c e) (value_same a b c e)

least_same : (a b c : List ℕ) → HasSameValue a b → IsAtMost c b ↔ IsAtMost c a
least_same a b c e = either_same (above_same a b c e) (
  (λ h. both_ways a c ((value_same a b c e).0 (both_ways c b h))),
  (λ h. both_ways b c ((value_same a b c e).1 (both_ways c a h))),
)

some_same : (o : Option (List ℕ)) (P Q : List ℕ → Type 0) → ((d : List ℕ) → P d ↔ Q d) → IsSomeAnd o P ↔ IsSomeAnd o Q
some_same None P Q h = ((λ x. x), λ x. x)
some_same (Some d) P Q h = h d

-- the bytes of plain digits have the value of the text
plain_value : (t : List ℕ) → is_whole (encode_utf8_all t) ≡ true → HasSameValue (encode_utf8_all t) (encode_utf8_all (plain_digits t))
plain_value t h =
    let z = whole_value (encode_utf8_all t) in
    subst (HasSameValue (encode_utf8_all t)) (sym (encodes-IsAscii (signed_decimal z) (signed_ascii z))) (same_value (encode_utf8_all t) h)

-- ---- facets

facet_same : (facet : Facet) (text : List ℕ) (o : Option (List ℕ)) → is_whole_facet facet ≡ true → SatFacet (plain_facet facet) text o ↔ SatFacet facet text o
facet_same (Facets.Length n) text o h = ((λ x. x), λ x. x)
facet_same (Facets.MinLength n) text o h = ((λ x. x), λ x. x)
facet_same (Facets.MaxLength n) text o h = ((λ x. x), λ x. x)
facet_same (Facets.MinInclusive t) text o h = some_same o (λ d. IsAtMost (encode_utf8_all (plain_digits t)) d) (λ d. IsAtMost (encode_utf8_all t) d)
    (λ d. most_same (encode_utf8_all t) (encode_utf8_all (plain_digits t)) d (plain_value t h))
facet_same (Facets.MinExclusive t) text o h = some_same o (λ d. IsBelow (encode_utf8_all (plain_digits t)) d) (λ d. IsBelow (encode_utf8_all t) d)
    (λ d. below_same (encode_utf8_all t) (encode_utf8_all (plain_digits t)) d (plain_value t h))
facet_same (Facets.MaxInclusive t) text o h = some_same o (λ d. IsAtMost d (encode_utf8_all (plain_digits t))) (λ d. IsAtMost d (encode_utf8_all t))
    (λ d. least_same (encode_utf8_all t) (encode_utf8_all (plain_digits t)) d (plain_value t h))
facet_same (Facets.MaxExclusive t) text o h = some_same o (λ d. IsBelow d (encode_utf8_all (plain_digits t))) (λ d. IsBelow d (encode_utf8_all t))
    (λ d. above_same (encode_utf8_all t) (encode_utf8_all (plain_digits t)) d (plain_value t h))
facet_same (Facets.TotalDigits n) text o h = ((λ x. x), λ x. x)
facet_same (Facets.FractionDigits n) text o h = ((λ x. x), λ x. x)
facet_same (Facets.Pattern pattern flags) text o h = ((λ x. x), λ x. x)

-- ---- each facet is under its key

all_cut : {X : Type 0} (P : X → Type 0) (xs ys : List X) → AllByRecursion P (xs ++ ys) → AllByRecursion P xs × AllByRecursion P ys
all_cut P [] ys h = (tt, h)
all_cut P (x ∷ xs) ys h = let rest = all_cut P xs ys h.1 in ((h.0, rest.0), rest.1)

abbrev IsUnder : (Facet → Type 0) → List ℕ → Facet → Type 0
IsUnder P key facet = bytes_eq (facet_key facet) key ≡ true → P (plain_facet facet)

under_at : (P : Facet → Type 0) (b : Bool) (key : List ℕ) (x : Facet) (ys : List Facet) → bytes_eq (facet_key x) key ≡ b →
    AllByRecursion P (map plain_facet (cond b (x ∷ ys) ys)) → IsUnder P key x × AllByRecursion P (map plain_facet ys)
under_at P true key x ys e h = ((λ _. h.0), h.1)
under_at P false key x ys e h = ((λ passes. absurd (true≢false (sym passes ∙ e))), h)

all_of_key : (P : Facet → Type 0) (key : List ℕ) (xs : List Facet) → AllByRecursion P (map plain_facet (all_under key xs)) → AllByRecursion (IsUnder P key) xs
all_of_key P key [] h = tt
all_of_key P key (x ∷ xs) h =
    let parts = under_at P (bytes_eq (facet_key x) key) key x (all_under key xs) refl h in
    (parts.0, all_of_key P key xs parts.1)

abbrev IsUnderOne : (Facet → Type 0) → List (List ℕ) → Facet → Type 0
IsUnderOne P keys facet = list_any (bytes_eq (facet_key facet)) keys ≡ true → P (plain_facet facet)

one_key : (P : Facet → Type 0) (key : List ℕ) (keys : List (List ℕ)) (facet : Facet) → IsUnder P key facet → IsUnderOne P keys facet → (b : Bool) →
    bytes_eq (facet_key facet) key ≡ b → (b || list_any (bytes_eq (facet_key facet)) keys) ≡ true → P (plain_facet facet)
one_key P key keys facet own rest true e h = own e
one_key P key keys facet own rest false e h = rest h

both_keys : (P : Facet → Type 0) (key : List ℕ) (keys : List (List ℕ)) (xs : List Facet) → AllByRecursion (IsUnder P key) xs →
    AllByRecursion (IsUnderOne P keys) xs → AllByRecursion (IsUnderOne P (key ∷ keys)) xs
both_keys P key keys [] h k = tt
both_keys P key keys (x ∷ xs) h k = ((λ known. one_key P key keys x h.0 k.0 (bytes_eq (facet_key x) key) refl known), both_keys P key keys xs h.1 k.1)

none_known : (P : Facet → Type 0) (xs : List Facet) → AllByRecursion (IsUnderOne P []) xs
none_known P [] = tt
none_known P (x ∷ xs) = ((λ known. absurd (true≢false (sym known))), none_known P xs)

all_of_keys : (P : Facet → Type 0) (keys : List (List ℕ)) (xs : List Facet) → AllByRecursion P (flat_map (λ key. map plain_facet (all_under key xs)) keys) → AllByRecursion (IsUnderOne P keys) xs
all_of_keys P [] xs h = none_known P xs
all_of_keys P (key ∷ keys) xs h =
    let parts = all_cut P (map plain_facet (all_under key xs)) (flat_map (λ k. map plain_facet (all_under k xs)) keys) h in
    both_keys P key keys xs (all_of_key P key xs parts.0) (all_of_keys P keys xs parts.1)

known_key : (facet : Facet) → list_any (bytes_eq (facet_key facet)) facet_keys ≡ true
known_key (Facets.Length n) = refl
known_key (Facets.MinLength n) = refl
known_key (Facets.MaxLength n) = refl
known_key (Facets.MinInclusive t) = refl
known_key (Facets.MinExclusive t) = refl
known_key (Facets.MaxInclusive t) = refl
known_key (Facets.MaxExclusive t) = refl
known_key (Facets.TotalDigits n) = refl
known_key (Facets.FractionDigits n) = refl
known_key (Facets.Pattern pattern flags) = refl

each_known : (P : Facet → Type 0) (xs : List Facet) → AllByRecursion (IsUnderOne P facet_keys) xs → AllByRecursion (λ facet. P (plain_facet facet)) xs
each_known P [] h = tt
each_known P (x ∷ xs) h = (h.0 (known_key x), each_known P xs h.1)

-- what holds of all plain facets holds of each facet in plain form
all_from_plain : (P : Facet → Type 0) (facets : List Facet) → AllByRecursion P (plain_facets facets) → AllByRecursion (λ facet. P (plain_facet facet)) facets
all_from_plain P facets h = each_known P facets (all_of_keys P facet_keys facets h)

-- ---- constraints

all_both : (P Q : Facet → Type 0) (xs : List Facet) → ((x : Facet) → is_whole_facet x ≡ true → P x → Q x) →
    AllByRecursion (λ facet. is_whole_facet facet ≡ true) xs → AllByRecursion P xs → AllByRecursion Q xs
all_both P Q [] step w h = tt
all_both P Q (x ∷ xs) step w h = (step x w.0 h.0, all_both P Q xs step w.1 h.1)

facets_same : (facets : List Facet) (term : Term) → list_all is_whole_facet facets ≡ true
    → AllByRecursion (λ facet. SatFacet facet (text_of term) (decimal_of term)) (plain_facets facets) ↔ AllByRecursion (λ facet. SatFacet facet (text_of term) (decimal_of term)) facets
facets_same facets term whole =
    let all = all_tests is_whole_facet facets whole in
    let t = text_of term in
    let o = decimal_of term in (
      (λ h. all_both (λ facet. SatFacet (plain_facet facet) t o) (λ facet. SatFacet facet t o) facets (λ facet w s. (facet_same facet t o w).0 s) all (all_from_plain (λ facet. SatFacet facet t o) facets h)),
      (λ h. all_plain (λ facet. SatFacet facet t o) facets (all_both (λ facet. SatFacet facet t o) (λ facet. SatFacet (plain_facet facet) t o) facets (λ facet w s. (facet_same facet t o w).1 s) all h)),
    )

pub plain_holds : PlainHoldsOfTheSame
plain_holds c whole term =
    let same = facets_same c.facets term whole in (
      (λ h. record { kind = h.kind; datatype = h.datatype; facets = same.0 h.facets; values = h.values }),
      (λ h. record { kind = h.kind; datatype = h.datatype; facets = same.1 h.facets; values = h.values }),
    )
