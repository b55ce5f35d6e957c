-- The facets of a constraint are read back, in the order of their keys.
use Rattle.std.proofs.Common.{◌≡◌, ◌∙◌, ap, refl, sym, ℕ, ◌≤◌, ◌<◌, ◌^◌, arith, Bool, true, false, true≢false, List, [], ◌∷◌, ◌++◌, length, map, cond, encode_utf8_all, nat_lt}
use Rattle.std.proofs.lemmas.Bool.Decides.{nat_tests}
use Rattle.std.proofs.lemmas.Str.{chars-encodes, chars-nil}
use Rattle.std.specs.Fmt.{signed_decimal}
use Rattle.std.specs.List.{AllByRecursion, filter, find, flat_map, list_all}
use Rattle.std.specs.Prelude.{ℤ, pos, negsuc, IfSome, Option, Some, None, codes, if◌then◌else◌, option_map, option_and_then}
use Rattle.std.specs.Str.{bytes_eq, chars}
use Rattle.serde_json.specs.Data.{Data}
use Rattle.serde_json.specs.Find.{as_integer, get, of_integer}
use Rattle.node_constraint.specs.Constraint.{Constraint}
use Rattle.node_constraint.specs.declared.facet.Facet.{Facet}
use Rattle.node_constraint.specs.declared.facet.Facet.TheVariants as Facets
use Rattle.shexj_reader.specs.Constraints.{all_of, bound, count, facet_values, facets_of, listed, small, with_flags}
use Rattle.shexj_reader.specs.Keys.{text_if_any}
use Rattle.shexj_writer.specs.Constraints.{bound_number, bytes_if_some, constraint_data, constraint_fields, facet_data, facet_key, facet_under, flags_data, number_or_null}
use Rattle.shexj_writer.specs.Expressible.{AreOnce}
use Rattle.shexj_writer.specs.Held.{AreHeldFacets, HasTextFlags, IsHeldConstraint, IsHeldFacet}
use Rattle.shexj_writer.specs.Numbers.{is_whole, whole_value}
use Rattle.shexj_writer.specs.Plain.{all_under, facet_keys, plain_digits, plain_facet, plain_facets}
use Rattle.shexj_writer.specs.Whole.{is_whole_constraint, is_whole_facet}
use Rattle.shexj_writer.proofs.Fields.{both, field_is}

-- ---- what stands under each key

small_is : (n : ℕ) → n < 2 ^ 32 → small n ≡ Some n
small_is n h = let low : nat_lt n (2 ^ 32) ≡ true = grind (arith, nat_tests) in ap (λ (b : Bool). if b then Some n else None) low

integer_is : (z : ℤ) → as_integer (of_integer z) ≡ Some z
integer_is (pos n) = refl
integer_is (negsuc n) = refl

bound_is : (t : List ℕ) → is_whole (encode_utf8_all t) ≡ true → bound (Some (bound_number t)) ≡ Some (Some (plain_digits t))
bound_is t h =
    ap (λ (b : Bool). bound (Some (number_or_null (if b then Some (of_integer (whole_value (encode_utf8_all t))) else None)))) h
    ∙ ap (λ (o : Option ℤ). option_map (λ z. Some (signed_decimal z)) o) (integer_is (whole_value (encode_utf8_all t)))

-- the facet, if there is one, has this key
abbrev pub HasKey : List ℕ → Option Facet → Type 0
HasKey key o = IfSome o (λ facet. bytes_eq (facet_key facet) key ≡ true)

abbrev IsWholeIfAny : Option Facet → Type 0
IsWholeIfAny o = IfSome o (λ facet. is_whole_facet facet ≡ true)

length_entry : (o : Option Facet) → HasKey (codes "length") o → IfSome o IsHeldFacet → option_map (option_map Facets.Length) (count (option_map facet_data o)) ≡ Some (option_map plain_facet o)
length_entry None k h = refl
length_entry (Some (Facets.Length n)) k h = ap (λ (x : Option ℕ). option_map (option_map Facets.Length) (option_map (λ (y : ℕ). Some y) x)) (small_is n h)
length_entry (Some facet) k h = absurd (true≢false (sym k))

minlength_entry : (o : Option Facet) → HasKey (codes "minlength") o → IfSome o IsHeldFacet →
    option_map (option_map Facets.MinLength) (count (option_map facet_data o)) ≡ Some (option_map plain_facet o)
minlength_entry None k h = refl
minlength_entry (Some (Facets.MinLength n)) k h = ap (λ (x : Option ℕ). option_map (option_map Facets.MinLength) (option_map (λ (y : ℕ). Some y) x)) (small_is n h)
minlength_entry (Some facet) k h = absurd (true≢false (sym k))

maxlength_entry : (o : Option Facet) → HasKey (codes "maxlength") o → IfSome o IsHeldFacet →
    option_map (option_map Facets.MaxLength) (count (option_map facet_data o)) ≡ Some (option_map plain_facet o)
maxlength_entry None k h = refl
maxlength_entry (Some (Facets.MaxLength n)) k h = ap (λ (x : Option ℕ). option_map (option_map Facets.MaxLength) (option_map (λ (y : ℕ). Some y) x)) (small_is n h)
maxlength_entry (Some facet) k h = absurd (true≢false (sym k))

flags_at : (bs pattern flags : List ℕ) → bs ≡ encode_utf8_all flags → chars bs ≡ flags →
    option_and_then (with_flags (Some pattern)) (text_if_any (bytes_if_some bs)) ≡ Some (Some (Facets.Pattern pattern flags))
flags_at [] pattern flags is own = ap (λ (x : List ℕ). Some (Some (Facets.Pattern pattern x))) (sym chars-nil ∙ own)
flags_at (b ∷ bs) pattern flags is own = ap (λ (x : List ℕ). Some (Some (Facets.Pattern pattern x))) own

pattern_entry : (o : Option Facet) → HasKey (codes "pattern") o → IfSome o IsHeldFacet → IfSome o HasTextFlags
    → option_and_then (λ pattern. option_and_then (with_flags pattern) (text_if_any (option_and_then flags_data o))) (text_if_any (option_map facet_data o)) ≡ Some (option_map plain_facet o)
pattern_entry None k h f = refl
pattern_entry (Some (Facets.Pattern pattern flags)) k h f =
    ap (λ (x : List ℕ). option_and_then (with_flags (Some x)) (text_if_any (bytes_if_some (encode_utf8_all flags)))) (chars-encodes pattern h)
    ∙ flags_at (encode_utf8_all flags) pattern flags refl (chars-encodes flags f)
pattern_entry (Some facet) k h f = absurd (true≢false (sym k))

mininclusive_entry : (o : Option Facet) → HasKey (codes "mininclusive") o → IsWholeIfAny o →
    option_map (option_map Facets.MinInclusive) (bound (option_map facet_data o)) ≡ Some (option_map plain_facet o)
mininclusive_entry None k h = refl
mininclusive_entry (Some (Facets.MinInclusive t)) k h = ap (option_map (option_map Facets.MinInclusive)) (bound_is t h)
mininclusive_entry (Some facet) k h = absurd (true≢false (sym k))

minexclusive_entry : (o : Option Facet) → HasKey (codes "minexclusive") o → IsWholeIfAny o →
    option_map (option_map Facets.MinExclusive) (bound (option_map facet_data o)) ≡ Some (option_map plain_facet o)
minexclusive_entry None k h = refl
minexclusive_entry (Some (Facets.MinExclusive t)) k h = ap (option_map (option_map Facets.MinExclusive)) (bound_is t h)
minexclusive_entry (Some facet) k h = absurd (true≢false (sym k))

maxinclusive_entry : (o : Option Facet) → HasKey (codes "maxinclusive") o → IsWholeIfAny o →
    option_map (option_map Facets.MaxInclusive) (bound (option_map facet_data o)) ≡ Some (option_map plain_facet o)
maxinclusive_entry None k h = refl
maxinclusive_entry (Some (Facets.MaxInclusive t)) k h = ap (option_map (option_map Facets.MaxInclusive)) (bound_is t h)
maxinclusive_entry (Some facet) k h = absurd (true≢false (sym k))

maxexclusive_entry : (o : Option Facet) → HasKey (codes "maxexclusive") o → IsWholeIfAny o →
    option_map (option_map Facets.MaxExclusive) (bound (option_map facet_data o)) ≡ Some (option_map plain_facet o)
maxexclusive_entry None k h = refl
maxexclusive_entry (Some (Facets.MaxExclusive t)) k h = ap (option_map (option_map Facets.MaxExclusive)) (bound_is t h)
maxexclusive_entry (Some facet) k h = absurd (true≢false (sym k))

totaldigits_entry : (o : Option Facet) → HasKey (codes "totaldigits") o → IfSome o IsHeldFacet →
    option_map (option_map Facets.TotalDigits) (count (option_map facet_data o)) ≡ Some (option_map plain_facet o)
totaldigits_entry None k h = refl
totaldigits_entry (Some (Facets.TotalDigits n)) k h = ap (λ (x : Option ℕ). option_map (option_map Facets.TotalDigits) (option_map (λ (y : ℕ). Some y) x)) (small_is n h)
totaldigits_entry (Some facet) k h = absurd (true≢false (sym k))

fractiondigits_entry : (o : Option Facet) → HasKey (codes "fractiondigits") o → IfSome o IsHeldFacet →
    option_map (option_map Facets.FractionDigits) (count (option_map facet_data o)) ≡ Some (option_map plain_facet o)
fractiondigits_entry None k h = refl
fractiondigits_entry (Some (Facets.FractionDigits n)) k h = ap (λ (x : Option ℕ). option_map (option_map Facets.FractionDigits) (option_map (λ (y : ℕ). Some y) x)) (small_is n h)
fractiondigits_entry (Some facet) k h = absurd (true≢false (sym k))

-- ---- the facets under their keys

-- the facets that are there
abbrev listed_all : List (Option Facet) → List Facet
listed_all [] = []
listed_all (o ∷ os) = listed o ++ listed_all os

all_listed : (os : List (Option Facet)) → all_of (map Some os) ≡ Some (listed_all os)
all_listed [] = refl
all_listed (o ∷ os) = ap (option_map (λ facets. listed o ++ facets)) (all_listed os)

-- of the facets with one key there is the first alone
none_left : (xs : List Facet) → length xs ≤ 0 → xs ≡ []
none_left [] h = refl
none_left (x ∷ xs) h = absurd (omega arith)

single_at : (b : Bool) (p : Facet → Bool) (x : Facet) (xs : List Facet) → length (cond b (x ∷ filter p xs) (filter p xs)) ≤ 1
    → (length (filter p xs) ≤ 1 → listed (option_map plain_facet (find p xs)) ≡ map plain_facet (filter p xs))
    → listed (option_map plain_facet (cond b (Some x) (find p xs))) ≡ map plain_facet (cond b (x ∷ filter p xs) (filter p xs))
single_at true p x xs h rest = ap (λ (ys : List Facet). plain_facet x ∷ map plain_facet ys) (sym (none_left (filter p xs) (omega arith)))
single_at false p x xs h rest = rest h

single : (p : Facet → Bool) (xs : List Facet) → length (filter p xs) ≤ 1 → listed (option_map plain_facet (find p xs)) ≡ map plain_facet (filter p xs)
single p [] h = refl
single p (x ∷ xs) h = single_at (p x) p x xs h (single p xs)

-- the first facet of a key has it
passes_at : (b : Bool) (p : Facet → Bool) (x : Facet) (xs : List Facet) → p x ≡ b → IfSome (find p xs) (λ facet. p facet ≡ true) → IfSome (cond b (Some x) (find p xs)) (λ facet. p facet ≡ true)
passes_at true p x xs e rest = e
passes_at false p x xs e rest = rest

found_passes : (p : Facet → Bool) (xs : List Facet) → IfSome (find p xs) (λ facet. p facet ≡ true)
found_passes p [] = tt
found_passes p (x ∷ xs) = passes_at (p x) p x xs refl (found_passes p xs)

pub key_is : (key : List ℕ) (facets : List Facet) → HasKey key (facet_under key facets)
key_is key facets = found_passes (λ facet. bytes_eq (facet_key facet) key) facets

-- and what holds of all facets
found_at : (P : Facet → Type 0) (b : Bool) (p : Facet → Bool) (x : Facet) (xs : List Facet) → P x → IfSome (find p xs) P → IfSome (cond b (Some x) (find p xs)) P
found_at P true p x xs h rest = h
found_at P false p x xs h rest = rest

pub found_holds : (P : Facet → Type 0) (p : Facet → Bool) (xs : List Facet) → AllByRecursion P xs → IfSome (find p xs) P
found_holds P p [] h = tt
found_holds P p (x ∷ xs) h = found_at P (p x) p x xs h.0 (found_holds P p xs h.1)

pub all_tests : (p : Facet → Bool) (xs : List Facet) → list_all p xs ≡ true → AllByRecursion (λ facet. p facet ≡ true) xs
all_tests p [] h = tt
all_tests p (x ∷ xs) h = let parts = both (p x) (list_all p xs) h in (parts.0, all_tests p xs parts.1)

abbrev first_of : List Facet → List ℕ → Option Facet
first_of facets key = option_map plain_facet (facet_under key facets)

by_keys : (facets : List Facet) (keys : List (List ℕ)) → AllByRecursion (λ key. length (all_under key facets) ≤ 1) keys →
    listed_all (map (first_of facets) keys) ≡ flat_map (λ key. map plain_facet (all_under key facets)) keys
by_keys facets [] h = refl
by_keys facets (key ∷ keys) h =
    let own = single (λ facet. bytes_eq (facet_key facet) key) facets h.0 in
    let rest = by_keys facets keys h.1 in
    λ i. own i ++ rest i

-- what stands under the keys of a constraint
record AreEntries (facets : List Facet) (d : Data) : Type 0 where
  has_length : get (codes "length") d ≡ option_map facet_data (facet_under (codes "length") facets)
  has_minlength : get (codes "minlength") d ≡ option_map facet_data (facet_under (codes "minlength") facets)
  has_maxlength : get (codes "maxlength") d ≡ option_map facet_data (facet_under (codes "maxlength") facets)
  has_pattern : get (codes "pattern") d ≡ option_map facet_data (facet_under (codes "pattern") facets)
  has_mininclusive : get (codes "mininclusive") d ≡ option_map facet_data (facet_under (codes "mininclusive") facets)
  has_minexclusive : get (codes "minexclusive") d ≡ option_map facet_data (facet_under (codes "minexclusive") facets)
  has_maxinclusive : get (codes "maxinclusive") d ≡ option_map facet_data (facet_under (codes "maxinclusive") facets)
  has_maxexclusive : get (codes "maxexclusive") d ≡ option_map facet_data (facet_under (codes "maxexclusive") facets)
  has_totaldigits : get (codes "totaldigits") d ≡ option_map facet_data (facet_under (codes "totaldigits") facets)
  has_fractiondigits : get (codes "fractiondigits") d ≡ option_map facet_data (facet_under (codes "fractiondigits") facets)
  has_flags : get (codes "flags") d ≡ option_and_then flags_data (facet_under (codes "pattern") facets)

facets_at : (facets : List Facet) (d : Data) → AreEntries facets d → AreHeldFacets facets → IfSome (facet_under (codes "pattern") facets) HasTextFlags →
    AreOnce facets → list_all is_whole_facet facets ≡ true → facets_of d ≡ Some (plain_facets facets)
unfolding facets_of
facets_at facets d e held flags once whole =
    let all = all_tests is_whole_facet facets whole in
    let whole_under : (key : List ℕ) → IsWholeIfAny (facet_under key facets) = λ key. found_holds (λ facet. is_whole_facet facet ≡ true) (λ facet. bytes_eq (facet_key facet) key) facets all in
    let e_length = ap (λ (o : Option Data). option_map (option_map Facets.Length) (count o)) e.has_length ∙ length_entry (facet_under (codes "length") facets)
    (key_is (codes "length") facets) held.0 in
    let e_minlength = ap (λ (o : Option Data). option_map (option_map Facets.MinLength) (count o)) e.has_minlength
    ∙ minlength_entry (facet_under (codes "minlength") facets) (key_is (codes "minlength") facets) held.1.0 in
    let e_maxlength = ap (λ (o : Option Data). option_map (option_map Facets.MaxLength) (count o)) e.has_maxlength
    ∙ maxlength_entry (facet_under (codes "maxlength") facets) (key_is (codes "maxlength") facets) held.1.1.0 in
    let e_pattern = ap (λ (o : Option Data). option_and_then (λ pattern. option_and_then (with_flags pattern) (text_if_any (get (codes "flags") d))) (text_if_any o)) e.has_pattern
    ∙ ap (λ (o : Option Data). option_and_then (λ pattern. option_and_then (with_flags pattern) (text_if_any o)) (text_if_any (option_map facet_data (facet_under (codes "pattern") facets)))) e.has_flags
    ∙ pattern_entry (facet_under (codes "pattern") facets) (key_is (codes "pattern") facets) held.1.1.1.0 flags in
    let e_mininclusive = ap (λ (o : Option Data). option_map (option_map Facets.MinInclusive) (bound o)) e.has_mininclusive
    ∙ mininclusive_entry (facet_under (codes "mininclusive") facets) (key_is (codes "mininclusive") facets) (whole_under (codes "mininclusive")) in
    let e_minexclusive = ap (λ (o : Option Data). option_map (option_map Facets.MinExclusive) (bound o)) e.has_minexclusive
    ∙ minexclusive_entry (facet_under (codes "minexclusive") facets) (key_is (codes "minexclusive") facets) (whole_under (codes "minexclusive")) in
    let e_maxinclusive = ap (λ (o : Option Data). option_map (option_map Facets.MaxInclusive) (bound o)) e.has_maxinclusive
    ∙ maxinclusive_entry (facet_under (codes "maxinclusive") facets) (key_is (codes "maxinclusive") facets) (whole_under (codes "maxinclusive")) in
    let e_maxexclusive = ap (λ (o : Option Data). option_map (option_map Facets.MaxExclusive) (bound o)) e.has_maxexclusive
    ∙ maxexclusive_entry (facet_under (codes "maxexclusive") facets) (key_is (codes "maxexclusive") facets) (whole_under (codes "maxexclusive")) in
    let e_totaldigits = ap (λ (o : Option Data). option_map (option_map Facets.TotalDigits) (count o)) e.has_totaldigits
    ∙ totaldigits_entry (facet_under (codes "totaldigits") facets) (key_is (codes "totaldigits") facets) held.1.1.1.1.1.1.1.1.0 in
    let e_fractiondigits = ap (λ (o : Option Data). option_map (option_map Facets.FractionDigits) (count o)) e.has_fractiondigits
    ∙ fractiondigits_entry (facet_under (codes "fractiondigits") facets) (key_is (codes "fractiondigits") facets) held.1.1.1.1.1.1.1.1.1.0 in
    let values : facet_values d ≡ map Some (map (first_of facets) facet_keys) =
    λ i. e_length i ∷ e_minlength i ∷ e_maxlength i ∷ e_pattern i ∷ e_mininclusive i ∷ e_minexclusive i ∷ e_maxinclusive i ∷ e_maxexclusive i ∷ e_totaldigits i ∷ e_fractiondigits i ∷ [] in
    ap all_of values ∙ all_listed (map (first_of facets) facet_keys) ∙ ap (λ (xs : List Facet). Some xs) (by_keys facets facet_keys once)

entries : (id : Option Data) (c : Constraint) → AreEntries c.facets (constraint_data id c)
unfolding constraint_data
entries id c = record {
  has_length = field_is (codes "length") (constraint_fields id c) refl;
  has_minlength = field_is (codes "minlength") (constraint_fields id c) refl;
  has_maxlength = field_is (codes "maxlength") (constraint_fields id c) refl;
  has_pattern = field_is (codes "pattern") (constraint_fields id c) refl;
  has_mininclusive = field_is (codes "mininclusive") (constraint_fields id c) refl;
  has_minexclusive = field_is (codes "minexclusive") (constraint_fields id c) refl;
  has_maxinclusive = field_is (codes "maxinclusive") (constraint_fields id c) refl;
  has_maxexclusive = field_is (codes "maxexclusive") (constraint_fields id c) refl;
  has_totaldigits = field_is (codes "totaldigits") (constraint_fields id c) refl;
  has_fractiondigits = field_is (codes "fractiondigits") (constraint_fields id c) refl;
  has_flags = field_is (codes "flags") (constraint_fields id c) refl;
}

pub facets_back : (id : Option Data) (c : Constraint) → IsHeldConstraint c → AreOnce c.facets → is_whole_constraint c ≡ true → facets_of (constraint_data id c) ≡ Some (plain_facets c.facets)
facets_back id c held once whole = facets_at c.facets (constraint_data id c) (entries id c) held.facets held.flags once whole
