-- Facets in the order of their keys.
use Rattle.std.proofs.Common.{◌≡◌, ◌≢◌, ◌∙◌, ap, refl, sym, subst, ℕ, zero, suc, ◌<◌, arith, List, [], ◌∷◌, ◌++◌, length, Option, Some, None}
use Rattle.std.proofs.lemmas.List.{append-nil, append_assoc}
use Rattle.std.specs.List.{AllByRecursion}
use Rattle.std.specs.Fmt.{signed_decimal}
use Rattle.std.specs.Prelude.{ℤ, option_map, option_and_then, IsSomeAnd, slice_index_or, codes, unwrap_or}
use Rattle.serde_json.specs.Data.{Data}
use Rattle.serde_json.specs.Find.{as_integer, as_number, get}
use Rattle.node_constraint.specs.Making.{HasOtherNumber, IsDecimal, range_value}
use Rattle.node_constraint.specs.declared.facet.Facet.{Facet}
use Rattle.node_constraint.specs.declared.facet.Facet.TheVariants as Facets
use Rattle.shexj_reader.specs.Constraints.{all_of, behind, bound, bounded, count, counted, digit_values, facet_values, facets_of, length_values, listed, patterned, range_values, with_flags}
use Rattle.shexj_reader.specs.Keys.{text_if_any}
use Rattle.shexj_reader.proofs.Decimals.{whole_is_decimal}

-- ---- facets that are added one by one

regrouped : (fs gs : List Facet) (r : Option (List Facet)) → option_map (λ hs. fs ++ hs) (option_map (λ hs. gs ++ hs) r) ≡ option_map (λ hs. (fs ++ gs) ++ hs) r
regrouped fs gs None = refl
regrouped fs gs (Some hs) = ap (λ (x : List Facet). Some x) (sym (append_assoc fs gs hs))

none_behind : (fs : List Facet) → behind fs [] ≡ Some fs
unfolding behind
none_behind fs = ap (λ (x : List Facet). Some x) (append-nil fs)

one_behind : (fs : List Facet) (a : Option Facet) (os : List (Option (Option Facet))) → behind fs (Some a ∷ os) ≡ behind (fs ++ listed a) os
unfolding behind
one_behind fs a os = regrouped fs (listed a) (all_of os)

grown : (fs gs : List Facet) (o : Option (Option Facet)) (a : Option Facet) (os : List (Option (Option Facet))) → o ≡ Some a → gs ≡ fs ++ listed a → behind fs (o ∷ os) ≡ behind gs os
grown fs gs o a os read more =
    ap (λ (x : Option (Option Facet)). behind fs (x ∷ os)) read
    ∙ (one_behind fs a os ∙ ap (λ (x : List Facet). behind x os) (sym more))

missed : (fs gs : List Facet) (os : List (Option (Option Facet))) → behind fs (None ∷ os) ≢ Some gs
unfolding behind
missed fs gs os h = cc

rest_behind : (fs gs : List Facet) (os ps : List (Option (Option Facet))) → behind fs os ≡ Some gs → behind fs (os ++ ps) ≡ behind gs ps
rest_behind fs gs [] ps h =
    let same : fs ≡ gs = cc (none_behind fs, h) in ap (λ (x : List Facet). behind x ps) same
rest_behind fs gs (None ∷ os) ps h = absurd (missed fs gs os h)
rest_behind fs gs (Some a ∷ os) ps h =
    one_behind fs a (os ++ ps) ∙ rest_behind (fs ++ listed a) gs os ps (sym (one_behind fs a os) ∙ h)

pub lengths_behind : (v : Data) (f0 f1 f2 f3 : List Facet) (a b c : Option Facet) →
    counted Facets.Length (codes "length") v ≡ Some a →
    counted Facets.MinLength (codes "minlength") v ≡ Some b →
    counted Facets.MaxLength (codes "maxlength") v ≡ Some c →
    f1 ≡ f0 ++ listed a → f2 ≡ f1 ++ listed b → f3 ≡ f2 ++ listed c → behind f0 (length_values v) ≡ Some f3
unfolding length_values
lengths_behind v f0 f1 f2 f3 a b c pa pb pc qa qb qc =
    grown f0 f1 _ a _ pa qa ∙ (grown f1 f2 _ b _ pb qb ∙ (grown f2 f3 _ c _ pc qc ∙ none_behind f3))

pub ranges_behind : (v : Data) (f0 f1 f2 f3 f4 : List Facet) (a b c d : Option Facet) →
    bounded Facets.MinInclusive (codes "mininclusive") v ≡ Some a →
    bounded Facets.MinExclusive (codes "minexclusive") v ≡ Some b →
    bounded Facets.MaxInclusive (codes "maxinclusive") v ≡ Some c →
    bounded Facets.MaxExclusive (codes "maxexclusive") v ≡ Some d →
    f1 ≡ f0 ++ listed a → f2 ≡ f1 ++ listed b → f3 ≡ f2 ++ listed c → f4 ≡ f3 ++ listed d → behind f0 (range_values v) ≡ Some f4
unfolding range_values
ranges_behind v f0 f1 f2 f3 f4 a b c d pa pb pc pd qa qb qc qd =
    grown f0 f1 _ a _ pa qa ∙ (grown f1 f2 _ b _ pb qb ∙ (grown f2 f3 _ c _ pc qc ∙ (grown f3 f4 _ d _ pd qd ∙ none_behind f4)))

pub digits_behind : (v : Data) (f0 f1 f2 : List Facet) (a b : Option Facet) →
    counted Facets.TotalDigits (codes "totaldigits") v ≡ Some a →
    counted Facets.FractionDigits (codes "fractiondigits") v ≡ Some b →
    f1 ≡ f0 ++ listed a → f2 ≡ f1 ++ listed b → behind f0 (digit_values v) ≡ Some f2
unfolding digit_values
digits_behind v f0 f1 f2 a b pa pb qa qb = grown f0 f1 _ a _ pa qa ∙ (grown f1 f2 _ b _ pb qb ∙ none_behind f2)

whole : (os : List (Option (Option Facet))) → all_of os ≡ behind [] os
unfolding behind
whole os = same (all_of os)
  where
    same : (r : Option (List Facet)) → r ≡ option_map (λ hs. [] ++ hs) r
    same None = refl
    same (Some hs) = refl

in_sorts : (v : Data) → facet_values v ≡ length_values v ++ patterned v ∷ (range_values v ++ digit_values v)
unfolding length_values range_values digit_values
in_sorts v = refl

-- what stands under each key gives the list of facets
pub facets_are : (v : Data) (f0 f1 f2 f3 f4 : List Facet) (a : Option Facet) → f0 ≡ [] →
    behind f0 (length_values v) ≡ Some f1 → patterned v ≡ Some a → f2 ≡ f1 ++ listed a → behind f2 (range_values v) ≡ Some f3 → behind f3 (digit_values v) ≡ Some f4 →
    facets_of v ≡ Some f4
unfolding facets_of
facets_are v f0 f1 f2 f3 f4 a none lengths pattern more ranges digits =
    ap all_of (in_sorts v)
    ∙ (whole _
    ∙ (ap (λ (x : List Facet). behind x (length_values v ++ patterned v ∷ (range_values v ++ digit_values v))) (sym none)
    ∙ (rest_behind f0 f1 (length_values v) _ lengths
    ∙ (grown f1 f2 _ a _ pattern more
    ∙ (rest_behind f2 f3 (range_values v) _ ranges ∙ digits)))))

-- ---- where all are there, each is

there_step : (o : Option (Option Facet)) (r : Option (List Facet)) (fs : List Facet) → option_and_then (λ facet. option_map (λ facets. listed facet ++ facets) r) o ≡ Some fs →
    (o ≢ None) × ((gs : List Facet) × (r ≡ Some gs))
there_step None r fs e = absurd (cc)
there_step (Some o) None fs e = absurd (cc)
there_step (Some o) (Some gs) fs e = ((λ h. cc), (gs, refl))

each_there : (os : List (Option (Option Facet))) (fs : List Facet) → all_of os ≡ Some fs → AllByRecursion (λ o. o ≢ None) os
each_there [] fs e = tt
each_there (o ∷ os) fs e =
    let step = there_step o (all_of os) fs e in (step.0, each_there os step.1.0 step.1.1)

pub values_there : (d : Data) (fs : List Facet) → facets_of d ≡ Some fs → AllByRecursion (λ o. o ≢ None) (facet_values d)
unfolding facets_of
values_there d fs e = each_there (facet_values d) fs e

-- a whole number gives its digits
pub bound_is : (o : Option Data) (d : Data) (z : ℤ) (digits : List ℕ) → o ≡ Some d → option_and_then as_integer (as_number d) ≡ Some z → digits ≡ signed_decimal z → bound o ≡ Some (Some digits)
bound_is o d z digits there is same =
    ap bound there ∙ (ap (λ (x : Option ℤ). option_map (λ z. Some (signed_decimal z)) x) is ∙ ap (λ (x : List ℕ). Some (Some x)) (sym same))

-- a pattern without flags has none
pub without_flags : (p q : Option (Option (List ℕ))) (pattern empty : List ℕ) → p ≡ Some (Some pattern) → q ≡ Some None → empty ≡ [] →
    option_and_then (λ pattern. option_and_then (with_flags pattern) q) p ≡ Some (Some (Facets.Pattern pattern empty))
without_flags p q pattern empty hp hq he =
    ap (λ (x : Option (Option (List ℕ))). option_and_then (λ pattern. option_and_then (with_flags pattern) q) x) hp
    ∙ (ap (λ (x : Option (Option (List ℕ))). option_and_then (with_flags (Some pattern)) x) hq
    ∙ ap (λ (x : List ℕ). Some (Some (Facets.Pattern pattern x))) (sym he))

-- ---- the values of range facets are decimals

abbrev pub IsFine : Facet → Type 0
IsFine facet = IsSomeAnd (range_value facet) (λ value. ¬ IsDecimal value) → ⊥

abbrev IsFineIf : Option (Option Facet) → Type 0
IsFineIf o = (facet : Facet) → o ≡ Some (Some facet) → IsFine facet

fine_listed : (o : Option Facet) (gs : List Facet) → ((facet : Facet) → Some o ≡ Some (Some facet) → IsFine facet) → AllByRecursion IsFine gs → AllByRecursion IsFine (listed o ++ gs)
fine_listed None gs own rest = rest
fine_listed (Some facet) gs own rest = (own facet refl, rest)

fine_step : (o : Option (Option Facet)) (r : Option (List Facet)) (fs : List Facet) → IsFineIf o → ((gs : List Facet) → r ≡ Some gs → AllByRecursion IsFine gs) →
    option_and_then (λ facet. option_map (λ facets. listed facet ++ facets) r) o ≡ Some fs → AllByRecursion IsFine fs
fine_step None r fs own rest e = absurd (cc)
fine_step (Some o) None fs own rest e = absurd (cc)
fine_step (Some o) (Some gs) fs own rest e =
    let same : listed o ++ gs ≡ fs = cc in subst (λ (xs : List Facet). AllByRecursion IsFine xs) same (fine_listed o gs own (rest gs refl))

fine_all : (os : List (Option (Option Facet))) (fs : List Facet) → AllByRecursion IsFineIf os → all_of os ≡ Some fs → AllByRecursion IsFine fs
fine_all [] fs h e = let same : [] ≡ fs = cc in subst (λ (xs : List Facet). AllByRecursion IsFine xs) same tt
fine_all (o ∷ os) fs h e = fine_step o (all_of os) fs h.0 (λ gs rest. fine_all os gs h.1 rest) e

fine_count : (facet : ℕ → Facet) → ((n : ℕ) → IsFine (facet n)) → (o : Option (Option ℕ)) → IsFineIf (option_map (option_map facet) o)
fine_count facet h None own e = absurd (cc)
fine_count facet h (Some None) own e = absurd (cc)
fine_count facet h (Some (Some n)) own e = let same : facet n ≡ own = cc in subst (λ (x : Facet). IsFine x) same (h n)

fine_bound : (facet : List ℕ → Facet) → ((z : ℤ) → IsFine (facet (signed_decimal z))) → (o : Option Data) → IsFineIf (option_map (option_map facet) (bound o))
fine_bound facet h None own e = absurd (cc)
fine_bound facet h (Some d) own e = in_number (option_and_then as_integer (as_number d)) e
  where
    in_number : (r : Option ℤ) → option_map (option_map facet) (option_map (λ z. Some (signed_decimal z)) r) ≡ Some (Some own) → IsFine own
    in_number None e = absurd (cc)
    in_number (Some z) e = let same : facet (signed_decimal z) ≡ own = cc in subst (λ (x : Facet). IsFine x) same (h z)

fine_pattern : (p q : Option (Option (List ℕ))) → IsFineIf (option_and_then (λ pattern. option_and_then (with_flags pattern) q) p)
fine_pattern None q own e = absurd (cc)
fine_pattern (Some p) None own e = absurd (cc)
fine_pattern (Some None) (Some None) own e = absurd (cc)
fine_pattern (Some None) (Some (Some flags)) own e = absurd (cc)
fine_pattern (Some (Some pattern)) (Some flags) own e =
    let same : Facets.Pattern pattern (unwrap_or flags []) ≡ own = cc in subst (λ (x : Facet). IsFine x) same (λ h. h)

decimal_value : (z : ℤ) → ¬ IsDecimal (signed_decimal z) → ⊥
decimal_value z wrong = wrong (whole_is_decimal z)

fine_values : (d : Data) → AllByRecursion IsFineIf (facet_values d)
fine_values d = (
  fine_count Facets.Length (λ n h. h) (count (get (codes "length") d)),
  (
    fine_count Facets.MinLength (λ n h. h) (count (get (codes "minlength") d)),
    (
      fine_count Facets.MaxLength (λ n h. h) (count (get (codes "maxlength") d)),
      (
        fine_pattern (text_if_any (get (codes "pattern") d)) (text_if_any (get (codes "flags") d)),
        (
          fine_bound Facets.MinInclusive decimal_value (get (codes "mininclusive") d),
          (
            fine_bound Facets.MinExclusive decimal_value (get (codes "minexclusive") d),
            (
              fine_bound Facets.MaxInclusive decimal_value (get (codes "maxinclusive") d),
              (
                fine_bound Facets.MaxExclusive decimal_value (get (codes "maxexclusive") d),
                (
                  fine_count Facets.TotalDigits (λ n h. h) (count (get (codes "totaldigits") d)),
                  (fine_count Facets.FractionDigits (λ n h. h) (count (get (codes "fractiondigits") d)), tt),
                ),
              ),
            ),
          ),
        ),
      ),
    ),
  ),
)

none_so : (P : Facet → Type 0) (fs : List Facet) → AllByRecursion (λ facet. P facet → ⊥) fs → (k : ℕ) (x : Facet) → k < length fs → slice_index_or fs k x ≡ x → P x → ⊥
none_so P [] all k x within at h = omega arith
none_so P (f ∷ fs) all zero x within at h = all.0 (subst P (sym at) h)
none_so P (f ∷ fs) all (suc k) x within at h = none_so P fs all.1 k x (omega arith) at h

pub no_other : (d : Data) (fs : List Facet) → facets_of d ≡ Some fs → ¬ HasOtherNumber fs
unfolding facets_of
no_other d fs e any = none_so (λ facet. IsSomeAnd (range_value facet) (λ value. ¬ IsDecimal value)) fs (fine_all (facet_values d) fs (fine_values d) e) any.0 any.1 any.2 any.3 any.4
