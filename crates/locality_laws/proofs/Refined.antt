-- What refinement of some pairs knows: of a stratum what went and what is kept there, of others what was known.
use Rattle.std.proofs.Common.{◌≡◌, ℕ, zero, suc, ◌<◌, ◌≤◌, inl, inr, List, [], ◌∷◌, arith, sym, subst, ap, take}
use Rattle.std.specs.Prelude.{Contains, Some, slice_get}
use Rattle.lists.proofs.Members.{in_rest, not_in_none, place_of}
use Rattle.rdf_terms.specs.declared.terms.Term.{Term}
use Rattle.rdf_terms.specs.declared.terms.Triple.{Triple}
use Rattle.schema_tree.specs.declared.schema.Pair.{Pair}
use Rattle.schema_tree.specs.declared.schema.Schema.{Schema}
use Rattle.schema_tree.specs.declared.verdicts.Verdict.TheVariants.{Unknown}
use Rattle.schema_tree.specs.Edges.{level}
use Rattle.schema_tree.specs.Removal.{AreRefinedBelow, IsNarrow, IsRefinedAt}
use Rattle.schema_tree.specs.Sure.{Known, PairIs}
use Rattle.locality_laws.specs.Local.{AreRefinedOn}
use Rattle.locality_laws.proofs.Alike.{SameOn, by_members, not_raised, raised, same_through}

-- an item of the first so many has an earlier place
pub in_take : (xs : List Pair) (n : ℕ) (q : Pair) → Contains (take n xs) q → (j : ℕ) × (j < n) × (slice_get xs j ≡ Some q)
in_take [] zero q c = absurd (not_in_none q c)
in_take [] (suc n) q c = absurd (not_in_none q c)
in_take (x ∷ xs) zero q c = absurd (not_in_none q c)
in_take (x ∷ xs) (suc n) q c = elim (in_rest x (take n xs) q c) [
  | inl e ↦ (0, omega arith, ap (λ z. Some z) e)
  | inr later ↦ (let (j, l, at) = in_take xs n q later in (suc j, omega (arith, l), at))
]

-- a view that says the same of all pairs, by equal lists
pub by_lists : (a b : Known) → a.yes ≡ b.yes → a.no ≡ b.no → (q : Pair) → SameOn a b q
by_lists a b y n q =
    by_members a b q ((λ c. subst (λ xs. Contains xs q) y c), (λ c. subst (λ xs. Contains xs q) (sym y) c))
    ((λ c. subst (λ xs. Contains xs q) n c), (λ c. subst (λ xs. Contains xs q) (sym n) c))

module _ (s : Schema) (terms : List Term) (g : List Triple) (f : List ℕ) (budget : ℕ) (pairs : List Pair) where
  module _ (lower : Known) (k : ℕ) (gone kept : List Pair) (r : IsRefinedAt s terms g f pairs budget lower k gone kept) where
    pub gone_narrow : (q : Pair) → Contains gone q → IsNarrow s terms g f pairs budget k q
    gone_narrow q c = let (i, at) = place_of gone q c in (r.in_turn i q at).0.0

    pub kept_narrow : (q : Pair) → Contains kept q → IsNarrow s terms g f pairs budget k q
    kept_narrow q c = (r.confirmed q c).0

    pub kept_stays : (q : Pair) → Contains kept q → ¬ Contains gone q
    kept_stays q c = (r.confirmed q c).1

    -- of a pair of another stratum, and of one that is none of the pairs, nothing new is known
    pub other_stratum : (q : Pair) → ¬ (level f q.shape ≡ k) → SameOn lower (raised lower kept gone) q
    other_stratum q apart = not_raised lower kept gone q (λ c. apart (kept_narrow q c).1) (λ c. apart (gone_narrow q c).1)

    pub other_pair : (q : Pair) → ¬ Contains pairs q → SameOn lower (raised lower kept gone) q
    other_pair q none = not_raised lower kept gone q (λ c. none (kept_narrow q c).0) (λ c. none (gone_narrow q c).0)

  -- from the stratum k on a pair that was not known is not known
  pub still_unknown : (first : Known) (k : ℕ) (known : Known) → AreRefinedOn s terms g f pairs budget first k known → (q : Pair) → k ≤ level f q.shape →
      PairIs first q Unknown → PairIs known q Unknown
  still_unknown first zero known (yes_is, no_is) q le new = (by_lists known first yes_is no_is q Unknown).1 new
  still_unknown first (suc k) known (lower, gone, kept, before, r, yes_is, no_is) q le new =
      (by_lists known (raised lower kept gone) yes_is no_is q Unknown).1
      ((other_stratum lower k gone kept r q (λ e. absurd (omega (arith, e, le))) Unknown).0 (still_unknown first k lower before q (omega (arith, le)) new))

  -- of a pair that is none of the pairs is known what was
  pub others_same : (first : Known) (k : ℕ) (known : Known) → AreRefinedOn s terms g f pairs budget first k known → (q : Pair) → ¬ Contains pairs q → SameOn first known q
  others_same first zero known (yes_is, no_is) q none = by_lists first known (sym yes_is) (sym no_is) q
  others_same first (suc k) known (lower, gone, kept, before, r, yes_is, no_is) q none =
      same_through first lower known q (others_same first k lower before q none)
      (same_through lower (raised lower kept gone) known q (other_pair lower k gone kept r q none) (by_lists (raised lower kept gone) known (sym yes_is) (sym no_is) q))

  -- refinement with nothing known before
  pub from_nothing : (k : ℕ) (known : Known) → AreRefinedBelow s terms g f pairs budget k known → AreRefinedOn s terms g f pairs budget (record { yes = []; no = [] }) k known
  from_nothing zero known h = h
  from_nothing (suc k) known (lower, gone, kept, before, r, yes_is, no_is) = (lower, gone, kept, from_nothing k lower before, r, yes_is, no_is)
