-- The verdicts of refinement, as a condition on finished lists of the pairs that went on each stratum (own).
use Rattle.std.specs.Prelude.{ℕ, zero, suc, List, [], ◌++◌, ◌≡◌, ◌<◌, take, slice_get, Some, Contains}
use Rattle.rdf_terms.specs.declared.terms.Term.{Term}
use Rattle.rdf_terms.specs.declared.terms.Triple.{Triple}
use Rattle.schema_tree.specs.declared.schema.Schema.{Schema}
use Rattle.schema_tree.specs.declared.verdicts.Lean.TheVariants.{Possible, Impossible}
use Rattle.schema_tree.specs.declared.schema.Pair.{Pair}
use Rattle.schema_tree.specs.Edges.{level}
use Rattle.schema_tree.specs.Places.{PairCanMatch}
use Rattle.schema_tree.specs.Sure.{Known}
use Rattle.schema_tree.specs.Typings.{IsPartOf, top_of}
use Rattle.schema_tree.specs.Width.{IsWithinWidth}

-- p comes before q in the list
abbrev pub ComesBefore : List Pair → Pair → Pair → Type 0
ComesBefore pairs p q = (i j : ℕ) × (slice_get pairs i ≡ Some p) × (slice_get pairs j ≡ Some q) × (i < j)

-- pairs are those that are asked for, in their order
module _ (s : Schema) (terms : List Term) (g : List Triple) (f : List ℕ) (pairs : List Pair) (budget : ℕ) where
  -- a pair of the stratum whose Width is within the budget
  abbrev pub IsNarrow : ℕ → Pair → Type 0
  IsNarrow k p = Contains pairs p × (level f p.shape ≡ k) × IsWithinWidth s terms g budget p

  -- p can go once the pairs of gone went: it cannot match where these and the lower No pairs are No, and Unknown is possible
  abbrev pub CanGo : Known → ℕ → List Pair → Pair → Type 0
  CanGo lower k gone p =
      IsNarrow k p × (¬ Contains gone p)
      × (¬ PairCanMatch s terms g (record { yes = lower.yes; no = lower.no ++ gone }) Possible p)

  -- p is the first of those that can go
  abbrev pub GoesNext : Known → ℕ → List Pair → Pair → Type 0
  GoesNext lower k gone p = CanGo lower k gone p × ((q : Pair) → CanGo lower k gone q → ¬ ComesBefore pairs q p)

  -- each pair of kept is narrow and did not go, and it matches where those of kept are Yes and Unknown is impossible
  abbrev pub IsConfirmed : Known → ℕ → List Pair → List Pair → Type 0
  IsConfirmed lower k gone kept =
      (p : Pair) → Contains kept p →
      IsNarrow k p × (¬ Contains gone p)
      × PairCanMatch s terms g (record { yes = lower.yes ++ kept; no = lower.no ++ gone }) Impossible p

  -- gone are the pairs of the stratum that went, each in its turn, which is its rank, until none could go; kept are the
  -- greatest pairs that are confirmed by one another; lower are the verdicts of the strata below
  pub record IsRefinedAt (lower : Known) (k : ℕ) (gone kept : List Pair) : Type 0 where
    pub in_turn : (r : ℕ) (p : Pair) → slice_get gone r ≡ Some p → GoesNext lower k (take r gone) p
    pub finished : (p : Pair) → ¬ CanGo lower k gone p
    pub confirmed : IsConfirmed lower k gone kept
    pub greatest : (more : List Pair) → IsConfirmed lower k gone more → IsPartOf more kept

  -- the verdicts of refinement on the strata below k: on each in turn, over those before it
  abbrev pub AreRefinedBelow : ℕ → Known → Type 0
  AreRefinedBelow zero known = (known.yes ≡ []) × (known.no ≡ [])
  AreRefinedBelow (suc k) known =
      (lower : Known) × (gone kept : List Pair) × AreRefinedBelow k lower × IsRefinedAt lower k gone kept
      × (known.yes ≡ lower.yes ++ kept) × (known.no ≡ lower.no ++ gone)

  -- the verdicts of refinement, on all strata
  abbrev pub IsRefined : Known → Type 0
  IsRefined known = AreRefinedBelow (suc (top_of f)) known
