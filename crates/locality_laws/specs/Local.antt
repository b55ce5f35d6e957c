-- Refinement of some pairs over what is known of others (own).
use Rattle.std.specs.Prelude.{ℕ, zero, suc, true, List, ◌++◌, ◌≡◌, ◌⊎◌, Contains}
use Rattle.lists.specs.Distinct.{AreDistinct}
use Rattle.rdf_terms.specs.declared.terms.Term.{Term}
use Rattle.rdf_terms.specs.declared.terms.Triple.{Triple}
use Rattle.schema_tree.specs.declared.schema.Pair.{Pair}
use Rattle.schema_tree.specs.declared.schema.Schema.{Schema}
use Rattle.schema_tree.specs.declared.verdicts.Verdict.{Verdict}
use Rattle.schema_tree.specs.declared.verdicts.Verdict.TheVariants.{Unknown}
use Rattle.schema_tree.specs.Edges.{IsExtra}
use Rattle.schema_tree.specs.Needs.{HoldNeeds, Needs}
use Rattle.schema_tree.specs.Removal.{IsRefined, IsRefinedAt}
use Rattle.schema_tree.specs.Sure.{Known, PairIs}

-- the need is by a negative edge: behind a ShapeNot, or under EXTRA
abbrev pub IsNegativeNeed : {s : Schema} {g : List Triple} {p q : Pair} → Needs s g p q → Type 0
IsNegativeNeed n = (n.sign ≡ true) ⊎ IsExtra n.shape.extra n.occ

-- what is known says nothing of the pairs
abbrev pub IsOfOthers : List Pair → Known → Type 0
IsOfOthers pairs known = (q : Pair) → Contains pairs q → PairIs known q Unknown

-- the verdicts of refinement of the pairs on the strata below k, each over those before it, and the first over what is
-- known of other pairs
module _ (s : Schema) (terms : List Term) (g : List Triple) (f : List ℕ) (pairs : List Pair) (budget : ℕ) where
  abbrev pub AreRefinedOn : Known → ℕ → Known → Type 0
  AreRefinedOn first zero known = (known.yes ≡ first.yes) × (known.no ≡ first.no)
  AreRefinedOn first (suc k) known =
      (lower : Known) × (gone kept : List Pair) × AreRefinedOn first k lower × IsRefinedAt s terms g f pairs budget lower k gone kept
      × (known.yes ≡ lower.yes ++ kept) × (known.no ≡ lower.no ++ gone)

module _ (s : Schema) (terms : List Term) (g : List Triple) (f : List ℕ) (budget : ℕ) where
  -- the verdict on the pair that refinement gives over any distinct pairs that have it and all that they need
  abbrev pub IsVerdict : Pair → Verdict → Type 0
  IsVerdict q v =
      (all : List Pair) (whole : Known) → AreDistinct all → HoldNeeds s g all → Contains all q →
      IsRefined s terms g f all budget whole → PairIs whole q v

  -- each pair that one of the pairs needs is among them, or known answers its verdict
  abbrev pub AreKept : Known → List Pair → Type 0
  AreKept known pairs =
      (p q : Pair) → Contains pairs p → Needs s g p q → Contains pairs q ⊎ ((v : Verdict) → PairIs known q v → IsVerdict q v)
