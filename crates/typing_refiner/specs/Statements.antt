-- What refine and refine_from claim (own).
use Rattle.std.specs.Prelude.{ℕ, List, ◌+◌, ◌*◌, Contains, nat_le, if◌then◌else◌}
use Rattle.std.specs.List.{sum_by}
use Rattle.rdf_terms.specs.declared.terms.Term.{Term}
use Rattle.rdf_terms.specs.declared.terms.TermId.{TermId}
use Rattle.rdf_terms.specs.declared.terms.Triple.{Triple}
use Rattle.schema_tree.specs.declared.schema.Pair.{Pair}
use Rattle.schema_tree.specs.declared.schema.Schema.{Schema}
use Rattle.schema_tree.specs.declared.verdicts.Verdict.{Verdict}
use Rattle.schema_tree.specs.declared.verdicts.Verdict.TheVariants.{Unknown}
use Rattle.schema_tree.specs.Needs.{LeadsToWide}
use Rattle.schema_tree.specs.Removal.{IsRefined}
use Rattle.schema_tree.specs.Sure.{Agrees, Known, PairIs}
use Rattle.schema_tree.specs.Edges.{IsStratified}
use Rattle.schema_tree.specs.Typings.{HoldsEnds, IsTheTyping}
use Rattle.removal_laws.specs.Marks.{KnowSame}
use Rattle.bag_match.specs.Bounds.{most_ticks}
use Rattle.locality_laws.specs.Bounds.{NeedsSoMany}
use Rattle.locality_laws.specs.Local.{IsVerdict}

module _ (s : Schema) (terms : List Term) (g : List Triple) (f : List ℕ) (budget : ℕ) where
  -- refine: the verdicts are those of refinement of the pairs
  abbrev pub IsRefinementOf : List Pair → Known → Type 0
  IsRefinementOf pairs verdicts = (known : Known) × IsRefined s terms g f pairs budget known × KnowSame verdicts known

  -- refine_from: the verdicts on the list are those of refinement over all that it reaches, and no other pair has one
  abbrev pub AreVerdictsOn : List Pair → Known → Type 0
  AreVerdictsOn pairs verdicts =
      ((p : Pair) (v : Verdict) → Contains pairs p → PairIs verdicts p v → IsVerdict s terms g f budget p v)
      × ((p : Pair) → ¬ Contains pairs p → PairIs verdicts p Unknown)

  -- Unknown only where the pair is not of the list or reaches a pair whose Width is above the budget
  abbrev pub IsUnknownOnlyWide : List Pair → Known → Type 0
  IsUnknownOnlyWide pairs verdicts = (p : Pair) → Contains pairs p → PairIs verdicts p Unknown → LeadsToWide s terms g budget p

  -- Yes is of every complete typing, and No of none
  abbrev pub AreTrue : List Pair → Known → Type 0
  AreTrue pairs verdicts =
      (U : List TermId) (T : List Pair) → IsTheTyping s terms g f U T → ((p : Pair) → Contains pairs p → Contains U p.node) → Agrees T verdicts

  -- by any other stratification, too, Yes is of every complete typing, and No of none
  abbrev pub AreTrueByAll : List Pair → Known → Type 0
  AreTrueByAll pairs verdicts =
      (h : List ℕ) (U : List TermId) (T : List Pair) → IsStratified s h → HoldsEnds U g → IsTheTyping s terms g h U T →
      ((p : Pair) → Contains pairs p → Contains U p.node) → Agrees T verdicts

module _ (s : Schema) (terms : List Term) (g : List Triple) (budget : ℕ) where
  -- refine: refinement of the pairs by any stratification comes to these verdicts
  abbrev pub AreVerdictsByAll : List Pair → Known → Type 0
  AreVerdictsByAll pairs verdicts =
      (h : List ℕ) (known : Known) → IsStratified s h → IsRefined s terms g h pairs budget known → KnowSame verdicts known

  -- refine_from: the verdicts on the list are those of refinement over all that it reaches, by any stratification
  abbrev pub AreVerdictsOnByAll : List Pair → Known → Type 0
  AreVerdictsOnByAll pairs verdicts = (h : List ℕ) → IsStratified s h → AreVerdictsOn s terms g h budget pairs verdicts

-- how many pairs of the list each of them needs
abbrev pub CountNeeds : Schema → List Triple → List Pair → (Pair → ℕ) → Type 0
CountNeeds s g pairs count = (p : Pair) → Contains pairs p → NeedsSoMany s g pairs p (count p)

module _ (s : Schema) (terms : List Term) (g : List Triple) (budget : ℕ) (width count : Pair → ℕ) where
  -- what refine_from ticks at most for a pair: where its Width is within the budget, 2 × k + 3 looks, where k is how many pairs of
  -- the list it needs, and at each look as often as one match
  abbrev pub most_at : Pair → ℕ
  most_at p = if nat_le (width p) budget then (2 * count p + 3) * most_ticks s terms g p (width p) else 0

  abbrev pub most_of : List Pair → ℕ
  most_of pairs = sum_by most_at pairs
