-- Laws of explanations. A function that does nothing claims each of them by its contract.
use Rattle.std.specs.Prelude.{ℕ, List, Contains}
use Rattle.rdf_terms.specs.declared.terms.Term.{Term}
use Rattle.rdf_terms.specs.declared.terms.Triple.{Triple}
use Rattle.schema_tree.specs.declared.schema.Pair.{Pair}
use Rattle.schema_tree.specs.declared.schema.Schema.{Schema}
use Rattle.schema_tree.specs.declared.verdicts.Lean.TheVariants.{Possible}
use Rattle.schema_tree.specs.declared.verdicts.Verdict.TheVariants.{No}
use Rattle.schema_tree.specs.Places.{PairCanMatch}
use Rattle.schema_tree.specs.Removal.{IsRefined}
use Rattle.schema_tree.specs.Satisfies.{Sat}
use Rattle.schema_tree.specs.Sure.{Agrees, Known, PairIs}
use Rattle.removal_laws.specs.Marks.{KnowSame}
use Rattle.shape_map.specs.declared.resolve.Association.{Association}
use Rattle.explanations.specs.declared.explanation.Block.{Block}
use Rattle.explanations.specs.declared.explanation.Block.TheVariants as Blocks
use Rattle.explanations.specs.declared.explanation.Explanation.{Explanation}
use Rattle.explanations.specs.Explanations.{IsExplanation}
use Rattle.explanations.specs.Mentions.{blocks_of}

-- no pair that is known not to be satisfied can match by what is known, where Unknown is possible
abbrev pub NoneCanMatch : Schema → List Term → List Triple → Known → Type 0
NoneCanMatch s terms g view = (p : Pair) → PairIs view p No → ¬ PairCanMatch s terms g view Possible p

-- no pair that refinement knows not to be satisfied can match by what it comes to
abbrev pub RefinedCannotMatch : Type 0
RefinedCannotMatch =
    (s : Schema) (terms : List Term) (g : List Triple) (f : List ℕ) (pairs : List Pair) (budget : ℕ) (known verdicts : Known) →
    IsRefined s terms g f pairs budget known → KnowSame verdicts known → NoneCanMatch s terms g verdicts

-- what a block is about does not hold under a typing
abbrev pub IsDenied : Schema → List Term → List Pair → Block → Type 0
IsDenied s terms T (Blocks.Reasons p reasons) = ¬ Contains T p
IsDenied s terms T (Blocks.Causes n e causes) = ¬ Sat s terms T n e

-- what is known being true of a typing, so is each block of an explanation: the node does not have the Shape, or does not satisfy the
-- expression
abbrev pub BlocksAreTrue : Type 0
BlocksAreTrue =
    (s : Schema) (terms : List Term) (g : List Triple) (view : Known) (T : List Pair) (asked : List Association) (x : Explanation) →
    Agrees T view → IsExplanation s terms view g asked x → (b : Block) → Contains (blocks_of x) b → IsDenied s terms T b
