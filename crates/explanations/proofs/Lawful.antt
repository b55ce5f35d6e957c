-- The laws of explanations.
use Rattle.std.proofs.Common.{ℕ, List, subst, sym}
use Rattle.std.specs.Prelude.{Contains}
use Rattle.lists.proofs.Beside.{beside_back}
use Rattle.lists.proofs.Quantifiers.{all_at}
use Rattle.rdf_terms.specs.declared.terms.Term.{Term}
use Rattle.rdf_terms.specs.declared.terms.Triple.{Triple}
use Rattle.schema_tree.specs.declared.schema.Pair.{Pair}
use Rattle.schema_tree.specs.declared.schema.Schema.{Schema}
use Rattle.schema_tree.specs.declared.verdicts.Lean.TheVariants.{Possible}
use Rattle.schema_tree.specs.Laws.{SureIsTrue}
use Rattle.schema_tree.specs.Removal.{IsRefined}
use Rattle.schema_tree.specs.Sure.{Agrees, Known}
use Rattle.removal_laws.specs.Marks.{KnowSame}
use Rattle.removal_laws.proofs.Known.{match_known}
use Rattle.nonconformance.specs.Laws.{NoCannotMatch}
use Rattle.shape_map.specs.declared.resolve.Association.{Association}
use Rattle.explanations.specs.declared.explanation.Block.{Block}
use Rattle.explanations.specs.declared.explanation.Block.TheVariants as Blocks
use Rattle.explanations.specs.declared.explanation.Explanation.{Explanation}
use Rattle.explanations.specs.declared.subject.Subject.{Subject}
use Rattle.explanations.specs.declared.subject.Subject.TheVariants as Subjects
use Rattle.explanations.specs.Blocks.{IsBlock}
use Rattle.explanations.specs.Explanations.{IsExplanation}
use Rattle.explanations.specs.Laws.{IsDenied, NoneCanMatch}
use Rattle.explanations.specs.Mentions.{blocks_of}
use Rattle.explanations.specs.Numbers.{Fails}

pub refined_none :
    NoCannotMatch → (s : Schema) (terms : List Term) (g : List Triple) (f : List ℕ) (pairs : List Pair) (budget : ℕ) (known verdicts : Known) →
    IsRefined s terms g f pairs budget known → KnowSame verdicts known → NoneCanMatch s terms g verdicts
refined_none law s terms g f pairs budget known verdicts refined same p is can =
    (law s terms g f pairs budget known refined p (same.1.0 p is.1)).1 (match_known s terms g verdicts known Possible p same can)

block_denied : SureIsTrue → (s : Schema) (terms : List Term) (g : List Triple) (view : Known) (T : List Pair) (all : List Subject) (subject : Subject) (b : Block) →
    Agrees T view → Fails s terms view subject → IsBlock s terms view all g subject b → IsDenied s terms T b
block_denied law s terms g view T all (Subjects.Pair p) (Blocks.Reasons q told) agrees fails is =
    subst (λ z. ¬ Contains T z) (sym is.0) (agrees.1 p fails.1)
block_denied law s terms g view T all (Subjects.Expr n e) (Blocks.Causes m d told) agrees fails is =
    subst (λ z. IsDenied s terms T (Blocks.Causes z d told)) (sym is.0)
    (subst (λ z. IsDenied s terms T (Blocks.Causes n z told)) (sym is.1) ((law s terms view T n e agrees).1 fails.1))
block_denied law s terms g view T all (Subjects.Pair p) (Blocks.Causes m d told) agrees fails is = absurd is
block_denied law s terms g view T all (Subjects.Expr n e) (Blocks.Reasons q told) agrees fails is = absurd is

pub all_denied : SureIsTrue → (s : Schema) (terms : List Term) (g : List Triple) (view : Known) (T : List Pair) (asked : List Association) (x : Explanation) →
    Agrees T view → IsExplanation s terms view g asked x → (b : Block) → Contains (blocks_of x) b → IsDenied s terms T b
all_denied law s terms g view T asked x agrees is b held =
    let (subject, there, block) = beside_back (IsBlock s terms view is.subjects g) is.subjects (blocks_of x) is.blocks b held in
    block_denied law s terms g view T is.subjects subject b agrees (all_at (Fails s terms view) is.subjects subject is.fail there) block
