-- The blocks of subjects.
use Rattle.std.proofs.Common.{◌≡◌, ◌<◌, length, refl, subst, sym, List}
use Rattle.std.specs.List.{AllZip}
use Rattle.rdf_terms.specs.declared.terms.Term.{Term}
use Rattle.rdf_terms.specs.declared.terms.TermId.{TermId}
use Rattle.rdf_terms.specs.declared.terms.Triple.{Triple}
use Rattle.schema_tree.specs.declared.schema.ExprId.{ExprId}
use Rattle.schema_tree.specs.declared.schema.Pair.{Pair}
use Rattle.schema_tree.specs.declared.schema.Schema.{Schema}
use Rattle.schema_tree.specs.Sure.{Known}
use Rattle.nonconformance.specs.declared.cause.Cause.{Cause}
use Rattle.nonconformance.specs.declared.reason.Reason.{Reason}
use Rattle.nonconformance.specs.Causes.{AreCauses}
use Rattle.explanations.specs.declared.explanation.Block.TheVariants as Blocks
use Rattle.explanations.specs.declared.explanation.ToldCause.{ToldCause}
use Rattle.explanations.specs.declared.explanation.ToldReason.{ToldReason}
use Rattle.explanations.specs.declared.subject.Subject.{Subject}
use Rattle.explanations.specs.declared.subject.Subject.TheVariants as Subjects
use Rattle.explanations.specs.Blocks.{AreReasons, IsBlock, IsToldCause, IsToldReason}

module _ (s : Schema) (terms : List Term) (view : Known) (all : List Subject) (g : List Triple) where
  pub pair_block : (p : Pair) (reasons : List Reason) (told given : List ToldReason) → given ≡ told → AreReasons s terms g view p reasons →
      AllZip (IsToldReason s terms view all g p) reasons told → IsBlock s terms view all g (Subjects.Pair p) (Blocks.Reasons p given)
  pair_block p reasons told given is are zip =
      (refl, reasons, are, subst (λ z. AllZip (IsToldReason s terms view all g p) reasons z) (sym is) zip)

  pub expr_block : (n : TermId) (e : ExprId) (causes : List Cause) (told given : List ToldCause) → given ≡ told → AreCauses s terms view n e causes →
      0 < length causes → AllZip (IsToldCause s terms view all n) causes told → IsBlock s terms view all g (Subjects.Expr n e) (Blocks.Causes n e given)
  expr_block n e causes told given is are some zip =
      (refl, refl, causes, are, some, subst (λ z. AllZip (IsToldCause s terms view all n) causes z) (sym is) zip)
