-- Why a node does not satisfy a shape expression, as far as the expression itself says (ShEx 2.1, section 5.3, `satisfies`, and
-- section 5.4 for node constraints; own: the cases).
use Rattle.std.specs.Prelude.{List, [], ◌∷◌, ◌++◌, Contains, Option, Some, None, slice_get, ◌≡◌, ◌≢◌, ◌⊎◌, ◌↔◌}
use Rattle.std.specs.List.{AllByRecursion}
use Rattle.rdf_terms.specs.declared.terms.Term.{Term}
use Rattle.rdf_terms.specs.declared.terms.TermId.{TermId}
use Rattle.node_constraint.specs.declared.part.ConstraintPart.{ConstraintPart}
use Rattle.node_constraint.specs.declared.part.ConstraintPart.TheVariants as Parts
use Rattle.node_constraint.specs.Constraint.{Constraint}
use Rattle.node_constraint.specs.Parts.{IsFirstFailedPart}
use Rattle.schema_tree.specs.declared.schema.Expr.{Expr}
use Rattle.schema_tree.specs.declared.schema.Expr.TheVariants.{And, Or, Not, Node, Shape}
use Rattle.schema_tree.specs.declared.schema.ExprId.{ExprId}
use Rattle.schema_tree.specs.declared.schema.Schema.{Schema}
use Rattle.schema_tree.specs.declared.verdicts.Verdict.{Verdict}
use Rattle.schema_tree.specs.declared.verdicts.Verdict.TheVariants.{Yes, No}
use Rattle.schema_tree.specs.Entries.{entry, pair_of}
use Rattle.schema_tree.specs.Sure.{IsSure, Known, PairIs}
use Rattle.nonconformance.specs.declared.cause.Cause.{Cause}
use Rattle.nonconformance.specs.declared.cause.Cause.TheVariants.{Member, NoMember, Negated, FailedPart, Lacks}

-- it is the first part of a node constraint, in the order kind, datatype, facets, value set, that does not hold for the term; a node
-- that is no term is of no kind (section 5.4)
abbrev pub IsFirstFailedAt : Constraint → Option Term → ConstraintPart → Type 0
IsFirstFailedAt c None part = part ≡ Parts.Kind
IsFirstFailedAt c (Some term) part = IsFirstFailedPart c term part

-- the expression is put behind the others where the verdict on it is No
abbrev pub PushesFailing : Verdict → ExprId → List ExprId → List ExprId → Type 0
PushesFailing v e old new = ((v ≡ No) × (new ≡ old ++ e ∷ [])) ⊎ ((v ≢ No) × (new ≡ old))

-- the failed part of a node constraint, if there is one, as a cause
abbrev pub part_causes : Option ConstraintPart → List Cause
part_causes None = []
part_causes (Some part) = FailedPart part ∷ []

-- view is what is known of pairs, and n the node
module _ (s : Schema) (terms : List Term) (view : Known) (n : TermId) where
  -- a member of a ShapeAnd is sure to be not satisfied; each member of a ShapeOr is; the member of a ShapeNot is sure to be satisfied;
  -- a part of a node constraint fails; or the pair of the node and a Shape is known not to be satisfied
  abbrev pub IsCauseOf : Option Expr → Cause → Type 0
  IsCauseOf (Some (And es)) (Member d) = Contains es d × IsSure s terms view n d No
  IsCauseOf (Some (Or es)) (NoMember ds) = (ds ≡ es) × AllByRecursion (λ d. IsSure s terms view n d No) es
  IsCauseOf (Some (Not e)) (Negated d) = (d ≡ e) × IsSure s terms view n e Yes
  IsCauseOf (Some (Node c)) (FailedPart part) = IsFirstFailedAt c (slice_get terms n.0) part
  IsCauseOf (Some (Shape i)) (Lacks j) = (j ≡ i) × PairIs view (pair_of n i) No
  IsCauseOf x cause = ⊥

  -- it is a cause of the expression with this number
  abbrev pub IsCause : ExprId → Cause → Type 0
  IsCause e cause = IsCauseOf (entry s e) cause

  -- they are the causes of an expression, if it is there, and nothing else
  abbrev pub AreCausesOf : Option Expr → List Cause → Type 0
  AreCausesOf x causes = (cause : Cause) → Contains causes cause ↔ IsCauseOf x cause

  -- they are the causes of the expression with this number, and nothing else
  abbrev pub AreCauses : ExprId → List Cause → Type 0
  AreCauses e causes = AreCausesOf (entry s e) causes
