-- What the functions that find members promise one another.
use Rattle.std.specs.Prelude.{Bool, true, false, List, [], ◌∷◌, ◌≡◌, map, filter}
use Rattle.std.specs.List.{list_any}
use Rattle.rdf_terms.specs.declared.terms.Term.{Term}
use Rattle.rdf_terms.specs.declared.terms.TermId.{TermId}
use Rattle.rdf_terms.specs.declared.terms.Triple.{Triple}
use Rattle.schema_documents.specs.declared.label.Label.{Label}
use Rattle.schema_tree.specs.declared.schema.Answer.{Answer}
use Rattle.schema_tree.specs.declared.schema.ExprId.{ExprId}
use Rattle.schema_tree.specs.declared.schema.Schema.{Schema}
use Rattle.schema_tree.specs.declared.verdicts.Verdict.{Verdict}
use Rattle.schema_tree.specs.declared.verdicts.Verdict.TheVariants.{Yes, No, Unknown}
use Rattle.schema_tree.specs.Sure.{IsSure, Known}
use Rattle.schema_tree.specs.Width.{is_certain}
use Rattle.label_extents.specs.Extents.{member}

-- the subject and the object of a triple
abbrev pub ends_of : Triple → List TermId
ends_of t = t.s ∷ t.o ∷ []

-- the expressions of labels
abbrev pub exprs_of : List (Label × ExprId) → List ExprId
exprs_of labels = map (λ d. d.1) labels

-- whether the verdict is Unknown
abbrev pub is_unknown : Verdict → Bool
is_unknown Yes = false
is_unknown No = false
is_unknown Unknown = true

-- the answer that a node satisfies the expression of a label, where the verdict is Yes
abbrev pub member_by : Label → TermId → Verdict → List Answer
member_by l n Yes = member l n ∷ []
member_by l n No = []
member_by l n Unknown = []

-- the function gives the verdict on each node with each expression
abbrev pub GivesVerdicts : Schema → List Term → Known → (TermId → ExprId → Verdict) → Type 0
GivesVerdicts s terms view verdict = (n : TermId) (e : ExprId) (v : Verdict) → IsSure s terms view n e v → v ≡ verdict n e

module _ (verdict : TermId → ExprId → Verdict) (nodes : List TermId) where
  -- the members with a label
  abbrev pub members_with : Label × ExprId → List Answer
  members_with d = map (member d.0) (filter (λ n. is_certain (verdict n d.1)) nodes)

  -- whether the verdict on a node with the label is Unknown
  abbrev pub has_unknown : Label × ExprId → Bool
  has_unknown d = list_any (λ n. is_unknown (verdict n d.1)) nodes
