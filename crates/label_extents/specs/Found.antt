-- What is found of the extents of a schema in a graph.
use Rattle.std.specs.Prelude.{ℕ, List, ◌≡◌, ◌↔◌, Contains, IsTrue}
use Rattle.rdf_terms.specs.declared.terms.Term.{Term}
use Rattle.rdf_terms.specs.declared.terms.TermId.{TermId}
use Rattle.rdf_terms.specs.declared.terms.Triple.{Triple}
use Rattle.schema_documents.specs.declared.label.Label.{Label}
use Rattle.schema_tree.specs.declared.schema.Answer.{Answer}
use Rattle.schema_tree.specs.declared.schema.ExprId.{ExprId}
use Rattle.schema_tree.specs.declared.schema.Pair.{Pair}
use Rattle.schema_tree.specs.declared.schema.Schema.{Schema}
use Rattle.schema_tree.specs.Needs.{IsDecided, ReachesWide}
use Rattle.schema_tree.specs.Removal.{IsRefined}
use Rattle.schema_tree.specs.Sure.{Known}
use Rattle.label_extents.specs.declared.finding.Extents.{Extents}
use Rattle.label_extents.specs.Demanded.{AreDemanded}
use Rattle.wide_pairs.specs.Wide.{AreWide}
use Rattle.label_extents.specs.Extents.{AreKnownExtents, IsMember, IsNode, IsUndecided, IsUnknown, member}

-- by the verdicts of refinement over the demanded pairs, f giving the Shapes their strata: the members are the extents without the
-- nodes on which the verdict is Unknown; whether there is such a node is told; and so are the demanded pairs whose Width is above
-- the budget, without which no verdict is Unknown
pub record AreFound (s : Schema) (terms : List Term) (g : List Triple) (f : List ℕ) (budget : ℕ) (x : Extents) : Type 0 where
  pub pairs : List Pair
  pub demanded : AreDemanded s terms g pairs
  pub verdicts : Known
  pub refined : IsRefined s terms g f pairs budget verdicts
  pub members : AreKnownExtents s terms g verdicts x.members
  pub undecided : IsTrue x.undecided ↔ IsUndecided s terms g verdicts
  pub only_wide : (l : Label) (e : ExprId) (n : TermId) → Contains s.labels (l, e) → IsNode g n → IsUnknown s terms verdicts e n → ReachesWide s terms g budget n e
  pub wide : AreWide s terms g budget pairs x.wide

module _ (s : Schema) (terms : List Term) (g : List Triple) where
  -- each of the answers is that of a member of the extent of a declared label
  abbrev pub AreMembers : List Answer → Type 0
  AreMembers members =
      (a : Answer) → Contains members a →
      (l : Label) × (e : ExprId) × (n : TermId) × Contains s.labels (l, e) × IsMember s terms g e n × (a ≡ member l n)

  -- each member that depends on no pair whose Width is above the budget is among them
  abbrev pub HoldDecided : ℕ → List Answer → Type 0
  HoldDecided budget members =
      (l : Label) (e : ExprId) (n : TermId) → Contains s.labels (l, e) → IsMember s terms g e n → IsDecided s terms g budget n e →
      Contains members (member l n)
