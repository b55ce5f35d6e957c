-- The extents of the labels of a schema in a graph: which nodes of the graph satisfy the shape expression of each label (ShEx 2.1,
-- section 5.2; own: their order).
use Rattle.std.specs.Prelude.{true, List, [], ◌∷◌, ◌++◌, ◌≡◌, ◌⊎◌, ◌↔◌, Contains, map}
use Rattle.std.specs.List.Sorted.{IsStrictlySortedBy}
use Rattle.rdf_terms.specs.Order.{compare_at}
use Rattle.rdf_terms.specs.declared.terms.Term.{Term}
use Rattle.rdf_terms.specs.declared.terms.TermId.{TermId}
use Rattle.rdf_terms.specs.declared.terms.Triple.{Triple}
use Rattle.schema_documents.specs.declared.label.Label.{Label}
use Rattle.schema_tree.specs.declared.schema.Answer.{Answer}
use Rattle.schema_tree.specs.declared.schema.ExprId.{ExprId}
use Rattle.schema_tree.specs.declared.schema.Schema.{Schema}
use Rattle.schema_tree.specs.declared.schema.Target.TheVariants as Targets
use Rattle.schema_tree.specs.declared.verdicts.Verdict.TheVariants.{Unknown}
use Rattle.schema_tree.specs.Sure.{IsSure, Known}
use Rattle.schema_tree.specs.Truths.{IsTruth}

-- the node is the subject or the object of the triple
abbrev pub IsEnd : Triple → TermId → Type 0
IsEnd t n = (t.s ≡ n) ⊎ (t.o ≡ n)

-- a node of the graph: the subject or the object of one of its triples (RDF 1.1 Concepts, section 3.1)
abbrev pub IsNode : List Triple → TermId → Type 0
IsNode g n = (t : Triple) × Contains g t × IsEnd t n

-- the nodes of which P holds, each once, in the order of their texts
pub record AreInOrder (terms : List Term) (P : TermId → Type 0) (nodes : List TermId) : Type 0 where
  pub sorted : IsStrictlySortedBy (compare_at terms) nodes
  pub exactly : (n : TermId) → Contains nodes n ↔ P n

-- the answer that a node satisfies the expression of a label
abbrev pub member : Label → TermId → Answer
member l n = record { node = n; target = Targets.Label l; holds = true }

-- one label after the other: with each, the nodes of which P holds at the label's expression
abbrev pub AreListed : List Term → (ExprId → TermId → Type 0) → List (Label × ExprId) → List Answer → Type 0
AreListed terms P [] members = members ≡ []
AreListed terms P (d ∷ labels) members =
    (nodes : List TermId) × (more : List Answer) × AreInOrder terms (P d.1) nodes × AreListed terms P labels more
    × (members ≡ map (member d.0) nodes ++ more)

-- the verdict on the expression at the node is Unknown
abbrev pub IsUnknown : Schema → List Term → Known → ExprId → TermId → Type 0
IsUnknown s terms verdicts e n = IsSure s terms verdicts n e Unknown

module _ (s : Schema) (terms : List Term) (g : List Triple) where
  -- the node is in the extent of the expression: it is a node of the graph, and the complete typing satisfies the expression there
  pub record IsMember (e : ExprId) (n : TermId) : Type 0 where
    pub node : IsNode g n
    pub satisfied : IsTruth s terms g n e true

  -- the extents: the declared labels in reading order, and with each its members in the order of their texts
  abbrev pub AreExtents : List Answer → Type 0
  AreExtents members = AreListed terms IsMember s.labels members

  module _ (verdicts : Known) where
    -- a member on which the verdict is not Unknown
    abbrev pub IsKnownMember : ExprId → TermId → Type 0
    IsKnownMember e n = IsMember e n × (¬ IsUnknown s terms verdicts e n)

    -- the extents without the nodes on which the verdict is Unknown
    abbrev pub AreKnownExtents : List Answer → Type 0
    AreKnownExtents members = AreListed terms IsKnownMember s.labels members

    -- the verdict on some node of the graph with some declared label is Unknown, whether it is a member or not
    pub record IsUndecided : Type 0 where
      pub label : Label
      pub expr : ExprId
      pub node : TermId
      pub declared : Contains s.labels (label, expr)
      pub is_node : IsNode g node
      pub unknown : IsUnknown s terms verdicts expr node
