-- Laws of graphs as sets: which answer a question has does not depend on the order in which a graph lists its triples (own).
use Rattle.std.specs.Prelude.{ℕ, List, ◌↔◌, Contains}
use Rattle.lists.specs.Distinct.{AreDistinct}
use Rattle.rdf_terms.specs.declared.terms.Term.{Term}
use Rattle.rdf_terms.specs.declared.terms.TermId.{TermId}
use Rattle.rdf_terms.specs.declared.terms.Triple.{Triple}
use Rattle.schema_tree.specs.declared.schema.ExprId.{ExprId}
use Rattle.schema_tree.specs.declared.schema.Schema.{Schema}
use Rattle.schema_tree.specs.declared.verdicts.Verdict.{Verdict}
use Rattle.typing_session.specs.Questions.{IsAnswer, ReachesTooMany}

-- over graphs that hold the same triples a question has the same answer
abbrev pub AnswersAreOfSets : Type 0
AnswersAreOfSets =
    (s : Schema) (terms : List Term) (g h : List Triple) (f : List ℕ) (budget : ℕ) (n : TermId) (e : ExprId) (v : Verdict) → AreDistinct g → AreDistinct h →
    ((t : Triple) → Contains g t ↔ Contains h t) → IsAnswer s terms g f budget n e v → IsAnswer s terms h f budget n e v

-- and it reaches too many pairs over the one where it does over the other
abbrev pub ReachIsOfSets : Type 0
ReachIsOfSets =
    (s : Schema) (g h : List Triple) → ((t : Triple) → Contains g t → Contains h t) → (n : TermId) (e : ExprId) → ReachesTooMany s g n e → ReachesTooMany s h n e
