-- What a question to refinement has to be (own).
use Rattle.std.specs.Prelude.{ℕ, ◌<◌, ◌-◌, ◌^◌}
use Rattle.graph_index.specs.Contents.{IsSealedWith}
use Rattle.schema_tree.specs.Edges.{IsStratified}
use Rattle.schema_tree.specs.Loaded.{IsLoaded}
use Rattle.typing_refiner.specs.declared.refining.Question.{Question}

-- the schema is loaded and stratified, the graph is sealed with the table of its terms, and the budget is in its range
pub record IsPosed (q : Question) : Type 0 where
  pub loaded : IsLoaded q.schema.now
  pub sealed : IsSealedWith q.terms.now q.graph.now
  pub stratified : IsStratified q.schema.now q.strata.now
  pub budget : q.budget < 2 ^ 64 - 1
