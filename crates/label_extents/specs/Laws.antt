-- The laws of extents, which a function that does nothing claims.
use Rattle.std.specs.Prelude.{ℕ, List, ◌≡◌}
use Rattle.rdf_terms.specs.declared.terms.Term.{Term}
use Rattle.rdf_terms.specs.declared.terms.Triple.{Triple}
use Rattle.schema_tree.specs.declared.schema.Answer.{Answer}
use Rattle.schema_tree.specs.declared.schema.Schema.{Schema}
use Rattle.schema_tree.specs.Edges.{IsStratum}
use Rattle.schema_tree.specs.Loaded.{IsLoaded}
use Rattle.label_extents.specs.Extents.{AreExtents}

-- the extents of a schema in a graph are one list
abbrev pub ExtentsAreOne : Type 0
ExtentsAreOne = (s : Schema) (terms : List Term) (g : List Triple) (xs ys : List Answer) → AreExtents s terms g xs → AreExtents s terms g ys → xs ≡ ys

-- and a loaded schema with strata has extents in each graph
abbrev pub ExtentsExist : Type 0
ExtentsExist = (s : Schema) (terms : List Term) (g : List Triple) (f : List ℕ) → IsLoaded s → IsStratum s f → (xs : List Answer) × AreExtents s terms g xs
