-- The references between the Shapes of a schema, which a session finds once (own).
use Rattle.std.specs.Prelude.{map}
use Rattle.demand.specs.Links.{AreLinks}
use Rattle.schema_tree.specs.declared.schema.Schema.{Schema}
use Rattle.typing_session.specs.declared.references.References.{References}
use Rattle.typing_session.specs.Uses.{AreUsesByValue}

-- the links and the uses are those of the schema
pub record AreReferences (s : Schema) (r : References) : Type 0 where
  pub links : AreLinks s r.links
  pub uses : AreUsesByValue s (map (λ l. l.items) r.uses.items)
