use Rattle.std.specs.Prelude.{suc, Contains}
use Rattle.schema_tree.proofs.Local.{shape_moves}
use Rattle.schema_tree.proofs.Monotone.{sat_mono, shape_mono}
use Rattle.schema_tree.proofs.laws.satisfaction_follows_edges.Goals as goal

pub returns-clause-expressions : goal.returns-clause-expressions
returns-clause-expressions c = λ s terms T W n e up down. sat_mono s terms n (suc e.0) T W e up down

pub returns-clause-shapes : goal.returns-clause-shapes
returns-clause-shapes c =
    λ s terms g U T W i ends up down. shape_moves s terms g (λ m. Contains U m) ends T W i up down

pub returns-clause-growing : goal.returns-clause-growing
returns-clause-growing c = λ s terms g f k T W strat up down. shape_mono s terms g f strat k T W up down
