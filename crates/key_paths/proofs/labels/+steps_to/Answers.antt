use Rattle.std.proofs.Common.{sym, arith}
use Rattle.serde_json.specs.Data.{depth}
use Rattle.serde_json.specs.View.{view}
use Rattle.json_paths.proofs.Depths.{inside_depth}
use Rattle.key_paths.proofs.labels.+steps_to.Goals as goal

pub steps_to-requires : goal.steps_to-requires
steps_to-requires t c =
    let here = view c.args.here.now in
    let less = inside_depth c.in-Some.step here (view c.in-Some-inside.inner.now) (depth here) (sym c.in-Some-inside.ensures) (omega arith) in
    (omega (arith, c.decreases, less), tt)
