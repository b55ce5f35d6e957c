use Rattle.std.proofs.Common.{◌∙◌, ap, subst, sym}
use Rattle.std.proofs.lemmas.Result.{IfOk-weaker}
use Rattle.std.specs.List.{flat_map}
use Rattle.std.specs.Prelude.{◌↔◌, Contains}
use Rattle.shard_checks.specs.Ways.{IsWay, ways_of}
use Rattle.shard_checks.proofs.Reading.{ways_are}
use Rattle.shard_checks.proofs.ways.ways_read.Goals as goal

pub returns : goal.returns
returns c =
    IfOk-weaker c.all_ways.result _ _ (λ v made w. subst (λ ws. Contains ws w ↔ IsWay c.args.schema.now w) (sym (made
    ∙ ap (flat_map ways_of) c.as_slice.ensures)) (ways_are c.args.schema.now _ c.in_ok-shapes.ensures w))
    c.all_ways.ensures
