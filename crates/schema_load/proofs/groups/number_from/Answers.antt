use Rattle.std.proofs.Common.{◌<◌, arith, get_or, length, rules}
use Rattle.std.proofs.lemmas.List.Elements.{Contains-get_or}
use Rattle.std.proofs.lemmas.Option.{slice_get-get_or}
use Rattle.schema_load.proofs.Grouped.{numbered_more}
use Rattle.schema_load.proofs.Opening.{unseen_less}
use Rattle.schema_load.proofs.groups.number_from.Goals as goal

pub index_mut-requires : goal.index_mut-requires
index_mut-requires c =
    let low = c.requires.inside (get_or c.args.trail.now c.loop-position.position 0) (Contains-get_or c.args.trail.now c.loop-position.position 0 (let h = c.loop-position-test.true in omega arith)) in
    let size = c.loop-position.invariant.numbered.size in
    search rules

pub loop-position-preserved : goal.loop-position-preserved
loop-position-preserved c =
    let lt : c.loop-position.position < length c.args.trail.now = (let h = c.loop-position-test.true in omega arith) in
    record {
      low = (let h = c.loop-position.invariant.low in omega arith);
      high = omega arith;
      numbered =
          numbered_more c.args.standings.now.items c.loop-position.standings.items c.args.trail.now c.args.start c.loop-position.position c.args.group (get_or c.args.trail.now c.loop-position.position 0)
          c.loop-position.invariant.low (slice_get-get_or c.args.trail.now c.loop-position.position 0 lt)
          (c.requires.inside (get_or c.args.trail.now c.loop-position.position 0) (Contains-get_or c.args.trail.now c.loop-position.position 0 lt)) c.loop-position.invariant.numbered;
      less = λ parts targets. (
          let a = unseen_less parts targets c.loop-position.standings.items (get_or c.args.trail.now c.loop-position.position 0) c.args.group in
          let b = c.loop-position.invariant.less parts targets in
          omega arith
          );
    }
