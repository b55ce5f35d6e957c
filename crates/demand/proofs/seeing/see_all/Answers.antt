use Rattle.std.proofs.lemmas.Result.{err_from_is_err_and}
use Rattle.demand.proofs.Growing.{grow_one, overfull}
use Rattle.demand.proofs.seeing.see_all.Goals as goal

pub returns-in_err-see-clause-stops : goal.returns-in_err-see-clause-stops
returns-in_err-see-clause-stops c =
    let p = err_from_is_err_and c.from_residual.result c.from_residual.ensures.1 in
    rw (p.1, p.2)
    (overfull c.args.seen.now c.args.pairs.now c.loop-pair.seen c.loop-pair.pair-index (record { node = record { 0 = 0 }; shape = record { 0 = 0 } }) c.loop-pair-test.true c.loop-pair.invariant
    c.in_err-see.field-0.0 c.in_err-see.ensures.stops)

pub loop-pair-preserved : goal.loop-pair-preserved
loop-pair-preserved c =
    grow_one c.args.seen.now c.args.pairs.now c.loop-pair.seen c.see.new.seen c.loop-pair.pair-index (record { node = record { 0 = 0 }; shape = record { 0 = 0 } }) c.loop-pair-test.true
    c.loop-pair.invariant c.in_ok-see.ensures.adds
