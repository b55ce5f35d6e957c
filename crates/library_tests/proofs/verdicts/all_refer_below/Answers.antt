use Rattle.std.proofs.Common.{refl}
use Rattle.library_tests.proofs.CheckedSchemas.{entry_within, next_refers}
use Rattle.library_tests.proofs.verdicts.all_refer_below.Goals as goal

pub loop-number-preserved : goal.loop-number-preserved
loop-number-preserved c =
    next_refers c.args.schema.now c.as_slice-exprs.result.now c.as_slice-exprs.ensures c.loop-number.number c.index-exprs-number.result
    c.index-exprs-number.is c.loop-number.invariant (c.if-not-refers_below.ensures refl)

pub returns : goal.returns
returns c seen e x at =
    c.loop-number.invariant e x
    (entry_within c.args.schema.now c.as_slice-exprs.result.now c.as_slice-exprs.ensures c.loop-number.number c.loop-number-test.false e x at) at
