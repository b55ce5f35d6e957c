use Rattle.std.proofs.Common.{rules, arith}
use Rattle.shex_io.proofs.Growth.{prefix_at_error, gains_step, rest_length, on_err_any}
use Rattle.shex_io.proofs.sinks.put_all.Goals as goal

pub returns-in_err-taken-clause-part : goal.returns-in_err-taken-clause-part
returns-in_err-taken-clause-part g c =
    on_err_any _ (prefix_at_error _ _ _ c.loop-at.at c.args.bytes.now c.loop-at.invariant.gained c.in_err-taken.ensures.refused)

pub loop-at-preserved : goal.loop-at-preserved
loop-at-preserved g c = record {
  within = omega (arith, rest_length c.loop-at.at c.args.bytes.now, c.in_ok-taken.ensures.within);
  gained = gains_step _ _ _ c.loop-at.at c.in_ok-taken.taken c.args.bytes.now c.loop-at.invariant.gained c.in_ok-taken.ensures.gains;
  faults_stay = search rules;
}
