use Rattle.std.proofs.Common.{arith, rules}
use Rattle.call_parts.proofs.Calling.{called}
use Rattle.shex_tools.specs.Endings.{ToolEnds}
use Rattle.shex_c.proofs.shextool_call.Goals.{else-status-lt7, then-status-lt7}
use Rattle.shex_c.proofs.shextool_call.Goals as goal

pub returns-clause-called : goal.returns-clause-called
returns-clause-called c = λ below. elim c.if-status-lt7.branch [
  | then-status-lt7 w ↦ called ToolEnds c.args.request.now c.in-Ok.call _ c.shextool-status.result _ _ _
      c.in-Ok.ensures.call c.in-Ok.ensures.own_names c.shextool-status.ensures.ends c.clear.ensures (search rules)
  | else-status-lt7 w ↦ absurd (omega (arith, below, w.if-status-lt7))
]
