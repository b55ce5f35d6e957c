use Rattle.std.proofs.Common.{map, refl, rules, string_bytes}
use Rattle.call_parts.proofs.Calling.{ended}
use Rattle.shex_tools.specs.Endings.{ToolEnds}
use Rattle.shex_c.proofs.Statuses.{tool_low_or_memory}
use Rattle.shex_c.proofs.shextool.Goals as goal

pub returns : goal.returns
returns c = record {
  ends = ended ToolEnds c.args.call.now _ (map string_bytes c.as_slice.result.now) _ (search rules) c.run_tool.ensures.ends refl;
  statuses = tool_low_or_memory c.run_tool.result c.run_tool.ensures.statuses c.run_tool.ensures.sink_failed;
}
