use Rattle.std.proofs.Common.{map, refl, rules, string_bytes}
use Rattle.call_parts.proofs.Calling.{ended}
use Rattle.shex_run.specs.Endings.{Ends}
use Rattle.shex_c.proofs.Statuses.{low_or_memory}
use Rattle.shex_c.proofs.shex.Goals as goal

pub returns : goal.returns
returns c = record {
  ends = ended Ends c.args.call.now _ (map string_bytes c.as_slice.result.now) _ (search rules) c.run.ensures.ends refl;
  statuses = low_or_memory c.run.result c.run.ensures.statuses c.run.ensures.sink_failed;
}
