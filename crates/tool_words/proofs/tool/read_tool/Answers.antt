use Rattle.std.proofs.Common.{map}
use Rattle.std.specs.Prelude.{string_bytes}
use Rattle.tool_words.proofs.Exactly.{exact_call}
use Rattle.tool_words.proofs.tool.read_tool.Goals as goal

pub returns : goal.returns
returns c =
    let h = exact_call (map string_bytes c.args.words.now) c.read_call.result c.read_call.ensures.ok c.read_call.ensures.fault in
    record { asked = h.asked; complete = h.complete; refused = h.refused; refuses = h.refuses }
