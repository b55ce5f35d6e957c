use Rattle.std.proofs.Common.{map}
use Rattle.std.specs.Prelude.{string_bytes}
use Rattle.tool_words.proofs.Exactly.{exact_editing}
use Rattle.tool_words.proofs.session.read_session.Goals as goal

pub returns : goal.returns
returns c =
    let h = exact_editing (map string_bytes c.args.words.now) c.read_editing.result c.read_editing.ensures.ok c.read_editing.ensures.fault in
    record { asked = h.asked; complete = h.complete; refused = h.refused; refuses = h.refuses }
