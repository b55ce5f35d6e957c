use Rattle.std.proofs.Common.{map}
use Rattle.std.specs.Prelude.{string_bytes}
use Rattle.command_words.specs.Lent.{request_of}
use Rattle.command_words.proofs.Exact.{exact_asked, exact_unasked}
use Rattle.command_words.proofs.words.read_command.Goals as goal

pub returns-in_err-request : goal.returns-in_err-request
returns-in_err-request c =
    let h = exact_unasked (map string_bytes c.args.words.now) c.from_residual.result c.in_err-request.field-0.0 c.from_residual.ensures.1 c.in_err-request.ensures.fault in
    record { asked = h.asked; complete = h.complete; refused = h.refused; refuses = h.refuses }

pub returns : goal.returns
returns c =
    let h = exact_asked (map string_bytes c.args.words.now)
    (request_of c.in_ok-request.request) c.checked.result c.in_ok-request.ensures.ok c.checked.ensures.command c.checked.ensures.passes c.checked.ensures.fault in
    record { asked = h.asked; complete = h.complete; refused = h.refused; refuses = h.refuses }
