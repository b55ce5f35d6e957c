use Rattle.std.proofs.Common.{map}
use Rattle.std.specs.Prelude.{string_bytes}
use Rattle.command_words.proofs.Drilled.{exact_drill, exact_undrilled}
use Rattle.command_words.proofs.words.read.Goals as goal

pub returns-in_err-drilling : goal.returns-in_err-drilling
returns-in_err-drilling c =
    let h = exact_undrilled (map string_bytes c.args.words.now)
    (map string_bytes c.in-Some.behind.now) c.from_residual.result c.in_err-drilling.field-0.0 c.from_residual.ensures.1 c.in-Some.ensures.found c.in_err-drilling.ensures.fault in
    record { asked = h.asked; complete = h.complete; refused = h.refused; refuses = h.refuses }

pub returns-in-Some : goal.returns-in-Some
returns-in-Some c =
    let h = exact_drill (map string_bytes c.args.words.now) (map string_bytes c.in-Some.behind.now) c.in_ok-drilling.drilling c.in-Some.ensures.found c.in_ok-drilling.ensures.ok in
    record { asked = h.asked; complete = h.complete; refused = h.refused; refuses = h.refuses }
