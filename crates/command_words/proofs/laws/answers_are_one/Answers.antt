use Rattle.command_words.proofs.Drilled.{drill_is_no_command, one_drill}
use Rattle.command_words.proofs.Exact.{no_fault, one_command, one_fault}
use Rattle.command_words.proofs.laws.answers_are_one.Goals as goal

pub returns : goal.returns
returns c = record { commands = one_command; faults = one_fault; apart = no_fault; drills = one_drill; drill_apart = drill_is_no_command }
