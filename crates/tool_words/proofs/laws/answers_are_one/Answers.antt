use Rattle.tool_words.proofs.Exactly.{first_call, first_editing, no_call, no_editing, one_call, one_editing}
use Rattle.tool_words.proofs.laws.answers_are_one.Goals as goal

pub returns : goal.returns
returns c = record { calls = one_call; faults = first_call; apart = no_call; edits = one_editing; edit_faults = first_editing; edit_apart = no_editing }
