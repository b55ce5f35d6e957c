-- The lines that are printed to the error stream where there are no answers.
use Rattle.std.specs.Prelude.{ℕ, List, codes}
use Rattle.command_words.specs.Asked.{fault_text}
use Rattle.command_words.specs.Checks.{Fault}
use Rattle.session_script.specs.Messages.{script_text}
use Rattle.program_ends.specs.Lines.{error_line}
use Rattle.shex_inputs.specs.Lines.{refusal_text}
use Rattle.shex_inputs.specs.Named.{source_of}
use Rattle.tool_words.specs.Asked.{Editing}
use Rattle.session_run.specs.declared.stop.File.{File}
use Rattle.session_run.specs.declared.stop.File.TheVariants as Files
use Rattle.session_run.specs.declared.stop.Refusal.{Refusal}
use Rattle.session_run.specs.declared.stop.Refusal.TheVariants as Refusals
use Rattle.session_run.specs.Files.{name_of}
use Rattle.session_run.specs.Messages.{command_text}

-- `typing_session: PLACE: WHAT` with a line feed
abbrev pub session_line : List ℕ → List ℕ → List ℕ
session_line place what = error_line (codes "typing_session") place what

-- the line for words that are at fault
abbrev pub words_line : Fault → List ℕ
words_line f = session_line (codes "words") (fault_text f)

-- the file that is refused
abbrev pub refused_file : Refusal → File
refused_file (Refusals.Input refusal) = Files.Input (source_of refusal)
refused_file Refusals.Size = Files.Script
refused_file (Refusals.Script e) = Files.Script
refused_file (Refusals.Command e) = Files.Script

-- why it is refused
abbrev pub cause_text : Refusal → List ℕ
cause_text (Refusals.Input refusal) = refusal_text refusal
cause_text Refusals.Size = codes "Size"
cause_text (Refusals.Script e) = script_text e
cause_text (Refusals.Command e) = command_text e

-- the line for a file that is refused
abbrev pub refusal_line : Editing → Refusal → List ℕ
refusal_line e refusal = session_line (name_of e (refused_file refusal)) (cause_text refusal)

-- the line for a file that was not fetched
abbrev pub failed_line : List ℕ → List ℕ
failed_line name = session_line name (codes "Failed")
