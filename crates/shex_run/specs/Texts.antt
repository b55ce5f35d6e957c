-- The lines that are printed to the error stream.
use Rattle.std.specs.Prelude.{ℕ, List, [], codes, if◌then◌else◌, length, nat_lt}
use Rattle.rdf_terms.specs.declared.terms.Term.{Term}
use Rattle.schema_tree.specs.declared.schema.Answer.{Answer}
use Rattle.shex_inputs.specs.Asked.{Question}
use Rattle.typing_refiner.specs.declared.building.WidePair.{WidePair}
use Rattle.proof_checker.specs.Messages.{check_text}
use Rattle.command_words.specs.Asked.{Command, fault_text}
use Rattle.command_words.specs.Checks.{Fault}
use Rattle.program_ends.specs.Lines.{error_line}
use Rattle.shex_inputs.specs.Lines.{refusal_text}
use Rattle.shex_inputs.specs.Named.{source_name, source_of}
use Rattle.wide_pairs.specs.Lines.{wide_lines}
use Rattle.shex_run.specs.declared.stop.File.TheVariants as Files
use Rattle.shex_run.specs.declared.stop.Refusal.{Refusal}
use Rattle.shex_run.specs.declared.stop.Refusal.TheVariants as Refusals
use Rattle.shex_run.specs.Tasks.{inputs_of, name_of}

-- `shex: PLACE: WHAT` with a line feed
abbrev pub shex_line : List ℕ → List ℕ → List ℕ
shex_line place what = error_line (codes "shex") place what

-- the line for words that are at fault
abbrev pub words_line : Fault → List ℕ
words_line f = shex_line (codes "words") (fault_text f)

-- the name of the file that is refused
abbrev pub refused_name : Command → Refusal → List ℕ
refused_name c (Refusals.Input refusal) = source_name (inputs_of c) (source_of refusal)
refused_name c (Refusals.Proof error) = name_of c Files.Proof

-- why a file is refused
abbrev pub cause_text : Refusal → List ℕ
cause_text (Refusals.Input refusal) = refusal_text refusal
cause_text (Refusals.Proof error) = check_text error

-- the line for a file that is refused
abbrev pub refusal_line : Command → Refusal → List ℕ
refusal_line c refusal = shex_line (refused_name c refusal) (cause_text refusal)

-- what is due beside answers to so many associations: where some have none, a line for each pair that is wide, and else nothing
unfoldable pub notes_by : List Term → ℕ → ℕ → List Answer → List WidePair → List ℕ
notes_by terms asked budget answers wide = if nat_lt (length answers) asked then wide_lines terms budget wide else []

-- what is due beside answers to the associations of a question
abbrev pub notes_of : Question → ℕ → List Answer → List WidePair → List ℕ
notes_of q budget answers wide = notes_by q.terms (length q.associations) budget answers wide

-- the line for a file that was not fetched, or not stored
abbrev pub failed_line : List ℕ → List ℕ
failed_line name = shex_line name (codes "Failed")
