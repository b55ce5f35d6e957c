-- Laws of what words ask for.
use Rattle.std.specs.Prelude.{◌≡◌, List}
use Rattle.clap.specs.Words.{Text}
use Rattle.command_words.specs.Checks.{Fault}
use Rattle.tool_words.specs.Asked.{Editing, IsEditing, IsEditingFault, IsToolCall, IsToolFault, ToolCall}

-- words ask the tool for one thing at most, and a session too, and have one first fault at most; words that ask for something have no first fault
pub record AnswersAreOne : Type 0 where
  pub calls : (words : List Text) (c d : ToolCall) → IsToolCall words c → IsToolCall words d → c ≡ d
  pub faults : (words : List Text) (f g : Fault) → IsToolFault words f → IsToolFault words g → f ≡ g
  pub apart : (words : List Text) (c : ToolCall) (f : Fault) → IsToolCall words c → ¬ IsToolFault words f
  pub edits : (words : List Text) (d e : Editing) → IsEditing words d → IsEditing words e → d ≡ e
  pub edit_faults : (words : List Text) (f g : Fault) → IsEditingFault words f → IsEditingFault words g → f ≡ g
  pub edit_apart : (words : List Text) (e : Editing) (f : Fault) → IsEditing words e → ¬ IsEditingFault words f
