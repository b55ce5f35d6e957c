-- Laws of what words ask for.
use Rattle.std.specs.Prelude.{◌≡◌, List}
use Rattle.clap.specs.Words.{Text}
use Rattle.command_words.specs.Asked.{Command, IsAsked, IsFirstFault}
use Rattle.command_words.specs.Checks.{Fault}
use Rattle.command_words.specs.Drills.{Drill, IsDrill}

-- words ask for one command at most and for one drill at most, and have one first fault at most; words that ask for a command ask for no drill and have no first fault
pub record AnswersAreOne : Type 0 where
  pub commands : (words : List Text) (c d : Command) → IsAsked words c → IsAsked words d → c ≡ d
  pub faults : (words : List Text) (f g : Fault) → IsFirstFault words f → IsFirstFault words g → f ≡ g
  pub apart : (words : List Text) (c : Command) (f : Fault) → IsAsked words c → ¬ IsFirstFault words f
  pub drills : (words : List Text) (d e : Drill) → IsDrill words d → IsDrill words e → d ≡ e
  pub drill_apart : (words : List Text) (c : Command) (d : Drill) → IsAsked words c → ¬ IsDrill words d
