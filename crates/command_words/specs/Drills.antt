-- What the words of a drill ask for, and what any words do.
use Rattle.std.specs.Prelude.{◌≡◌, ◌≤◌, ℕ, List, [], ◌∷◌, Option, Some, codes}
use Rattle.std.specs.Fmt.{decimal}
use Rattle.clap.specs.Words.{App, Row, Rule, Text, first_of, new_rule}
use Rattle.clap.specs.declared.builder.action.ArgAction.TheVariants.{Set}
use Rattle.command_words.specs.Asked.{Command, IsAsked, IsFirstFault}
use Rattle.command_words.specs.Checks.{Fault}
use Rattle.command_words.specs.Commands.{command, faults, needed, option, rows}

-- an argument with one value, which stands alone
abbrev pub word : Text → Rule
word name = record (new_rule name) { action = Some Set }

-- `drill N [--proof F]`
abbrev pub drill : App
drill = command (codes "drill") (needed (word (codes "items")) ∷ option (codes "proof") ∷ [])

-- the greatest number of items (own)
abbrev pub max_items : ℕ
max_items = 100000

-- the number of items, in decimal digits without a sign and without zeros in front, from 1 to the greatest one
abbrev pub IsItems : Text → ℕ → Type 0
IsItems text n = (text ≡ decimal n) × (1 ≤ n) × (n ≤ max_items)

-- a drill with so many items, and the name under which its proof is to be stored, if it is
pub record Drill : Type 0 where
  pub items : ℕ
  pub proof : Option Text

-- the values, among those that `clap` finds
pub record IsGivenDrill (found : List Row) (d : Drill) : Type 0 where
  pub text : Text
  pub given : first_of (codes "items") found ≡ Some text
  pub items : IsItems text d.items
  pub proof : first_of (codes "proof") found ≡ d.proof

-- `clap` takes the words behind the command's name, and finds these values
pub record IsFoundDrill (words : List Text) (d : Drill) : Type 0 where
  pub taken : faults drill words ≡ []
  pub given : IsGivenDrill (rows drill words) d

-- the words ask for the drill: they are the command's name, and behind it words by which `clap` finds these values
pub record IsDrill (words : List Text) (d : Drill) : Type 0 where
  pub behind : List Text
  pub named : words ≡ codes "drill" ∷ behind
  pub found : IsFoundDrill behind d

-- what words ask for: something of files that they name, or a drill
pub data Call : Type 0 where
  of_files : Command → Call
  of_items : Drill → Call

abbrev pub IsCall : List Text → Call → Type 0
IsCall words (of_files c) = IsAsked words c
IsCall words (of_items d) = IsDrill words d

-- the words ask for no drill, and this is the first thing that is wrong with what they ask of files
pub record IsFault (words : List Text) (f : Fault) : Type 0 where
  pub no_drill : (d : Drill) → ¬ IsDrill words d
  pub first : IsFirstFault words f
