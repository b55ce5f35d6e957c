-- The commands as `clap` sees them.
use Rattle.std.specs.Prelude.{◌≡◌, List, [], ◌∷◌, Some, true, codes}
use Rattle.clap.specs.Words.{App, Kinds, Row, Rule, Text, fault_of, is_simple, is_simple_and_free, matches_of, new_app, new_rule}
use Rattle.clap.specs.declared.builder.action.ArgAction.TheVariants.{Set, Append}

-- a command with these arguments, without help and version flags, whose first word is an argument
abbrev pub command : Text → List Rule → App
command name rules = record (new_app name) {
  top = record (new_app name).top { rules = rules; no_binary_name = true; disable_help_flag = true; disable_version_flag = true };
}

-- an option with one value
abbrev pub option : Text → Rule
option name = record (new_rule name) { long = Some name; action = Some Set }

-- the last argument, with any number of words
abbrev pub rest : Text → Rule
rest name = record (new_rule name) { action = Some Append }

-- an argument that has to be given
abbrev pub needed : Rule → Rule
needed r = record r { required = true }

-- `validate --schema F --data F --map F [--proof F] [--budget N] [--schema-base I] [--data-base I] [IRI=FILE ..]`
abbrev pub validate : App
validate = command (codes "validate")
    (needed (option (codes "schema"))
    ∷ needed (option (codes "data"))
    ∷ needed (option (codes "map"))
    ∷ option (codes "proof")
    ∷ option (codes "budget")
    ∷ option (codes "schema-base")
    ∷ option (codes "data-base")
    ∷ rest (codes "imports")
    ∷ [])

-- `check --schema F --data F --proof F [--schema-base I] [--data-base I] [IRI=FILE ..]`
abbrev pub check : App
check = command (codes "check")
    (needed (option (codes "schema"))
    ∷ needed (option (codes "data"))
    ∷ needed (option (codes "proof"))
    ∷ option (codes "schema-base")
    ∷ option (codes "data-base")
    ∷ rest (codes "imports")
    ∷ [])

-- `upgrade --schema F --data F --proof F --to F [--schema-base I] [--data-base I] [IRI=FILE ..]`
abbrev pub upgrade : App
upgrade = command (codes "upgrade")
    (needed (option (codes "schema"))
    ∷ needed (option (codes "data"))
    ∷ needed (option (codes "proof"))
    ∷ needed (option (codes "to"))
    ∷ option (codes "schema-base")
    ∷ option (codes "data-base")
    ∷ rest (codes "imports")
    ∷ [])

-- the kinds of fault that `clap` finds in the words; none where it takes them
unfoldable pub faults : App → List Text → Kinds
faults app words = fault_of app words

-- what `clap` finds for each argument
unfoldable pub rows : App → List Text → List Row
rows app words = matches_of app words

-- `clap`'s definitions of its faults and its matches speak of the command
pub record IsCovered (app : App) : Type 0 where
  pub simple : is_simple app ≡ true
  pub free : is_simple_and_free app ≡ true
