-- The commands as `clap` sees them.
use Rattle.std.specs.Prelude.{[], ◌∷◌, Some, codes}
use Rattle.clap.specs.Words.{App, Rule, Text, new_rule}
use Rattle.clap.specs.declared.builder.action.ArgAction.TheVariants.{SetTrue}
use Rattle.command_words.specs.Commands.{command, needed, option, rest}

-- an option without a value
abbrev pub flag : Text → Rule
flag name = record (new_rule name) { long = Some name; action = Some SetTrue }

-- `convert --schema F [--schema-base I]`
abbrev pub convert : App
convert = command (codes "convert") (needed (option (codes "schema")) ∷ option (codes "schema-base") ∷ [])

-- `extents --schema F --data F [--budget N] [--schema-base I] [--data-base I] [IRI=FILE ..]`
abbrev pub extents : App
extents = command (codes "extents")
    (needed (option (codes "schema"))
    ∷ needed (option (codes "data"))
    ∷ option (codes "budget")
    ∷ option (codes "schema-base")
    ∷ option (codes "data-base")
    ∷ rest (codes "imports")
    ∷ [])

-- `explain --schema F --data F --map F [--budget N] [--limit N] [--json] [--schema-base I] [--data-base I] [IRI=FILE ..]`
abbrev pub explain : App
explain = command (codes "explain")
    (needed (option (codes "schema"))
    ∷ needed (option (codes "data"))
    ∷ needed (option (codes "map"))
    ∷ option (codes "budget")
    ∷ option (codes "limit")
    ∷ flag (codes "json")
    ∷ option (codes "schema-base")
    ∷ option (codes "data-base")
    ∷ rest (codes "imports")
    ∷ [])

-- `lines --data F [--prefix P] [--data-base I]`
abbrev pub lines : App
lines = command (codes "lines") (needed (option (codes "data")) ∷ option (codes "prefix") ∷ option (codes "data-base") ∷ [])

-- `followed --schema F [--schema-base I] [IRI=FILE ..]`
abbrev pub followed : App
followed = command (codes "followed") (needed (option (codes "schema")) ∷ option (codes "schema-base") ∷ rest (codes "imports") ∷ [])

-- `reached --schema F --data F --map F [--schema-base I] [--data-base I] [IRI=FILE ..]`
abbrev pub reached : App
reached = command (codes "reached")
    (needed (option (codes "schema"))
    ∷ needed (option (codes "data"))
    ∷ needed (option (codes "map"))
    ∷ option (codes "schema-base")
    ∷ option (codes "data-base")
    ∷ rest (codes "imports")
    ∷ [])

-- `covers --followed F --part F [NODES=SHARD ..]`
abbrev pub covers : App
covers = command (codes "covers") (needed (option (codes "followed")) ∷ needed (option (codes "part")) ∷ rest (codes "shards") ∷ [])

-- `--schema F --data F --script F [--budget N] [--schema-base I] [--data-base I] [IRI=FILE ..]`
abbrev pub session : App
session = command (codes "typing_session")
    (needed (option (codes "schema"))
    ∷ needed (option (codes "data"))
    ∷ needed (option (codes "script"))
    ∷ option (codes "budget")
    ∷ option (codes "schema-base")
    ∷ option (codes "data-base")
    ∷ rest (codes "imports")
    ∷ [])
