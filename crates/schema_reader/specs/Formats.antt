-- The formats of files.
use Rattle.std.specs.Prelude.{ℕ, List, codes, nat_eq, if◌then◌else◌}
use Rattle.std.specs.List.{ends_with}
use Rattle.schema_reader.specs.declared.format.Format.{Format}
use Rattle.schema_reader.specs.declared.format.Format.TheVariants.{Compact, Json}

-- the format of a file by its name: ShExC where it ends in `.shex`, and else ShExJ (own)
abbrev pub format_of : List ℕ → Format
format_of name = if ends_with nat_eq name (codes ".shex") then Compact else Json
