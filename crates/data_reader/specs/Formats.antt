-- The formats of files.
use Rattle.std.specs.Prelude.{ℕ, List, codes, nat_eq, if◌then◌else◌}
use Rattle.std.specs.List.{ends_with}
use Rattle.data_reader.specs.declared.format.Format.{Format}
use Rattle.data_reader.specs.declared.format.Format.TheVariants.{NTriples, Turtle}

-- the format of a file by its name: Turtle where it ends in `.ttl`, and else N-Triples (own)
abbrev pub format_of : List ℕ → Format
format_of name = if ends_with nat_eq name (codes ".ttl") then Turtle else NTriples
