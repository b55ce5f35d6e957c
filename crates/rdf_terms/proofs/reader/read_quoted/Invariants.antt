use Rattle.std.proofs.Common.{◌≡◌, ◌++◌, length, string_bytes}
use Rattle.std.specs.List.{flat_map}
use Rattle.std.specs.Str.Iter.{chars_rest}
use Rattle.rdf_terms.specs.TextBytes.{escaped_byte}
use Rattle.rdf_terms.proofs.reader.read_quoted.Given as goal

abbrev pub invariant-pieces : goal.invariant-pieces
invariant-pieces l = l.fn.text ≡ flat_map escaped_byte (string_bytes l.lex) ++ chars_rest l.characters

abbrev pub decreases-pieces : goal.decreases-pieces
decreases-pieces l = length (chars_rest l.characters)
