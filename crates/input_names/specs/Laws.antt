-- A law of what is to be read.
use Rattle.std.specs.Prelude.{◌≡◌, ℕ, List, true}
use Rattle.std.specs.Str.{IsUtf8}
use Rattle.rdf_terms.specs.OneLine.{IsOneLine}
use Rattle.input_names.specs.Names.{is_base}

-- a text of UTF-8 that passes the check of a base is on one line
abbrev pub BasesAreLines : Type 0
BasesAreLines = (text : List ℕ) → IsUtf8 text → is_base text ≡ true → IsOneLine text
