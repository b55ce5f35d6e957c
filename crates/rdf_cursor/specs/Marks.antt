-- A mark, a keyword or any other token that is one symbol, as a phrase and as a reader.
use Rattle.rdf_cursor.specs.Phrases.{Phrase, Is}
use Rattle.rdf_cursor.specs.Readers.{Reader, one}
use Rattle.rdf_lex.specs.Tokens.{Spelled}
use Rattle.rdf_cursor.specs.declared.stops.Fault.{Fault}
use Rattle.rdf_cursor.specs.declared.stops.Fault.TheVariants.{Syntax}
use Rattle.rdf_cursor.specs.declared.symbols.Symbol.{Symbol}
use Rattle.rdf_cursor.specs.Symbols.{of_symbol}

-- a token that is this symbol
abbrev pub Mark : Symbol → Phrase Spelled
Mark a ts r = (t : Spelled) × Is (of_symbol a) t ts r

abbrev pub mark : Symbol → Reader Spelled Fault Spelled
mark a = one Syntax (of_symbol a)
