-- The IRIs that the short forms of literals stand for (RDF 1.1 Turtle, section 2.5).
use Rattle.std.specs.Prelude.{ℕ, List, if◌then◌else◌}
use Rattle.rdf_cursor.specs.declared.symbols.Symbol.{Symbol}
use Rattle.rdf_cursor.specs.declared.symbols.Symbol.TheVariants as symbol
use Rattle.rdf_cursor.specs.Symbols.{same_symbol}
use Rattle.rdf_terms.specs.Vocabulary.{xsd_integer, xsd_decimal, xsd_double, xsd_boolean}

-- the datatype of a literal's short form: of a number by its kind, and of a truth value
abbrev pub shorthand_datatype : Symbol → List ℕ
shorthand_datatype s =
    if same_symbol s symbol.Integer then xsd_integer else (if same_symbol s symbol.Decimal then xsd_decimal else (if same_symbol s symbol.Double then xsd_double else xsd_boolean))
