-- What a token may be, by the symbols before it (ShEx 2.1, section 6).
use Rattle.std.specs.Prelude.{ℕ, Bool, ◌&&◌, List, [], ◌∷◌, if◌then◌else◌, nat_eq}
use Rattle.rdf_cursor.specs.Symbols.{has, same_symbol}
use Rattle.rdf_cursor.specs.declared.symbols.Symbol.{Symbol}
use Rattle.rdf_cursor.specs.declared.symbols.Symbol.TheVariants as symbol
use Rattle.label_tokens.specs.declared.spots.Role.{Role}
use Rattle.label_tokens.specs.declared.spots.Role.TheVariants.{BaseIri, Expression, ImportIri, Other, PrefixIri, PrefixName, Reference}

-- behind these symbols a label is referred to
abbrev pub reference_marks : List Symbol
reference_marks = symbol.At ∷ symbol.Ampersand ∷ []

-- a number for each role, by which they are compared
abbrev pub role_number : Role → ℕ
role_number Reference = 0
role_number Expression = 1
role_number BaseIri = 2
role_number PrefixName = 3
role_number PrefixIri = 4
role_number ImportIri = 5
role_number Other = 6

abbrev pub same_role : Role → Role → Bool
same_role a b = nat_eq (role_number a) (role_number b)

-- the part of a directive that stands behind a symbol, by what that symbol may be
unfoldable pub part_behind : Role → Symbol → Role
part_behind r s =
    if same_symbol s symbol.SparqlBase then BaseIri
    else (if same_symbol s symbol.SparqlPrefix then PrefixName
    else (if same_symbol s symbol.Import then ImportIri
    else (if same_role r PrefixName && same_symbol s symbol.PnameNs then PrefixIri
    else Other)))

-- behind `@` and `&` a label is referred to, and behind `$` a triple expression is named
unfoldable pub role_behind : Role → Symbol → Role
role_behind r s = if has s reference_marks then Reference else (if same_symbol s symbol.Dollar then Expression else part_behind r s)
