-- Where a token stands: how many brackets are open there, and what it may be by the tokens before it.
use Rattle.std.specs.Prelude.{ℕ, Bool, List, [], ◌∷◌, ◌+◌, ◌-◌, ◌==◌, ◌||◌, ◌&&◌, not, if◌then◌else◌}
use Rattle.rdf_cursor.specs.Symbols.{has, same_symbol}
use Rattle.rdf_cursor.specs.declared.symbols.Symbol.{Symbol}
use Rattle.rdf_cursor.specs.declared.symbols.Symbol.TheVariants as symbol
use Rattle.label_tokens.specs.declared.spots.Role.TheVariants.{Expression, Other, Reference}
use Rattle.label_tokens.specs.declared.spots.Spot.{Spot}
use Rattle.label_tokens.specs.declared.spots.Usage.{Usage}
use Rattle.label_tokens.specs.declared.spots.Usage.TheVariants.{Declared, Referred}
use Rattle.label_tokens.specs.Roles.{role_behind, same_role}

-- brackets that open, and brackets that close
abbrev pub opening : List Symbol
opening = symbol.OpenBrace ∷ symbol.OpenParenthesis ∷ symbol.OpenBracket ∷ []

abbrev pub closing : List Symbol
closing = symbol.CloseBrace ∷ symbol.CloseParenthesis ∷ symbol.CloseBracket ∷ []

-- how many brackets are open behind a symbol, by how many are before it
unfoldable pub open_behind : ℕ → Symbol → ℕ
open_behind n s = if has s opening then n + 1 else (if has s closing then n - 1 else n)

-- before the first token, and behind a symbol
abbrev pub first_spot : Spot
first_spot = record { open_brackets = 0; role = Other }

abbrev pub next_spot : Spot → Symbol → Spot
next_spot spot s = record { open_brackets = open_behind spot.open_brackets s; role = role_behind spot.role s }

-- a label is referred to behind `@` or `&`, or with an `@` in front of its name; it is declared behind `$`, or outside of all brackets
unfoldable pub is_used : Usage → Spot → Symbol → Bool
is_used Referred spot s = same_role spot.role Reference || same_symbol s symbol.AtName
is_used Declared spot s = not (same_symbol s symbol.AtName) && (same_role spot.role Expression || (spot.open_brackets == 0 && same_role spot.role Other))
