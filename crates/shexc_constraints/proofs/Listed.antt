-- Whether a symbol is one of some.
use Rattle.std.proofs.Common.{◌≡◌, ◌||◌, List, [], ◌∷◌, refl, ap}
use Rattle.std.specs.List.{list_any}
use Rattle.rdf_cursor.specs.Symbols.{has, same_symbol}
use Rattle.rdf_cursor.specs.declared.symbols.Symbol.{Symbol}

pub any_is_one : (a : Symbol) (symbols : List Symbol) → list_any (λ b. same_symbol a b) symbols ≡ has a symbols
any_is_one a [] = refl
any_is_one a (b ∷ others) = ap (λ r. same_symbol a b || r) (any_is_one a others)
