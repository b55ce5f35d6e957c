-- What Turtle's own parts stand for in a scope. With the flag, what is too long is a fault, and so is a node that has no number.
use Rattle.std.specs.Prelude.{ℕ, Bool, ◌&&◌, List, [], ◌∷◌, Result, Ok, Err, nat_lt, if◌then◌else◌}
use Rattle.rdf_terms.specs.declared.terms.Term.{Term}
use Rattle.rdf_cursor.specs.declared.stops.Fault.{Fault}
use Rattle.rdf_cursor.specs.declared.stops.Fault.TheVariants.{Full}
use Rattle.rdf_cursor.specs.declared.symbols.Symbol.{Symbol}
use Rattle.rdf_cursor.specs.declared.symbols.Symbol.TheVariants as symbol
use Rattle.turtle_reader.specs.States.{DocumentScope, anonymous, counted}

-- the symbols with which a verb begins
abbrev pub verbs : List Symbol
verbs = symbol.A ∷ symbol.IriRef ∷ symbol.PnameNs ∷ symbol.PnameLn ∷ []

-- the greatest number of an anonymous node
abbrev pub max_anonymous : ℕ
max_anonymous = 4294967295

-- the next anonymous node, as long as there are numbers
unfoldable pub numbered : Bool → DocumentScope → Result (Term × DocumentScope) Fault
numbered k v = if k && nat_lt max_anonymous v.next then Err Full else Ok (anonymous v.next, counted v)
