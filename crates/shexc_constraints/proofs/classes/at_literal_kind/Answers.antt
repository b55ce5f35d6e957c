use Rattle.std.proofs.Common.{[], ◌∷◌}
use Rattle.rdf_cursor.specs.declared.symbols.Symbol.TheVariants as symbol
use Rattle.rdf_cursor.specs.Cursors.{ahead}
use Rattle.shexc_constraints.specs.Symbols.{iris}
use Rattle.shexc_constraints.proofs.Nexts.{first_next, second_next}
use Rattle.shexc_constraints.proofs.classes.at_literal_kind.Goals as goal

pub returns-then-is_at_one : goal.returns-then-is_at_one
returns-then-is_at_one c = first_next (symbol.Literal ∷ symbol.OpenBracket ∷ []) iris (ahead c.args.c.now) c.is_at_one.result c.is_at_one.ensures c.if-is_at_one.true

pub returns-else-is_at_one : goal.returns-else-is_at_one
returns-else-is_at_one c = second_next (symbol.Literal ∷ symbol.OpenBracket ∷ []) iris (ahead c.args.c.now) c.is_at_one.result c.at_iri.result c.is_at_one.ensures c.if-is_at_one.false c.at_iri.ensures
