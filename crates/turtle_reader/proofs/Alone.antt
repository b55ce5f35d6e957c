-- One object of a subject and a predicate, behind which no comma stands.
use Rattle.std.proofs.Common.{◌≡◌, ℕ, Bool, false, List, Ok}
use Rattle.rdf_terms.specs.declared.terms.Term.{Term}
use Rattle.rdf_lex.specs.Tokens.{Spelled}
use Rattle.rdf_cursor.specs.Ahead.{Ahead, next_is}
use Rattle.rdf_cursor.specs.Symbols.{is_symbol}
use Rattle.rdf_cursor.specs.declared.symbols.Symbol.TheVariants.{Comma}
use Rattle.rdf_cursor.proofs.Loops.{loop_stop}
use Rattle.turtle_reader.specs.Reading.{comma, object, objects, one_object}
use Rattle.turtle_reader.specs.States.{DocumentScope, added}
use Rattle.turtle_reader.proofs.Places.{consumes_comma, local_object, consumes_object}

pub one_alone : (k : Bool) (d : ℕ) (s : Term) (p : List ℕ) (v u : DocumentScope) (x : Term) (ts r : Ahead Spelled) → object k d v ts ≡ Ok ((x, u), r) →
    next_is (is_symbol Comma) r ≡ false → objects k (object k d) s p v ts ≡ Ok (added s p x u, r)
unfolding objects one_object
one_alone k d s p v u x ts r e none = rw e (loop_stop (is_symbol Comma) (comma k (object k d) s p) (consumes_comma k (object k d) (local_object k d) (consumes_object k d) s p) (added s p x u) r none)
