-- Laws of value sets. Each is claimed by a function of `src/laws.rt`.
use Rattle.std.specs.Prelude.{List, ◌⊎◌}
use Rattle.rdf_terms.specs.declared.terms.Term.{Term}
use Rattle.value_sets.specs.declared.value.Value.{Value}
use Rattle.value_sets.specs.Values.{HasValue}

-- a value set holds for a term or does not
abbrev pub ValuesAreDecided : Type 0
ValuesAreDecided = (values : List Value) (term : Term) → HasValue values term ⊎ (¬ HasValue values term)
