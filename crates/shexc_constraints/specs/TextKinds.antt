-- What the exclusions of a range are texts of: IRIs, literals, or language tags.
use Rattle.std.specs.Prelude.{ℕ, List, Option}
use Rattle.value_sets.specs.declared.value.Except.{Except}
use Rattle.value_sets.specs.declared.value.Value.{Value}
use Rattle.value_sets.specs.declared.value.Value.TheVariants as values
use Rattle.shexc_constraints.specs.declared.values.TextKind.{TextKind}
use Rattle.shexc_constraints.specs.declared.values.TextKind.TheVariants as kind
use Rattle.term_tokens.specs.Scopes.{Scope}
use Rattle.shexc_constraints.specs.Reading.{iri_text, lexical_form, tag}
use Rattle.shexc_constraints.specs.Stops.{R}

-- the reader of such a text
abbrev pub texts : Scope → TextKind → R (List ℕ)
texts v kind.Iri = iri_text v
texts v kind.Literal = lexical_form v
texts v kind.Tag = tag v

-- a stem, and a range
abbrev pub stem_of : TextKind → List ℕ → Value
stem_of kind.Iri = values.IriStem
stem_of kind.Literal = values.LitStem
stem_of kind.Tag = values.LangStem

abbrev pub range_of : TextKind → Option (List ℕ) → List Except → Value
range_of kind.Iri = values.IriRange
range_of kind.Literal = values.LitRange
range_of kind.Tag = values.LangRange
