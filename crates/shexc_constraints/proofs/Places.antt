-- Each rule looks no further than the next token, and takes one where it has to.
use Rattle.std.specs.Prelude.{Bool, true, false, ℕ, List, Option, Some, None, Result}
use Rattle.std.specs.Str.{chars}
use Rattle.rdf_cursor.specs.Properties.{IsLocal, Consumes}
use Rattle.rdf_cursor.proofs.Consuming.{consumes_one, consumes_bind, consumes_either}
use Rattle.rdf_cursor.proofs.Locality.{local_give, local_one, local_bind, local_either}
use Rattle.rdf_cursor.proofs.Loops.{local_loop}
use Rattle.rdf_cursor.specs.declared.symbols.Symbol.{Symbol}
use Rattle.rdf_lex.specs.Tokens.{Spelled}
use Rattle.node_constraint.specs.declared.facet.Facet.{Facet}
use Rattle.value_sets.specs.declared.value.Except.{Except}
use Rattle.value_sets.specs.declared.value.Value.{Value}
use Rattle.term_tokens.specs.Scopes.{Scope}
use Rattle.shexc_constraints.specs.declared.faults.Fault.{Fault}
use Rattle.shexc_constraints.specs.Stops.{R}
use Rattle.shexc_constraints.specs.Symbols.{lengths, digit_counts}
use Rattle.shexc_constraints.specs.Reading.{iri, predicate, label, datatyped, suffix, literal, object, annotation, annotations, notes, reference, a_facet, counted, ranged, text_facet, number_facet, facet, text_facets_behind, number_facets_behind, facets_behind, lexical_form, iri_text, tag, stem_or_exact, exclusion, exclusions, stemmed, excluded, iri_value, literal_value, tag_value, any_tag, wildcard, value, value_behind, value_set, of_kind, of_texts, non_literal, any_literal, of_datatype, of_values, of_numbers, literal_constraint}

pub local_iri : (v : Scope) → IsLocal (iri v)
unfolding iri
local_iri v = local_one _ _

pub consumes_iri : (v : Scope) → Consumes (iri v)
unfolding iri
consumes_iri v = consumes_one _ _

pub local_predicate : (v : Scope) → IsLocal (predicate v)
unfolding predicate
local_predicate v = local_either _ _ _ (local_bind _ _ (local_one _ _) (λ _. local_give _)) (local_iri v)

pub consumes_predicate : (v : Scope) → Consumes (predicate v)
unfolding predicate
consumes_predicate v = consumes_either _ _ _ (consumes_bind _ _ (consumes_one _ _) (λ _. local_give _)) (consumes_iri v)

pub local_label : (v : Scope) → IsLocal (label v)
unfolding label
local_label v = local_either _ _ _ (local_bind _ _ (local_one _ _) (λ x. local_give _)) (local_bind _ _ (local_iri v) (λ i. local_give _))

pub consumes_label : (v : Scope) → Consumes (label v)
unfolding label
consumes_label v = consumes_either _ _ _ (consumes_bind _ _ (consumes_one _ _) (λ x. local_give _)) (consumes_bind _ _ (consumes_iri v) (λ i. local_give _))

pub local_datatyped : (v : Scope) (lex : List ℕ) → IsLocal (datatyped v lex)
unfolding datatyped
local_datatyped v lex = local_bind _ _ (local_one _ _) (λ _. local_one _ _)

pub local_suffix : (v : Scope) (lex : List ℕ) → IsLocal (suffix v lex)
unfolding suffix
local_suffix v lex = local_either _ _ _ (local_one _ _) (local_either _ _ _ (local_datatyped v lex) (local_give _))

pub local_literal : (v : Scope) → IsLocal (literal v)
unfolding literal
local_literal v = local_either _ _ _ (local_bind _ _ (local_one _ _) (λ x. local_suffix v x)) (local_one _ _)

pub consumes_literal : (v : Scope) → Consumes (literal v)
unfolding literal
consumes_literal v = consumes_either _ _ _ (consumes_bind _ _ (consumes_one _ _) (λ x. local_suffix v x)) (consumes_one _ _)

pub local_object : (v : Scope) → IsLocal (object v)
unfolding object
local_object v = local_either _ _ _ (local_bind _ _ (local_iri v) (λ i. local_give _)) (local_literal v)

pub consumes_object : (v : Scope) → Consumes (object v)
unfolding object
consumes_object v = consumes_either _ _ _ (consumes_bind _ _ (consumes_iri v) (λ i. local_give _)) (consumes_literal v)

pub local_annotation : (v : Scope) → IsLocal (annotation v)
unfolding annotation
local_annotation v = local_bind _ _ (local_one _ _) (λ _. local_bind _ _ (local_predicate v) (λ _. local_bind _ _ (local_object v) (λ _. local_give _)))

pub consumes_annotation : (v : Scope) → Consumes (annotation v)
unfolding annotation
consumes_annotation v = consumes_bind _ _ (consumes_one _ _) (λ _. local_bind _ _ (local_predicate v) (λ _. local_bind _ _ (local_object v) (λ _. local_give _)))

pub local_annotations : (v : Scope) → IsLocal (annotations v)
unfolding annotations
local_annotations v = local_loop _ _ (λ _. consumes_annotation v) (λ _. local_annotation v) tt

pub local_notes : (v : Scope) (whole : Bool) → IsLocal (notes v whole)
unfolding notes
local_notes v true = local_annotations v
local_notes v false = local_give _

pub local_reference : (v : Scope) → IsLocal (reference v)
unfolding reference
local_reference v = local_either _ _ _ (local_bind _ _ (local_one _ _) (λ i. local_give _)) (local_bind _ _ (local_one _ _) (λ _. local_bind _ _ (local_label v) (λ l. local_give _)))

pub consumes_reference : (v : Scope) → Consumes (reference v)
unfolding reference
consumes_reference v = consumes_either _ _ _ (consumes_bind _ _ (consumes_one _ _) (λ i. local_give _)) (consumes_bind _ _ (consumes_one _ _) (λ _. local_bind _ _ (local_label v) (λ l. local_give _)))

pub local_a_facet : (bounded : Bool) (datatype : Option (List ℕ)) (class : Spelled → Result Facet Fault) (fs : List Facet) → IsLocal (a_facet bounded datatype class fs)
unfolding a_facet
local_a_facet bounded datatype class fs = local_bind _ _ (local_one _ _) (λ f. local_give _)

pub consumes_a_facet : (bounded : Bool) (datatype : Option (List ℕ)) (class : Spelled → Result Facet Fault) (fs : List Facet) → Consumes (a_facet bounded datatype class fs)
unfolding a_facet
consumes_a_facet bounded datatype class fs = consumes_bind _ _ (consumes_one _ _) (λ f. local_give _)

pub local_counted : (bounded : Bool) (datatype : Option (List ℕ)) (w : List Symbol) (fs : List Facet) → IsLocal (counted bounded datatype w fs)
unfolding counted
local_counted bounded datatype w fs = local_bind _ _ (local_one _ _) (λ s. local_a_facet bounded datatype _ fs)

pub consumes_counted : (bounded : Bool) (datatype : Option (List ℕ)) (w : List Symbol) (fs : List Facet) → Consumes (counted bounded datatype w fs)
unfolding counted
consumes_counted bounded datatype w fs = consumes_bind _ _ (consumes_one _ _) (λ s. local_a_facet bounded datatype _ fs)

pub local_ranged : (bounded : Bool) (datatype : Option (List ℕ)) (fs : List Facet) → IsLocal (ranged bounded datatype fs)
unfolding ranged
local_ranged bounded datatype fs = local_bind _ _ (local_one _ _) (λ s. local_a_facet bounded datatype _ fs)

pub consumes_ranged : (bounded : Bool) (datatype : Option (List ℕ)) (fs : List Facet) → Consumes (ranged bounded datatype fs)
unfolding ranged
consumes_ranged bounded datatype fs = consumes_bind _ _ (consumes_one _ _) (λ s. local_a_facet bounded datatype _ fs)

pub local_text_facet : (bounded : Bool) (datatype : Option (List ℕ)) (fs : List Facet) → IsLocal (text_facet bounded datatype fs)
unfolding text_facet
local_text_facet bounded datatype fs = local_either _ _ _ (local_a_facet bounded datatype _ fs) (local_counted bounded datatype lengths fs)

pub consumes_text_facet : (bounded : Bool) (datatype : Option (List ℕ)) (fs : List Facet) → Consumes (text_facet bounded datatype fs)
unfolding text_facet
consumes_text_facet bounded datatype fs = consumes_either _ _ _ (consumes_a_facet bounded datatype _ fs) (consumes_counted bounded datatype lengths fs)

pub local_number_facet : (bounded : Bool) (datatype : Option (List ℕ)) (fs : List Facet) → IsLocal (number_facet bounded datatype fs)
unfolding number_facet
local_number_facet bounded datatype fs = local_either _ _ _ (local_counted bounded datatype digit_counts fs) (local_ranged bounded datatype fs)

pub consumes_number_facet : (bounded : Bool) (datatype : Option (List ℕ)) (fs : List Facet) → Consumes (number_facet bounded datatype fs)
unfolding number_facet
consumes_number_facet bounded datatype fs = consumes_either _ _ _ (consumes_counted bounded datatype digit_counts fs) (consumes_ranged bounded datatype fs)

pub local_facet : (bounded : Bool) (datatype : Option (List ℕ)) (fs : List Facet) → IsLocal (facet bounded datatype fs)
unfolding facet
local_facet bounded datatype fs = local_either _ _ _ (local_text_facet bounded datatype fs) (local_number_facet bounded datatype fs)

pub consumes_facet : (bounded : Bool) (datatype : Option (List ℕ)) (fs : List Facet) → Consumes (facet bounded datatype fs)
unfolding facet
consumes_facet bounded datatype fs = consumes_either _ _ _ (consumes_text_facet bounded datatype fs) (consumes_number_facet bounded datatype fs)

pub local_text_facets_behind : (bounded : Bool) (datatype : Option (List ℕ)) (fs : List Facet) → IsLocal (text_facets_behind bounded datatype fs)
unfolding text_facets_behind
local_text_facets_behind bounded datatype fs = local_loop _ _ (consumes_text_facet bounded datatype) (local_text_facet bounded datatype) _

pub local_number_facets_behind : (bounded : Bool) (datatype : Option (List ℕ)) (fs : List Facet) → IsLocal (number_facets_behind bounded datatype fs)
unfolding number_facets_behind
local_number_facets_behind bounded datatype fs = local_loop _ _ (consumes_number_facet bounded datatype) (local_number_facet bounded datatype) _

pub local_facets_behind : (bounded : Bool) (datatype : Option (List ℕ)) (fs : List Facet) → IsLocal (facets_behind bounded datatype fs)
unfolding facets_behind
local_facets_behind bounded datatype fs = local_loop _ _ (consumes_facet bounded datatype) (local_facet bounded datatype) _

pub local_lexical_form : (v : Scope) → IsLocal (lexical_form v)
unfolding lexical_form
local_lexical_form v = local_bind _ _ (local_literal v) (λ x. local_give _)

pub consumes_lexical_form : (v : Scope) → Consumes (lexical_form v)
unfolding lexical_form
consumes_lexical_form v = consumes_bind _ _ (consumes_literal v) (λ x. local_give _)

pub local_iri_text : (v : Scope) → IsLocal (iri_text v)
unfolding iri_text
local_iri_text v = local_bind _ _ (local_iri v) (λ x. local_give _)

pub consumes_iri_text : (v : Scope) → Consumes (iri_text v)
unfolding iri_text
consumes_iri_text v = consumes_bind _ _ (consumes_iri v) (λ x. local_give _)

pub local_tag : (v : Scope) → IsLocal (tag v)
unfolding tag
local_tag v = local_one _ _

pub consumes_tag : (v : Scope) → Consumes (tag v)
unfolding tag
consumes_tag v = consumes_one _ _

pub local_stem_or_exact : (v : Scope) (p : R (List ℕ)) (local : IsLocal p) (takes : Consumes p) (xs : List Except) → IsLocal (stem_or_exact v p xs)
unfolding stem_or_exact
local_stem_or_exact v p local takes xs = local_bind _ _ (local) (λ x. local_either _ _ _ (local_bind _ _ (local_one _ _) (λ _. local_give _)) (local_give _))

pub local_exclusion : (v : Scope) (p : R (List ℕ)) (local : IsLocal p) (takes : Consumes p) (xs : List Except) → IsLocal (exclusion v p xs)
unfolding exclusion
local_exclusion v p local takes xs = local_bind _ _ (local_one _ _) (λ _. local_stem_or_exact v p local takes xs)

pub consumes_exclusion : (v : Scope) (p : R (List ℕ)) (local : IsLocal p) (takes : Consumes p) (xs : List Except) → Consumes (exclusion v p xs)
unfolding exclusion
consumes_exclusion v p local takes xs = consumes_bind _ _ (consumes_one _ _) (λ _. local_stem_or_exact v p local takes xs)

pub local_exclusions : (v : Scope) (p : R (List ℕ)) (local : IsLocal p) (takes : Consumes p) (xs : List Except) → IsLocal (exclusions v p xs)
unfolding exclusions
local_exclusions v p local takes xs = local_loop _ _ (consumes_exclusion v p local takes) (local_exclusion v p local takes) _

pub local_stemmed : (v : Scope) (p : R (List ℕ)) (local : IsLocal p) (takes : Consumes p) (stem : List ℕ → Value) (range : Option (List ℕ) → List Except →
    Value) (text : List ℕ) → IsLocal (stemmed v p stem range text)
unfolding stemmed
local_stemmed v p local takes stem range text = local_bind _ _ (local_one _ _) (λ _. local_bind _ _ (local_exclusions v p local takes _) (λ xs. local_give _))

pub local_excluded : (v : Scope) (p : R (List ℕ)) (local : IsLocal p) (takes : Consumes p) (range : Option (List ℕ) → List Except → Value) → IsLocal (excluded v p range)
unfolding excluded
local_excluded v p local takes range = local_bind _ _ (local_stem_or_exact v p local takes _) (λ x. local_bind _ _ (local_exclusions v p local takes _) (λ xs. local_give _))

pub local_iri_value : (v : Scope) → IsLocal (iri_value v)
unfolding iri_value
local_iri_value v = local_bind _ _ (local_iri v) (λ i. local_either _ _ _ (local_stemmed v (iri_text v) (local_iri_text v) (consumes_iri_text v) _ _ _) (local_give _))

pub consumes_iri_value : (v : Scope) → Consumes (iri_value v)
unfolding iri_value
consumes_iri_value v = consumes_bind _ _ (consumes_iri v) (λ i. local_either _ _ _ (local_stemmed v (iri_text v) (local_iri_text v) (consumes_iri_text v) _ _ _) (local_give _))

pub local_literal_value : (v : Scope) → IsLocal (literal_value v)
unfolding literal_value
local_literal_value v = local_bind _ _ (local_literal v) (λ i. local_either _ _ _ (local_stemmed v (lexical_form v) (local_lexical_form v) (consumes_lexical_form v) _ _ _) (local_give _))

pub consumes_literal_value : (v : Scope) → Consumes (literal_value v)
unfolding literal_value
consumes_literal_value v = consumes_bind _ _ (consumes_literal v) (λ i. local_either _ _ _ (local_stemmed v (lexical_form v) (local_lexical_form v) (consumes_lexical_form v) _ _ _) (local_give _))

pub local_tag_value : (v : Scope) → IsLocal (tag_value v)
unfolding tag_value
local_tag_value v = local_bind _ _ (local_tag v) (λ i. local_either _ _ _ (local_stemmed v (tag v) (local_tag v) (consumes_tag v) _ _ _) (local_give _))

pub consumes_tag_value : (v : Scope) → Consumes (tag_value v)
unfolding tag_value
consumes_tag_value v = consumes_bind _ _ (consumes_tag v) (λ i. local_either _ _ _ (local_stemmed v (tag v) (local_tag v) (consumes_tag v) _ _ _) (local_give _))

pub local_any_tag : (v : Scope) → IsLocal (any_tag v)
unfolding any_tag
local_any_tag v = local_bind _ _ (local_one _ _) (λ _. local_stemmed v (tag v) (local_tag v) (consumes_tag v) _ _ _)

pub consumes_any_tag : (v : Scope) → Consumes (any_tag v)
unfolding any_tag
consumes_any_tag v = consumes_bind _ _ (consumes_one _ _) (λ _. local_stemmed v (tag v) (local_tag v) (consumes_tag v) _ _ _)

pub local_wildcard : (v : Scope) → IsLocal (wildcard v)
unfolding wildcard
local_wildcard v = local_bind _ _ (local_one _ _)
    (λ _. local_bind _ _ (local_one _ _) (λ _. local_either _ _ _ (local_excluded v (iri_text v) (local_iri_text v) (consumes_iri_text v) _) (local_either _ _ _ (local_excluded v (tag v) (local_tag v) (consumes_tag v) _) (local_excluded v (lexical_form v) (local_lexical_form v) (consumes_lexical_form v) _))))

pub consumes_wildcard : (v : Scope) → Consumes (wildcard v)
unfolding wildcard
consumes_wildcard v = consumes_bind _ _ (consumes_one _ _)
    (λ _. local_bind _ _ (local_one _ _) (λ _. local_either _ _ _ (local_excluded v (iri_text v) (local_iri_text v) (consumes_iri_text v) _) (local_either _ _ _ (local_excluded v (tag v) (local_tag v) (consumes_tag v) _) (local_excluded v (lexical_form v) (local_lexical_form v) (consumes_lexical_form v) _))))

pub local_value : (v : Scope) → IsLocal (value v)
unfolding value
local_value v = local_either _ _ _ (local_wildcard v) (local_either _ _ _ (local_iri_value v) (local_either _ _ _ (local_tag_value v) (local_either _ _ _ (local_any_tag v) (local_literal_value v))))

pub consumes_value : (v : Scope) → Consumes (value v)
unfolding value
consumes_value v = consumes_either _ _ _ (consumes_wildcard v)
    (consumes_either _ _ _ (consumes_iri_value v) (consumes_either _ _ _ (consumes_tag_value v) (consumes_either _ _ _ (consumes_any_tag v) (consumes_literal_value v))))

pub local_value_behind : (v : Scope) (xs : List Value) → IsLocal (value_behind v xs)
unfolding value_behind
local_value_behind v xs = local_bind _ _ (local_value v) (λ x. local_give _)

pub consumes_value_behind : (v : Scope) (xs : List Value) → Consumes (value_behind v xs)
unfolding value_behind
consumes_value_behind v xs = consumes_bind _ _ (consumes_value v) (λ x. local_give _)

pub local_value_set : (v : Scope) → IsLocal (value_set v)
unfolding value_set
local_value_set v = local_bind _ _ (local_one _ _) (λ _. local_bind _ _ (local_loop _ _ (consumes_value_behind v) (local_value_behind v) _) (λ xs. local_bind _ _ (local_one _ _) (λ _. local_give _)))

pub consumes_value_set : (v : Scope) → Consumes (value_set v)
unfolding value_set
consumes_value_set v = consumes_bind _ _ (consumes_one _ _)
    (λ _. local_bind _ _ (local_loop _ _ (consumes_value_behind v) (local_value_behind v) _) (λ xs. local_bind _ _ (local_one _ _) (λ _. local_give _)))

pub local_of_kind : (bounded : Bool) (v : Scope) → IsLocal (of_kind bounded v)
unfolding of_kind
local_of_kind bounded v = local_bind _ _ (local_one _ _) (λ s. local_bind _ _ (local_text_facets_behind bounded None _) (λ fs. local_give _))

pub consumes_of_kind : (bounded : Bool) (v : Scope) → Consumes (of_kind bounded v)
unfolding of_kind
consumes_of_kind bounded v = consumes_bind _ _ (consumes_one _ _) (λ s. local_bind _ _ (local_text_facets_behind bounded None _) (λ fs. local_give _))

pub local_of_texts : (bounded : Bool) (v : Scope) → IsLocal (of_texts bounded v)
unfolding of_texts
local_of_texts bounded v = local_bind _ _ (local_text_facet bounded None _) (λ f. local_bind _ _ (local_text_facets_behind bounded None _) (λ fs. local_give _))

pub consumes_of_texts : (bounded : Bool) (v : Scope) → Consumes (of_texts bounded v)
unfolding of_texts
consumes_of_texts bounded v = consumes_bind _ _ (consumes_text_facet bounded None _) (λ f. local_bind _ _ (local_text_facets_behind bounded None _) (λ fs. local_give _))

pub local_non_literal : (bounded : Bool) (v : Scope) → IsLocal (non_literal bounded v)
unfolding non_literal
local_non_literal bounded v = local_either _ _ _ (local_of_kind bounded v) (local_of_texts bounded v)

pub consumes_non_literal : (bounded : Bool) (v : Scope) → Consumes (non_literal bounded v)
unfolding non_literal
consumes_non_literal bounded v = consumes_either _ _ _ (consumes_of_kind bounded v) (consumes_of_texts bounded v)

pub local_any_literal : (bounded : Bool) (v : Scope) → IsLocal (any_literal bounded v)
unfolding any_literal
local_any_literal bounded v = local_bind _ _ (local_one _ _) (λ _. local_bind _ _ (local_facets_behind bounded None _) (λ fs. local_give _))

pub consumes_any_literal : (bounded : Bool) (v : Scope) → Consumes (any_literal bounded v)
unfolding any_literal
consumes_any_literal bounded v = consumes_bind _ _ (consumes_one _ _) (λ _. local_bind _ _ (local_facets_behind bounded None _) (λ fs. local_give _))

pub local_of_datatype : (bounded : Bool) (v : Scope) → IsLocal (of_datatype bounded v)
unfolding of_datatype
local_of_datatype bounded v = local_bind _ _ (local_iri v) (λ i. local_bind _ _ (local_facets_behind bounded (Some (chars i)) _) (λ fs. local_give _))

pub consumes_of_datatype : (bounded : Bool) (v : Scope) → Consumes (of_datatype bounded v)
unfolding of_datatype
consumes_of_datatype bounded v = consumes_bind _ _ (consumes_iri v) (λ i. local_bind _ _ (local_facets_behind bounded (Some (chars i)) _) (λ fs. local_give _))

pub local_of_values : (bounded : Bool) (v : Scope) → IsLocal (of_values bounded v)
unfolding of_values
local_of_values bounded v = local_bind _ _ (local_value_set v) (λ i. local_bind _ _ (local_facets_behind bounded None _) (λ fs. local_give _))

pub consumes_of_values : (bounded : Bool) (v : Scope) → Consumes (of_values bounded v)
unfolding of_values
consumes_of_values bounded v = consumes_bind _ _ (consumes_value_set v) (λ i. local_bind _ _ (local_facets_behind bounded None _) (λ fs. local_give _))

pub local_of_numbers : (bounded : Bool) (v : Scope) → IsLocal (of_numbers bounded v)
unfolding of_numbers
local_of_numbers bounded v = local_bind _ _ (local_number_facet bounded None _) (λ f. local_bind _ _ (local_number_facets_behind bounded None _) (λ fs. local_give _))

pub consumes_of_numbers : (bounded : Bool) (v : Scope) → Consumes (of_numbers bounded v)
unfolding of_numbers
consumes_of_numbers bounded v = consumes_bind _ _ (consumes_number_facet bounded None _) (λ f. local_bind _ _ (local_number_facets_behind bounded None _) (λ fs. local_give _))

pub local_literal_constraint : (bounded : Bool) (v : Scope) → IsLocal (literal_constraint bounded v)
unfolding literal_constraint
local_literal_constraint bounded v = local_either _ _ _ (local_any_literal bounded v)
    (local_either _ _ _ (local_of_datatype bounded v) (local_either _ _ _ (local_of_values bounded v) (local_of_numbers bounded v)))

pub consumes_literal_constraint : (bounded : Bool) (v : Scope) → Consumes (literal_constraint bounded v)
unfolding literal_constraint
consumes_literal_constraint bounded v = consumes_either _ _ _ (consumes_any_literal bounded v)
    (consumes_either _ _ _ (consumes_of_datatype bounded v) (consumes_either _ _ _ (consumes_of_values bounded v) (consumes_of_numbers bounded v)))
