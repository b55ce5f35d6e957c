-- What is read from the front of a list of tokens: one small definition for each rule of the grammar.
use Rattle.std.specs.Prelude.{Bool, true, false, ℕ, List, [], ◌∷◌, ◌++◌, Option, Some, None, Result}
use Rattle.std.specs.Str.{chars}
use Rattle.rdf_cursor.specs.Readers.{◌>>=◌, give, one, either, loop}
use Rattle.rdf_cursor.specs.Symbols.{is_symbol, is_among, is_other}
use Rattle.rdf_cursor.specs.declared.symbols.Symbol.{Symbol}
use Rattle.rdf_cursor.specs.declared.symbols.Symbol.TheVariants as symbol
use Rattle.rdf_lex.specs.Tokens.{Spelled}
use Rattle.rdf_terms.specs.Vocabulary.{rdf_type, xsd_string}
use Rattle.rdf_terms.specs.declared.terms.Term.{Term}
use Rattle.node_constraint.specs.declared.Kind4.TheVariants as kind4
use Rattle.node_constraint.specs.declared.facet.Facet.{Facet}
use Rattle.value_sets.specs.declared.value.Except.{Except}
use Rattle.value_sets.specs.declared.value.Except.TheVariants as except
use Rattle.value_sets.specs.declared.value.Value.{Value}
use Rattle.value_sets.specs.declared.value.Value.TheVariants as values
use Rattle.schema_documents.specs.declared.label.Label.{Label}
use Rattle.schema_documents.specs.declared.label.Label.TheVariants as labels
use Rattle.schema_documents.specs.Tree.{ShapeExpr, node, refer}
use Rattle.term_tokens.specs.Scopes.{Scope}
use Rattle.term_tokens.specs.Terms.{iri_term, typed, tags}
use Rattle.shexc_constraints.specs.declared.faults.Fault.{Fault}
use Rattle.shexc_constraints.specs.declared.faults.Fault.TheVariants.{Syntax}
use Rattle.shexc_constraints.specs.Facets.{fresh_word, counted_of, ranged_of, admitted}
use Rattle.shexc_constraints.specs.Meanings.{iri_of, at_name_of, label_of, string_of, typed_of, tag_of, tagged_of, shorthand_of, iri_label, kind_by}
use Rattle.shexc_constraints.specs.Patterns.{pattern_of}
use Rattle.shexc_constraints.specs.Stops.{R}
use Rattle.shexc_constraints.specs.Symbols.{mark, of_word, iris, lengths, digit_counts, ranges, node_kinds, text_facets, number_facets, all_facets}
use Rattle.shexc_constraints.specs.Values.{constraint, stem_or_range, form_of}

-- the base and the prefixes in force
module _ (v : Scope) where
  unfoldable pub iri : R (List ℕ)
  iri = one Syntax (iri_of v)

  unfoldable pub predicate : R (List ℕ)
  predicate = either (is_symbol symbol.A) (mark symbol.A >>= λ _. give rdf_type) iri

  unfoldable pub label : R Label
  label = either (is_symbol symbol.BlankLabel) (one Syntax label_of >>= λ name. give (labels.Blank name)) (iri >>= λ i. give (iri_label i))

  unfoldable pub datatyped : List ℕ → R Term
  datatyped lex = mark symbol.Carets >>= λ _. one Syntax (typed_of v lex)

  unfoldable pub suffix : List ℕ → R Term
  suffix lex = either (is_among tags) (one Syntax (tagged_of lex)) (either (is_symbol symbol.Carets) (datatyped lex) (give (typed lex xsd_string)))

  unfoldable pub literal : R Term
  literal = either (is_symbol symbol.Str) (one Syntax string_of >>= suffix) (one Syntax shorthand_of)

  unfoldable pub object : R Term
  object = either (is_among iris) (iri >>= λ i. give (iri_term i)) literal

  unfoldable pub annotation : R Unit
  annotation = do
    _ ← mark symbol.Slashes
    _ ← predicate
    _ ← object
    give tt

  unfoldable pub annotations : R Unit
  annotations = loop (is_symbol symbol.Slashes) (λ _. annotation) tt

  -- annotations, where they may stand
  unfoldable pub notes : Bool → R Unit
  notes true = annotations
  notes false = give tt

  unfoldable pub reference : R ShapeExpr
  reference = either (is_symbol symbol.AtName) (one Syntax (at_name_of v) >>= λ i. give (refer (iri_label i))) (mark symbol.At >>= λ _. label >>= λ l. give (refer l))

-- facets that go behind others
module _ (bounded : Bool) (datatype : Option (List ℕ)) where
  unfoldable pub a_facet : (Spelled → Result Facet Fault) → List Facet → R (List Facet)
  a_facet class fs = one Syntax (λ t. admitted bounded datatype (class t)) >>= λ f. give (fs ++ f ∷ [])

  unfoldable pub counted : List Symbol → List Facet → R (List Facet)
  counted words fs = one Syntax (fresh_word words fs) >>= λ s. a_facet (counted_of s) fs

  unfoldable pub ranged : List Facet → R (List Facet)
  ranged fs = one Syntax (fresh_word ranges fs) >>= λ s. a_facet (ranged_of s) fs

  unfoldable pub text_facet : List Facet → R (List Facet)
  text_facet fs = either (is_symbol symbol.Pattern) (a_facet (pattern_of fs) fs) (counted lengths fs)

  unfoldable pub number_facet : List Facet → R (List Facet)
  number_facet fs = either (is_among digit_counts) (counted digit_counts fs) (ranged fs)

  unfoldable pub facet : List Facet → R (List Facet)
  facet fs = either (is_among text_facets) (text_facet fs) (number_facet fs)

  unfoldable pub text_facets_behind : List Facet → R (List Facet)
  text_facets_behind fs = loop (is_among text_facets) text_facet fs

  unfoldable pub number_facets_behind : List Facet → R (List Facet)
  number_facets_behind fs = loop (is_among number_facets) number_facet fs

  unfoldable pub facets_behind : List Facet → R (List Facet)
  facets_behind fs = loop (is_among all_facets) facet fs

module _ (v : Scope) where
  -- the lexical form of a literal, the text of an iri, a tag
  unfoldable pub lexical_form : R (List ℕ)
  lexical_form = literal v >>= λ x. give (form_of x)

  unfoldable pub iri_text : R (List ℕ)
  iri_text = iri v >>= λ i. give (chars i)

  unfoldable pub tag : R (List ℕ)
  tag = one Syntax tag_of

  -- exclusions that go behind others, by the reader of their texts
  unfoldable pub stem_or_exact : R (List ℕ) → List Except → R (List Except)
  stem_or_exact p xs = p >>= λ text. either (is_symbol symbol.Tilde) (mark symbol.Tilde >>= λ _. give (xs ++ except.Stem text ∷ [])) (give (xs ++ except.Exact text ∷ []))

  unfoldable pub exclusion : R (List ℕ) → List Except → R (List Except)
  exclusion p xs = mark symbol.Minus >>= λ _. stem_or_exact p xs

  unfoldable pub exclusions : R (List ℕ) → List Except → R (List Except)
  exclusions p xs = loop (is_symbol symbol.Minus) (exclusion p) xs

  -- behind a text: `~` and exclusions, or nothing
  unfoldable pub stemmed : R (List ℕ) → (List ℕ → Value) → (Option (List ℕ) → List Except → Value) → List ℕ → R Value
  stemmed p stem range text = mark symbol.Tilde >>= λ _. exclusions p [] >>= λ xs. give (stem_or_range stem range text xs)

  unfoldable pub iri_value : R Value
  iri_value = iri v >>= λ i. either (is_symbol symbol.Tilde) (stemmed iri_text values.IriStem values.IriRange (chars i)) (give (values.Term (iri_term i)))

  unfoldable pub literal_value : R Value
  literal_value = literal v >>= λ x. either (is_symbol symbol.Tilde) (stemmed lexical_form values.LitStem values.LitRange (form_of x)) (give (values.Term x))

  unfoldable pub tag_value : R Value
  tag_value = tag >>= λ text. either (is_symbol symbol.Tilde) (stemmed tag values.LangStem values.LangRange text) (give (values.Lang text))

  unfoldable pub any_tag : R Value
  any_tag = mark symbol.At >>= λ _. stemmed tag values.LangStem values.LangRange []

  -- behind `.` and the first `-`: exclusions of one kind
  unfoldable pub excluded : R (List ℕ) → (Option (List ℕ) → List Except → Value) → R Value
  excluded p range = stem_or_exact p [] >>= λ x. exclusions p x >>= λ xs. give (range None xs)

  unfoldable pub wildcard : R Value
  wildcard = do
    _ ← mark symbol.Dot
    _ ← mark symbol.Minus
    either (is_among iris) (excluded iri_text values.IriRange) (either (is_among tags) (excluded tag values.LangRange) (excluded lexical_form values.LitRange))

  unfoldable pub value : R Value
  value = either (is_symbol symbol.Dot) wildcard (either (is_among iris) iri_value (either (is_among tags) tag_value (either (is_symbol symbol.At) any_tag literal_value)))

  unfoldable pub value_behind : List Value → R (List Value)
  value_behind xs = value >>= λ x. give (xs ++ x ∷ [])

  unfoldable pub value_set : R (List Value)
  value_set = do
    _ ← mark symbol.OpenBracket
    xs ← loop (is_other symbol.CloseBracket) value_behind []
    _ ← mark symbol.CloseBracket
    give xs

module _ (bounded : Bool) (v : Scope) where
  unfoldable pub of_kind : R ShapeExpr
  of_kind = one Syntax (of_word node_kinds) >>= λ s. text_facets_behind bounded None [] >>= λ fs. give (node (constraint (Some (kind_by s)) None fs None))

  unfoldable pub of_texts : R ShapeExpr
  of_texts = text_facet bounded None [] >>= λ f. text_facets_behind bounded None f >>= λ fs. give (node (constraint None None fs None))

  unfoldable pub non_literal : R ShapeExpr
  non_literal = either (is_among node_kinds) of_kind of_texts

  unfoldable pub any_literal : R ShapeExpr
  any_literal = mark symbol.Literal >>= λ _. facets_behind bounded None [] >>= λ fs. give (node (constraint (Some kind4.Literal) None fs None))

  unfoldable pub of_datatype : R ShapeExpr
  of_datatype = iri v >>= λ i. facets_behind bounded (Some (chars i)) [] >>= λ fs. give (node (constraint None (Some (chars i)) fs None))

  unfoldable pub of_values : R ShapeExpr
  of_values = value_set v >>= λ xs. facets_behind bounded None [] >>= λ fs. give (node (constraint None None fs (Some xs)))

  unfoldable pub of_numbers : R ShapeExpr
  of_numbers = number_facet bounded None [] >>= λ f. number_facets_behind bounded None f >>= λ fs. give (node (constraint None None fs None))

  unfoldable pub literal_constraint : R ShapeExpr
  literal_constraint = either (is_symbol symbol.Literal) any_literal (either (is_among iris) of_datatype (either (is_symbol symbol.OpenBracket) of_values of_numbers))
