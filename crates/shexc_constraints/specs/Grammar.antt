-- The grammar of the node constraints of ShExC, with what its rules stand for (ShEx 2.1, section 6; a profile of it). A rule relates what lies
-- ahead before and behind its tokens.
use Rattle.std.specs.Prelude.{◌≡◌, ◌⊎◌, Bool, true, false, ℕ, List, [], ◌∷◌, ◌++◌, Option, Some, None, Result}
use Rattle.std.specs.Str.{chars}
use Rattle.rdf_cursor.specs.Ahead.{next_is}
use Rattle.rdf_cursor.specs.Phrases.{Phrase, Is, Nothing, ◌⨾◌, Many}
use Rattle.rdf_cursor.specs.Symbols.{is_among}
use Rattle.rdf_cursor.specs.declared.symbols.Symbol.{Symbol}
use Rattle.rdf_cursor.specs.declared.symbols.Symbol.TheVariants as symbol
use Rattle.rdf_lex.specs.Tokens.{Spelled}
use Rattle.rdf_terms.specs.Vocabulary.{rdf_type, xsd_string}
use Rattle.rdf_terms.specs.declared.terms.Term.{Term}
use Rattle.node_constraint.specs.declared.Kind4.TheVariants as kind4
use Rattle.node_constraint.specs.declared.facet.Facet.{Facet}
use Rattle.value_sets.specs.declared.value.Except.{Except}
use Rattle.value_sets.specs.declared.value.Except.TheVariants as except
use Rattle.value_sets.specs.declared.value.Value.{Value}
use Rattle.value_sets.specs.declared.value.Value.TheVariants as values
use Rattle.schema_documents.specs.declared.label.Label.{Label}
use Rattle.schema_documents.specs.declared.label.Label.TheVariants as label
use Rattle.schema_documents.specs.Tree.{ShapeExpr, node, refer}
use Rattle.term_tokens.specs.Scopes.{Scope}
use Rattle.term_tokens.specs.Terms.{iri_term, typed, tags}
use Rattle.shexc_constraints.specs.declared.faults.Fault.{Fault}
use Rattle.shexc_constraints.specs.Facets.{fresh_word, counted_of, ranged_of, IsAdmitted}
use Rattle.shexc_constraints.specs.Meanings.{iri_of, at_name_of, label_of, string_of, typed_of, tag_of, tagged_of, shorthand_of, iri_label, kind_by}
use Rattle.shexc_constraints.specs.Patterns.{pattern_of}
use Rattle.shexc_constraints.specs.Symbols.{Mark, of_word, lengths, digit_counts, ranges, node_kinds}
use Rattle.shexc_constraints.specs.Values.{constraint, stem_or_range, form_of}

-- a phrase any number of times; and one that makes lists longer
abbrev pub Each : Phrase Spelled → Phrase Spelled
Each P = Many (λ (a b : Unit {0}) ts r. P ts r) tt tt

abbrev pub Adds : {A : Type 0} → (A → Phrase Spelled) → List A → List A → Phrase Spelled
Adds {A = A} One xs ys ts r = (x : A) × (xs ++ x ∷ [] ≡ ys) × One x ts r

-- one or more
abbrev pub Some_of : {A : Type 0} → (A → Phrase Spelled) → List A → Phrase Spelled
Some_of {A = A} One ys ts r = (xs : List A) × (Adds One [] xs ⨾ Many (Adds One) xs ys) ts r

-- the base and the prefixes in force
module _ (v : Scope) where
  -- iri, predicate: an iri or `a`; label: an iri or the label of a blank node
  abbrev pub Iri : List ℕ → Phrase Spelled
  Iri i = Is (iri_of v) i

  abbrev pub Predicate : List ℕ → Phrase Spelled
  Predicate p ts r = ((rdf_type ≡ p) × Mark symbol.A ts r) ⊎ Iri p ts r

  abbrev pub AnyLabel : Label → Phrase Spelled
  AnyLabel l ts r = ((i : List ℕ) × (iri_label i ≡ l) × Iri i ts r) ⊎ ((name : List ℕ) × (label.Blank name ≡ l) × Is label_of name ts r)

  -- behind a string its tag, which the next tag always is; its datatype; or neither
  abbrev pub Suffix : List ℕ → Term → Phrase Spelled
  Suffix lex x ts r =
      Is (tagged_of lex) x ts r ⊎ ((Mark symbol.Carets ⨾ Is (typed_of v lex) x) ts r
      ⊎ ((typed lex xsd_string ≡ x) × (next_is (is_among tags) ts ≡ false) × Nothing ts r))

  -- literal
  abbrev pub Literal : Term → Phrase Spelled
  Literal x ts r = ((lex : List ℕ) × (Is string_of lex ⨾ Suffix lex x) ts r) ⊎ Is shorthand_of x ts r

  -- annotation: `//`, a predicate, and an iri or a literal; it is dropped
  abbrev pub Object : Term → Phrase Spelled
  Object x ts r = ((i : List ℕ) × (iri_term i ≡ x) × Iri i ts r) ⊎ Literal x ts r

  abbrev pub Annotation : Phrase Spelled
  Annotation ts r = (p : List ℕ) × (x : Term) × (Mark symbol.Slashes ⨾ Predicate p ⨾ Object x) ts r

  -- annotations, where they may stand
  abbrev pub Notes : Bool → Phrase Spelled
  Notes true = Each Annotation
  Notes false = Nothing

  -- a reference: `@` and a label, or a name with `@` in front of it
  abbrev pub Reference : ShapeExpr → Phrase Spelled
  Reference e ts r = (l : Label) × (refer l ≡ e) × ((Mark symbol.At ⨾ AnyLabel l) ts r ⊎ ((i : List ℕ) × (iri_label i ≡ l) × Is (at_name_of v) i ts r))

-- facets that may stand beside a datatype, if there is one; with the flag patterns are within their limits
module _ (bounded : Bool) (datatype : Option (List ℕ)) where
  -- a token that is a facet behind others
  abbrev pub AFacet : (Spelled → Result Facet Fault) → List Facet → List Facet → Phrase Spelled
  AFacet class fs gs ts r = (f : Facet) × (fs ++ f ∷ [] ≡ gs) × IsAdmitted bounded datatype f × Is class f ts r

  -- a facet of a word and a number, none of a word that was given
  abbrev pub Counted : List Symbol → List Facet → List Facet → Phrase Spelled
  Counted words fs gs ts r = (s : Symbol) × (Is (fresh_word words fs) s ⨾ AFacet (counted_of s) fs gs) ts r

  abbrev pub TextFacet : List Facet → List Facet → Phrase Spelled
  TextFacet fs gs ts r = AFacet (pattern_of fs) fs gs ts r ⊎ Counted lengths fs gs ts r

  abbrev pub NumberFacet : List Facet → List Facet → Phrase Spelled
  NumberFacet fs gs ts r = ((s : Symbol) × (Is (fresh_word ranges fs) s ⨾ AFacet (ranged_of s) fs gs) ts r) ⊎ Counted digit_counts fs gs ts r

  abbrev pub AnyFacet : List Facet → List Facet → Phrase Spelled
  AnyFacet fs gs ts r = TextFacet fs gs ts r ⊎ NumberFacet fs gs ts r

module _ (v : Scope) where
  -- exclusions of IRIs, of literals by their lexical forms, of language tags
  abbrev pub IriText : List ℕ → Phrase Spelled
  IriText text ts r = (i : List ℕ) × (chars i ≡ text) × Iri v i ts r

  abbrev pub LexicalForm : List ℕ → Phrase Spelled
  LexicalForm lex ts r = (x : Term) × (form_of x ≡ lex) × Literal v x ts r

  abbrev pub Tag : List ℕ → Phrase Spelled
  Tag text = Is tag_of text

  abbrev pub Excluded : (List ℕ → Phrase Spelled) → Except → Phrase Spelled
  Excluded P x ts r = (text : List ℕ) × (((except.Stem text ≡ x) × (P text ⨾ Mark symbol.Tilde) ts r) ⊎ ((except.Exact text ≡ x) × P text ts r))

  abbrev pub Exclusion : (List ℕ → Phrase Spelled) → Except → Phrase Spelled
  Exclusion P x = Mark symbol.Minus ⨾ Excluded P x

  -- a text with `~` and exclusions: a stem, or a range
  abbrev pub Stem : (List ℕ → Phrase Spelled) → (List ℕ → Value) → (Option (List ℕ) → List Except → Value) → Value → Phrase Spelled
  Stem P stem range x ts r = (text : List ℕ) × (xs : List Except) × (stem_or_range stem range text xs ≡ x) × (P text ⨾ Mark symbol.Tilde ⨾ Many (Adds (Exclusion P)) [] xs) ts r

  -- `.` and exclusions, one or more: a range without a stem
  abbrev pub Wildcard : (List ℕ → Phrase Spelled) → (Option (List ℕ) → List Except → Value) → Value → Phrase Spelled
  Wildcard P range x ts r = (xs : List Except) × (range None xs ≡ x) × (Mark symbol.Dot ⨾ Some_of (Exclusion P) xs) ts r

  -- `@~` and exclusions: the stem of all tags
  abbrev pub AnyTag : Value → Phrase Spelled
  AnyTag x ts r = (xs : List Except) × (stem_or_range values.LangStem values.LangRange [] xs ≡ x) × (Mark symbol.At ⨾ Mark symbol.Tilde ⨾ Many (Adds (Exclusion Tag)) [] xs) ts r

  -- a value of a value set: a single one, a stem, or a range
  abbrev pub OneValue : Value → Phrase Spelled
  OneValue x ts r =
      ((y : Term) × (values.Term y ≡ x) × Object v y ts r)
      ⊎ (((tag : List ℕ) × (values.Lang tag ≡ x) × Tag tag ts r)
      ⊎ (Stem IriText values.IriStem values.IriRange x ts r ⊎ (Stem LexicalForm values.LitStem values.LitRange x ts r ⊎ (Stem Tag values.LangStem values.LangRange x ts r
      ⊎ (AnyTag x ts r ⊎ (Wildcard IriText values.IriRange x ts r ⊎ (Wildcard LexicalForm values.LitRange x ts r ⊎ Wildcard Tag values.LangRange x ts r)))))))

  abbrev pub ValueSet : List Value → Phrase Spelled
  ValueSet xs = Mark symbol.OpenBracket ⨾ Many (Adds OneValue) [] xs ⨾ Mark symbol.CloseBracket

module _ (bounded : Bool) (v : Scope) where
  -- nonLitNodeConstraint: a kind but LITERAL with facets on texts, or such facets alone
  abbrev pub NonLiteral : ShapeExpr → Phrase Spelled
  NonLiteral e ts r =
      ((s : Symbol) × (fs : List Facet) × (node (constraint (Some (kind_by s)) None fs None) ≡ e) × (Is (of_word node_kinds) s ⨾ Many (TextFacet bounded None) [] fs) ts r)
      ⊎ ((fs : List Facet) × (gs : List Facet) × (node (constraint None None gs None) ≡ e) × (TextFacet bounded None [] fs ⨾ Many (TextFacet bounded None) fs gs) ts r)

  -- litNodeConstraint: LITERAL, a datatype or a value set with facets, or facets on numbers alone
  abbrev pub LiteralConstraint : ShapeExpr → Phrase Spelled
  LiteralConstraint e ts r =
      ((fs : List Facet) × (node (constraint (Some kind4.Literal) None fs None) ≡ e) × (Mark symbol.Literal ⨾ Many (AnyFacet bounded None) [] fs) ts r)
      ⊎ (((i : List ℕ) × (fs : List Facet) × (node (constraint None (Some (chars i)) fs None) ≡ e) × (Iri v i ⨾ Many (AnyFacet bounded (Some (chars i))) [] fs) ts r)
      ⊎ (((xs : List Value) × (fs : List Facet) × (node (constraint None None fs (Some xs)) ≡ e) × (ValueSet v xs ⨾ Many (AnyFacet bounded None) [] fs) ts r)
      ⊎ ((fs : List Facet) × (gs : List Facet) × (node (constraint None None gs None) ≡ e) × (NumberFacet bounded None [] fs ⨾ Many (NumberFacet bounded None) fs gs) ts r)))
