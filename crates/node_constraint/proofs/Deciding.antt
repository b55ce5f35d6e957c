-- A node constraint holds for a term or does not.
use Rattle.std.proofs.Common.{◌≡◌, ℕ, zero, suc, ◌<◌, ◌≤◌, inl, inr, Bool, true, false, true≢false, List, [], ◌∷◌, length, refl, sym, subst, arith, Option, Some, None, IsTrue, encode_utf8_all}
use Rattle.std.proofs.lemmas.Bool.{cases_eq, cases_lt}
use Rattle.std.specs.List.{AllByRecursion}
use Rattle.rdf_terms.specs.declared.terms.Term.{Term}
use Rattle.rdf_terms.specs.declared.terms.Term.TheVariants as Terms
use Rattle.value_sets.proofs.Deciding.{decide_text, values_are_decided}
use Rattle.lists.proofs.Decided.{Decided, decide_both, decide_either, decide_some_and}
use Rattle.value_sets.specs.Values.{ValueList}
use Rattle.xs_pattern.proofs.Answered.{one_under}
use Rattle.xs_pattern.proofs.Decided.{decide}
use Rattle.node_constraint.proofs.Spelled.{decide_spelling}
use Rattle.xs_pattern.specs.declared.expression.Flags.{Flags}
use Rattle.xs_pattern.specs.Flagged.{IsSpelledUnder, SpellsUnder, flags_named}
use Rattle.xs_pattern.specs.Language.{Holds, IsFound}
use Rattle.xs_pattern.specs.Regex.{Regex}
use Rattle.xs_text.proofs.OrderLaws.{order_is_decided}
use Rattle.xs_text.specs.Decimal.{IsBelow, fraction_digit_count, total_digit_count}
use Rattle.node_constraint.specs.Datatypes.{IsOfDatatypeIfAny, decimal_of, is_valid}
use Rattle.node_constraint.specs.Facets.{HasPattern, IsAtMost, SatFacet, text_of}
use Rattle.node_constraint.specs.Kinds.{IsOfKindIfAny}
use Rattle.node_constraint.specs.Laws.{NodesAreDecided}
use Rattle.node_constraint.specs.SatNode.{HasValueIfAny, SatNode}
use Rattle.node_constraint.specs.declared.facet.Facet.{Facet}
use Rattle.node_constraint.specs.declared.facet.Facet.TheVariants as Facets
use Rattle.node_constraint.specs.declared.Kind4.{Kind4}
use Rattle.node_constraint.specs.declared.Kind4.TheVariants as Kinds

decide_true : (b : Bool) → Decided (IsTrue b)
decide_true true = inl refl
decide_true false = inr (λ h. true≢false (sym h))

decide_kind : (kind : Option Kind4) (term : Term) → Decided (IsOfKindIfAny kind term)
decide_kind None term = inl tt
decide_kind (Some Kinds.Iri) (Terms.Iri iri) = inl tt
decide_kind (Some Kinds.Iri) (Terms.Blank name) = inr (λ h. h)
decide_kind (Some Kinds.Iri) (Terms.Lit literal) = inr (λ h. h)
decide_kind (Some Kinds.Bnode) (Terms.Iri iri) = inr (λ h. h)
decide_kind (Some Kinds.Bnode) (Terms.Blank name) = inl tt
decide_kind (Some Kinds.Bnode) (Terms.Lit literal) = inr (λ h. h)
decide_kind (Some Kinds.NonLiteral) (Terms.Iri iri) = inl tt
decide_kind (Some Kinds.NonLiteral) (Terms.Blank name) = inl tt
decide_kind (Some Kinds.NonLiteral) (Terms.Lit literal) = inr (λ h. h)
decide_kind (Some Kinds.Literal) (Terms.Iri iri) = inr (λ h. h)
decide_kind (Some Kinds.Literal) (Terms.Blank name) = inr (λ h. h)
decide_kind (Some Kinds.Literal) (Terms.Lit literal) = inl tt

decide_datatype : (datatype : Option (List ℕ)) (term : Term) → Decided (IsOfDatatypeIfAny datatype term)
decide_datatype None term = inl tt
decide_datatype (Some datatype) (Terms.Iri iri) = inr (λ h. h)
decide_datatype (Some datatype) (Terms.Blank name) = inr (λ h. h)
decide_datatype (Some datatype) (Terms.Lit literal) =
    decide_both (decide_text literal.datatype datatype) (decide_true (is_valid datatype literal.lex))

decide_values : (values : Option ValueList) (term : Term) → Decided (HasValueIfAny values term)
decide_values None term = inl tt
decide_values (Some values) term = values_are_decided values term

-- some number below a bound
decide_below : (P : ℕ → Type 0) → ((k : ℕ) → Decided (P k)) → (n : ℕ) → Decided ((k : ℕ) × (k < n) × P k)
decide_below P d zero = inr (λ h. absurd (omega (arith, h.1)))
decide_below P d (suc n) = go (d n) (decide_below P d n)
  where
    last : (¬ P n) → (¬ ((k : ℕ) × (k < n) × P k)) → ¬ ((k : ℕ) × (k < suc n) × P k)
    last none more (k, within, p) = elim (cases_lt k n) [
      | inl lt ↦ more (k, lt, p)
      | inr le ↦ let same : k ≡ n = omega arith in none (subst P same p)
    ]

    go : Decided (P n) → Decided ((k : ℕ) × (k < n) × P k) → Decided ((k : ℕ) × (k < suc n) × P k)
    go (inl p) rest = inl (n, omega arith, p)
    go (inr none) (inl (k, within, p)) = inl (k, omega arith, p)
    go (inr none) (inr more) = inr (last none more)

-- an expression is found in a text or not
decide_found : (f : Flags) (text : List ℕ) (e : Regex) → Decided (IsFound f text e)
decide_found f text e =
    go (decide_below (λ j. (i : ℕ) × (i < suc j) × Holds f text e i j) (λ j. decide_below (λ i. Holds f text e i j) (λ i. decide f text e i j) (suc j)) (suc (length text)))
  where
    go : Decided ((j : ℕ) × (j < suc (length text)) × ((i : ℕ) × (i < suc j) × Holds f text e i j)) → Decided (IsFound f text e)
    go (inl (j, inside, (i, before, h))) = inl (i, j, omega arith, omega arith, h)
    go (inr none) = inr (λ (i, j, before, inside, h). none (j, omega arith, (i, omega arith, h)))

of_spelled : (pattern flags text : List ℕ) (e : Regex) → SpellsUnder flags e pattern → Decided (IsFound (flags_named flags) text e) → Decided (HasPattern pattern flags text)
of_spelled pattern flags text e spelled (inl found) = inl (e, spelled, found)
of_spelled pattern flags text e spelled (inr none) =
    inr (λ h. none (subst (λ d. IsFound (flags_named flags) text d) (one_under flags pattern h.0 e h.1 spelled) h.2))

pub decide_pattern : (pattern flags text : List ℕ) → Decided (HasPattern pattern flags text)
decide_pattern pattern flags text = go (decide_spelling flags pattern)
  where
    go : Decided (IsSpelledUnder flags pattern) → Decided (HasPattern pattern flags text)
    go (inl (e, spelled)) = of_spelled pattern flags text e spelled (decide_found (flags_named flags) text e)
    go (inr none) = inr (λ h. none (h.0, h.1))

decide_at_most : (a b : List ℕ) → Decided (IsAtMost a b)
decide_at_most a b = decide_either (order_is_decided a b).0 (order_is_decided a b).1

decide_below_value : (a b : List ℕ) → Decided (IsBelow a b)
decide_below_value a b = (order_is_decided a b).0

decide_le : (a b : ℕ) → Decided (a ≤ b)
decide_le a b = elim (cases_lt b a) [ inl lt ↦ inr (λ h. absurd (omega arith)) | inr le ↦ inl le ]

decide_facet : (facet : Facet) (text : List ℕ) (decimal : Option (List ℕ)) → Decided (SatFacet facet text decimal)
decide_facet (Facets.Length n) text decimal = cases_eq (length text) n
decide_facet (Facets.MinLength n) text decimal = decide_le n (length text)
decide_facet (Facets.MaxLength n) text decimal = decide_le (length text) n
decide_facet (Facets.MinInclusive bound) text decimal = decide_some_and decimal (λ d. IsAtMost (encode_utf8_all bound) d) (decide_at_most (encode_utf8_all bound))
decide_facet (Facets.MinExclusive bound) text decimal = decide_some_and decimal (λ d. IsBelow (encode_utf8_all bound) d) (decide_below_value (encode_utf8_all bound))
decide_facet (Facets.MaxInclusive bound) text decimal = decide_some_and decimal (λ d. IsAtMost d (encode_utf8_all bound)) (λ d. decide_at_most d (encode_utf8_all bound))
decide_facet (Facets.MaxExclusive bound) text decimal = decide_some_and decimal (λ d. IsBelow d (encode_utf8_all bound)) (λ d. decide_below_value d (encode_utf8_all bound))
decide_facet (Facets.TotalDigits n) text decimal = decide_some_and decimal (λ d. total_digit_count d ≤ n) (λ d. decide_le (total_digit_count d) n)
decide_facet (Facets.FractionDigits n) text decimal = decide_some_and decimal (λ d. fraction_digit_count d ≤ n) (λ d. decide_le (fraction_digit_count d) n)
decide_facet (Facets.Pattern pattern flags) text decimal = decide_pattern pattern flags text

pub decide_facets : (facets : List Facet) (text : List ℕ) (decimal : Option (List ℕ)) → Decided (AllByRecursion (λ facet. SatFacet facet text decimal) facets)
decide_facets [] text decimal = inl tt
decide_facets (facet ∷ facets) text decimal = decide_both (decide_facet facet text decimal) (decide_facets facets text decimal)

pub decide_nodes : NodesAreDecided
decide_nodes c term =
    go (decide_both (decide_kind c.kind term) (decide_both (decide_datatype c.datatype term)
    (decide_both (decide_facets c.facets (text_of term) (decimal_of term)) (decide_values c.values term))))
  where
    go : Decided (IsOfKindIfAny c.kind term × (IsOfDatatypeIfAny c.datatype term ×
        (AllByRecursion (λ facet. SatFacet facet (text_of term) (decimal_of term)) c.facets × HasValueIfAny c.values term))) → Decided (SatNode c term)
    go (inl p) = inl (record { kind = p.0; datatype = p.1.0; facets = p.1.1.0; values = p.1.1.1 })
    go (inr none) = inr (λ h. none (h.kind, (h.datatype, (h.facets, h.values))))
