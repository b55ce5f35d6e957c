-- Documents for which ShExJ has a form, as it has for each that bytes in ShExJ spell (ShEx 2.1, appendix A).
use Rattle.std.specs.Prelude.{ℕ, ◌≤◌, ◌≡◌, ◌≢◌, nat_eq, true, false, List, [], ◌∷◌, length, Option, Some, None, codes, ⊤}
use Rattle.std.specs.List.{AllByRecursion, starts_with}
use Rattle.node_constraint.specs.Constraint.{Constraint}
use Rattle.node_constraint.specs.Making.{IsSound}
use Rattle.node_constraint.specs.declared.facet.Facet.{Facet}
use Rattle.rdf_terms.specs.Literals.{is_lowered}
use Rattle.rdf_terms.specs.declared.terms.Term.{Term}
use Rattle.rdf_terms.specs.declared.terms.Term.TheVariants as Terms
use Rattle.tally.specs.Span.{IsOrdered}
use Rattle.tally.specs.declared.Bound.{Bound}
use Rattle.tally.specs.declared.Bound.TheVariants.{Upto}
use Rattle.value_sets.specs.declared.value.Except.{Except}
use Rattle.value_sets.specs.declared.value.Except.TheVariants.{Exact, Stem}
use Rattle.value_sets.specs.declared.value.Value.{Value}
use Rattle.value_sets.specs.declared.value.Value.TheVariants as Values
use Rattle.schema_documents.specs.declared.label.Label.{Label}
use Rattle.schema_documents.specs.declared.label.Label.TheVariants as Labels
use Rattle.schema_documents.specs.Tree.{Declaration, Document, MaybeShapeExpr, MaybeTripleExpr, ShapeExpr, ShapeExprs, TripleBody, TripleExpr, TripleExprs, arc, conj, disj, each, include, more_exprs, more_triples, neg, no_expr, no_exprs, no_triple, no_triples, node, one, one_expr, one_triple, refer, shape, triple}
use Rattle.shexj_reader.specs.Keys.{word}
use Rattle.shexj_reader.specs.Values.{IsOfLiteral}
use Rattle.shexj_writer.specs.Plain.{all_under, facet_keys}
use Rattle.shexj_writer.specs.Values.{datatype_data}

-- an IRI is no blank label
abbrev pub IsLabel : Label → Type 0
IsLabel (Labels.Iri iri) = starts_with nat_eq iri (codes "_:") ≡ false
IsLabel (Labels.Blank name) = ⊤

abbrev pub IsLabelIfAny : Option Label → Type 0
IsLabelIfAny None = ⊤
IsLabelIfAny (Some l) = IsLabel l

-- a tag or the stem of tags is in lower case
abbrev pub IsTag : List ℕ → Type 0
IsTag tag = is_lowered tag ≡ true

abbrev pub IsExceptTag : Except → Type 0
IsExceptTag (Exact exact) = IsTag exact
IsExceptTag (Stem stem) = IsTag stem

abbrev pub IsTagIfAny : Option (List ℕ) → Type 0
IsTagIfAny None = ⊤
IsTagIfAny (Some tag) = IsTag tag

-- the wildcard has exclusions
abbrev pub IsLimited : Option (List ℕ) → List Except → Type 0
IsLimited stem es = stem ≡ None → es ≢ []

-- no blank node, and no literal whose datatype, where it is written, is the type of another value
abbrev pub IsExpressibleTerm : Term → Type 0
IsExpressibleTerm (Terms.Iri iri) = ⊤
IsExpressibleTerm (Terms.Blank name) = ⊥
IsExpressibleTerm (Terms.Lit literal) = IsOfLiteral (word (datatype_data literal.lang literal.datatype))

abbrev pub IsExpressibleValue : Value → Type 0
IsExpressibleValue (Values.Term term) = IsExpressibleTerm term
IsExpressibleValue (Values.IriStem stem) = ⊤
IsExpressibleValue (Values.LitStem stem) = ⊤
IsExpressibleValue (Values.Lang tag) = IsTag tag
IsExpressibleValue (Values.LangStem stem) = IsTag stem
IsExpressibleValue (Values.IriRange stem es) = IsLimited stem es
IsExpressibleValue (Values.LitRange stem es) = IsLimited stem es
IsExpressibleValue (Values.LangRange stem es) = IsTagIfAny stem × (AllByRecursion IsExceptTag es × IsLimited stem es)

abbrev pub AreExpressibleValues : Option (List Value) → Type 0
AreExpressibleValues None = ⊤
AreExpressibleValues (Some vs) = AllByRecursion IsExpressibleValue vs

-- no key has two facets
abbrev pub AreOnce : List Facet → Type 0
AreOnce facets = AllByRecursion (λ key. length (all_under key facets) ≤ 1) facet_keys

-- a constraint that can be made, no facet twice
pub record IsExpressibleConstraint (c : Constraint) : Type 0 where
  pub sound : IsSound c.datatype c.facets
  pub once : AreOnce c.facets
  pub values : AreExpressibleValues c.values

abbrev mutual
  -- joins and groups have members
  pub IsExpressible : ShapeExpr → Type 0
  IsExpressible (conj es) = (es ≢ no_exprs) × AreExpressible es
  IsExpressible (disj es) = (es ≢ no_exprs) × AreExpressible es
  IsExpressible (neg e) = IsExpressible e
  IsExpressible (node c) = IsExpressibleConstraint c
  IsExpressible (shape closed extra t) = IsExpressibleExpression t
  IsExpressible (refer l) = IsLabel l

  pub AreExpressible : ShapeExprs → Type 0
  AreExpressible no_exprs = ⊤
  AreExpressible (more_exprs e es) = IsExpressible e × AreExpressible es

  pub IsExpressibleValueExpr : MaybeShapeExpr → Type 0
  IsExpressibleValueExpr no_expr = ⊤
  IsExpressibleValueExpr (one_expr e) = IsExpressible e

  pub IsExpressibleTriple : TripleExpr → Type 0
  IsExpressibleTriple (triple name low high b) = IsLabelIfAny name × (IsOrdered low high × IsExpressibleBody b name low high)

  -- an inclusion has no label and no cardinality of its own
  pub IsExpressibleBody : TripleBody → Option Label → ℕ → Bound → Type 0
  IsExpressibleBody (each ts) name low high = (ts ≢ no_triples) × AreExpressibleTriples ts
  IsExpressibleBody (one ts) name low high = (ts ≢ no_triples) × AreExpressibleTriples ts
  IsExpressibleBody (arc inverse predicate e) name low high = IsExpressibleValueExpr e
  IsExpressibleBody (include target) name low high = IsLabel target × ((name ≡ None) × ((low ≡ 1) × (high ≡ Upto 1)))

  pub AreExpressibleTriples : TripleExprs → Type 0
  AreExpressibleTriples no_triples = ⊤
  AreExpressibleTriples (more_triples t ts) = IsExpressibleTriple t × AreExpressibleTriples ts

  pub IsExpressibleExpression : MaybeTripleExpr → Type 0
  IsExpressibleExpression no_triple = ⊤
  IsExpressibleExpression (one_triple t) = IsExpressibleTriple t

abbrev pub AreExpressibleDecls : List Declaration → Type 0
AreExpressibleDecls [] = ⊤
AreExpressibleDecls (decl ∷ decls) = (IsLabel decl.label × IsExpressible decl.expr) × AreExpressibleDecls decls

pub record IsExpressibleDocument (doc : Document) : Type 0 where
  pub start : IsExpressibleValueExpr doc.start
  pub decls : AreExpressibleDecls doc.decls
