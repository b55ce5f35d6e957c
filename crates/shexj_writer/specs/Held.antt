-- What the types of a program say of the parts of a document that it holds: texts are Unicode scalar values, numbers have 32 bits, and literals have a tag exactly where their datatype is rdf:langString.
use Rattle.std.specs.Prelude.{ℕ, ◌^◌, ◌<◌, ◌≡◌, true, List, [], ◌∷◌, IfSome, Option, Some, None, codes, ⊤}
use Rattle.std.specs.List.{AllByRecursion}
use Rattle.std.specs.Str.{all_scalars}
use Rattle.node_constraint.specs.Constraint.{Constraint}
use Rattle.node_constraint.specs.declared.facet.Facet.{Facet}
use Rattle.node_constraint.specs.declared.facet.Facet.TheVariants as Facets
use Rattle.rdf_terms.specs.Literals.{IsLiteral, LiteralParts}
use Rattle.rdf_terms.specs.declared.terms.Term.{Term}
use Rattle.rdf_terms.specs.declared.terms.Term.TheVariants as Terms
use Rattle.tally.specs.declared.Bound.{Bound}
use Rattle.tally.specs.declared.Bound.TheVariants.{Upto, Free}
use Rattle.value_sets.specs.declared.value.Except.{Except}
use Rattle.value_sets.specs.declared.value.Except.TheVariants.{Exact, Stem}
use Rattle.value_sets.specs.declared.value.Value.{Value}
use Rattle.value_sets.specs.declared.value.Value.TheVariants as Values
use Rattle.schema_documents.specs.Labels.{IsTextLabel}
use Rattle.schema_documents.specs.declared.label.Label.{Label}
use Rattle.schema_documents.specs.Tree.{Declaration, Document, MaybeShapeExpr, MaybeTripleExpr, ShapeExpr, ShapeExprs, TripleBody, TripleExpr, TripleExprs, arc, conj, disj, each, include, more_exprs, more_triples, neg, no_expr, no_exprs, no_triple, no_triples, node, one, one_expr, one_triple, refer, shape, triple}
use Rattle.shexj_writer.specs.Constraints.{facet_under}
use Rattle.shexj_writer.specs.Plain.{facet_keys}

-- a text, if there is one
abbrev pub IsText : List ℕ → Type 0
IsText t = all_scalars t ≡ true

abbrev pub IsTextIfAny : Option (List ℕ) → Type 0
IsTextIfAny None = ⊤
IsTextIfAny (Some t) = IsText t

abbrev pub AreTexts : List (List ℕ) → Type 0
AreTexts ts = AllByRecursion IsText ts

-- the label, if there is one
abbrev pub IsLabelIfAny : Option Label → Type 0
IsLabelIfAny None = ⊤
IsLabelIfAny (Some l) = IsTextLabel l

-- the bound, if there is one
abbrev pub IsBound : Bound → Type 0
IsBound (Upto n) = n < 2 ^ 32
IsBound Free = ⊤

-- the number or the texts of a facet; those of ranges are digits that are written anew
abbrev pub IsHeldFacet : Facet → Type 0
IsHeldFacet (Facets.Length n) = n < 2 ^ 32
IsHeldFacet (Facets.MinLength n) = n < 2 ^ 32
IsHeldFacet (Facets.MaxLength n) = n < 2 ^ 32
IsHeldFacet (Facets.TotalDigits n) = n < 2 ^ 32
IsHeldFacet (Facets.FractionDigits n) = n < 2 ^ 32
IsHeldFacet (Facets.Pattern pattern flags) = IsText pattern
IsHeldFacet facet = ⊤

-- the flags of a pattern, if it is one
abbrev pub HasTextFlags : Facet → Type 0
HasTextFlags (Facets.Pattern pattern flags) = IsText flags
HasTextFlags facet = ⊤

-- the first facet of each key
abbrev pub IsHeldUnder : List Facet → List ℕ → Type 0
IsHeldUnder facets key = IfSome (facet_under key facets) IsHeldFacet

abbrev pub AreHeldFacets : List Facet → Type 0
AreHeldFacets facets = AllByRecursion (IsHeldUnder facets) facet_keys

pub record IsHeldLiteral (l : LiteralParts) : Type 0 where
  pub lex : IsText l.lex
  pub datatype : IsText l.datatype
  pub lang : IsTextIfAny l.lang
  pub parts : IsLiteral l

abbrev pub IsHeldTerm : Term → Type 0
IsHeldTerm (Terms.Iri iri) = IsText iri
IsHeldTerm (Terms.Blank name) = ⊤
IsHeldTerm (Terms.Lit literal) = IsHeldLiteral literal

abbrev pub IsHeldExcept : Except → Type 0
IsHeldExcept (Exact exact) = IsText exact
IsHeldExcept (Stem stem) = IsText stem

abbrev pub IsHeldRange : Option (List ℕ) → List Except → Type 0
IsHeldRange stem es = IsTextIfAny stem × AllByRecursion IsHeldExcept es

abbrev pub IsHeldValue : Value → Type 0
IsHeldValue (Values.Term term) = IsHeldTerm term
IsHeldValue (Values.IriStem stem) = IsText stem
IsHeldValue (Values.LitStem stem) = IsText stem
IsHeldValue (Values.Lang tag) = IsText tag
IsHeldValue (Values.LangStem stem) = IsText stem
IsHeldValue (Values.IriRange stem es) = IsHeldRange stem es
IsHeldValue (Values.LitRange stem es) = IsHeldRange stem es
IsHeldValue (Values.LangRange stem es) = IsHeldRange stem es

abbrev pub AreHeldValues : List Value → Type 0
AreHeldValues vs = AllByRecursion IsHeldValue vs

abbrev pub AreHeldValuesIfAny : Option (List Value) → Type 0
AreHeldValuesIfAny None = ⊤
AreHeldValuesIfAny (Some vs) = AreHeldValues vs

pub record IsHeldConstraint (c : Constraint) : Type 0 where
  pub datatype : IsTextIfAny c.datatype
  pub facets : AreHeldFacets c.facets
  pub flags : IfSome (facet_under (codes "pattern") c.facets) HasTextFlags
  pub values : AreHeldValuesIfAny c.values

abbrev mutual
  pub IsHeldExpr : ShapeExpr → Type 0
  IsHeldExpr (conj es) = AreHeldExprs es
  IsHeldExpr (disj es) = AreHeldExprs es
  IsHeldExpr (neg e) = IsHeldExpr e
  IsHeldExpr (node c) = IsHeldConstraint c
  IsHeldExpr (shape closed extra t) = AreTexts extra × IsHeldExpression t
  IsHeldExpr (refer l) = IsTextLabel l

  pub AreHeldExprs : ShapeExprs → Type 0
  AreHeldExprs no_exprs = ⊤
  AreHeldExprs (more_exprs e es) = IsHeldExpr e × AreHeldExprs es

  pub IsHeldValueExpr : MaybeShapeExpr → Type 0
  IsHeldValueExpr no_expr = ⊤
  IsHeldValueExpr (one_expr e) = IsHeldExpr e

  pub IsHeldTriple : TripleExpr → Type 0
  IsHeldTriple (triple name low high b) = IsHeldBody b name low high

  -- an inclusion has no label and no cardinality that is written
  pub IsHeldBody : TripleBody → Option Label → ℕ → Bound → Type 0
  IsHeldBody (each ts) name low high = IsLabelIfAny name × ((low < 2 ^ 32) × (IsBound high × AreHeldTriples ts))
  IsHeldBody (one ts) name low high = IsLabelIfAny name × ((low < 2 ^ 32) × (IsBound high × AreHeldTriples ts))
  IsHeldBody (arc inverse predicate e) name low high = IsLabelIfAny name × ((low < 2 ^ 32) × (IsBound high × (IsText predicate × IsHeldValueExpr e)))
  IsHeldBody (include target) name low high = IsTextLabel target

  pub AreHeldTriples : TripleExprs → Type 0
  AreHeldTriples no_triples = ⊤
  AreHeldTriples (more_triples t ts) = IsHeldTriple t × AreHeldTriples ts

  pub IsHeldExpression : MaybeTripleExpr → Type 0
  IsHeldExpression no_triple = ⊤
  IsHeldExpression (one_triple t) = IsHeldTriple t

abbrev pub AreHeldDecls : List Declaration → Type 0
AreHeldDecls [] = ⊤
AreHeldDecls (decl ∷ decls) = (IsTextLabel decl.label × IsHeldExpr decl.expr) × AreHeldDecls decls

pub record IsHeldDocument (doc : Document) : Type 0 where
  pub imports : AreTexts doc.imports
  pub start : IsHeldValueExpr doc.start
  pub decls : AreHeldDecls doc.decls
