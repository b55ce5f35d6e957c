-- What is written has no floating-point number.
use Rattle.std.proofs.Common.{◌≡◌, refl, ℕ, Bool, true, false, List, [], ◌∷◌, encode_utf8_all}
use Rattle.std.specs.Prelude.{◌||◌, ℤ, pos, negsuc, Option, Some, None, codes, if◌then◌else◌, option_map, option_and_then}
use Rattle.std.specs.Str.{bytes_eq}
use Rattle.serde_json.specs.Data.{Data, number, string, Items, no_items, item, unsigned}
use Rattle.serde_json.specs.Find.{is_float, of_integer}
use Rattle.serde_json.specs.Written.{has_float, items_have_float}
use Rattle.rdf_terms.specs.Vocabulary.{xsd_string}
use Rattle.rdf_terms.specs.declared.terms.Term.{Term}
use Rattle.rdf_terms.specs.declared.terms.Term.TheVariants as Terms
use Rattle.node_constraint.specs.Constraint.{Constraint}
use Rattle.node_constraint.specs.declared.facet.Facet.{Facet}
use Rattle.node_constraint.specs.declared.facet.Facet.TheVariants as Facets
use Rattle.node_constraint.specs.declared.Kind4.{Kind4}
use Rattle.tally.specs.Plan.{is_once}
use Rattle.tally.specs.declared.Bound.{Bound}
use Rattle.tally.specs.declared.Bound.TheVariants.{Upto, Free}
use Rattle.value_sets.specs.declared.value.Except.{Except}
use Rattle.value_sets.specs.declared.value.Except.TheVariants.{Exact, Stem}
use Rattle.value_sets.specs.declared.value.Value.{Value}
use Rattle.value_sets.specs.declared.value.Value.TheVariants as Values
use Rattle.schema_documents.specs.declared.label.Label.{Label}
use Rattle.schema_documents.specs.declared.label.Label.TheVariants as Labels
use Rattle.schema_documents.specs.Tree.{Declaration, Document, MaybeShapeExpr, MaybeTripleExpr, ShapeExpr, ShapeExprs, TripleBody, TripleExpr, TripleExprs, arc, conj, disj, each, include, more_exprs, more_triples, neg, no_expr, no_exprs, no_triple, no_triples, node, one, one_expr, one_triple, refer, shape, triple}
use Rattle.shexj_reader.specs.Constraints.{kind_word}
use Rattle.shexj_writer.specs.Constraints.{bytes_if_some, constraint_data, constraint_fields, facet_data, facet_under, flags_data, number_or_null, under}
use Rattle.shexj_writer.specs.Documents.{declared_data, decls_items, document_data, schema_fields, shape_decl_fields}
use Rattle.shexj_writer.specs.Expressions.{arc_fields, body_data, expr_data, expression_data, exprs_items, group_data, group_fields, join_fields, not_fields, shape_fields, triple_data, triples_items, value_expr_data}
use Rattle.shexj_writer.specs.Numbers.{is_whole, whole_number, whole_value}
use Rattle.shexj_writer.specs.Objects.{list_if_any}
use Rattle.shexj_writer.specs.Texts.{bound_data, flag_data, label_data, text_data, texts_items}
use Rattle.shexj_writer.specs.Values.{datatype_data, exclusion_data, exclusions_items, literal_fields, range_data, range_fields, range_stem_data, stem_data, stem_fields, term_data, value_data, value_set_data, values_items}
use Rattle.shexj_reader.specs.declared.stems.StemKind.{StemKind}
use Rattle.shexj_reader.specs.declared.stems.StemKind.TheVariants as Kinds
use Rattle.shexj_writer.proofs.Fields.{IsExact, object_exact}

neither_is : (a b : Bool) → a ≡ false → b ≡ false → (a || b) ≡ false
neither_is true b p q = p
neither_is false b p q = q

-- ---- texts and numbers

texts_exact : (ts : List (List ℕ)) → items_have_float (texts_items ts) ≡ false
texts_exact [] = refl
texts_exact (t ∷ ts) = texts_exact ts

list_exact : (ds : Items) → items_have_float ds ≡ false → IsExact (list_if_any ds)
list_exact no_items h = tt
list_exact (item d ds) h = h

flag_exact : (b : Bool) → IsExact (flag_data b)
flag_exact true = refl
flag_exact false = tt

label_exact : (l : Label) → has_float (label_data l) ≡ false
label_exact (Labels.Iri iri) = refl
label_exact (Labels.Blank name) = refl

label_if_exact : (o : Option Label) → IsExact (option_map label_data o)
label_if_exact None = tt
label_if_exact (Some l) = label_exact l

text_if_exact : (o : Option (List ℕ)) → IsExact (option_map text_data o)
text_if_exact None = tt
text_if_exact (Some t) = refl

bound_exact : (high : Bound) → has_float (bound_data high) ≡ false
bound_exact (Upto n) = refl
bound_exact Free = refl

min_at : (b : Bool) (low : ℕ) → IsExact (if b then None else Some (number (unsigned low)))
min_at true low = tt
min_at false low = refl

max_at : (b : Bool) (high : Bound) → IsExact (if b then None else Some (bound_data high))
max_at true high = tt
max_at false high = bound_exact high

-- ---- value sets

datatype_at : (b : Bool) (datatype : List ℕ) → IsExact (if b then None else Some (text_data datatype))
datatype_at true datatype = tt
datatype_at false datatype = refl

datatype_exact : (lang : Option (List ℕ)) (datatype : List ℕ) → IsExact (datatype_data lang datatype)
datatype_exact None datatype = datatype_at (bytes_eq (encode_utf8_all datatype) xsd_string) datatype
datatype_exact (Some tag) datatype = tt

term_exact : (t : Term) → has_float (term_data t) ≡ false
term_exact (Terms.Iri iri) = refl
term_exact (Terms.Blank name) = refl
term_exact (Terms.Lit l) = object_exact (literal_fields l) (text_if_exact l.lang, (datatype_exact l.lang l.datatype, (refl, tt)))

stem_exact : (kind : StemKind) (stem : List ℕ) → has_float (stem_data kind stem) ≡ false
stem_exact kind stem = object_exact (stem_fields kind stem) (refl, (refl, tt))

exclusion_exact : (kind : StemKind) (e : Except) → has_float (exclusion_data kind e) ≡ false
exclusion_exact kind (Exact t) = refl
exclusion_exact kind (Stem t) = stem_exact kind t

exclusions_exact : (kind : StemKind) (es : List Except) → items_have_float (exclusions_items kind es) ≡ false
exclusions_exact kind [] = refl
exclusions_exact kind (e ∷ es) = neither_is _ _ (exclusion_exact kind e) (exclusions_exact kind es)

range_stem_exact : (stem : Option (List ℕ)) → has_float (range_stem_data stem) ≡ false
range_stem_exact None = refl
range_stem_exact (Some t) = refl

range_exact : (kind : StemKind) (stem : Option (List ℕ)) (es : List Except) → has_float (range_data kind stem es) ≡ false
range_exact kind stem es = object_exact (range_fields kind stem es) (list_exact (exclusions_items kind es) (exclusions_exact kind es), (range_stem_exact stem, (refl, tt)))

value_exact : (v : Value) → has_float (value_data v) ≡ false
value_exact (Values.Term t) = term_exact t
value_exact (Values.IriStem stem) = stem_exact Kinds.Iri stem
value_exact (Values.LitStem stem) = stem_exact Kinds.Literal stem
value_exact (Values.Lang tag) = refl
value_exact (Values.LangStem stem) = stem_exact Kinds.Language stem
value_exact (Values.IriRange stem es) = range_exact Kinds.Iri stem es
value_exact (Values.LitRange stem es) = range_exact Kinds.Literal stem es
value_exact (Values.LangRange stem es) = range_exact Kinds.Language stem es

values_exact : (vs : List Value) → items_have_float (values_items vs) ≡ false
values_exact [] = refl
values_exact (v ∷ vs) = neither_is _ _ (value_exact v) (values_exact vs)

value_set_exact : (o : Option (List Value)) → IsExact (option_map value_set_data o)
value_set_exact None = tt
value_set_exact (Some vs) = values_exact vs

-- ---- node constraints

integer_exact : (z : ℤ) → is_float (of_integer z) ≡ false
integer_exact (pos n) = refl
integer_exact (negsuc n) = refl

range_at : (b : Bool) (z : ℤ) → has_float (number_or_null (if b then Some (of_integer z) else None)) ≡ false
range_at true z = integer_exact z
range_at false z = refl

range_number_exact : (t : List ℕ) → has_float (number_or_null (whole_number (encode_utf8_all t))) ≡ false
range_number_exact t = range_at (is_whole (encode_utf8_all t)) (whole_value (encode_utf8_all t))

facet_exact : (o : Option Facet) → IsExact (option_map facet_data o)
facet_exact None = tt
facet_exact (Some (Facets.Length n)) = refl
facet_exact (Some (Facets.MinLength n)) = refl
facet_exact (Some (Facets.MaxLength n)) = refl
facet_exact (Some (Facets.MinInclusive t)) = range_number_exact t
facet_exact (Some (Facets.MinExclusive t)) = range_number_exact t
facet_exact (Some (Facets.MaxInclusive t)) = range_number_exact t
facet_exact (Some (Facets.MaxExclusive t)) = range_number_exact t
facet_exact (Some (Facets.TotalDigits n)) = refl
facet_exact (Some (Facets.FractionDigits n)) = refl
facet_exact (Some (Facets.Pattern pattern flags)) = refl

bytes_exact : (bs : List ℕ) → IsExact (bytes_if_some bs)
bytes_exact [] = tt
bytes_exact (b ∷ bs) = refl

flags_exact : (o : Option Facet) → IsExact (option_and_then flags_data o)
flags_exact None = tt
flags_exact (Some (Facets.Pattern pattern flags)) = bytes_exact (encode_utf8_all flags)
flags_exact (Some facet) = tt

kind_exact : (o : Option Kind4) → IsExact (option_map (λ kind. string (kind_word kind)) o)
kind_exact None = tt
kind_exact (Some kind) = refl

constraint_exact : (id : Option Data) (c : Constraint) → IsExact id → has_float (constraint_data id c) ≡ false
unfolding constraint_data
constraint_exact id c own =
    let at : (key : List ℕ) → IsExact (under key c.facets) = λ key. facet_exact (facet_under key c.facets) in
    object_exact (constraint_fields id c) (
      text_if_exact c.datatype,
      (
        flags_exact (facet_under (codes "pattern") c.facets),
        (
          at (codes "fractiondigits"),
          (
            own,
            (
              at (codes "length"),
              (
                at (codes "maxexclusive"),
                (
                  at (codes "maxinclusive"),
                  (
                    at (codes "maxlength"),
                    (
                      at (codes "minexclusive"),
                      (
                        at (codes "mininclusive"),
                        (
                          at (codes "minlength"),
                          (kind_exact c.kind, (at (codes "pattern"), (at (codes "totaldigits"), (refl, (value_set_exact c.values, tt))))),
                        ),
                      ),
                    ),
                  ),
                ),
              ),
            ),
          ),
        ),
      ),
    )

-- ---- expressions

group_exact : (type : List ℕ) (ds : Items) (name : Option Label) (low : ℕ) (high : Bound) → items_have_float ds ≡ false → has_float (group_data type ds name low high) ≡ false
group_exact type ds name low high h = object_exact (group_fields type ds name low high) (h, (label_if_exact name, (max_at (is_once low high) high, (min_at (is_once low high) low, (refl, tt)))))

mutual
  expr_exact : (id : Option Data) (e : ShapeExpr) → IsExact id → has_float (expr_data id e) ≡ false
  expr_exact id (conj es) own = object_exact (join_fields id (codes "ShapeAnd") (exprs_items es)) (own, (exprs_exact es, (refl, tt)))
  expr_exact id (disj es) own = object_exact (join_fields id (codes "ShapeOr") (exprs_items es)) (own, (exprs_exact es, (refl, tt)))
  expr_exact id (neg e) own = object_exact (not_fields id (expr_data None e)) (own, (expr_exact None e tt, (refl, tt)))
  expr_exact id (node c) own = constraint_exact id c own
  expr_exact id (shape closed extra t) own = object_exact (shape_fields id closed (texts_items extra) (expression_data t))
      (flag_exact closed, (expression_exact t, (list_exact (texts_items extra) (texts_exact extra), (own, (refl, tt)))))
  expr_exact id (refer l) own = label_exact l

  exprs_exact : (es : ShapeExprs) → items_have_float (exprs_items es) ≡ false
  exprs_exact no_exprs = refl
  exprs_exact (more_exprs e es) = neither_is _ _ (expr_exact None e tt) (exprs_exact es)

  value_expr_exact : (e : MaybeShapeExpr) → IsExact (value_expr_data e)
  value_expr_exact no_expr = tt
  value_expr_exact (one_expr e) = expr_exact None e tt

  triple_exact : (t : TripleExpr) → has_float (triple_data t) ≡ false
  triple_exact (triple name low high b) = body_exact b name low high

  body_exact : (b : TripleBody) (name : Option Label) (low : ℕ) (high : Bound) → has_float (body_data b name low high) ≡ false
  body_exact (each ts) name low high = group_exact (codes "EachOf") (triples_items ts) name low high (triples_exact ts)
  body_exact (one ts) name low high = group_exact (codes "OneOf") (triples_items ts) name low high (triples_exact ts)
  body_exact (arc inverse predicate e) name low high = object_exact (arc_fields inverse predicate (value_expr_data e) name low high)
      (label_if_exact name, (flag_exact inverse, (max_at (is_once low high) high, (min_at (is_once low high) low, (refl, (refl, (value_expr_exact e, tt)))))))
  body_exact (include target) name low high = label_exact target

  triples_exact : (ts : TripleExprs) → items_have_float (triples_items ts) ≡ false
  triples_exact no_triples = refl
  triples_exact (more_triples t ts) = neither_is _ _ (triple_exact t) (triples_exact ts)

  expression_exact : (t : MaybeTripleExpr) → IsExact (expression_data t)
  expression_exact no_triple = tt
  expression_exact (one_triple t) = triple_exact t

-- ---- documents

declared_exact : (l : Label) (e : ShapeExpr) → has_float (declared_data l e) ≡ false
declared_exact l (conj es) = expr_exact (Some (label_data l)) (conj es) (label_exact l)
declared_exact l (disj es) = expr_exact (Some (label_data l)) (disj es) (label_exact l)
declared_exact l (neg e) = expr_exact (Some (label_data l)) (neg e) (label_exact l)
declared_exact l (node c) = expr_exact (Some (label_data l)) (node c) (label_exact l)
declared_exact l (shape closed extra t) = expr_exact (Some (label_data l)) (shape closed extra t) (label_exact l)
declared_exact l (refer target) = object_exact (shape_decl_fields (label_data l) (label_data target)) (label_exact l, (label_exact target, (refl, tt)))

decls_exact : (decls : List Declaration) → items_have_float (decls_items decls) ≡ false
decls_exact [] = refl
decls_exact (decl ∷ decls) = neither_is _ _ (declared_exact decl.label decl.expr) (decls_exact decls)

pub document_exact : (doc : Document) → has_float (document_data doc) ≡ false
unfolding document_data
document_exact doc = object_exact (schema_fields doc)
    (refl, (list_exact (texts_items doc.imports) (texts_exact doc.imports), (list_exact (decls_items doc.decls) (decls_exact doc.decls), (value_expr_exact doc.start, (refl, tt)))))
