-- The JSON value of a document that a program holds is read back from its compact text.
use Rattle.std.proofs.Common.{◌≡◌, refl, ℕ, ◌<◌, ◌≤◌, ◌^◌, arith, Bool, true, false, List, [], ◌∷◌, encode_utf8_all, inl, inr}
use Rattle.std.proofs.lemmas.Bool.{cases_lt}
use Rattle.std.proofs.lemmas.Bool.Decides.{nat_tests}
use Rattle.std.proofs.lemmas.Str.{IsUtf8-append}
use Rattle.std.specs.Prelude.{◌&&◌, ℤ, pos, negsuc, IfSome, Option, Some, None, codes, if◌then◌else◌, option_map, option_and_then}
use Rattle.std.specs.Str.{IsUtf8, bytes_eq}
use Rattle.json.proofs.Printed.Utf8.{IsUtf8-are_ascii}
use Rattle.serde_json.specs.Data.{Data, depth, number, string, Items, no_items, item, unsigned}
use Rattle.serde_json.specs.Find.{of_integer}
use Rattle.serde_json.specs.Read.{max_depth}
use Rattle.serde_json.specs.Written.{compact_text}
use Rattle.rdf_terms.specs.Vocabulary.{xsd_string}
use Rattle.rdf_terms.specs.declared.terms.Term.{Term}
use Rattle.rdf_terms.specs.declared.terms.Term.TheVariants as Terms
use Rattle.node_constraint.specs.Constraint.{Constraint}
use Rattle.node_constraint.specs.declared.facet.Facet.{Facet}
use Rattle.node_constraint.specs.declared.facet.Facet.TheVariants as Facets
use Rattle.node_constraint.specs.declared.Kind4.{Kind4}
use Rattle.node_constraint.specs.declared.Kind4.TheVariants as Kind4s
use Rattle.tally.specs.Plan.{is_once}
use Rattle.tally.specs.declared.Bound.{Bound}
use Rattle.tally.specs.declared.Bound.TheVariants.{Upto, Free}
use Rattle.value_sets.specs.declared.value.Except.{Except}
use Rattle.value_sets.specs.declared.value.Except.TheVariants.{Exact, Stem}
use Rattle.value_sets.specs.declared.value.Value.{Value}
use Rattle.value_sets.specs.declared.value.Value.TheVariants as Values
use Rattle.std.specs.List.{AllByRecursion}
use Rattle.xs_text.specs.Decimal.{fraction_part, is_decimal}
use Rattle.schema_documents.specs.Labels.{IsTextLabel}
use Rattle.schema_documents.specs.declared.label.Label.{Label}
use Rattle.schema_documents.specs.declared.label.Label.TheVariants as Labels
use Rattle.schema_documents.specs.Tree.{Declaration, Document, MaybeShapeExpr, MaybeTripleExpr, ShapeExpr, ShapeExprs, TripleBody, TripleExpr, TripleExprs, arc, conj, disj, each, include, more_exprs, more_triples, neg, no_expr, no_exprs, no_triple, no_triples, node, one, one_expr, one_triple, refer, shape, triple}
use Rattle.shexj_reader.specs.Constraints.{kind_word}
use Rattle.shexj_reader.specs.Nesting.{document_nesting, max_nesting}
use Rattle.shexj_writer.specs.Constraints.{bytes_if_some, constraint_data, constraint_fields, facet_data, facet_under, flags_data, number_or_null}
use Rattle.shexj_writer.specs.Documents.{declared_data, decls_items, document_data, schema_fields, shape_decl_fields}
use Rattle.shexj_writer.specs.Expressions.{arc_fields, body_data, expr_data, expression_data, exprs_items, group_data, group_fields, join_fields, not_fields, shape_fields, triple_data, triples_items, value_expr_data}
use Rattle.shexj_writer.specs.Held.{AreHeldDecls, AreHeldExprs, AreHeldFacets, AreHeldTriples, AreHeldValues, AreHeldValuesIfAny, AreTexts, HasTextFlags, IsBound, IsHeldBody, IsHeldConstraint, IsHeldDocument, IsHeldExcept, IsHeldExpr, IsHeldExpression, IsHeldFacet, IsHeldTerm, IsHeldTriple, IsHeldValue, IsHeldValueExpr, IsLabelIfAny, IsText, IsTextIfAny}
use Rattle.shexj_writer.specs.Laws.{WrittenAreRead}
use Rattle.shexj_writer.specs.Numbers.{are_zeros, is_in_range, is_whole, whole_number, whole_value}
use Rattle.shexj_writer.specs.Objects.{list_if_any}
use Rattle.shexj_writer.specs.Texts.{bound_data, flag_data, label_data, text_data, texts_items}
use Rattle.shexj_reader.specs.Values.{range_type, stem_type}
use Rattle.shexj_writer.specs.Values.{datatype_data, exclusion_data, exclusions_items, language_fields, literal_fields, range_data, range_fields, range_stem_data, stem_data, stem_fields, term_data, value_data, value_set_data, values_items, wildcard_fields}
use Rattle.shexj_reader.specs.declared.stems.StemKind.{StemKind}
use Rattle.shexj_reader.specs.declared.stems.StemKind.TheVariants as Kinds
use Rattle.shexj_writer.proofs.CompactBack.{AreWritable, IsWritable, IsWritableIfAny, compact_back, compact_utf8, object_writable}
use Rattle.shexj_writer.proofs.Fields.{both}
use Rattle.shexj_writer.proofs.ReadBack.{text_back}

-- ---- texts and numbers

text_utf8 : (t : List ℕ) → IsText t → IsUtf8 (encode_utf8_all t)
text_utf8 t h = (t, (h, refl))

texts_writable : (ts : List (List ℕ)) → AreTexts ts → AreWritable (texts_items ts)
texts_writable [] h = tt
texts_writable (t ∷ ts) h = (text_utf8 t h.0, texts_writable ts h.1)

list_writable : (ds : Items) → AreWritable ds → IsWritableIfAny (list_if_any ds)
list_writable no_items h = tt
list_writable (item d ds) h = h

flag_writable : (b : Bool) → IsWritableIfAny (flag_data b)
flag_writable true = tt
flag_writable false = tt

label_writable : (l : Label) → IsTextLabel l → IsWritable (label_data l)
label_writable (Labels.Iri iri) h = text_utf8 iri h
label_writable (Labels.Blank name) h = IsUtf8-append (codes "_:") (encode_utf8_all name) (IsUtf8-are_ascii (codes "_:") refl) (text_utf8 name h)

label_if_writable : (o : Option Label) → IsLabelIfAny o → IsWritableIfAny (option_map label_data o)
label_if_writable None h = tt
label_if_writable (Some l) h = label_writable l h

text_if_writable : (o : Option (List ℕ)) → IsTextIfAny o → IsWritableIfAny (option_map text_data o)
text_if_writable None h = tt
text_if_writable (Some t) h = text_utf8 t h

small_is : (n : ℕ) → n < 2 ^ 32 → n < 2 ^ 64
small_is n h = omega arith

bound_writable : (high : Bound) → IsBound high → IsWritable (bound_data high)
bound_writable (Upto n) h = small_is n h
bound_writable Free h = omega arith

min_at : (b : Bool) (low : ℕ) → low < 2 ^ 32 → IsWritableIfAny (if b then None else Some (number (unsigned low)))
min_at true low h = tt
min_at false low h = small_is low h

max_at : (b : Bool) (high : Bound) → IsBound high → IsWritableIfAny (if b then None else Some (bound_data high))
max_at true high h = tt
max_at false high h = bound_writable high h

-- ---- value sets

datatype_at : (b : Bool) (datatype : List ℕ) → IsText datatype → IsWritableIfAny (if b then None else Some (text_data datatype))
datatype_at true datatype h = tt
datatype_at false datatype h = text_utf8 datatype h

datatype_writable : (lang : Option (List ℕ)) (datatype : List ℕ) → IsText datatype → IsWritableIfAny (datatype_data lang datatype)
datatype_writable None datatype h = datatype_at (bytes_eq (encode_utf8_all datatype) xsd_string) datatype h
datatype_writable (Some tag) datatype h = tt

term_writable : (t : Term) → IsHeldTerm t → IsWritable (term_data t)
term_writable (Terms.Iri iri) h = text_utf8 iri h
term_writable (Terms.Blank name) h = tt
term_writable (Terms.Lit l) h = object_writable (literal_fields l) refl (text_if_writable l.lang h.lang, (datatype_writable l.lang l.datatype h.datatype, (text_utf8 l.lex h.lex, tt)))

stem_word : (kind : StemKind) → IsUtf8 (stem_type kind)
stem_word Kinds.Iri = IsUtf8-are_ascii (codes "IriStem") refl
stem_word Kinds.Literal = IsUtf8-are_ascii (codes "LiteralStem") refl
stem_word Kinds.Language = IsUtf8-are_ascii (codes "LanguageStem") refl

range_word : (kind : StemKind) → IsUtf8 (range_type kind)
range_word Kinds.Iri = IsUtf8-are_ascii (codes "IriStemRange") refl
range_word Kinds.Literal = IsUtf8-are_ascii (codes "LiteralStemRange") refl
range_word Kinds.Language = IsUtf8-are_ascii (codes "LanguageStemRange") refl

stem_writable : (kind : StemKind) (stem : List ℕ) → IsText stem → IsWritable (stem_data kind stem)
stem_writable kind stem h = object_writable (stem_fields kind stem) refl (text_utf8 stem h, (stem_word kind, tt))

exclusion_writable : (kind : StemKind) (e : Except) → IsHeldExcept e → IsWritable (exclusion_data kind e)
exclusion_writable kind (Exact t) h = text_utf8 t h
exclusion_writable kind (Stem t) h = stem_writable kind t h

exclusions_writable : (kind : StemKind) (es : List Except) → AllByRecursion IsHeldExcept es → AreWritable (exclusions_items kind es)
exclusions_writable kind [] h = tt
exclusions_writable kind (e ∷ es) h = (exclusion_writable kind e h.0, exclusions_writable kind es h.1)

range_stem_writable : (stem : Option (List ℕ)) → IsTextIfAny stem → IsWritable (range_stem_data stem)
range_stem_writable None h = object_writable wildcard_fields refl (IsUtf8-are_ascii (codes "Wildcard") refl, tt)
range_stem_writable (Some t) h = text_utf8 t h

range_writable : (kind : StemKind) (stem : Option (List ℕ)) (es : List Except) → IsTextIfAny stem → AllByRecursion IsHeldExcept es → IsWritable (range_data kind stem es)
range_writable kind stem es h k =
    object_writable (range_fields kind stem es) refl (list_writable (exclusions_items kind es) (exclusions_writable kind es k), (range_stem_writable stem h, (range_word kind, tt)))

value_writable : (v : Value) → IsHeldValue v → IsWritable (value_data v)
value_writable (Values.Term t) h = term_writable t h
value_writable (Values.IriStem stem) h = stem_writable Kinds.Iri stem h
value_writable (Values.LitStem stem) h = stem_writable Kinds.Literal stem h
value_writable (Values.Lang tag) h = object_writable (language_fields tag) refl (text_utf8 tag h, (IsUtf8-are_ascii (codes "Language") refl, tt))
value_writable (Values.LangStem stem) h = stem_writable Kinds.Language stem h
value_writable (Values.IriRange stem es) h = range_writable Kinds.Iri stem es h.0 h.1
value_writable (Values.LitRange stem es) h = range_writable Kinds.Literal stem es h.0 h.1
value_writable (Values.LangRange stem es) h = range_writable Kinds.Language stem es h.0 h.1

values_writable : (vs : List Value) → AreHeldValues vs → AreWritable (values_items vs)
values_writable [] h = tt
values_writable (v ∷ vs) h = (value_writable v h.0, values_writable vs h.1)

value_set_writable : (o : Option (List Value)) → AreHeldValuesIfAny o → IsWritableIfAny (option_map value_set_data o)
value_set_writable None h = tt
value_set_writable (Some vs) h = values_writable vs h

-- ---- node constraints

integer_writable : (z : ℤ) → is_in_range z ≡ true → IsWritable (number (of_integer z))
integer_writable (pos n) h = let small : n < 2 ^ 64 = grind (arith, nat_tests) in small
integer_writable (negsuc n) h = let small : n < 2 ^ 63 = grind (arith, nat_tests) in small

in_range : (text : List ℕ) → is_whole text ≡ true → is_in_range (whole_value text) ≡ true
unfolding is_whole
in_range text h = (both (are_zeros (fraction_part text)) (is_in_range (whole_value text)) (both (is_decimal text) (are_zeros (fraction_part text) && is_in_range (whole_value text)) h).1).1

range_at : (b : Bool) (z : ℤ) → (b ≡ true → is_in_range z ≡ true) → IsWritable (number_or_null (if b then Some (of_integer z) else None))
range_at true z h = integer_writable z (h refl)
range_at false z h = tt

range_number_writable : (t : List ℕ) → IsWritable (number_or_null (whole_number (encode_utf8_all t)))
range_number_writable t = range_at (is_whole (encode_utf8_all t)) (whole_value (encode_utf8_all t)) (in_range (encode_utf8_all t))

facet_writable : (o : Option Facet) → IfSome o IsHeldFacet → IsWritableIfAny (option_map facet_data o)
facet_writable None h = tt
facet_writable (Some (Facets.Length n)) h = small_is n h
facet_writable (Some (Facets.MinLength n)) h = small_is n h
facet_writable (Some (Facets.MaxLength n)) h = small_is n h
facet_writable (Some (Facets.MinInclusive t)) h = range_number_writable t
facet_writable (Some (Facets.MinExclusive t)) h = range_number_writable t
facet_writable (Some (Facets.MaxInclusive t)) h = range_number_writable t
facet_writable (Some (Facets.MaxExclusive t)) h = range_number_writable t
facet_writable (Some (Facets.TotalDigits n)) h = small_is n h
facet_writable (Some (Facets.FractionDigits n)) h = small_is n h
facet_writable (Some (Facets.Pattern pattern flags)) h = text_utf8 pattern h

bytes_writable : (bs : List ℕ) → IsUtf8 bs → IsWritableIfAny (bytes_if_some bs)
bytes_writable [] h = tt
bytes_writable (b ∷ bs) h = h

flags_writable : (o : Option Facet) → IfSome o HasTextFlags → IsWritableIfAny (option_and_then flags_data o)
flags_writable None h = tt
flags_writable (Some (Facets.Pattern pattern flags)) h = bytes_writable (encode_utf8_all flags) (text_utf8 flags h)
flags_writable (Some (Facets.Length n)) h = tt
flags_writable (Some (Facets.MinLength n)) h = tt
flags_writable (Some (Facets.MaxLength n)) h = tt
flags_writable (Some (Facets.MinInclusive t)) h = tt
flags_writable (Some (Facets.MinExclusive t)) h = tt
flags_writable (Some (Facets.MaxInclusive t)) h = tt
flags_writable (Some (Facets.MaxExclusive t)) h = tt
flags_writable (Some (Facets.TotalDigits n)) h = tt
flags_writable (Some (Facets.FractionDigits n)) h = tt

kind_writable : (o : Option Kind4) → IsWritableIfAny (option_map (λ kind. string (kind_word kind)) o)
kind_writable None = tt
kind_writable (Some Kind4s.Iri) = IsUtf8-are_ascii (codes "iri") refl
kind_writable (Some Kind4s.Bnode) = IsUtf8-are_ascii (codes "bnode") refl
kind_writable (Some Kind4s.NonLiteral) = IsUtf8-are_ascii (codes "nonliteral") refl
kind_writable (Some Kind4s.Literal) = IsUtf8-are_ascii (codes "literal") refl

constraint_writable : (id : Option Data) (c : Constraint) → IsHeldConstraint c → IsWritableIfAny id → IsWritable (constraint_data id c)
unfolding constraint_data
constraint_writable id c held own =
    let fs : AreHeldFacets c.facets = held.facets in
    let at : (key : List ℕ) → IfSome (facet_under key c.facets) IsHeldFacet → IsWritableIfAny (option_map facet_data (facet_under key c.facets)) =
    λ key h. facet_writable (facet_under key c.facets) h in
    object_writable (constraint_fields id c) refl (
      text_if_writable c.datatype held.datatype,
      (
        flags_writable (facet_under (codes "pattern") c.facets) held.flags,
        (
          at (codes "fractiondigits") fs.1.1.1.1.1.1.1.1.1.0,
          (
            own,
            (
              at (codes "length") fs.0,
              (
                at (codes "maxexclusive") fs.1.1.1.1.1.1.1.0,
                (
                  at (codes "maxinclusive") fs.1.1.1.1.1.1.0,
                  (
                    at (codes "maxlength") fs.1.1.0,
                    (
                      at (codes "minexclusive") fs.1.1.1.1.1.0,
                      (
                        at (codes "mininclusive") fs.1.1.1.1.0,
                        (
                          at (codes "minlength") fs.1.0,
                          (
                            kind_writable c.kind,
                            (
                              at (codes "pattern") fs.1.1.1.0,
                              (at (codes "totaldigits") fs.1.1.1.1.1.1.1.1.0, (IsUtf8-are_ascii (codes "NodeConstraint") refl, (value_set_writable c.values held.values, tt))),
                            ),
                          ),
                        ),
                      ),
                    ),
                  ),
                ),
              ),
            ),
          ),
        ),
      ),
    )

-- ---- expressions

group_writable : (type : List ℕ) (ds : Items) (name : Option Label) (low : ℕ) (high : Bound) → IsUtf8 type → AreWritable ds → IsLabelIfAny name → low < 2 ^ 32 →
    IsBound high → IsWritable (group_data type ds name low high)
group_writable type ds name low high word h l few bounded =
    object_writable (group_fields type ds name low high) refl (h, (label_if_writable name l, (max_at (is_once low high) high bounded, (min_at (is_once low high) low few, (word, tt)))))

mutual
  expr_writable : (id : Option Data) (e : ShapeExpr) → IsHeldExpr e → IsWritableIfAny id → IsWritable (expr_data id e)
  expr_writable id (conj es) h own = object_writable (join_fields id (codes "ShapeAnd") (exprs_items es)) refl (own, (exprs_writable es h, (IsUtf8-are_ascii (codes "ShapeAnd") refl, tt)))
  expr_writable id (disj es) h own = object_writable (join_fields id (codes "ShapeOr") (exprs_items es)) refl (own, (exprs_writable es h, (IsUtf8-are_ascii (codes "ShapeOr") refl, tt)))
  expr_writable id (neg e) h own = object_writable (not_fields id (expr_data None e)) refl (own, (expr_writable None e h tt, (IsUtf8-are_ascii (codes "ShapeNot") refl, tt)))
  expr_writable id (node c) h own = constraint_writable id c h own
  expr_writable id (shape closed extra t) h own = object_writable (shape_fields id closed (texts_items extra) (expression_data t)) refl
      (flag_writable closed, (expression_writable t h.1, (list_writable (texts_items extra) (texts_writable extra h.0), (own, (IsUtf8-are_ascii (codes "Shape") refl, tt)))))
  expr_writable id (refer l) h own = label_writable l h

  exprs_writable : (es : ShapeExprs) → AreHeldExprs es → AreWritable (exprs_items es)
  exprs_writable no_exprs h = tt
  exprs_writable (more_exprs e es) h = (expr_writable None e h.0 tt, exprs_writable es h.1)

  value_expr_writable : (e : MaybeShapeExpr) → IsHeldValueExpr e → IsWritableIfAny (value_expr_data e)
  value_expr_writable no_expr h = tt
  value_expr_writable (one_expr e) h = expr_writable None e h tt

  triple_writable : (t : TripleExpr) → IsHeldTriple t → IsWritable (triple_data t)
  triple_writable (triple name low high b) h = body_writable b name low high h

  body_writable : (b : TripleBody) (name : Option Label) (low : ℕ) (high : Bound) → IsHeldBody b name low high → IsWritable (body_data b name low high)
  body_writable (each ts) name low high h = group_writable (codes "EachOf") (triples_items ts) name low high (IsUtf8-are_ascii (codes "EachOf") refl) (triples_writable ts h.1.1.1) h.0 h.1.0 h.1.1.0
  body_writable (one ts) name low high h = group_writable (codes "OneOf") (triples_items ts) name low high (IsUtf8-are_ascii (codes "OneOf") refl) (triples_writable ts h.1.1.1) h.0 h.1.0 h.1.1.0
  body_writable (arc inverse predicate e) name low high h = object_writable (arc_fields inverse predicate (value_expr_data e) name low high) refl
      (label_if_writable name h.0, (flag_writable inverse, (max_at (is_once low high) high h.1.1.0, (min_at (is_once low high) low h.1.0, (text_utf8 predicate h.1.1.1.0, (IsUtf8-are_ascii (codes "TripleConstraint") refl, (value_expr_writable e h.1.1.1.1, tt)))))))
  body_writable (include target) name low high h = label_writable target h

  triples_writable : (ts : TripleExprs) → AreHeldTriples ts → AreWritable (triples_items ts)
  triples_writable no_triples h = tt
  triples_writable (more_triples t ts) h = (triple_writable t h.0, triples_writable ts h.1)

  expression_writable : (t : MaybeTripleExpr) → IsHeldExpression t → IsWritableIfAny (expression_data t)
  expression_writable no_triple h = tt
  expression_writable (one_triple t) h = triple_writable t h

-- ---- documents

declared_writable : (l : Label) (e : ShapeExpr) → IsTextLabel l → IsHeldExpr e → IsWritable (declared_data l e)
declared_writable l (conj es) text h = expr_writable (Some (label_data l)) (conj es) h (label_writable l text)
declared_writable l (disj es) text h = expr_writable (Some (label_data l)) (disj es) h (label_writable l text)
declared_writable l (neg e) text h = expr_writable (Some (label_data l)) (neg e) h (label_writable l text)
declared_writable l (node c) text h = expr_writable (Some (label_data l)) (node c) h (label_writable l text)
declared_writable l (shape closed extra t) text h = expr_writable (Some (label_data l)) (shape closed extra t) h (label_writable l text)
declared_writable l (refer target) text h =
    object_writable (shape_decl_fields (label_data l) (label_data target)) refl (label_writable l text, (label_writable target h, (IsUtf8-are_ascii (codes "ShapeDecl") refl, tt)))

decls_writable : (decls : List Declaration) → AreHeldDecls decls → AreWritable (decls_items decls)
decls_writable [] h = tt
decls_writable (decl ∷ decls) h = (declared_writable decl.label decl.expr h.0.0 h.0.1, decls_writable decls h.1)

document_writable : (doc : Document) → IsHeldDocument doc → IsWritable (document_data doc)
unfolding document_data
document_writable doc h = object_writable (schema_fields doc) refl (
  IsUtf8-are_ascii (codes "http://www.w3.org/ns/shex.jsonld") refl,
  (
    list_writable (texts_items doc.imports) (texts_writable doc.imports h.imports),
    (list_writable (decls_items doc.decls) (decls_writable doc.decls h.decls), (value_expr_writable doc.start h.start, (IsUtf8-are_ascii (codes "Schema") refl, tt))),
  ),
)

-- what is not too deep is not
at_most : (n m : ℕ) → (m < n → ⊥) → n ≤ m
at_most n m h = elim (cases_lt m n) [ inl above ↦ absurd (h above) | inr below ↦ below ]

pub written_read : WrittenAreRead
written_read doc held expressible whole shallow =
    let h = document_writable doc held in
    let nests : document_nesting doc ≤ max_nesting = at_most (document_nesting doc) max_nesting (λ above. shallow (record { whole = whole; nests = inl above })) in
    let flat : depth (document_data doc) ≤ max_depth = at_most (depth (document_data doc)) max_depth (λ above. shallow (record { whole = whole; nests = inr above })) in
    text_back doc (compact_text (document_data doc)) (compact_utf8 (document_data doc) h) (compact_back (document_data doc) h flat) nests held whole expressible
