-- Documents are read back from what is written of them.
use Rattle.std.proofs.Common.{◌≡◌, ◌≤◌, ◌∙◌, ap, refl, sym, subst, ℕ, suc, max, true, List, [], ◌∷◌, map, inl, inr}
use Rattle.std.specs.Prelude.{Option, Some, None, codes}
use Rattle.std.specs.Str.{IsUtf8}
use Rattle.serde_json.specs.Data.{Data, string}
use Rattle.serde_json.specs.Find.{get}
use Rattle.serde_json.specs.Read.{read}
use Rattle.schema_documents.specs.Labels.{IsTextLabel}
use Rattle.schema_documents.specs.declared.label.Label.{Label}
use Rattle.schema_documents.specs.Tree.{Declaration, Document, MaybeShapeExpr, MaybeTripleExpr, ShapeExpr, ShapeExprs, TripleBody, TripleExpr, TripleExprs, arc, conj, disj, each, include, more_exprs, more_triples, neg, no_expr, no_exprs, no_triple, no_triples, node, one, one_expr, one_triple, refer, shape, triple}
use Rattle.shexj_reader.specs.Bytes.{IsDocumentText}
use Rattle.shexj_reader.specs.Documents.{IsLabelled, IsShapeDecl, SpellsDeclaration, SpellsDeclarations, SpellsDocument, SpellsShapes}
use Rattle.shexj_reader.specs.Expressions.{SpellsValueExpr}
use Rattle.shexj_reader.specs.Keys.{flag, is_empty_list, texts, word}
use Rattle.shexj_reader.specs.Labels.{label}
use Rattle.shexj_reader.specs.Nesting.{body_nesting, decls_nesting, document_nesting, exprs_nesting, maybe_expr_nesting, maybe_triple_nesting, max_nesting, nesting, triple_nesting, triples_nesting}
use Rattle.shexj_reader.specs.Types.{decl_keys, schema_keys}
use Rattle.shexj_writer.specs.Constraints.{constraint_data, constraint_fields}
use Rattle.shexj_writer.specs.Documents.{declared_data, decls_items, document_data, schema_fields, shape_decl_data, shape_decl_fields}
use Rattle.shexj_writer.specs.Expressible.{AreExpressibleDecls, IsExpressible, IsExpressibleDocument, IsLabel}
use Rattle.shexj_writer.specs.Expressions.{expr_data, expression_data, exprs_items, join_fields, not_fields, shape_fields, value_expr_data}
use Rattle.shexj_writer.specs.Held.{AreHeldDecls, IsHeldDocument, IsHeldExpr}
use Rattle.shexj_writer.specs.Objects.{list_if_any}
use Rattle.shexj_writer.specs.Plain.{plain_body, plain_decl, plain_document, plain_expr, plain_expression, plain_exprs, plain_triple, plain_triples, plain_value}
use Rattle.shexj_writer.specs.Texts.{label_data, texts_data, texts_items}
use Rattle.shexj_writer.specs.Whole.{are_whole_decls, is_whole_document, is_whole_expr, is_whole_value}
use Rattle.shexj_writer.proofs.ExpressionsBack.{IsUnlabelled, expr_back, value_back}
use Rattle.shexj_writer.proofs.Fields.{both, field_is, only_listed}
use Rattle.shexj_writer.proofs.TextsBack.{label_back, texts_back}

-- ---- declarations

id_at : (id : Data) (e : ShapeExpr) → IsUnlabelled (Some id) e → get (codes "id") (expr_data (Some id) e) ≡ Some id
unfolding constraint_data
id_at id (conj es) own = field_is (codes "id") (join_fields (Some id) (codes "ShapeAnd") (exprs_items es)) refl
id_at id (disj es) own = field_is (codes "id") (join_fields (Some id) (codes "ShapeOr") (exprs_items es)) refl
id_at id (neg e) own = field_is (codes "id") (not_fields (Some id) (expr_data None e)) refl
id_at id (node c) own = field_is (codes "id") (constraint_fields (Some id) c) refl
id_at id (shape closed extra t) own = field_is (codes "id") (shape_fields (Some id) closed (texts_items extra) (expression_data t)) refl
id_at id (refer l) own = absurd (cc)

labelled_back : (l : Label) (e : ShapeExpr) → IsUnlabelled (Some (label_data l)) e → IsTextLabel l → IsLabel l → IsHeldExpr e → IsExpressible e →
    is_whole_expr e ≡ true → IsLabelled (record { label = l; expr = plain_expr e }) (expr_data (Some (label_data l)) e)
labelled_back l e own text named held is whole = record {
  has_label = ap (λ (o : Option Data). label o) (id_at (label_data l) e own) ∙ label_back l named text;
  has_expr = expr_back (Some (label_data l)) e own held is whole;
}

shape_decl_back : (l target : Label) → IsTextLabel l → IsLabel l → IsTextLabel target → IsLabel target →
    IsShapeDecl (record { label = l; expr = refer target }) (shape_decl_data (label_data l) (label_data target))
shape_decl_back l target text named held is =
    let fs = shape_decl_fields (label_data l) (label_data target) in
    let d = shape_decl_data (label_data l) (label_data target) in
    let has_type : get (codes "type") d ≡ Some (string (codes "ShapeDecl")) = field_is (codes "type") fs refl in
    let has_id : get (codes "id") d ≡ Some (label_data l) = field_is (codes "id") fs refl in
    let no_abstract : get (codes "abstract") d ≡ None = field_is (codes "abstract") fs refl in
    record {
      object = record { only = only_listed decl_keys fs refl; type = ap word has_type };
      has_label = ap (λ (o : Option Data). label o) has_id ∙ label_back l named text;
      has_expr = record { child = label_data target; found = field_is (codes "shapeExpr") fs refl; one = label_back target is held };
      concrete = ap flag no_abstract;
    }

declared_back : (l : Label) (e : ShapeExpr) → IsTextLabel l → IsLabel l → IsHeldExpr e → IsExpressible e → is_whole_expr e ≡ true →
    SpellsDeclaration (record { label = l; expr = plain_expr e }) (declared_data l e)
declared_back l (conj es) text named held is whole = inr (labelled_back l (conj es) tt text named held is whole)
declared_back l (disj es) text named held is whole = inr (labelled_back l (disj es) tt text named held is whole)
declared_back l (neg e) text named held is whole = inr (labelled_back l (neg e) tt text named held is whole)
declared_back l (node c) text named held is whole = inr (labelled_back l (node c) tt text named held is whole)
declared_back l (shape closed extra t) text named held is whole = inr (labelled_back l (shape closed extra t) tt text named held is whole)
declared_back l (refer target) text named held is whole = inl (shape_decl_back l target text named held is)

decls_back : (decls : List Declaration) → AreHeldDecls decls → AreExpressibleDecls decls → are_whole_decls decls ≡ true → SpellsDeclarations (map plain_decl decls) (decls_items decls)
decls_back [] held is whole = tt
decls_back (decl ∷ decls) held is whole =
    let parts = both (is_whole_expr decl.expr) (are_whole_decls decls) whole in
    (declared_back decl.label decl.expr held.0.0 is.0.0 held.0.1 is.0.1 parts.0, decls_back decls held.1 is.1 parts.1)

shapes_back : (decls : List Declaration) → AreHeldDecls decls → AreExpressibleDecls decls → are_whole_decls decls ≡ true → SpellsShapes (map plain_decl decls) (list_if_any (decls_items decls))
shapes_back [] held is whole = refl
shapes_back (decl ∷ decls) held is whole = decls_back (decl ∷ decls) held is whole

-- ---- documents

pub document_back : (doc : Document) → IsHeldDocument doc → IsExpressibleDocument doc → is_whole_document doc ≡ true → SpellsDocument (plain_document doc) (document_data doc)
unfolding document_data
document_back doc held is whole =
    let fs = schema_fields doc in
    let d = document_data doc in
    let parts = both (is_whole_value doc.start) (are_whole_decls doc.decls) whole in
    let has_type : get (codes "type") d ≡ Some (string (codes "Schema")) = field_is (codes "type") fs refl in
    let has_imports : get (codes "imports") d ≡ texts_data doc.imports = field_is (codes "imports") fs refl in
    let has_start : get (codes "start") d ≡ value_expr_data doc.start = field_is (codes "start") fs refl in
    let has_shapes : get (codes "shapes") d ≡ list_if_any (decls_items doc.decls) = field_is (codes "shapes") fs refl in
    let no_acts : get (codes "startActs") d ≡ None = field_is (codes "startActs") fs refl in
    record {
      object = record { only = only_listed schema_keys fs refl; type = ap word has_type };
      has_imports = ap texts has_imports ∙ texts_back doc.imports held.imports;
      acts = ap is_empty_list no_acts;
      has_start = subst (SpellsValueExpr (plain_value doc.start)) (sym has_start) (value_back doc.start held.start is.start parts.0);
      has_shapes = subst (SpellsShapes (map plain_decl doc.decls)) (sym has_shapes) (shapes_back doc.decls held.decls is.decls parts.1);
    }

-- ---- a plain document nests as deep

mutual
  same_nesting : (e : ShapeExpr) → nesting (plain_expr e) ≡ nesting e
  same_nesting (conj es) = ap suc (same_exprs es)
  same_nesting (disj es) = ap suc (same_exprs es)
  same_nesting (neg e) = ap suc (same_nesting e)
  same_nesting (node c) = refl
  same_nesting (shape closed extra t) = ap suc (same_expression t)
  same_nesting (refer l) = refl

  same_exprs : (es : ShapeExprs) → exprs_nesting (plain_exprs es) ≡ exprs_nesting es
  same_exprs no_exprs = refl
  same_exprs (more_exprs e es) = let a = same_nesting e in let b = same_exprs es in λ i. max (a i) (b i)

  same_value : (e : MaybeShapeExpr) → maybe_expr_nesting (plain_value e) ≡ maybe_expr_nesting e
  same_value no_expr = refl
  same_value (one_expr e) = same_nesting e

  same_triple : (t : TripleExpr) → triple_nesting (plain_triple t) ≡ triple_nesting t
  same_triple (triple name low high b) = same_body b

  same_body : (b : TripleBody) → body_nesting (plain_body b) ≡ body_nesting b
  same_body (each ts) = ap suc (same_triples ts)
  same_body (one ts) = ap suc (same_triples ts)
  same_body (arc inverse predicate e) = ap suc (same_value e)
  same_body (include target) = refl

  same_triples : (ts : TripleExprs) → triples_nesting (plain_triples ts) ≡ triples_nesting ts
  same_triples no_triples = refl
  same_triples (more_triples t ts) = let a = same_triple t in let b = same_triples ts in λ i. max (a i) (b i)

  same_expression : (t : MaybeTripleExpr) → maybe_triple_nesting (plain_expression t) ≡ maybe_triple_nesting t
  same_expression no_triple = refl
  same_expression (one_triple t) = same_triple t

same_decls : (decls : List Declaration) → decls_nesting (map plain_decl decls) ≡ decls_nesting decls
same_decls [] = refl
same_decls (decl ∷ decls) = let a = same_nesting decl.expr in let b = same_decls decls in λ i. max (a i) (b i)

same_document : (doc : Document) → document_nesting (plain_document doc) ≡ document_nesting doc
same_document doc = let a = same_value doc.start in let b = same_decls doc.decls in λ i. max (a i) (b i)

-- the text of a document, if it reads as its value
pub text_back : (doc : Document) (bytes : List ℕ) → IsUtf8 bytes → read bytes ≡ Some (document_data doc) → document_nesting doc ≤ max_nesting →
    IsHeldDocument doc → is_whole_document doc ≡ true → IsExpressibleDocument doc → IsDocumentText (plain_document doc) bytes
text_back doc bytes utf8 json within held whole is = record {
  utf8 = utf8;
  value = document_data doc;
  json = json;
  spelled = document_back doc held is whole;
  within = subst (λ (n : ℕ). n ≤ max_nesting) (sym (same_document doc)) within;
}
