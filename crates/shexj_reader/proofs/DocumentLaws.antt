-- Where a document within the limit is spelled, no fault stands; and a value spells one document at most.
use Rattle.std.proofs.Common.{◌≡◌, ◌≤◌, ◌∙◌, ℕ, zero, suc, true, false, List, [], ◌∷◌, refl, sym, subst, arith, inl, inr}
use Rattle.std.specs.Prelude.{Option, Some, None, codes}
use Rattle.serde_json.specs.Data.{Data, null, boolean, number, string, array, object, Items, item, no_items}
use Rattle.serde_json.specs.Find.{as_array, get, get_item}
use Rattle.schema_documents.specs.Tree.{Declaration, Document, MaybeShapeExpr}
use Rattle.shexj_reader.specs.DocumentFaults.{DeclarationFault, DocumentFault, HasExprFault, SchemaFault, ShapeDeclFault, ShapesFault}
use Rattle.shexj_reader.specs.Documents.{IsDocument, IsShapeDecl, SpellsDeclaration, SpellsDeclarations, SpellsDocument, SpellsShapes}
use Rattle.shexj_reader.specs.Expressions.{SpellsExpr, SpellsValueExpr}
use Rattle.shexj_reader.specs.Faults.{Fault}
use Rattle.shexj_reader.specs.Keys.{type_of}
use Rattle.shexj_reader.specs.Labels.{label}
use Rattle.shexj_reader.specs.Nesting.{decls_nesting, max_nesting, maybe_expr_nesting, nesting}
use Rattle.shexj_reader.specs.Types.{decl_keys, schema_keys}
use Rattle.shexj_reader.proofs.ExpressionLaws.{child_at, no_expr_fault, value_at}
use Rattle.shexj_reader.proofs.KeyLaws.{known_keys, no_acts_fault, no_list_fault}
use Rattle.shexj_reader.proofs.OneExpression.{one_expr_only, one_of, value_only}
use Rattle.shexj_reader.proofs.TypeLaws.{has_type, not_decl, other_type, tree_type}

-- ---- where a thing is spelled, no fault stands

-- what has a label of its own is no ShapeDecl
labelled_type : (decl : Declaration) (d : Data) → SpellsExpr true decl.expr d → type_of d ≡ Some (codes "ShapeDecl") → ⊥
labelled_type decl d s t = other_type (tree_type decl.expr) (Some (codes "ShapeDecl")) (type_of d) (not_decl decl.expr) (has_type true decl.expr d s) t

no_decl_fault : (decl : Declaration) (f : Fault) (d : Data) → ShapeDeclFault f d → IsShapeDecl decl d → nesting decl.expr ≤ max_nesting → ⊥
no_decl_fault decl f d (ShapeDeclFault.unknown_key h) s w = known_keys decl_keys f d h s.object.only
no_decl_fault decl f d (ShapeDeclFault.no_child is none) s w = let found = s.has_expr.found in cc
no_decl_fault decl f d (ShapeDeclFault.bad_child h) s w =
    let member = child_at max_nesting (codes "shapeExpr") decl.expr h.value d h.there s.has_expr w in
    no_expr_fault f h.fault member.expr member.spelled member.within
no_decl_fault decl f d (ShapeDeclFault.not_concrete h) s w = h.other s.concrete

no_declaration_fault : (decl : Declaration) (f : Fault) (d : Data) → DeclarationFault f d → SpellsDeclaration decl d → nesting decl.expr ≤ max_nesting → ⊥
no_declaration_fault decl f d (DeclarationFault.bad_label h) (inl s) w = let own = s.has_label in let wrong = h.wrong in cc
no_declaration_fault decl f d (DeclarationFault.bad_label h) (inr s) w = let own = s.has_label in let wrong = h.wrong in cc
no_declaration_fault decl f d (DeclarationFault.in_decl t h) (inl s) w = no_decl_fault decl f d h s w
no_declaration_fault decl f d (DeclarationFault.in_decl t h) (inr s) w = labelled_type decl d s.has_expr t
no_declaration_fault decl f d (DeclarationFault.in_expr other h) (inl s) w = other s.object.type
no_declaration_fault decl f d (DeclarationFault.in_expr other h) (inr s) w = no_expr_fault f h decl.expr s.has_expr w

no_item_fault : (decls : List Declaration) (f : Fault) (ds : Items) (k : ℕ) (v : Data) → SpellsDeclarations decls ds → decls_nesting decls ≤ max_nesting →
    get_item k ds ≡ Some v → DeclarationFault f v → ⊥
no_item_fault [] f no_items k v s w there h = cc
no_item_fault [] f (item d ds) k v s w there h = absurd s
no_item_fault (decl ∷ decls) f no_items k v s w there h = absurd s
no_item_fault (decl ∷ decls) f (item d ds) zero v s w there h = let same : v ≡ d = cc in no_declaration_fault decl f d (subst (DeclarationFault f) same h) s.0 (omega arith)
no_item_fault (decl ∷ decls) f (item d ds) (suc k) v s w there h = no_item_fault decls f ds k v s.1 (omega arith) there h

no_array : (decls : List Declaration) (d : Data) → as_array d ≡ None → SpellsShapes decls (Some d) → ⊥
no_array decls null e s = s
no_array decls (boolean b) e s = s
no_array decls (number n) e s = s
no_array decls (string t) e s = s
no_array decls (array ds) e s = cc
no_array decls (object ms) e s = s

no_shapes_fault : (decls : List Declaration) (f : Fault) (o : Option Data) → ShapesFault f o → SpellsShapes decls o → decls_nesting decls ≤ max_nesting → ⊥
no_shapes_fault decls f o (ShapesFault.no_list d is there wrong) s w = no_array decls d wrong (subst (SpellsShapes decls) there s)
no_shapes_fault decls f o (ShapesFault.bad_item ds k v there at h) s w = no_item_fault decls f ds k v (subst (SpellsShapes decls) there s) w at h

no_start_fault : (e : MaybeShapeExpr) (f : Fault) (o : Option Data) → HasExprFault (codes "start") f o → SpellsValueExpr e o → maybe_expr_nesting e ≤ max_nesting → ⊥
no_start_fault e f o h s w =
    let member = value_at max_nesting e h.value o h.there s w in
    no_expr_fault f h.fault member.expr member.spelled member.within

no_schema_fault : (doc : Document) (f : Fault) (d : Data) → SchemaFault f d → IsDocument doc d → ⊥
no_schema_fault doc f d (SchemaFault.unknown_key h) s = known_keys schema_keys f d h s.spelled.object.only
no_schema_fault doc f d (SchemaFault.bad_imports h) s = let own = s.spelled.has_imports in let wrong = h.wrong in cc
no_schema_fault doc f d (SchemaFault.bad_acts h) s = no_list_fault (codes "startActs") f d h s.spelled.acts
no_schema_fault doc f d (SchemaFault.has_acts h) s = no_acts_fault (codes "startActs") f d h s.spelled.acts
no_schema_fault doc f d (SchemaFault.bad_start h) s = let within = s.within in no_start_fault doc.start f (get (codes "start") d) h s.spelled.has_start (omega arith)
no_schema_fault doc f d (SchemaFault.bad_shapes h) s = let within = s.within in no_shapes_fault doc.decls f (get (codes "shapes") d) h s.spelled.has_shapes (omega arith)

pub no_document_fault : (doc : Document) (f : Fault) (d : Data) → DocumentFault f d → IsDocument doc d → ⊥
no_document_fault doc f d (DocumentFault.no_schema is other) s = other s.spelled.object.type
no_document_fault doc f d (DocumentFault.bad_schema t h) s = no_schema_fault doc f d h s

-- ---- a value spells one document at most

same_decl : (a b : Declaration) → a.label ≡ b.label → a.expr ≡ b.expr → a ≡ b
same_decl a b labels exprs = λ i. record { label = labels i; expr = exprs i }

one_declaration : (a b : Declaration) (d : Data) → SpellsDeclaration a d → SpellsDeclaration b d → a ≡ b
one_declaration a b d (inl h) (inl k) =
    let child = one_of (get (codes "shapeExpr") d) k.has_expr.child h.has_expr.child k.has_expr.found h.has_expr.found in
    same_decl a b (one_of (label (get (codes "id") d)) a.label b.label h.has_label k.has_label)
    (one_expr_only false a.expr b.expr h.has_expr.child h.has_expr.one (subst (SpellsExpr false b.expr) child k.has_expr.one))
one_declaration a b d (inl h) (inr k) = absurd (labelled_type b d k.has_expr h.object.type)
one_declaration a b d (inr h) (inl k) = absurd (labelled_type a d h.has_expr k.object.type)
one_declaration a b d (inr h) (inr k) =
    same_decl a b (one_of (label (get (codes "id") d)) a.label b.label h.has_label k.has_label) (one_expr_only true a.expr b.expr d h.has_expr k.has_expr)

declarations_only : (xs ys : List Declaration) (ds : Items) → SpellsDeclarations xs ds → SpellsDeclarations ys ds → xs ≡ ys
declarations_only [] [] ds h k = refl
declarations_only [] (b ∷ ys) no_items h k = absurd k
declarations_only [] (b ∷ ys) (item d ds) h k = absurd h
declarations_only (a ∷ xs) [] no_items h k = absurd h
declarations_only (a ∷ xs) [] (item d ds) h k = absurd k
declarations_only (a ∷ xs) (b ∷ ys) no_items h k = absurd h
declarations_only (a ∷ xs) (b ∷ ys) (item d ds) h k =
    let first = one_declaration a b d h.0 k.0 in let rest = declarations_only xs ys ds h.1 k.1 in
    λ i. first i ∷ rest i

shapes_only : (xs ys : List Declaration) (o : Option Data) → SpellsShapes xs o → SpellsShapes ys o → xs ≡ ys
shapes_only xs ys None h k = h ∙ sym k
shapes_only xs ys (Some null) h k = absurd h
shapes_only xs ys (Some (boolean b)) h k = absurd h
shapes_only xs ys (Some (number n)) h k = absurd h
shapes_only xs ys (Some (string s)) h k = absurd h
shapes_only xs ys (Some (array ds)) h k = declarations_only xs ys ds h k
shapes_only xs ys (Some (object ms)) h k = absurd h

pub one_document : (a b : Document) (d : Data) → SpellsDocument a d → SpellsDocument b d → a ≡ b
one_document a b d h k =
    let imports = one_of _ a.imports b.imports h.has_imports k.has_imports in
    let starts = value_only a.start b.start (get (codes "start") d) h.has_start k.has_start in
    let decls = shapes_only a.decls b.decls (get (codes "shapes") d) h.has_shapes k.has_shapes in
    λ i. record { imports = imports i; start = starts i; decls = decls i }
