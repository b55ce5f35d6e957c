-- What is read of lists of expressions and of declarations.
use Rattle.std.proofs.Common.{◌≡◌, ◌≤◌, ◌<◌, ◌+◌, ◌∙◌, ℕ, Bool, false, List, [], ◌∷◌, ◌++◌, true, arith, length, get_or, map, take, sym, ap, subst}
use Rattle.std.specs.Prelude.{Some, codes}
use Rattle.std.proofs.lemmas.List.{take_all, take_more}
use Rattle.serde_json.specs.Data.{Data}
use Rattle.serde_json.specs.Find.{get}
use Rattle.serde_json.specs.View.{items_view, view}
use Rattle.serde_json.specs.declared.value.Value.{Value}
use Rattle.schema_documents.specs.Tree.{decl_of, expr_of, exprs, triple_of, triples}
use Rattle.schema_documents.specs.declared.document.Decl.{Decl}
use Rattle.schema_documents.specs.declared.document.DocExpr.{DocExpr}
use Rattle.schema_documents.specs.declared.document.DocTriple.{DocTriple}
use Rattle.shexj_reader.specs.Documents.{SpellsDeclaration, SpellsDeclarations}
use Rattle.shexj_reader.specs.Expressions.{SpellsExpr, SpellsExprs, SpellsTripleExpr, SpellsTripleExprs}
use Rattle.shexj_reader.specs.Within.{AreMembers, AreTriples}
use Rattle.shexj_reader.specs.Keys.{has_only, members, with_id}
use Rattle.shexj_reader.specs.Nesting.{decls_nesting, exprs_nesting, nesting, triple_nesting, triples_nesting}
use Rattle.shexj_reader.specs.Types.{join_keys}

one_more : (vs : List Value) (i : ℕ) (v : Value) → i < length vs → v ≡ get_or vs i v → take i vs ++ v ∷ [] ≡ take (i + 1) vs
one_more vs i v lt is = ap (λ (u : Value). take i vs ++ u ∷ []) is ∙ sym (take_more vs i v lt)

-- ---- shape expressions

exprs_push : (es : List DocExpr) (vs : List Value) (e : DocExpr) (v : Value) → SpellsExprs (exprs (map expr_of es)) (items_view vs) →
    SpellsExpr false (expr_of e) (view v) → SpellsExprs (exprs (map expr_of (es ++ e ∷ []))) (items_view (vs ++ v ∷ []))
exprs_push [] [] e v h s = (s, tt)
exprs_push [] (w ∷ ws) e v h s = absurd h
exprs_push (x ∷ es) [] e v h s = absurd h
exprs_push (x ∷ es) (w ∷ ws) e v h s = (h.0, exprs_push es ws e v h.1 s)

pub exprs_more : (es : List DocExpr) (vs : List Value) (i : ℕ) (e : DocExpr) (v : Value) → i < length vs → v ≡ get_or vs i v →
    SpellsExprs (exprs (map expr_of es)) (items_view (take i vs)) → SpellsExpr false (expr_of e) (view v) → SpellsExprs (exprs (map expr_of (es ++ e ∷ []))) (items_view (take (i + 1) vs))
exprs_more es vs i e v lt is h s = subst (λ (ws : List Value). SpellsExprs (exprs (map expr_of (es ++ e ∷ []))) (items_view ws)) (one_more vs i v lt is) (exprs_push es (take i vs) e v h s)

pub exprs_within : (es : List DocExpr) (e : DocExpr) (n : ℕ) → exprs_nesting (exprs (map expr_of es)) ≤ n → nesting (expr_of e) ≤ n → exprs_nesting (exprs (map expr_of (es ++ e ∷ []))) ≤ n
exprs_within [] e n h s = omega arith
exprs_within (x ∷ es) e n h s = let rest = exprs_within es e n (omega arith) s in omega arith

pub members_read : (labelled : Bool) (n : ℕ) (d : Data) (es : List DocExpr) (vs : List Value) (i : ℕ)
    → has_only (with_id labelled join_keys) d ≡ true → members (get (codes "shapeExprs") d) ≡ Some (items_view vs) → length vs ≤ i
    → SpellsExprs (exprs (map expr_of es)) (items_view (take i vs)) → exprs_nesting (exprs (map expr_of es)) ≤ n
    → AreMembers labelled n (exprs (map expr_of es)) d
members_read labelled n d es vs i only found end spelled within = record {
  only = only;
  has_members = record { items = items_view vs; found = found; all = subst (λ (ws : List Value). SpellsExprs (exprs (map expr_of es)) (items_view ws)) (take_all i vs end) spelled };
  within = within;
}

-- ---- triple expressions

triples_push : (ts : List DocTriple) (vs : List Value) (t : DocTriple) (v : Value) → SpellsTripleExprs (triples (map triple_of ts)) (items_view vs) →
    SpellsTripleExpr (triple_of t) (view v) → SpellsTripleExprs (triples (map triple_of (ts ++ t ∷ []))) (items_view (vs ++ v ∷ []))
triples_push [] [] t v h s = (s, tt)
triples_push [] (w ∷ ws) t v h s = absurd h
triples_push (x ∷ ts) [] t v h s = absurd h
triples_push (x ∷ ts) (w ∷ ws) t v h s = (h.0, triples_push ts ws t v h.1 s)

pub triples_more : (ts : List DocTriple) (vs : List Value) (i : ℕ) (t : DocTriple) (v : Value) → i < length vs → v ≡ get_or vs i v →
    SpellsTripleExprs (triples (map triple_of ts)) (items_view (take i vs)) → SpellsTripleExpr (triple_of t) (view v) →
    SpellsTripleExprs (triples (map triple_of (ts ++ t ∷ []))) (items_view (take (i + 1) vs))
triples_more ts vs i t v lt is h s = subst (λ (ws : List Value). SpellsTripleExprs (triples (map triple_of (ts ++ t ∷ []))) (items_view ws))
    (one_more vs i v lt is) (triples_push ts (take i vs) t v h s)

pub triples_within : (ts : List DocTriple) (t : DocTriple) (n : ℕ) → triples_nesting (triples (map triple_of ts)) ≤ n → triple_nesting (triple_of t) ≤ n →
    triples_nesting (triples (map triple_of (ts ++ t ∷ []))) ≤ n
triples_within [] t n h s = omega arith
triples_within (x ∷ ts) t n h s = let rest = triples_within ts t n (omega arith) s in omega arith

pub triples_read : (n : ℕ) (d : Data) (ts : List DocTriple) (vs : List Value) (i : ℕ)
    → members (get (codes "expressions") d) ≡ Some (items_view vs) → length vs ≤ i
    → SpellsTripleExprs (triples (map triple_of ts)) (items_view (take i vs)) → triples_nesting (triples (map triple_of ts)) ≤ n
    → AreTriples n (triples (map triple_of ts)) d
triples_read n d ts vs i found end spelled within = record {
  has_members = record { items = items_view vs; found = found; all = subst (λ (ws : List Value). SpellsTripleExprs (triples (map triple_of ts)) (items_view ws)) (take_all i vs end) spelled };
  within = within;
}

-- ---- declarations

decls_push : (xs : List Decl) (vs : List Value) (x : Decl) (v : Value) → SpellsDeclarations (map decl_of xs) (items_view vs) →
    SpellsDeclaration (decl_of x) (view v) → SpellsDeclarations (map decl_of (xs ++ x ∷ [])) (items_view (vs ++ v ∷ []))
decls_push [] [] x v h s = (s, tt)
decls_push [] (w ∷ ws) x v h s = absurd h
decls_push (y ∷ xs) [] x v h s = absurd h
decls_push (y ∷ xs) (w ∷ ws) x v h s = (h.0, decls_push xs ws x v h.1 s)

pub decls_more : (xs : List Decl) (vs : List Value) (i : ℕ) (x : Decl) (v : Value) → i < length vs → v ≡ get_or vs i v →
    SpellsDeclarations (map decl_of xs) (items_view (take i vs)) → SpellsDeclaration (decl_of x) (view v) → SpellsDeclarations (map decl_of (xs ++ x ∷ [])) (items_view (take (i + 1) vs))
decls_more xs vs i x v lt is h s = subst (λ (ws : List Value). SpellsDeclarations (map decl_of (xs ++ x ∷ [])) (items_view ws)) (one_more vs i v lt is) (decls_push xs (take i vs) x v h s)

pub decls_within : (xs : List Decl) (x : Decl) (n : ℕ) → decls_nesting (map decl_of xs) ≤ n → nesting (expr_of x.expr) ≤ n → decls_nesting (map decl_of (xs ++ x ∷ [])) ≤ n
decls_within [] x n h s = omega arith
decls_within (y ∷ xs) x n h s = let rest = decls_within xs x n (omega arith) s in omega arith
