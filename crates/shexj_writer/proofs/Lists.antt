-- Lists that are written item by item.
use Rattle.std.proofs.Common.{◌≡◌, ◌∙◌, ap, refl, sym, subst, ℕ, ◌+◌, ◌<◌, ◌≤◌, false, List, [], ◌∷◌, ◌++◌, length, get_or, take, drop, map, eqb}
use Rattle.std.proofs.lemmas.List.{drop_all, drop_more, take_all, take_more}
use Rattle.std.specs.List.{AllByRecursion}
use Rattle.std.specs.Prelude.{None, Some}
use Rattle.serde_json.specs.Data.{Data, Items, array, item}
use Rattle.serde_json.specs.View.{items_of, items_view, view}
use Rattle.serde_json.specs.declared.value.Value.{Value}
use Rattle.value_sets.specs.declared.value.Except.{Except}
use Rattle.value_sets.specs.declared.value.Value as SetValues
use Rattle.schema_documents.specs.Labels.{IsTextLabel}
use Rattle.schema_documents.specs.Tree.{decl_of, expr_of, exprs, triple_of, triples}
use Rattle.schema_documents.specs.declared.document.Decl.{Decl}
use Rattle.schema_documents.specs.declared.document.DocExpr.{DocExpr}
use Rattle.schema_documents.specs.declared.document.DocTriple.{DocTriple}
use Rattle.shexj_writer.specs.Documents.{declared_data, decls_items}
use Rattle.shexj_writer.specs.Expressions.{expr_data, exprs_items, triple_data, triples_items}
use Rattle.shexj_writer.specs.Held.{AreHeldDecls, AreHeldExprs, AreHeldTriples, IsHeldExpr, IsHeldTriple}
use Rattle.shexj_writer.specs.Objects.{list_if_any}
use Rattle.shexj_writer.specs.Texts.{text_data, texts_items}
use Rattle.shexj_writer.specs.Values.{exclusion_data, exclusions_items, value_data, values_items}
use Rattle.shexj_reader.specs.declared.stems.StemKind.{StemKind}

-- ---- lists of JSON values

item_same : {d e : Data} {ds es : Items} → d ≡ e → ds ≡ es → item d ds ≡ item e es
item_same p q = λ i. item (p i) (q i)

pub texts_are : (ts : List (List ℕ)) → items_of (map text_data ts) ≡ texts_items ts
texts_are [] = refl
texts_are (t ∷ ts) = item_same refl (texts_are ts)

pub exclusions_are : (kind : StemKind) (es : List Except) → items_of (map (exclusion_data kind) es) ≡ exclusions_items kind es
exclusions_are kind [] = refl
exclusions_are kind (e ∷ es) = item_same refl (exclusions_are kind es)

pub values_are : (vs : List SetValues.Value) → items_of (map value_data vs) ≡ values_items vs
values_are [] = refl
values_are (v ∷ vs) = item_same refl (values_are vs)

abbrev pub inner_data : DocExpr → Data
inner_data e = expr_data None (expr_of e)

pub exprs_are : (es : List DocExpr) → items_of (map inner_data es) ≡ exprs_items (exprs (map expr_of es))
exprs_are [] = refl
exprs_are (e ∷ es) = item_same refl (exprs_are es)

abbrev pub member_data : DocTriple → Data
member_data t = triple_data (triple_of t)

pub triples_are : (ts : List DocTriple) → items_of (map member_data ts) ≡ triples_items (triples (map triple_of ts))
triples_are [] = refl
triples_are (t ∷ ts) = item_same refl (triples_are ts)

abbrev pub decl_data : Decl → Data
decl_data d = declared_data d.label (expr_of d.expr)

pub decls_are : (ds : List Decl) → items_of (map decl_data ds) ≡ decls_items (map decl_of ds)
decls_are [] = refl
decls_are (d ∷ ds) = item_same refl (decls_are ds)

-- ---- what holds of one item more

one_more : {X : Type 0} (xs : List X) (i : ℕ) (x : X) → i < length xs → x ≡ get_or xs i x → take i xs ++ x ∷ [] ≡ take (i + 1) xs
one_more xs i x lt is = ap (λ u. take i xs ++ u ∷ []) is ∙ sym (take_more xs i x lt)

joined : {X : Type 0} (P : X → Type 0) (xs ys : List X) → AllByRecursion P xs → AllByRecursion P ys → AllByRecursion P (xs ++ ys)
joined P [] ys h k = k
joined P (x ∷ xs) ys h k = (h.0, joined P xs ys h.1 k)

pub all_more : {X : Type 0} (P : X → Type 0) (xs : List X) (i : ℕ) (x : X) → i < length xs → x ≡ get_or xs i x → AllByRecursion P (take i xs) → P x → AllByRecursion P (take (i + 1) xs)
all_more P xs i x lt is h p = subst (AllByRecursion P) (one_more xs i x lt is) (joined P (take i xs) (x ∷ []) h (p, tt))

pub all_taken : {X : Type 0} (P : X → Type 0) (xs : List X) (i : ℕ) → length xs ≤ i → AllByRecursion P (take i xs) → AllByRecursion P xs
all_taken P xs i past h = subst (AllByRecursion P) (take_all i xs past) h

-- shape expressions, triple expressions and declarations as lists
abbrev pub IsHeldInner : DocExpr → Type 0
IsHeldInner e = IsHeldExpr (expr_of e)

pub exprs_held : (es : List DocExpr) → AllByRecursion IsHeldInner es → AreHeldExprs (exprs (map expr_of es))
exprs_held [] h = tt
exprs_held (e ∷ es) h = (h.0, exprs_held es h.1)

abbrev pub IsHeldMember : DocTriple → Type 0
IsHeldMember t = IsHeldTriple (triple_of t)

pub triples_held : (ts : List DocTriple) → AllByRecursion IsHeldMember ts → AreHeldTriples (triples (map triple_of ts))
triples_held [] h = tt
triples_held (t ∷ ts) h = (h.0, triples_held ts h.1)

abbrev pub IsHeldDecl : Decl → Type 0
IsHeldDecl d = IsTextLabel d.label × IsHeldExpr (expr_of d.expr)

pub decls_held : (ds : List Decl) → AllByRecursion IsHeldDecl ds → AreHeldDecls (map decl_of ds)
decls_held [] h = tt
decls_held (d ∷ ds) h = (h.0, decls_held ds h.1)

-- ---- the values of a whole list

pub all_written : {X : Type 0} (f : X → Data) (xs : List X) (vs : List Value) (i : ℕ) → length xs ≤ i → map view vs ≡ map f (take i xs) → items_view vs ≡ items_of (map f xs)
all_written f xs vs i past h = ap items_of (h ∙ ap (map f) (take_all i xs past))

-- ---- tests of what is left of a list

pub next_left : {X : Type 0} (xs : List X) (i : ℕ) (x : X) → i < length xs → x ≡ get_or xs i x → drop i xs ≡ x ∷ drop (i + 1) xs
next_left xs i x lt is = drop_more xs i x lt ∙ ap (λ z. z ∷ drop (i + 1) xs) (sym is)

pub none_left : {X : Type 0} (xs : List X) (i : ℕ) → length xs ≤ i → drop i xs ≡ []
none_left xs i past = drop_all i xs past

-- a list that is not empty
pub some_list : (vs : List Value) → eqb (length vs) 0 ≡ false → list_if_any (items_view vs) ≡ Some (array (items_view vs))
some_list [] e = cc
some_list (v ∷ vs) e = refl
