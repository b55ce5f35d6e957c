-- A value stands for one shape or triple expression at most.
use Rattle.std.proofs.Common.{◌≡◌, ◌∙◌, ℕ, Bool, false, refl, sym, ap, subst}
use Rattle.std.specs.Prelude.{Option, Some, None, codes}
use Rattle.serde_json.specs.Data.{Data, Items, no_items, item}
use Rattle.serde_json.specs.Find.{get}
use Rattle.tally.specs.declared.Bound.{Bound}
use Rattle.schema_documents.specs.declared.label.Label.{Label}
use Rattle.schema_documents.specs.Tree.{MaybeShapeExpr, MaybeTripleExpr, ShapeExpr, ShapeExprs, TripleBody, TripleExpr, TripleExprs, arc, conj, disj, each, include, more_exprs, more_triples, neg, no_expr, no_exprs, no_triple, no_triples, node, one, one_expr, one_triple, refer, shape, triple}
use Rattle.shexj_reader.specs.Cardinalities.{IsCardinality}
use Rattle.shexj_reader.specs.Constraints.{constraint_keys}
use Rattle.shexj_reader.specs.Expressions.{SpellsBody, SpellsExpr, SpellsExpression, SpellsExprs, SpellsTripleExpr, SpellsTripleExprs, SpellsValueExpr}
use Rattle.shexj_reader.specs.Keys.{type_of, with_id}
use Rattle.shexj_reader.specs.Labels.{label, label_if_any, reference}
use Rattle.shexj_reader.proofs.ConstraintLaws.{constraint_is_one}
use Rattle.shexj_reader.proofs.TypeLaws.{body_type, has_body_type, has_type, other_type, same_type, tree_type}

-- two readings of one value are equal
pub one_of : {A : Type 0} (o : Option A) (a b : A) → o ≡ Some a → o ≡ Some b → a ≡ b
one_of o a b h k = cc

apart_by : (labelled : Bool) (e u : ShapeExpr) (d : Data) → same_type (tree_type e) (tree_type u) ≡ false → SpellsExpr labelled e d → SpellsExpr labelled u d → ⊥
apart_by labelled e u d apart h k = other_type (tree_type e) (tree_type u) (type_of d) apart (has_type labelled e d h) (has_type labelled u d k)

record SameCounts (l m : Option Label) (low least : ℕ) (high most : Bound) : Type 0 where
  labels : l ≡ m
  lows : low ≡ least
  highs : high ≡ most

counts_of : (l m : Option Label) (low least : ℕ) (high most : Bound) (d : Data) → label_if_any (get (codes "id") d) ≡ Some l →
    label_if_any (get (codes "id") d) ≡ Some m → IsCardinality low high d → IsCardinality least most d → SameCounts l m low least high most
counts_of l m low least high most d own other h k = record {
  labels = one_of (label_if_any (get (codes "id") d)) l m own other;
  lows = one_of _ low least h.min k.min;
  highs = one_of _ high most h.max k.max;
}

same_triple : (l m : Option Label) (low least : ℕ) (high most : Bound) (b c : TripleBody) → SameCounts l m low least high most → b ≡ c → triple l low high b ≡ triple m least most c
same_triple l m low least high most b c h e = λ i. triple (h.labels i) (h.lows i) (h.highs i) (e i)

apart_body : (b c : TripleBody) (l m : Option Label) (low least : ℕ) (high most : Bound) (d : Data) → same_type (body_type b) (body_type c) ≡ false →
    SpellsBody b l low high d → SpellsBody c m least most d → ⊥
apart_body b c l m low least high most d apart h k = other_type (body_type b) (body_type c) (type_of d) apart (has_body_type b l low high d h) (has_body_type c m least most d k)

mutual
  pub one_expr_only : (labelled : Bool) (e u : ShapeExpr) (d : Data) → SpellsExpr labelled e d → SpellsExpr labelled u d → e ≡ u
  one_expr_only labelled (disj es) (disj us) d h k =
      let items = one_of _ k.has_members.items h.has_members.items k.has_members.found h.has_members.found in
      ap disj (exprs_only es us h.has_members.items h.has_members.all (subst (SpellsExprs us) items k.has_members.all))
  one_expr_only labelled (disj es) (conj us) d h k = absurd (apart_by labelled (disj es) (conj us) d refl h k)
  one_expr_only labelled (disj es) (neg u) d h k = absurd (apart_by labelled (disj es) (neg u) d refl h k)
  one_expr_only labelled (disj es) (node b) d h k = absurd (apart_by labelled (disj es) (node b) d refl h k)
  one_expr_only labelled (disj es) (shape o y u) d h k = absurd (apart_by labelled (disj es) (shape o y u) d refl h k)
  one_expr_only labelled (disj es) (refer m) d h k = absurd (apart_by labelled (disj es) (refer m) d refl h k)
  one_expr_only labelled (conj es) (disj us) d h k = absurd (apart_by labelled (conj es) (disj us) d refl h k)
  one_expr_only labelled (conj es) (conj us) d h k =
      let items = one_of _ k.has_members.items h.has_members.items k.has_members.found h.has_members.found in
      ap conj (exprs_only es us h.has_members.items h.has_members.all (subst (SpellsExprs us) items k.has_members.all))
  one_expr_only labelled (conj es) (neg u) d h k = absurd (apart_by labelled (conj es) (neg u) d refl h k)
  one_expr_only labelled (conj es) (node b) d h k = absurd (apart_by labelled (conj es) (node b) d refl h k)
  one_expr_only labelled (conj es) (shape o y u) d h k = absurd (apart_by labelled (conj es) (shape o y u) d refl h k)
  one_expr_only labelled (conj es) (refer m) d h k = absurd (apart_by labelled (conj es) (refer m) d refl h k)
  one_expr_only labelled (neg e) (disj us) d h k = absurd (apart_by labelled (neg e) (disj us) d refl h k)
  one_expr_only labelled (neg e) (conj us) d h k = absurd (apart_by labelled (neg e) (conj us) d refl h k)
  one_expr_only labelled (neg e) (neg u) d h k =
      let child = one_of _ k.has_child.child h.has_child.child k.has_child.found h.has_child.found in
      ap neg (one_expr_only false e u h.has_child.child h.has_child.one (subst (SpellsExpr false u) child k.has_child.one))
  one_expr_only labelled (neg e) (node b) d h k = absurd (apart_by labelled (neg e) (node b) d refl h k)
  one_expr_only labelled (neg e) (shape o y u) d h k = absurd (apart_by labelled (neg e) (shape o y u) d refl h k)
  one_expr_only labelled (neg e) (refer m) d h k = absurd (apart_by labelled (neg e) (refer m) d refl h k)
  one_expr_only labelled (node c) (disj us) d h k = absurd (apart_by labelled (node c) (disj us) d refl h k)
  one_expr_only labelled (node c) (conj us) d h k = absurd (apart_by labelled (node c) (conj us) d refl h k)
  one_expr_only labelled (node c) (neg u) d h k = absurd (apart_by labelled (node c) (neg u) d refl h k)
  one_expr_only labelled (node c) (node b) d h k = ap node (constraint_is_one (with_id labelled constraint_keys) c b d h k)
  one_expr_only labelled (node c) (shape o y u) d h k = absurd (apart_by labelled (node c) (shape o y u) d refl h k)
  one_expr_only labelled (node c) (refer m) d h k = absurd (apart_by labelled (node c) (refer m) d refl h k)
  one_expr_only labelled (shape c x t) (disj us) d h k = absurd (apart_by labelled (shape c x t) (disj us) d refl h k)
  one_expr_only labelled (shape c x t) (conj us) d h k = absurd (apart_by labelled (shape c x t) (conj us) d refl h k)
  one_expr_only labelled (shape c x t) (neg u) d h k = absurd (apart_by labelled (shape c x t) (neg u) d refl h k)
  one_expr_only labelled (shape c x t) (node b) d h k = absurd (apart_by labelled (shape c x t) (node b) d refl h k)
  one_expr_only labelled (shape c x t) (shape o y u) d h k =
      let closed = one_of _ c o h.has_closed k.has_closed in
      let extra = one_of _ x y h.has_extra k.has_extra in
      let inner = expression_only t u (get (codes "expression") d) h.has_expression k.has_expression in
      λ i. shape (closed i) (extra i) (inner i)
  one_expr_only labelled (shape c x t) (refer m) d h k = absurd (apart_by labelled (shape c x t) (refer m) d refl h k)
  one_expr_only labelled (refer l) (disj us) d h k = absurd (apart_by labelled (refer l) (disj us) d refl h k)
  one_expr_only labelled (refer l) (conj us) d h k = absurd (apart_by labelled (refer l) (conj us) d refl h k)
  one_expr_only labelled (refer l) (neg u) d h k = absurd (apart_by labelled (refer l) (neg u) d refl h k)
  one_expr_only labelled (refer l) (node b) d h k = absurd (apart_by labelled (refer l) (node b) d refl h k)
  one_expr_only labelled (refer l) (shape o y u) d h k = absurd (apart_by labelled (refer l) (shape o y u) d refl h k)
  one_expr_only labelled (refer l) (refer m) d h k = ap refer (one_of (reference labelled d) l m h k)

  exprs_only : (es us : ShapeExprs) (ds : Items) → SpellsExprs es ds → SpellsExprs us ds → es ≡ us
  exprs_only no_exprs no_exprs ds h k = refl
  exprs_only no_exprs (more_exprs u us) no_items h k = absurd k
  exprs_only no_exprs (more_exprs u us) (item d ds) h k = absurd h
  exprs_only (more_exprs e es) no_exprs no_items h k = absurd h
  exprs_only (more_exprs e es) no_exprs (item d ds) h k = absurd k
  exprs_only (more_exprs e es) (more_exprs u us) no_items h k = absurd h
  exprs_only (more_exprs e es) (more_exprs u us) (item d ds) h k =
      let first = one_expr_only false e u d h.0 k.0 in let rest = exprs_only es us ds h.1 k.1 in
      λ i. more_exprs (first i) (rest i)

  pub value_only : (e u : MaybeShapeExpr) (o : Option Data) → SpellsValueExpr e o → SpellsValueExpr u o → e ≡ u
  value_only no_expr no_expr o h k = refl
  value_only no_expr (one_expr u) None h k = absurd k
  value_only no_expr (one_expr u) (Some d) h k = absurd h
  value_only (one_expr e) no_expr None h k = absurd h
  value_only (one_expr e) no_expr (Some d) h k = absurd k
  value_only (one_expr e) (one_expr u) None h k = absurd h
  value_only (one_expr e) (one_expr u) (Some d) h k = ap one_expr (one_expr_only false e u d h k)

  pub one_triple_only : (t u : TripleExpr) (d : Data) → SpellsTripleExpr t d → SpellsTripleExpr u d → t ≡ u
  one_triple_only (triple l low high b) (triple m least most c) d h k = body_only b c l m low least high most d h k

  body_only : (b c : TripleBody) (l m : Option Label) (low least : ℕ) (high most : Bound) (d : Data) → SpellsBody b l low high d → SpellsBody c m least most d →
      triple l low high b ≡ triple m least most c
  body_only (each ts) (each us) l m low least high most d h k =
      let counts = counts_of l m low least high most d h.has_label k.has_label h.counted k.counted in
      let items = one_of _ k.has_members.items h.has_members.items k.has_members.found h.has_members.found in
      let inner = triples_only ts us h.has_members.items h.has_members.all (subst (SpellsTripleExprs us) items k.has_members.all) in
      same_triple l m low least high most (each ts) (each us) counts (ap each inner)
  body_only (each ts) (one us) l m low least high most d h k = absurd (apart_body (each ts) (one us) l m low least high most d refl h k)
  body_only (each ts) (arc j q v) l m low least high most d h k = absurd (apart_body (each ts) (arc j q v) l m low least high most d refl h k)
  body_only (each ts) (include y) l m low least high most d h k = absurd (apart_body (each ts) (include y) l m low least high most d refl h k)
  body_only (one ts) (each us) l m low least high most d h k = absurd (apart_body (one ts) (each us) l m low least high most d refl h k)
  body_only (one ts) (one us) l m low least high most d h k =
      let counts = counts_of l m low least high most d h.has_label k.has_label h.counted k.counted in
      let items = one_of _ k.has_members.items h.has_members.items k.has_members.found h.has_members.found in
      let inner = triples_only ts us h.has_members.items h.has_members.all (subst (SpellsTripleExprs us) items k.has_members.all) in
      same_triple l m low least high most (one ts) (one us) counts (ap one inner)
  body_only (one ts) (arc j q v) l m low least high most d h k = absurd (apart_body (one ts) (arc j q v) l m low least high most d refl h k)
  body_only (one ts) (include y) l m low least high most d h k = absurd (apart_body (one ts) (include y) l m low least high most d refl h k)
  body_only (arc i p e) (each us) l m low least high most d h k = absurd (apart_body (arc i p e) (each us) l m low least high most d refl h k)
  body_only (arc i p e) (one us) l m low least high most d h k = absurd (apart_body (arc i p e) (one us) l m low least high most d refl h k)
  body_only (arc i p e) (arc j q v) l m low least high most d h k =
      let counts = counts_of l m low least high most d h.has_label k.has_label h.counted k.counted in
      let inverse = one_of _ i j h.has_inverse k.has_inverse in
      let predicate = one_of _ p q h.has_predicate k.has_predicate in
      let inner = value_only e v (get (codes "valueExpr") d) h.has_value k.has_value in
      same_triple l m low least high most (arc i p e) (arc j q v) counts (λ z. arc (inverse z) (predicate z) (inner z))
  body_only (arc i p e) (include y) l m low least high most d h k = absurd (apart_body (arc i p e) (include y) l m low least high most d refl h k)
  body_only (include x) (each us) l m low least high most d h k = absurd (apart_body (include x) (each us) l m low least high most d refl h k)
  body_only (include x) (one us) l m low least high most d h k = absurd (apart_body (include x) (one us) l m low least high most d refl h k)
  body_only (include x) (arc j q v) l m low least high most d h k = absurd (apart_body (include x) (arc j q v) l m low least high most d refl h k)
  body_only (include x) (include y) l m low least high most d h k =
      let counts : SameCounts l m low least high most = record { labels = h.no_label ∙ sym k.no_label; lows = h.once ∙ sym k.once; highs = h.only_once ∙ sym k.only_once } in
      same_triple l m low least high most (include x) (include y) counts (ap include (one_of (label (Some d)) x y h.has_target k.has_target))

  triples_only : (ts us : TripleExprs) (ds : Items) → SpellsTripleExprs ts ds → SpellsTripleExprs us ds → ts ≡ us
  triples_only no_triples no_triples ds h k = refl
  triples_only no_triples (more_triples u us) no_items h k = absurd k
  triples_only no_triples (more_triples u us) (item d ds) h k = absurd h
  triples_only (more_triples t ts) no_triples no_items h k = absurd h
  triples_only (more_triples t ts) no_triples (item d ds) h k = absurd k
  triples_only (more_triples t ts) (more_triples u us) no_items h k = absurd h
  triples_only (more_triples t ts) (more_triples u us) (item d ds) h k =
      let first = one_triple_only t u d h.0 k.0 in let rest = triples_only ts us ds h.1 k.1 in
      λ i. more_triples (first i) (rest i)

  expression_only : (t u : MaybeTripleExpr) (o : Option Data) → SpellsExpression t o → SpellsExpression u o → t ≡ u
  expression_only no_triple no_triple o h k = refl
  expression_only no_triple (one_triple u) None h k = absurd k
  expression_only no_triple (one_triple u) (Some d) h k = absurd h
  expression_only (one_triple t) no_triple None h k = absurd h
  expression_only (one_triple t) no_triple (Some d) h k = absurd k
  expression_only (one_triple t) (one_triple u) None h k = absurd h
  expression_only (one_triple t) (one_triple u) (Some d) h k = ap one_triple (one_triple_only t u d h k)
