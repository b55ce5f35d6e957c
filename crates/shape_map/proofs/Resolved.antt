-- How a map is resolved from a table on: in one way.
use Rattle.std.proofs.Common.{◌≡◌, ◌≤◌, ◌<◌, List, [], refl, sym, ap, subst, inl, inr, length, arith}
use Rattle.std.specs.Prelude.{Contains}
use Rattle.lists.specs.Distinct.{AreDistinct}
use Rattle.lists.specs.Additions.{AddsAll}
use Rattle.lists.proofs.Additions.{all_distinct, all_held, all_one}
use Rattle.lists.proofs.Members.{in_flat_map}
use Rattle.rdf_terms.specs.Tables.{max_terms}
use Rattle.rdf_terms.specs.declared.terms.Term.{Term}
use Rattle.rdf_terms.specs.declared.terms.Triple.{Triple}
use Rattle.schema_tree.specs.Labels.{labels_of}
use Rattle.schema_tree.specs.declared.schema.Schema.{Schema}
use Rattle.shape_map.specs.declared.error.MapError.{MapError}
use Rattle.shape_map.specs.declared.items.Item.{Item}
use Rattle.shape_map.specs.declared.resolve.Association.{Association}
use Rattle.shape_map.specs.Selection.{AreAbove, Ends, EndsAs, Outcome, Resolves, TakesNodes, UnlessMemory, refused, selected, written, written_nodes}
use Rattle.shape_map.specs.Resolving.{HoldsAll, TakingStops}
use Rattle.shape_map.proofs.Chosen.{ends_one, unless}
use Rattle.shape_map.proofs.Ordered.{order_one}

-- ---- one table takes up the nodes

takes_one : (old : List Term) (items : List Item) (a b : List Term) → TakesNodes old items a → TakesNodes old items b → a ≡ b
takes_one old items a b h k =
    let nodes : h.nodes ≡ k.nodes = order_one (written_nodes items) h.nodes k.nodes h.ordered k.ordered in
    all_one old a b k.nodes (subst (λ v. AddsAll old v a) nodes h.taken) k.taken

-- it holds them
pub nodes_held : (old : List Term) (items : List Item) (terms : List Term) → TakesNodes old items terms → HoldsAll terms (written_nodes items)
nodes_held old items terms takes t c = all_held old terms takes.nodes t takes.taken ((takes.ordered.same t).1 c)

-- and with them that of each item
pub item_held : (terms : List Term) (items : List Item) (i : Item) → Contains items i → HoldsAll terms (written_nodes items) → HoldsAll terms (written i.selector)
item_held terms items i listed held t c = held t (in_flat_map (λ (z : Item). written z.selector) items i t listed c)

-- ---- a map is resolved in one way

module _ (s : Schema) (g : List Triple) (once : AreDistinct (labels_of s.labels)) (old : List Term) (distinct : AreDistinct old) (items : List Item) where
  ends_as_one : (a b : List Term) (o p : Outcome) → EndsAs s g old items a o → EndsAs s g old items b p → o ≡ p
  ends_as_one a b o p x y =
      let tables : a ≡ b = takes_one old items a b x.takes y.takes in
      ends_one s g once b (all_distinct old b y.takes.nodes distinct y.takes.taken) [] items o p (subst (λ v. Ends s g v [] items o) tables x.ends) y.ends

  above_none : (terms : List Term) (o : Outcome) → EndsAs s g old items terms o → AreAbove old items → ⊥
  above_none terms o x above = let far : max_terms < length terms = above terms x.takes in let near : length terms ≤ max_terms = x.few in absurd (omega (arith, far, near))

  pub resolves_one : (o p : Outcome) → Resolves s g old items o → Resolves s g old items p → o ≡ p
  resolves_one (selected xs a) (selected ys b) x y = ends_as_one a b (selected xs a) (selected ys b) x y
  resolves_one (selected xs a) (refused e) x (inl (b, y)) = ends_as_one a b (selected xs a) (refused e) x y
  resolves_one (selected xs a) (refused e) x (inr (above, full)) = absurd (above_none a (selected xs a) x above)
  resolves_one (refused e) (selected xs a) (inl (b, y)) x = ends_as_one b a (refused e) (selected xs a) y x
  resolves_one (refused e) (selected xs a) (inr (above, full)) x = absurd (above_none a (selected xs a) x above)
  resolves_one (refused e) (refused f) (inl (a, x)) (inl (b, y)) = ends_as_one a b (refused e) (refused f) x y
  resolves_one (refused e) (refused f) (inl (a, x)) (inr (above, full)) = absurd (above_none a (refused e) x above)
  resolves_one (refused e) (refused f) (inr (above, full)) (inl (b, y)) = absurd (above_none b (refused f) y above)
  resolves_one (refused e) (refused f) (inr (above, full)) (inr (others, same)) = let equal : e ≡ f = cc in ap (λ (z : MapError). refused z) equal

-- ---- what the call answers

module _ (s : Schema) (g h : List Triple) (same : h ≡ g) (old : List Term) (is items : List Item) (are : is ≡ items) where
  -- a table that cannot take up the nodes
  pub taking_refuses : (e : MapError) → TakingStops old is e → UnlessMemory e (Resolves s g old items (refused e))
  taking_refuses e (inl (full, above)) = subst (λ z. UnlessMemory z (Resolves s g old items (refused z))) (sym full) (inr (subst (λ v. AreAbove old v) are above, refl))
  taking_refuses e (inr memory) = subst (λ z. UnlessMemory z (Resolves s g old items (refused z))) (sym memory) tt

  module _ (terms : List Term) (takes : TakesNodes old is terms) (few : length terms ≤ max_terms) where
    ends_as : (o : Outcome) → Ends s h terms [] is o → EndsAs s g old items terms o
    ends_as o x = record { takes = subst (λ v. TakesNodes old v terms) are takes; few = few; ends = subst (λ v. Ends s g terms [] v o) are (subst (λ v. Ends s v terms [] is o) same x) }

    pub resolves_as : (xs : List Association) → Ends s h terms [] is (selected xs terms) → Resolves s g old items (selected xs terms)
    resolves_as xs x = ends_as (selected xs terms) x

    pub refused_as : (e : MapError) → UnlessMemory e (Ends s h terms [] is (refused e)) → UnlessMemory e (Resolves s g old items (refused e))
    refused_as e x = unless e (λ q. inl (terms, ends_as (refused e) q)) x
