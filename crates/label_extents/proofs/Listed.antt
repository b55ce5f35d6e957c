-- Lists of members, label after label.
use Rattle.std.proofs.Common.{◌≡◌, ◌∙◌, List, [], ◌∷◌, ◌++◌, ap, inl, inr, map, refl, subst, sym, ◌⊎◌}
use Rattle.std.specs.Prelude.{◌↔◌, Contains}
use Rattle.std.specs.List.{flat_map}
use Rattle.std.proofs.lemmas.List.Elements.{Contains-append_cases, Contains-append_left, Contains-append_right}
use Rattle.lists.proofs.Members.{from_map, in_map, in_rest, is_first, is_later, not_in_none}
use Rattle.lists.proofs.Ordered.{sorted_one}
use Rattle.rdf_terms.proofs.Orders.{id_total}
use Rattle.rdf_terms.specs.Order.{compare_at}
use Rattle.rdf_terms.specs.declared.terms.Term.{Term}
use Rattle.rdf_terms.specs.declared.terms.TermId.{TermId}
use Rattle.schema_documents.specs.declared.label.Label.{Label}
use Rattle.schema_tree.specs.declared.schema.Answer.{Answer}
use Rattle.schema_tree.specs.declared.schema.ExprId.{ExprId}
use Rattle.label_extents.specs.Extents.{AreInOrder, AreListed, member}

module _ (terms : List Term) where
  -- the nodes in order with each label are a list of members
  pub listed : (P : ExprId → TermId → Type 0) (nodes : Label × ExprId → List TermId) (labels : List (Label × ExprId)) →
      ((d : Label × ExprId) → Contains labels d → AreInOrder terms (P d.1) (nodes d)) →
      AreListed terms P labels (flat_map (λ d. map (member d.0) (nodes d)) labels)
  listed P nodes [] are = refl
  listed P nodes (d ∷ labels) are = (
    nodes d,
    flat_map (λ x. map (member x.0) (nodes x)) labels,
    are d (is_first d labels),
    listed P nodes labels (λ x c. are x (is_later d labels x c)),
    refl,
  )

  -- where P and Q hold of the same nodes, they list the same members
  pub listed_alike : (P Q : ExprId → TermId → Type 0) (labels : List (Label × ExprId)) (members : List Answer) → ((d : Label × ExprId) (n : TermId) → Contains labels d → P d.1 n ↔ Q d.1 n) →
      AreListed terms P labels members → AreListed terms Q labels members
  listed_alike P Q [] members alike e = e
  listed_alike P Q (d ∷ labels) members alike (nodes, more, own, rest, e) = (
    nodes,
    more,
    record {
      sorted = own.sorted;
      exactly = λ n. (λ c. (alike d n (is_first d labels)).0 ((own.exactly n).0 c), λ q. (own.exactly n).1 ((alike d n (is_first d labels)).1 q));
    },
    listed_alike P Q labels more (λ x n c. alike x n (is_later d labels x c)) rest,
    e,
  )

  -- a listed answer is that of a node of which P holds at the expression of a label
  pub from_listed : (P : ExprId → TermId → Type 0) (labels : List (Label × ExprId)) (members : List Answer) → AreListed terms P labels members → (a : Answer) → Contains members a →
      (l : Label) × (e : ExprId) × (n : TermId) × Contains labels (l, e) × P e n × (a ≡ member l n)
  from_listed P [] members e a c = absurd (not_in_none a (subst (λ v. Contains v a) e c))
  from_listed P (d ∷ labels) members (nodes, more, own, rest, e) a c = elim (Contains-append_cases (map (member d.0) nodes) more a (subst (λ v. Contains v a) e c)) [
    | inl here ↦ (let (n, held, is) = from_map (member d.0) nodes a here in (d.0, d.1, n, is_first d labels, (own.exactly n).0 held, sym is))
    | inr later ↦ (let (l, x, n, declared, holds, is) = from_listed P labels more rest a later in (l, x, n, is_later d labels (l, x) declared, holds, is))
  ]

  -- each such answer is listed
  pub in_listed : (P : ExprId → TermId → Type 0) (labels : List (Label × ExprId)) (members : List Answer) → AreListed terms P labels members →
      (d : Label × ExprId) (n : TermId) → Contains labels d → P d.1 n → Contains members (member d.0 n)
  in_listed P [] members e d n c holds = absurd (not_in_none d c)
  in_listed P (x ∷ labels) members (nodes, more, own, rest, e) d n c holds = subst (λ v. Contains v (member d.0 n)) (sym e)
      (by (in_rest x labels d c) (λ later. in_listed P labels more rest d n later holds))
    where
      by : (x ≡ d) ⊎ Contains labels d → (Contains labels d → Contains more (member d.0 n)) → Contains (map (member x.0) nodes ++ more) (member d.0 n)
      by (inl is) behind = Contains-append_left (map (member x.0) nodes) more (member d.0 n)
          (subst (λ (z : Label ×
          ExprId). Contains (map (member x.0) nodes) (member z.0 n)) is (in_map (member x.0) nodes n ((own.exactly n).1 (subst (λ (z : Label × ExprId). P z.1 n) (sym is) holds))))
      by (inr later) behind = Contains-append_right (map (member x.0) nodes) more (member d.0 n) (behind later)

  -- there is one such list
  pub listed_one : (P : ExprId → TermId → Type 0) (labels : List (Label × ExprId)) (xs ys : List Answer) → AreListed terms P labels xs → AreListed terms P labels ys → xs ≡ ys
  listed_one P [] xs ys e f = e ∙ sym f
  listed_one P (d ∷ labels) xs ys (nodes, more, own, rest, e) (others, behind, same, last, f) =
      let is : nodes ≡ others = sorted_one (compare_at terms)
      (id_total terms) nodes others own.sorted same.sorted (λ n c. (same.exactly n).1 ((own.exactly n).0 c)) (λ n c. (own.exactly n).1 ((same.exactly n).0 c)) in
      e ∙ ap (λ ns. map (member d.0) ns ++ more) is ∙ ap (λ v. map (member d.0) others ++ v) (listed_one P labels more behind rest last) ∙ sym f
