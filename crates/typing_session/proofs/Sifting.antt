-- Of a list of pairs those of which something holds: that there is no list of them cannot be.
use Rattle.std.proofs.Common.{◌≡◌, ◌∙◌, inl, inr, List, [], ◌∷◌, refl, sym, subst, ap, true, filter}
use Rattle.std.proofs.lemmas.List.Sorted.{Contains-permutation, IsPermutation-sym}
use Rattle.std.specs.Ordering.{is_eq, nat_cmp}
use Rattle.std.specs.declared.cmp.Ordering.TheVariants.{Equal}
use Rattle.std.specs.Cmp.{unsigned_ties}
use Rattle.std.proofs.lemmas.Bool.{eqb-true}
use Rattle.std.specs.List.Sorted.{IsStrictlySortedBy}
use Rattle.std.specs.Prelude.{◌↔◌, Contains}
use Rattle.demand.specs.Demand.{AreAsked, IsAsked}
use Rattle.demand.specs.Orders.{compare_pairs}
use Rattle.demand.proofs.PairOrder.{pairs_total}
use Rattle.lists.specs.Distinct.{AreDistinct}
use Rattle.lists.specs.Sorting.{sorted_by}
use Rattle.lists.proofs.Filters.{filter_has, in_filter}
use Rattle.lists.proofs.Members.{got_in, in_rest, is_first, is_later, not_in_none}
use Rattle.lists.proofs.Ordered.{sorted_same}
use Rattle.locality_laws.proofs.Counting.{with_first}
use Rattle.rdf_terms.specs.declared.terms.Term.{Term}
use Rattle.rdf_terms.specs.declared.terms.Triple.{Triple}
use Rattle.rdf_terms.specs.Order.{compare_at}
use Rattle.schema_tree.specs.declared.schema.Pair.{Pair}
use Rattle.schema_tree.specs.declared.schema.Schema.{Schema}
use Rattle.demand.specs.declared.reach.Root.{Root}
use Rattle.part_laws.proofs.Near.{id_tie, tie_parts}
use Rattle.part_laws.proofs.Lists.{distinct_rest, first_apart, sort_strict}

-- those of distinct pairs of which P holds
pub record Sifted (P : Pair → Type 0) (xs : List Pair) : Type 0 where
  pub items : List Pair
  pub distinct : AreDistinct items
  pub same : (q : Pair) → Contains items q ↔ (Contains xs q × P q)

sift_none : (P : Pair → Type 0) → Sifted P []
sift_none P = record { items = []; distinct = λ i j x a b. absurd (not_in_none x (got_in [] i x a)); same = λ q. ((λ c. absurd (not_in_none q c)), (λ h. h.0)) }

module _ (P : Pair → Type 0) (x : Pair) (xs : List Pair) (d : AreDistinct (x ∷ xs)) (r : Sifted P xs) where
  sift_in : P x → Sifted P (x ∷ xs)
  sift_in h = record {
    items = x ∷ r.items;
    distinct = with_first x r.items (λ c. first_apart x xs d ((r.same x).0 c).0) r.distinct;
    same = λ q. (
      (λ c. elim (in_rest x r.items q c) [
        | inl e ↦ (subst (λ z. Contains (x ∷ xs) z) e (is_first x xs), subst P e h)
        | inr later ↦ (is_later x xs q ((r.same q).0 later).0, ((r.same q).0 later).1)
      ]),
      (λ (c, k). elim (in_rest x xs q c) [
        | inl e ↦ subst (λ z. Contains (x ∷ r.items) z) e (is_first x r.items)
        | inr later ↦ is_later x r.items q ((r.same q).1 (later, k))
      ]),
    );
  }

  sift_out : ¬ P x → Sifted P (x ∷ xs)
  sift_out none = record {
    items = r.items;
    distinct = r.distinct;
    same = λ q. (
      (λ c. (is_later x xs q ((r.same q).0 c).0, ((r.same q).0 c).1)),
      (λ (c, k). elim (in_rest x xs q c) [
        | inl e ↦ absurd (none (subst P (sym e) k))
        | inr later ↦ (r.same q).1 (later, k)
      ]),
    );
  }

-- it cannot be that there is no list of them
pub not_not_sifted : (P : Pair → Type 0) (xs : List Pair) → AreDistinct xs → ¬ (¬ Sifted P xs)
not_not_sifted P [] d none = none (sift_none P)
not_not_sifted P (x ∷ xs) d none = not_not_sifted P xs (distinct_rest x xs d) (λ r. none (sift_out P x xs d r (λ h. none (sift_in P x xs d r h))))

-- ---- in order

pair_tie : (terms : List Term) (a b : Pair) → compare_pairs terms a b ≡ Equal → a ≡ b
pair_tie terms a b e =
    let (n, i) = tie_parts (compare_at terms a.node b.node) (nat_cmp a.shape.0 b.shape.0) e in
    let node : a.node ≡ b.node = id_tie terms a.node b.node n in
    let shape : a.shape.0 ≡ b.shape.0 = eqb-true a.shape.0 b.shape.0 (unsigned_ties a.shape.0 b.shape.0 ∙ ap is_eq i) in
    (λ k. record { node = node k; shape = record { 0 = shape k } })

module _ (terms : List Term) (xs : List Pair) where
  abbrev in_order : List Pair
  in_order = sorted_by (compare_pairs terms) (filter (λ q. true) xs)

  order_strict : AreDistinct xs → IsStrictlySortedBy (compare_pairs terms) in_order
  order_strict d = sort_strict (compare_pairs terms) (pairs_total terms) (λ q. true) xs d (λ a b x y tie. pair_tie terms a b tie)

  order_same : (q : Pair) → Contains in_order q ↔ Contains xs q
  order_same q = (
    (λ c. (in_filter (λ p. true) xs q (Contains-permutation in_order (filter (λ p. true) xs) q (IsPermutation-sym (filter (λ p. true) xs) in_order (sorted_same (compare_pairs terms) (filter (λ p. true) xs))) c)).0),
    (λ c. Contains-permutation (filter (λ p. true) xs) in_order q (sorted_same (compare_pairs terms) (filter (λ p. true) xs)) (filter_has (λ p. true) xs q c refl)),
  )

-- it cannot be that there is no list of the pairs that are asked for, where distinct pairs have all of them
pub not_not_asked : (s : Schema) (terms : List Term) (g : List Triple) (roots : List Root) (xs : List Pair) → AreDistinct xs → ((q : Pair) → IsAsked s g roots q → Contains xs q) →
    ¬ (¬ ((pairs : List Pair) × AreAsked s terms g roots pairs))
not_not_asked s terms g roots xs d all none = not_not_sifted (IsAsked s g roots) xs d (λ r. none (
  in_order terms r.items,
  record {
    sorted = order_strict terms r.items r.distinct;
    exactly = λ q. (
      (λ c. ((r.same q).0 ((order_same terms r.items q).0 c)).1),
      (λ asked. (order_same terms r.items q).1 ((r.same q).1 (all q asked, asked))),
    );
  },
))
