-- The product of the classes by their keys is that of the Width.
use Rattle.std.proofs.Common.{◌≡◌, lit≤, ℕ, ◌-◌, ◌^◌, ◌≤◌, List, max, min, arith, ap, sym, subst, ◌∙◌, Bool, true}
use Rattle.std.proofs.lemmas.List.Sorted.{Contains-permutation, IsPermutation-sym}
use Rattle.std.specs.Prelude.{◌||◌, Contains, Option, Some, count_by}
use Rattle.rdf_terms.specs.declared.terms.Term.{Term}
use Rattle.rdf_terms.specs.declared.terms.TermId.{TermId}
use Rattle.rdf_terms.specs.declared.terms.Triple.{Triple}
use Rattle.rdf_terms.specs.Graphs.{neigh, same_id}
use Rattle.schema_tree.specs.declared.schema.ExprId.{ExprId}
use Rattle.schema_tree.specs.declared.schema.Pair.{Pair}
use Rattle.schema_tree.specs.declared.schema.Schema.{Schema}
use Rattle.schema_tree.specs.declared.schema.Shape.{Shape}
use Rattle.schema_tree.specs.declared.verdicts.Verdict.{Verdict}
use Rattle.schema_tree.specs.Entries.{shape_at}
use Rattle.rdf_terms.specs.Order.{neighbourhood}
use Rattle.schema_tree.specs.Relevant.{is_relevant, relevant, relevant_in_order}
use Rattle.schema_tree.specs.Width.{HasWidth, PlainIs, coarse, coarse_of, coarse_over, fine_over, open_places_for, places_for, same_class, same_fine_class, ways, width_of}
use Rattle.schema_tree.proofs.Ordered.{ordered_same}
use Rattle.schema_tree.proofs.Widths.{fine_some}
use Rattle.bag_match.specs.Keys.{IsProduct}
use Rattle.bag_match.proofs.Bounded.{count_order}
use Rattle.bag_match.proofs.Classes.{IsNear}
use Rattle.bag_match.proofs.Divided.{coarse_keyed, coarse_places, divided, fine_back, fine_keyed, key_parts, nothing, places_are}
use Rattle.lists.proofs.Filters.{filter_has, in_filter}

module _ (terms : List Term) (g : List Triple) (sh : Shape) (n : TermId) where
  abbrev rel : List Triple
  rel = relevant sh.occs g n

  abbrev ordered : List Triple
  ordered = relevant_in_order terms g sh n

  pub there : (t : Triple) → Contains rel t → Contains ordered t
  there t c =
      let (held, passes) = in_filter (is_relevant sh.occs n) (neigh g n) t c in
      filter_has (is_relevant sh.occs n) (neighbourhood terms g n) t (Contains-permutation (neigh g n) (neighbourhood terms g n) t (ordered_same terms g n) held) passes

  pub near_ordered : (t : Triple) → Contains ordered t → (same_id t.s n || same_id t.o n) ≡ true
  near_ordered t c =
      let (held, passes) = in_filter (is_relevant sh.occs n) (neighbourhood terms g n) t c in
      (in_filter (λ u. same_id u.s n || same_id u.o n) g t (Contains-permutation (neighbourhood terms g n) (neigh g n) t (IsPermutation-sym (neigh g n) (neighbourhood terms g n) (ordered_same terms g n)) held)).1

  near : (t : Triple) → Contains rel t → IsNear n t
  near t c = near_ordered t (there t c)

  counts : (q : Triple → Bool) → count_by q ordered ≡ count_by q rel
  counts q = count_order q (is_relevant sh.occs n) (neigh g n) (neighbourhood terms g n) (ordered_same terms g n)

  pub fine_product : (plain : TermId → Option ExprId → Verdict) (r : ℕ) → IsProduct plain sh n ordered r → r ≡ min (fine_over plain sh n rel) (2 ^ 64 - 1)
  fine_product plain r h =
      h.is ∙ ap (λ k. min k (2 ^ 64 - 1))
      (sym (divided plain sh n (same_fine_class plain sh n) (λ t d. ways d (max 1 (open_places_for plain sh n t))) rel ordered there counts
      (λ t u c d same. fine_keyed plain sh n t u same) (λ t u c d e. fine_back plain sh n t u e) (λ t c d. ap (ways d) (sym (places_are plain sh n t)))
      h.classes h.counted h.have h.apart h.found))

  pub coarse_product : (r : ℕ) → IsProduct nothing sh n ordered r → r ≡ min (coarse_over sh n rel) (2 ^ 64 - 1)
  coarse_product r h =
      h.is ∙ ap (λ k. min k (2 ^ 64 - 1))
      (sym (divided nothing sh n (same_class n) (λ t d. ways d (places_for sh n t)) rel ordered there counts
      (λ t u c d same. coarse_keyed sh n t u (near t c) (near u d) same) (λ t u c d e. (key_parts nothing sh n t u e).0)
      (λ t c d. ap (ways d) (sym (coarse_places sh n t (in_filter (is_relevant sh.occs n) (neigh g n) t c).1)))
      h.classes h.counted h.have h.apart h.found))

min_both : (r a b most x y : ℕ) → x ≡ min a most → y ≡ min b most → r ≡ min x y → r ≡ min (min a b) most
min_both r a b most x y is at e = omega (arith, is, at, e)

min_first : (r a b most x y : ℕ) → x ≡ min a most → r ≡ min x y → r ≤ a
min_first r a b most x y is e = omega (arith, is, e)

-- the lesser of both products is the Width
pub width_found : (s : Schema) (terms : List Term) (g : List Triple) (p : Pair) (sh : Shape) (ts : List Triple) → shape_at s p.shape ≡ Some sh → ts ≡ relevant_in_order terms g sh p.node →
    (r x y : ℕ) → r ≡ min x y → IsProduct nothing sh p.node ts x →
    ((plain : TermId → Option ExprId → Verdict) → ((m : TermId) (v : Option ExprId) → PlainIs s terms m v (plain m v)) → IsProduct plain sh p.node ts y) →
    (w : ℕ) → HasWidth s terms g p w → r ≡ min w (2 ^ 64 - 1)
width_found s terms g p sh ts is same r x y e first second w has =
    min_both r (coarse_over sh p.node (relevant sh.occs g p.node)) (fine_over has.plain sh p.node (relevant sh.occs g p.node)) (2 ^ 64 - 1) x y
    (coarse_product terms g sh p.node x (subst (λ us. IsProduct nothing sh p.node us x) same first))
    (fine_product terms g sh p.node has.plain y (subst (λ us. IsProduct has.plain sh p.node us y) same (second has.plain has.tells))) e
    ∙ ap (λ k. min k (2 ^ 64 - 1)) (sym (has.is ∙ ap (λ o. width_of has.plain o g p.node) is))

pub narrower_found : (s : Schema) (terms : List Term) (g : List Triple) (p : Pair) (sh : Shape) (ts : List Triple) → shape_at s p.shape ≡ Some sh → ts ≡ relevant_in_order terms g sh p.node →
    (r x y : ℕ) → r ≡ min x y → IsProduct nothing sh p.node ts x → r ≤ coarse s g p
narrower_found s terms g p sh ts is same r x y e first =
    subst (λ o. r ≤ coarse_of o g p.node) (sym is)
    (min_first r (coarse_over sh p.node (relevant sh.occs g p.node)) 0 (2 ^ 64 - 1) x y
    (coarse_product terms g sh p.node x (subst (λ us. IsProduct nothing sh p.node us x) same first)) e)

one_first : (x a b most : ℕ) → x ≡ min a most → x ≡ 1 → 1 ≤ b → 2 ≤ most → 1 ≡ min (min a b) most
one_first x a b most is one some many = omega (arith, is, one, some, many)

one_below : (x a most : ℕ) → x ≡ min a most → x ≡ 1 → 1 ≤ a
one_below x a most is one = omega (arith, is, one)

-- where the first is 1, so is the Width
pub one_found : (s : Schema) (terms : List Term) (g : List Triple) (p : Pair) (sh : Shape) (ts : List Triple) → shape_at s p.shape ≡ Some sh → ts ≡ relevant_in_order terms g sh p.node →
    (x : ℕ) → x ≡ 1 → IsProduct nothing sh p.node ts x → (w : ℕ) → HasWidth s terms g p w → 1 ≡ min w (2 ^ 64 - 1)
one_found s terms g p sh ts is same x one first w has =
    one_first x (coarse_over sh p.node (relevant sh.occs g p.node)) (fine_over has.plain sh p.node (relevant sh.occs g p.node)) (2 ^ 64 - 1)
    (coarse_product terms g sh p.node x (subst (λ us. IsProduct nothing sh p.node us x) same first)) one (fine_some has.plain sh p.node (relevant sh.occs g p.node)) (lit≤ tt)
    ∙ ap (λ k. min k (2 ^ 64 - 1)) (sym (has.is ∙ ap (λ o. width_of has.plain o g p.node) is))

pub one_narrower : (s : Schema) (terms : List Term) (g : List Triple) (p : Pair) (sh : Shape) (ts : List Triple) → shape_at s p.shape ≡ Some sh → ts ≡ relevant_in_order terms g sh p.node →
    (x : ℕ) → x ≡ 1 → IsProduct nothing sh p.node ts x → 1 ≤ coarse s g p
one_narrower s terms g p sh ts is same x one first =
    subst (λ o. 1 ≤ coarse_of o g p.node) (sym is)
    (one_below x (coarse_over sh p.node (relevant sh.occs g p.node)) (2 ^ 64 - 1) (coarse_product terms g sh p.node x (subst (λ us. IsProduct nothing sh p.node us x) same first)) one)
