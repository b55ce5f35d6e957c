-- What the order of a neighbourhood keeps.
use Rattle.std.proofs.Common.{◌≡◌, suc, ◌≤◌, length, List, [], ◌∷◌, arith, sym, ◌∙◌, Bool, true, false, cond, filter, not}
use Rattle.std.specs.Prelude.{IsTrue, ◌||◌, ◌↔◌}
use Rattle.std.specs.List.{list_any}
use Rattle.std.specs.declared.cmp.Ordering.{Ordering}
use Rattle.rdf_terms.specs.declared.terms.TermId.{TermId}
use Rattle.rdf_terms.specs.declared.terms.Term.{Term}
use Rattle.rdf_terms.specs.declared.terms.Triple.{Triple}
use Rattle.rdf_terms.specs.Graphs.{ins, neigh, outs, same_id}
use Rattle.lists.specs.Sorting.{sorted_by}
use Rattle.schema_tree.specs.declared.schema.Shape.{Shape}
use Rattle.rdf_terms.specs.Order.{neighbourhood}
use Rattle.schema_tree.specs.Places.{IsShut}
use Rattle.schema_tree.specs.Relevant.{is_relevant, relevant_in_order}
use Rattle.schema_tree.proofs.Ordered.{ordered_same}
use Rattle.lists.proofs.Ordered.{sorted_same}
use Rattle.std.proofs.lemmas.List.Sorted.{length_permutation, list_any-IsPermutation}

pub any_sorted : {X : Type 0} (q : X → Bool) (order : X → X → Ordering) (xs : List X) → list_any q (sorted_by order xs) ≡ list_any q xs
any_sorted q order xs = sym (list_any-IsPermutation q xs (sorted_by order xs) (sorted_same order xs))

-- a closed Shape is shut where some arc out is not fitted
pub shut_by : (sh : Shape) (n : TermId) (g : List Triple) (r : Bool) → sh.closed ≡ true → r ≡ list_any (λ t. not (is_relevant sh.occs n t)) (outs g n) → IsTrue r ↔ IsShut g sh n
shut_by sh n g r closed is = ((λ h. (closed, sym is ∙ h)), λ h. is ∙ h.1)

pub filter_few : {X : Type 0} (q : X → Bool) (xs : List X) → length (filter q xs) ≤ length xs
filter_few q [] = omega arith
filter_few q (x ∷ xs) = go (q x) (filter_few q xs)
  where
    go : (b : Bool) → length (filter q xs) ≤ length xs → length (cond b (x ∷ filter q xs) (filter q xs)) ≤ suc (length xs)
    go true le = omega (arith, le)
    go false le = omega (arith, le)

-- a node has no more triples than there are
pub order_few : (terms : List Term) (g : List Triple) (n : TermId) → length (neighbourhood terms g n) ≤ length g
order_few terms g n =
    let b = length_permutation (neigh g n) (neighbourhood terms g n) (ordered_same terms g n) in
    let c = neigh_few in
    omega (arith, b, c)
  where
    neigh_few : length (neigh g n) ≤ length g
    neigh_few = filter_few (λ t. same_id t.s n || same_id t.o n) g

-- and no more relevant ones
pub relevant_few : (terms : List Term) (g : List Triple) (sh : Shape) (n : TermId) → length (relevant_in_order terms g sh n) ≤ length g
relevant_few terms g sh n =
    let a = filter_few (is_relevant sh.occs n) (neighbourhood terms g n) in
    let b = order_few terms g n in
    omega (arith, a, b)

-- and no more that are lent
module _ (order : Triple → Triple → Ordering) (g : List Triple) (n : TermId) where
  pub outs_few : length (sorted_by order (outs g n)) ≤ length g
  outs_few =
      let a = length_permutation (outs g n) (sorted_by order (outs g n)) (sorted_same order (outs g n)) in
      let b = filter_few (λ t. same_id t.s n) g in
      omega (arith, a, b)

  pub ins_few : length (sorted_by order (ins g n)) ≤ length g
  ins_few =
      let a = length_permutation (ins g n) (sorted_by order (ins g n)) (sorted_same order (ins g n)) in
      let b = filter_few (λ t. same_id t.o n) g in
      omega (arith, a, b)
