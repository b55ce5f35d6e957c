-- The pairs for which associations ask are one list.
use Rattle.std.proofs.Common.{◌≡◌, subst, List, map}
use Rattle.lists.proofs.Ordered.{sorted_one}
use Rattle.rdf_terms.specs.declared.terms.Term.{Term}
use Rattle.rdf_terms.specs.declared.terms.Triple.{Triple}
use Rattle.demand.specs.Demand.{AreAsked}
use Rattle.demand.specs.Orders.{compare_pairs}
use Rattle.demand.specs.declared.reach.Root.{Root}
use Rattle.demand.proofs.PairOrder.{pairs_total}
use Rattle.schema_tree.specs.declared.schema.Pair.{Pair}
use Rattle.schema_tree.specs.declared.schema.Schema.{Schema}
use Rattle.shape_map.specs.declared.resolve.Association.{Association}
use Rattle.shex_inputs.specs.Asked.{Question, root_of}
use Rattle.shex_inputs.specs.Held.{Held}

pub asked_one : (s : Schema) (terms : List Term) (g : List Triple) (roots : List Root) (ps qs : List Pair) → AreAsked s terms g roots ps → AreAsked s terms g roots qs → ps ≡ qs
asked_one s terms g roots ps qs h k =
    sorted_one (compare_pairs terms) (pairs_total terms) ps qs h.sorted k.sorted (λ n c. (k.exactly n).1 ((h.exactly n).0 c)) (λ n c. (h.exactly n).1 ((k.exactly n).0 c))

-- what one question asks for, another with the same things asks for
pub asked_moved : (p q : Question) → p.held ≡ q.held → p.terms ≡ q.terms → p.associations ≡ q.associations →
    AreAsked p.held.schema p.terms p.held.graph (map root_of p.associations) p.pairs → AreAsked q.held.schema q.terms q.held.graph (map root_of q.associations) p.pairs
asked_moved p q held terms associations h =
    let A : Held → List Term → List Association → Type 0 = λ v ts xs. AreAsked v.schema ts v.graph (map root_of xs) p.pairs in
    let one : A q.held p.terms p.associations = subst (λ v. A v p.terms p.associations) held h in
    let two : A q.held q.terms p.associations = subst (λ ts. A q.held ts p.associations) terms one in
    subst (λ xs. A q.held q.terms xs) associations two

-- what associations ask for over what the code holds, they ask for over what is held
pub asked_over : (s t : Schema) (terms : List Term) (g h : List Triple) (xs ys : List Association) (ps : List Pair) → s ≡ t → g ≡ h → xs ≡ ys
    → AreAsked s terms g (map root_of xs) ps → AreAsked t terms h (map root_of ys) ps
asked_over s t terms g h xs ys ps schema graph same asked =
    subst (λ zs. AreAsked t terms h (map root_of zs) ps) same
    (subst (λ k. AreAsked t terms k (map root_of xs) ps) graph (subst (λ v. AreAsked v terms g (map root_of xs) ps) schema asked))
