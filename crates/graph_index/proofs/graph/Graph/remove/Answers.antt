use Rattle.std.proofs.Common.{◌≡◌, subst, ap, sym, ◌∙◌, IsTrue, ◌↔◌, Contains, List, ◌∷◌}
use Rattle.std.specs.Bool.{OnTrue}
use Rattle.std.specs.List.Sorted.{IsPermutation}
use Rattle.graph_index.proofs.graph.Graph.remove.Goals.{in-Some-1, in-None-1}
use Rattle.lists.specs.Distinct.{AreDistinct}
use Rattle.lists.proofs.Distinct.{distinct_items}
use Rattle.rdf_terms.specs.declared.terms.Triple.{Triple}
use Rattle.graph_index.proofs.Held.{same_triple, triple_decides, held_exactly, removed_triple}
use Rattle.graph_index.proofs.graph.Graph.remove.Goals as goal

left : (c : goal.Joined-self) → c.match-self.self.triples ≡ c.swap_remove-held.new.self.keys
left c = elim c.match-self.branch [ in-Some-1 w ↦ ap (λ g. g.triples) w.self-is | in-None-1 w ↦ ap (λ g. g.triples) w.self-is ]

pub returns-then-held-clause-held : goal.returns-then-held-clause-held
returns-then-held-clause-held c = subst (λ ts. IsTrue c.swap_remove-held.result ↔ Contains ts c.args.t) (ap (λ g. g.triples) c.self.view_is)
    (held_exactly _ c.args.t c.swap_remove-held.result c.swap_remove-held.ensures.found)

pub returns-then-held-clause-removed : goal.returns-then-held-clause-removed
returns-then-held-clause-removed c =
    let gone : IsPermutation c.args.self.now.triples (c.args.t ∷ c.swap_remove-held.new.self.keys) =
    subst (λ (ts : List Triple). IsPermutation ts (c.args.t ∷ c.swap_remove-held.new.self.keys)) (ap (λ g. g.triples) c.self.view_is)
    (removed_triple _ _ c.args.t (sym c.swap_remove-held.ensures.found ∙ c.if-held.true) c.swap_remove-held.ensures.keys) in
    subst (λ b. OnTrue b (IsPermutation c.args.self.now.triples (c.args.t ∷ c.match-self.self.triples))) (sym c.if-held.true)
    (subst (λ (ts : List Triple). IsPermutation c.args.self.now.triples (c.args.t ∷ ts)) (sym (left c)) gone)

pub returns-then-held-clause-distinct : goal.returns-then-held-clause-distinct
returns-then-held-clause-distinct c = subst AreDistinct (sym (left c)) (distinct_items same_triple triple_decides _ c.swap_remove-held.ensures.unique)

pub returns-else-held-clause-distinct : goal.returns-else-held-clause-distinct
returns-else-held-clause-distinct c = distinct_items same_triple triple_decides _ c.swap_remove-held.ensures.unique
