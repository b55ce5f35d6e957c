use Rattle.std.proofs.Common.{◌<◌, ap, length, slice_index, subst, sym, ◌∙◌}
use Rattle.bag_match.proofs.Lending.{lent_at, lent_left, lent_within}
use Rattle.bag_match.proofs.arcs.RelevantTriples.at.Goals as goal

pub place_at-requires : goal.place_at-requires
place_at-requires c =
    subst (λ z. c.args.i < length z) (sym c.as_slice.ensures.value)
    (lent_within c.self.inside.neigh c.self.inside.places.items c.args.self.now c.args.i (sym c.self.view_is) c.self.invariant c.requires)

pub at-requires : goal.at-requires
at-requires c =
    subst (λ k. k < length c.self.inside.neigh) (sym (c.place_at.ensures ∙ ap (λ z. slice_index z c.args.i) c.as_slice.ensures.value))
    (c.self.invariant c.args.i 0 (lent_within c.self.inside.neigh c.self.inside.places.items c.args.self.now c.args.i (sym c.self.view_is) c.self.invariant c.requires))

pub returns-clause-at : goal.returns-clause-at
returns-clause-at c =
    lent_at c.self.inside.neigh c.self.inside.places.items c.args.self.now c.args.i (sym c.self.view_is) c.self.invariant c.requires c.place_at.result c.at.result.now
    (c.place_at.ensures ∙ ap (λ z. slice_index z c.args.i) c.as_slice.ensures.value) c.at.ensures

pub returns-clause-left : goal.returns-clause-left
returns-clause-left c = lent_left c.args.self.now c.args.i c.at.result.now c.requires (returns-clause-at c)
