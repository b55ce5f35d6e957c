use Rattle.std.proofs.Common.{ap, length, sym, ◌∙◌}
use Rattle.bag_match.proofs.Lending.{lent_long}
use Rattle.bag_match.proofs.arcs.RelevantTriples.len.Goals as goal

pub returns : goal.returns
returns c =
    ap (λ z. length z) c.as_slice.ensures.value ∙ sym (lent_long c.self.inside.neigh c.self.inside.places.items c.self.invariant) ∙ ap (λ z. length z) c.self.view_is
