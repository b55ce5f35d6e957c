use Rattle.std.proofs.Common.{◌≡◌, ◌+◌, subst, sym}
use Rattle.std.specs.Prelude.{Some, slice_get}
use Rattle.bag_match.specs.Layers.{IsLayer}
use Rattle.bag_match.proofs.Layering.{more_layers, ticks_added}
use Rattle.bag_match.proofs.layers.Question.add_next.Goals as goal

pub next-requires-clause-layer : goal.next-requires-clause-layer
next-requires-clause-layer g c =
    c.requires.layers.each c.args.done c.layer_at-layer.result.now
    (subst (λ z. slice_get z c.args.done ≡ Some c.layer_at-layer.result.now) c.as_slice.ensures.value c.layer_at-layer.ensures)

pub next-requires-clause-places : goal.next-requires-clause-places
next-requires-clause-places g c =
    λ t at. c.requires.offered.each c.args.done t c.places_at-places.result.now at c.places_at-places.ensures

pub returns-clause-layers : goal.returns-clause-layers
returns-clause-layers g c =
    more_layers (g.J.Judge.hold c.args.self.now.judge.now) (g.J.Judge.fail c.args.self.now.judge.now) c.args.self.now.shape.now c.args.self.now.node c.args.self.now.triples.now
    c.args.done c.args.layers.now.items c.push.new.self.items c.of.result c.in_ok-push.ensures.items c.requires.layers
    (subst (λ z. IsLayer (g.J.Judge.hold c.args.self.now.judge.now) (g.J.Judge.fail c.args.self.now.judge.now) c.args.self.now.shape.now c.args.self.now.node c.args.self.now.triples.now (c.args.done + 1) z)
    (sym c.of.ensures) c.in_ok-next.ensures.layer)

pub returns-clause-least : goal.returns-clause-least
returns-clause-least g c =
    ticks_added c.args.steps.now c.next.new.steps c.args.layers.now.items c.push.new.self.items c.of.result c.in_ok-next.next.items
    c.in_ok-push.ensures.items c.of.ensures c.in_ok-next.ensures.least
