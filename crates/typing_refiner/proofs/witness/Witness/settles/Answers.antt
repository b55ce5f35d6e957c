use Rattle.std.proofs.Common.{◌≡◌, ◌∙◌, length, subst, sym}
use Rattle.std.proofs.lemmas.Bool.{OnTrue_at}
use Rattle.std.specs.Prelude.{Some, slice_get}
use Rattle.bag_match.specs.Counts.{ArePlacesOf, IsPlaceOf}
use Rattle.lists.proofs.Members.{got_in}
use Rattle.typing_refiner.proofs.Tallies.{for_inside, given_back, has_place, put_again, taken_up}
use Rattle.typing_refiner.proofs.witness.Witness.settles.Goals as goal

pub take_one-requires-clause-inside : goal.take_one-requires-clause-inside
take_one-requires-clause-inside g c =
    subst (λ ps. ArePlacesOf (length c.args.shape.now.occs) ps) (sym c.as_slice-2.ensures.value)
    (for_inside (g.J.Judge.hold c.args.judge.now) (g.J.Judge.fail c.args.judge.now) c.args.shape.now c.args.node c.args.triple _ c.in_ok-allowed.ensures)

pub set_place-requires-clause-inside : goal.set_place-requires-clause-inside
set_place-requires-clause-inside g c =
    subst (λ k. IsPlaceOf k c.place_at-before.result) (sym c.take_one.ensures.tally.long)
    (c.requires.tally.inside c.place_at-before.result (got_in c.args.self.now.places.items c.args.at c.place_at-before.result
    (subst (λ ps. slice_get ps c.args.at ≡ Some c.place_at-before.result) c.as_slice.ensures.value c.place_at-before.ensures)))

pub returns-then-take_one-clause-placed : goal.returns-then-take_one-clause-placed
returns-then-take_one-clause-placed g c =
    taken_up (g.J.Judge.hold c.args.judge.now) (g.J.Judge.fail c.args.judge.now) c.args.shape.now c.args.node c.args.self.now c.take_one.new.self c.take_one.ensures.triples c.requires.distinct
    c.args.at c.args.triple c.requires.there _ _ c.as_slice-2.ensures.value c.in_ok-allowed.ensures (OnTrue_at c.if-take_one.true c.take_one.ensures.takes)

pub returns-then-take_one-clause-spelled : goal.returns-then-take_one-clause-spelled
returns-then-take_one-clause-spelled g c = (OnTrue_at c.if-take_one.true c.take_one.ensures.takes).spelled

pub returns-clause-placed : goal.returns-clause-placed
returns-clause-placed g c =
    given_back (g.J.Judge.hold c.args.judge.now)
    (g.J.Judge.fail c.args.judge.now) c.args.shape.now c.args.node c.args.self.now c.set_place.new.self (c.set_place.ensures.triples ∙ c.take_one.ensures.triples)
    (put_again c.args.self.now.places.items c.take_one.new.self.places.items c.set_place.new.self.places.items c.args.at c.place_at-before.result
    (subst (λ ps. slice_get ps c.args.at ≡ Some c.place_at-before.result) c.as_slice.ensures.value c.place_at-before.ensures)
    (has_place (length c.args.shape.now.occs) c.args.self.now c.take_one.new.self c.take_one.ensures.tally c.take_one.ensures.triples c.args.at c.args.triple c.requires.there)
    c.set_place.ensures.places c.take_one.ensures.others)
