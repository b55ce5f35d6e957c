use Rattle.std.proofs.Common.{length, subst, sym}
use Rattle.bag_match.proofs.Matched.{shape_read}
use Rattle.std.specs.Prelude.{IfOk, IfSome}
use Rattle.bag_match.specs.Counts.{ArePlacesOf}
use Rattle.typing_refiner.specs.Witnessed.{IsTally}
use Rattle.typing_refiner.proofs.Upheld.{places_inside, shows_some}
use Rattle.typing_refiner.proofs.ground.Ground.witness_of.Goals as goal

pub of-requires : goal.of-requires
of-requires c =
    let (view, outcome) = c.requires.placed in
    record {
      inside = subst (λ os. ArePlacesOf (length os) c.args.places.now) (sym c.as_slice-2.ensures)
          (places_inside c.args.self.now view c.args.pair c.in-Some.shape.now
          (shape_read c.args.self.now.schema.now c.args.pair.shape c.as_slice.result.now c.in-Some.shape.now c.as_slice.ensures c.in-Some.ensures.lookup.0 c.in-Some.ensures.lookup.1) c.args.places.now outcome);
    }

pub returns : goal.returns
returns c =
    shows_some c.args.self.now c.args.pair c.in-Some.shape.now c.args.places.now (shape_read c.args.self.now.schema.now c.args.pair.shape c.as_slice.result.now c.in-Some.shape.now c.as_slice.ensures c.in-Some.ensures.lookup.0 c.in-Some.ensures.lookup.1)
    c.in_ok-triples.triples (c.in_ok-triples.ensures c.args.self.now.terms.now c.requires.ready.sealed) c.of.result c.of.ensures.triples c.of.ensures.places
    (subst (λ os. IfOk c.of.result (λ o. IfSome o (λ w. IsTally (length os) w))) c.as_slice-2.ensures c.of.ensures.tally)
