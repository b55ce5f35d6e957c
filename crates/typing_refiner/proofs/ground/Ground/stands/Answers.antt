use Rattle.bag_match.proofs.Matched.{shape_read}
use Rattle.typing_refiner.specs.Ready.{known_of}
use Rattle.typing_refiner.proofs.Upheld.{but_of, shows_ok}
use Rattle.typing_refiner.proofs.ground.Ground.stands.Goals as goal

pub stands_at-requires-clause-body : goal.stands_at-requires-clause-body
stands_at-requires-clause-body g c = (c.requires.ready.loaded.shapes c.args.pair.shape c.in-Some.shape.now
    (shape_read c.args.self.now.schema.now c.args.pair.shape c.as_slice.result.now c.in-Some.shape.now c.as_slice.ensures c.in-Some.ensures.lookup.0 c.in-Some.ensures.lookup.1)).body

pub stands_at-requires-clause-few : goal.stands_at-requires-clause-few
stands_at-requires-clause-few g c = (c.requires.ready.loaded.shapes c.args.pair.shape c.in-Some.shape.now
    (shape_read c.args.self.now.schema.now c.args.pair.shape c.as_slice.result.now c.in-Some.shape.now c.as_slice.ensures c.in-Some.ensures.lookup.0 c.in-Some.ensures.lookup.1)).few

pub stands_at-requires-clause-tally : goal.stands_at-requires-clause-tally
stands_at-requires-clause-tally g c =
    (but_of c.args.self.now (known_of c.args.self.now (g.K.View.known c.args.kept.now) c.args.marks.now) c.args.gone c.args.pair c.in-Some.shape.now
    (shape_read c.args.self.now.schema.now c.args.pair.shape c.as_slice.result.now c.in-Some.shape.now c.as_slice.ensures c.in-Some.ensures.lookup.0 c.in-Some.ensures.lookup.1) c.args.witness.now c.requires.shows).tally

pub returns : goal.returns
returns g c =
    shows_ok c.args.self.now (known_of c.args.self.now (g.K.View.known c.args.kept.now) c.args.marks.now) c.args.gone c.args.pair c.in-Some.shape.now
    (shape_read c.args.self.now.schema.now c.args.pair.shape c.as_slice.result.now c.in-Some.shape.now c.as_slice.ensures c.in-Some.ensures.lookup.0 c.in-Some.ensures.lookup.1) c.args.witness.now c.stands_at.new.witness c.requires.shows c.stands_at.ensures.triples c.stands_at.ensures.tally c.stands_at.result c.stands_at.ensures.stands
