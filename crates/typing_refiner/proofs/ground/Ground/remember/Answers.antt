use Rattle.std.proofs.Common.{sym, subst}
use Rattle.typing_refiner.specs.Ready.{known_of}
use Rattle.typing_refiner.specs.Witnessed.{IsWitnessOf}
use Rattle.typing_refiner.proofs.Upheld.{put_shows, some_of}
use Rattle.typing_refiner.proofs.ground.Ground.remember.Goals as goal

pub witness_of-requires-clause-placed : goal.witness_of-requires-clause-placed
witness_of-requires-clause-placed g c = ((known_of c.args.self.now (g.K.View.known c.args.kept.now) c.args.marks.now), c.requires.placed c.pair_of-pair.result c.pair_of-pair.ensures)

pub returns-in_ok-put-in-Some : goal.returns-in_ok-put-in-Some
returns-in_ok-put-in-Some g c =
    put_shows c.args.self.now (known_of c.args.self.now (g.K.View.known c.args.kept.now) c.args.marks.now) c.args.witnesses.now c.put.new.self c.args.at c.in_ok-held-in-Some.held.value c.requires.shows c.in_ok-put-in-Some.ensures
    c.pair_of-pair.result c.pair_of-pair.ensures
    (subst (λ w. IsWitnessOf c.args.self.now (known_of c.args.self.now (g.K.View.known c.args.kept.now) c.args.marks.now) c.pair_of-pair.result w) (sym c.in_ok-held-in-Some.ensures.ok)
    (some_of _ _ _ c.in-Some.is c.in_ok-witness.ensures (known_of c.args.self.now (g.K.View.known c.args.kept.now) c.args.marks.now) (c.requires.placed c.pair_of-pair.result c.pair_of-pair.ensures)))
