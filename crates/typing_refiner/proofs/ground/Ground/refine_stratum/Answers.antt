use Rattle.std.proofs.Common.{map}
use Rattle.typing_refiner.proofs.Strata.{done, is_low}
use Rattle.typing_refiner.proofs.ground.Ground.refine_stratum.Goals as goal

pub remove-requires-clause-fresh : goal.remove-requires-clause-fresh
remove-requires-clause-fresh g c = λ i m. c.requires.fresh i ((c.requires.members i).0 m)

pub returns-clause-done : goal.returns-clause-done
returns-clause-done g c = λ lower before.
    let removing = c.in_ok-gone.ensures.removed lower before in
    done c.args.self.now c.requires.ready _ lower c.args.stratum c.args.marks.now c.remove.new.marks c.confirm.new.marks (map (λ r. r.pair) c.in_ok-gone.gone.items) removing
    (c.in_ok-confirm.ensures.confirmed lower (map (λ r. r.pair) c.in_ok-gone.gone.items) (is_low c.args.self.now c.requires.ready _ lower c.args.stratum c.args.marks.now before) removing)
