use Rattle.std.proofs.Common.{◌∙◌}
use Rattle.proof_checker.proofs.Stating.{leads}
use Rattle.proof_checker.proofs.states.Listing.leads_on.Goals as goal

pub returns-clause-covered : goal.returns-clause-covered
returns-clause-covered g c =
    leads c.args.self.now.shape.now c.args.self.now.node c.args.self.now.triples.now c.args.self.now.states.now
    c.args.done c.args.counts.now.items c.args.place c.as_slice.result.now c.is_covered-covered.result (c.as_slice.ensures.value ∙ c.raise.ensures) c.is_covered-covered.ensures
