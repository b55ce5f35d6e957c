use Rattle.part_laws.proofs.Grown.{verdicts_outlive}
use Rattle.part_laws.proofs.laws.growth_is_local.Goals as goal

pub returns : goal.returns
returns c = verdicts_outlive c.nodes_are_decided.ensures c.sealing_outlives_growth.ensures c.refinement_is_one.ensures.exists c.refinement_is_local.ensures.closed
