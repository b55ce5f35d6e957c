use Rattle.typing_session.proofs.laws.growth_is_local.Goals as goal

pub returns : goal.returns
returns c = c.growth_is_local.ensures
