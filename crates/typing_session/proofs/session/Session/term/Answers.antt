use Rattle.typing_session.proofs.Terms.{held_either, sound_either}
use Rattle.typing_session.proofs.session.Session.term.Goals as goal

pub invariant_of-self : goal.invariant_of-self
invariant_of-self c = (
  c.self.invariant.0,
  held_either c.put.result c.self.inside.terms c.put.new.self c.args.term c.put.ensures.added c.put.ensures.err c.self.inside.graph c.sealing_outlives_growth.ensures c.self.invariant.1,
  sound_either c.put.result c.self.inside.terms c.put.new.self c.args.term c.put.ensures.added c.put.ensures.err c.self.inside.graph c.sealing_outlives_growth.ensures c.self.invariant.1 c.self.inside.schema c.self.inside.strata c.self.inside.budget c.self.inside.kept
      c.growth_is_local.ensures c.self.invariant.0.loaded c.len-kept.ensures.distinct c.self.invariant.2,
  c.self.invariant.3,
)
