use Rattle.std.proofs.Common.{subst}
use Rattle.demand.proofs.Same.{pair_decides, same_pair}
use Rattle.lists.specs.Distinct.{AreDistinct}
use Rattle.lists.proofs.Distinct.{distinct_items}
use Rattle.typing_session.proofs.met.Met.len.Goals as goal

pub returns-clause-distinct : goal.returns-clause-distinct
returns-clause-distinct c = subst AreDistinct c.self.view_is (distinct_items same_pair pair_decides _ c.len.ensures.unique)
