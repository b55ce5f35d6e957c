use Rattle.std.proofs.Common.{subst}
use Rattle.demand.proofs.Same.{pair_decides, same_pair}
use Rattle.lists.specs.Additions.{Adds}
use Rattle.lists.proofs.Distinct.{adds_item}
use Rattle.typing_session.proofs.met.Met.put.Goals as goal

pub returns : goal.returns
returns c = subst (λ ps. Adds ps c.args.pair c.insert.new.self.keys) c.self.view_is (adds_item same_pair pair_decides _ c.args.pair _ c.in_ok-insert.ensures.keys)
