use Rattle.std.proofs.Common.{refl}
use Rattle.lists.proofs.Tests.{neither}
use Rattle.idle_selectors.specs.Idle.{IsInData}
use Rattle.idle_selectors.proofs.Found.{data_by, none_in_data}
use Rattle.idle_selectors.proofs.finding.is_in_data.Goals as goal

pub returns-in-Some : goal.returns-in-Some
returns-in-Some c = data_by c.args.terms.now c.args.graph.now.triples c.distinct_terms.ensures c.args.node.now c.in-Some.id c.in-Some.ensures.found c.has_end.result c.has_end.ensures

pub returns-in-None : goal.returns-in-None
returns-in-None c =
    neither (IsInData c.args.terms.now c.args.graph.now.triples c.args.node.now) (none_in_data c.args.terms.now c.args.graph.now.triples c.args.node.now (c.in-None.ensures.absent.0 refl))
