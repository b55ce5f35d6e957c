use Rattle.std.proofs.Common.{subst, sym}
use Rattle.demand.specs.Demand.{AreAsked}
use Rattle.shard_checks.proofs.reached.reached_lines.Goals as goal

pub returns-clause-lines : goal.returns-clause-lines
returns-clause-lines c =
    c.in_ok-lines_of_pairs.ensures c.args.schema.now c.args.graph.now.triples c.args.roots.now
    (subst (AreAsked c.args.schema.now c.args.terms.now c.args.graph.now.triples c.args.roots.now) (sym c.list.ensures.list) c.in_ok-pairs.ensures.asked)
