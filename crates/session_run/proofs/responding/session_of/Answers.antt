use Rattle.std.proofs.Common.{subst, sym}
use Rattle.std.specs.Prelude.{All}
use Rattle.graph_index.specs.Laws.{IsOfTable}
use Rattle.schema_tree.proofs.Strata.{stratum_stratified}
use Rattle.session_run.proofs.responding.session_of.Goals as goal

pub new-requires-clause-stratified : goal.new-requires-clause-stratified
new-requires-clause-stratified c = stratum_stratified c.args.holding.schema c.args.holding.strata c.requires.strata

pub new-requires-clause-ends : goal.new-requires-clause-ends
new-requires-clause-ends c = subst (All (IsOfTable c.args.holding.terms)) (sym c.seal.ensures.same) c.requires.of_table
