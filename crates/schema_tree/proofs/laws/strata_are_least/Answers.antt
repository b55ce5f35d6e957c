use Rattle.schema_tree.proofs.Strata.{cycle_is_one, one_is_cycle, path_short, stratified_no_cycle, stratum_least, stratum_stratified}
use Rattle.schema_tree.proofs.laws.strata_are_least.Goals as goal

pub returns-clause-stratified : goal.returns-clause-stratified
returns-clause-stratified c = stratum_stratified

pub returns-clause-least : goal.returns-clause-least
returns-clause-least c = stratum_least

pub returns-clause-no_cycle : goal.returns-clause-no_cycle
returns-clause-no_cycle c = stratified_no_cycle

pub returns-clause-short_paths : goal.returns-clause-short_paths
returns-clause-short_paths c = path_short

pub returns-clause-cycles : goal.returns-clause-cycles
returns-clause-cycles c = λ s. (one_is_cycle s, λ (is, h). cycle_is_one s is h)
