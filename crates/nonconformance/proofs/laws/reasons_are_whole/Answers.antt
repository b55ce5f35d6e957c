use Rattle.std.specs.Prelude.{suc}
use Rattle.schema_tree.specs.Typings.{top_of}
use Rattle.nonconformance.proofs.Final.{no_cannot_match}
use Rattle.nonconformance.proofs.Whole.{some_reason, unmatched_causes}
use Rattle.nonconformance.proofs.laws.reasons_are_whole.Goals as goal

pub returns-clause-some : goal.returns-clause-some
returns-clause-some c = λ s terms g view p sh. some_reason c.verdict_is_one.ensures.some c.verdict_is_one.ensures.one s terms view g p sh

pub returns-clause-values : goal.returns-clause-values
returns-clause-values c = unmatched_causes c.verdict_is_one.ensures.some c.verdict_is_one.ensures.one

pub returns-clause-removed : goal.returns-clause-removed
returns-clause-removed c = λ s terms g f pairs budget known refined. no_cannot_match s terms g f pairs budget (suc (top_of f)) known refined
