use Rattle.std.specs.Prelude.{suc}
use Rattle.schema_tree.specs.Typings.{top_of}
use Rattle.nonconformance.proofs.Refined.{no_has_reason}
use Rattle.nonconformance.proofs.Whole.{reasons_back}
use Rattle.nonconformance.proofs.laws.reasons_go_back.Goals as goal

pub returns-clause-stratum : goal.returns-clause-stratum
returns-clause-stratum c = reasons_back c.verdict_is_one.ensures.some c.verdict_is_one.ensures.one

pub returns-clause-refined : goal.returns-clause-refined
returns-clause-refined c = λ s terms g f pairs budget known loaded refined.
    no_has_reason c.verdict_is_one.ensures.some c.verdict_is_one.ensures.one s terms g f pairs budget loaded (suc (top_of f)) known refined
