use Rattle.std.proofs.Common.{rules, tests, Bool}
use Rattle.std.specs.Bool.{beq}
use Rattle.std.proofs.lemmas.Iterator.{YieldsList-from_slice, YieldsList-from_zip}
use Rattle.std.proofs.lemmas.Iterator.Search.{all_from_yields_List}
use Rattle.schema_tree.specs.declared.schema.Answer.{Answer}
use Rattle.shex_run.specs.Statuses.{are_wanted}
use Rattle.shex_run.proofs.deciding.are_wanted.Goals as goal

pub returns : goal.returns
unfolding are_wanted
returns c =
    all_from_yields_List (λ (p : Bool × Answer). beq p.0 p.1.holds) c.all.new.self _ _ c.all.ensures.ran
    (YieldsList-from_zip {s = c.zip.result} (YieldsList-from_slice c.args.wants.now cc) (YieldsList-from_slice c.args.answers.now c.zip.ensures.second.0)) (λ x b q k. search (rules, tests))
