use Rattle.std.proofs.Common.{◌==◌, ◌∙◌, not, rules, tests}
use Rattle.std.proofs.lemmas.List.Folds.{length-prefix_len}
use Rattle.std.proofs.lemmas.Iterator.{YieldsList-from_slice}
use Rattle.std.proofs.lemmas.Iterator.Consumers.{count_from_yields_List}
use Rattle.std.proofs.lemmas.Iterator.Search.{YieldsList-from_take_while}
use Rattle.refusal_places.proofs.first_line.Goals as goal

pub returns-clause-line : goal.returns-clause-line
returns-clause-line c =
    let size =
    count_from_yields_List c.take_while.result _ c.count-size.ensures.ran
    (YieldsList-from_take_while _ (λ b. not (b == 10)) (YieldsList-from_slice c.args.text.now cc) c.take_while.ensures.closure
    c.take_while.ensures.done (λ x b q k. search (rules, tests)))
    ∙ length-prefix_len (λ b. not (b == 10)) c.args.text.now in
    rw (size)
