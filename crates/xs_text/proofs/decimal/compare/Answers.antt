use Rattle.xs_text.proofs.Texts.{answer_for_texts}
use Rattle.xs_text.proofs.Signs.{answer_less, answer_equal, answer_greater}
use Rattle.xs_text.proofs.decimal.compare.Goals as goal

pub returns-clause-less : goal.returns-clause-less
returns-clause-less c =
    answer_less _ _ _ (answer_for_texts c.args.a.now c.args.b.now _ _ _ _ _ _ _ c.new.ensures.whole c.new.ensures.fraction c.new.ensures.sign c.new-2.ensures.whole c.new-2.ensures.fraction c.new-2.ensures.sign c.compare.ensures)

pub returns-clause-equal : goal.returns-clause-equal
returns-clause-equal c =
    answer_equal _ _ _ (answer_for_texts c.args.a.now c.args.b.now _ _ _ _ _ _ _ c.new.ensures.whole c.new.ensures.fraction c.new.ensures.sign c.new-2.ensures.whole c.new-2.ensures.fraction c.new-2.ensures.sign c.compare.ensures)

pub returns-clause-greater : goal.returns-clause-greater
returns-clause-greater c =
    answer_greater _ _ _ (answer_for_texts c.args.a.now c.args.b.now _ _ _ _ _ _ _ c.new.ensures.whole c.new.ensures.fraction c.new.ensures.sign c.new-2.ensures.whole c.new-2.ensures.fraction c.new-2.ensures.sign c.compare.ensures)
