use Rattle.std.proofs.Common.{arith, sym, ◌∙◌}
use Rattle.tally.proofs.Plans.{is_each, is_many, is_one, is_sym}
use Rattle.nonconformance.proofs.Members.{max_small, most_all, most_max_end, most_max_none, most_max_step, most_repeated, most_some, most_sum_end, most_sum_none, most_sum_step, most_symbol, start_max, start_sum}
use Rattle.nonconformance.proofs.bounds.+most.Goals as goal

pub most_of-returns-in-Sym : goal.most_of-returns-in-Sym
most_of-returns-in-Sym t c = most_symbol _ _ _ _ _ (is_sym _ _ c.in-Sym.is) c.is_among.ensures c.one_if.ensures

pub most_of-returns-in-Each : goal.most_of-returns-in-Each
most_of-returns-in-Each t c = most_all _ _ _ _ (is_each _ _ _ c.in-Each.is c.deref.ensures.value) c.most_of_each.ensures

pub most_of-returns-in-One : goal.most_of-returns-in-One
most_of-returns-in-One t c = most_some _ _ _ _ (is_one _ _ _ c.in-One.is c.deref-in-One.ensures.value) c.most_of_one.ensures

pub most_of-returns-in-Many : goal.most_of-returns-in-Many
most_of-returns-in-Many t c =
    most_repeated _ _ _ _ _ _ _ (is_many _ _ _ _ _ c.in-Many.is c.deref-in-Many.ensures) c.most_of.ensures c.repeated.ensures

pub most_of_each-loop-member-init : goal.most_of_each-loop-member-init
most_of_each-loop-member-init t c = (start_sum _, omega arith)

pub most_of_one-loop-member-init : goal.most_of_one-loop-member-init
most_of_one-loop-member-init t c = (start_max _, omega arith)

pub most_of_each-returns-in_err-most_of : goal.most_of_each-returns-in_err-most_of
most_of_each-returns-in_err-most_of t c =
    c.from_residual.ensures ∙ most_sum_none _ _ _ _ _ c.loop-member-test.true c.member-item.is _ c.loop-member.invariant.0 (sym c.in_err-most_of.was ∙ c.most_of.ensures)

pub most_of_each-loop-member-preserved : goal.most_of_each-loop-member-preserved
most_of_each-loop-member-preserved t c = (
  most_sum_step _ _ _ _ _ c.loop-member-test.true c.member-item.is _ _ _ c.loop-member.invariant.0 c.in_ok-most_of.ensures c.saturating_add-sum.ensures,
  (let sum = c.saturating_add-sum.ensures in omega arith),
)

pub most_of_each-returns : goal.most_of_each-returns
most_of_each-returns t c = most_sum_end _ _ _ _ c.loop-member-test.false _ c.loop-member.invariant.0 c.loop-member.invariant.1

pub most_of_one-returns-in_err-most_of : goal.most_of_one-returns-in_err-most_of
most_of_one-returns-in_err-most_of t c =
    c.from_residual.ensures ∙ most_max_none _ _ _ _ _ c.loop-member-test.true c.member-item.is _ c.loop-member.invariant.0 (sym c.in_err-most_of.was ∙ c.most_of.ensures)

pub most_of_one-loop-member-preserved : goal.most_of_one-loop-member-preserved
most_of_one-loop-member-preserved t c = (
  most_max_step _ _ _ _ _ c.loop-member-test.true c.member-item.is _ _ _ c.loop-member.invariant.0 c.in_ok-most_of.ensures c.max-most.ensures,
  max_small _ _ _ _ c.loop-member.invariant.1 c.in_ok-most_of.ensures c.max-most.ensures,
)

pub most_of_one-returns : goal.most_of_one-returns
most_of_one-returns t c = most_max_end _ _ _ _ c.loop-member-test.false _ c.loop-member.invariant.0 c.loop-member.invariant.1
