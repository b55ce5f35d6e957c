use Rattle.std.proofs.Common.{rules, ◌<◌, ◌^◌, arith, subst, sym, ◌∙◌, slice_index}
use Rattle.tally.proofs.Layers.{symbol_below, symbol_span, symbol_ends, many_none, many_span, many_ends}
use Rattle.tally.proofs.Members.{each_start, each_asks, each_none, each_apart, each_next, each_end, one_start, one_asks, one_none, one_fits, one_next, one_end, one_within}
use Rattle.tally.proofs.Plans.{is_sym, is_each, is_one, is_many}
use Rattle.tally.specs.Span.{span}
use Rattle.tally.specs.Symbols.{Covers, IsDistinct}
use Rattle.tally.specs.declared.Count.{the_lemmas}
use Rattle.tally.proofs.counting.+walk.Goals as goal

pub common_interval-loop-member-init : goal.common_interval-loop-member-init
common_interval-loop-member-init t c =
    each_start _ (slice_index c.args.low.now) (slice_index c.args.high.now) c.requires.distinct

pub common_interval-interval_of-requires : goal.common_interval-interval_of-requires
common_interval-interval_of-requires t c =
    let asks = each_asks _ _ _ _ _ _ c.loop-member-test.true c.member-item.is c.loop-member.invariant in (
      search (rules, the_lemmas),
      (asks.0, (λ k has. c.requires.in_low k (asks.1 k has), λ k has. c.requires.in_high k (asks.1 k has))),
    )

pub common_interval-returns-in_err-interval_of-clause-value :
    goal.common_interval-returns-in_err-interval_of-clause-value
unfolding span
common_interval-returns-in_err-interval_of-clause-value t c =
    let none =
    each_none _ _ _ _ _ _ c.loop-member-test.true c.member-item.is c.loop-member.invariant
    c.in_err-interval_of.ensures.value
    in
    c.from_residual.ensures ∙ sym none

pub common_interval-returns-in_err-common-clause-value : goal.common_interval-returns-in_err-common-clause-value
unfolding span
common_interval-returns-in_err-common-clause-value t c =
    let none =
    each_apart _ _ _ _ _ _ c.loop-member-test.true c.member-item.is c.loop-member.invariant _
    c.in_ok-interval_of.ensures.value c.in_err-common.ensures
    in
    c.from_residual-in_err-common.ensures ∙ sym none

pub common_interval-loop-member-preserved : goal.common_interval-loop-member-preserved
common_interval-loop-member-preserved t c =
    each_next _ _ _ _ _ _ c.loop-member-test.true c.member-item.is c.loop-member.invariant _ _
    c.in_ok-interval_of.ensures.value c.in_ok-interval_of.ensures.within c.in_ok-common.ensures

pub common_interval-returns-clause-value : goal.common_interval-returns-clause-value
unfolding span
common_interval-returns-clause-value t c =
    each_end _ _ _ _ _ c.loop-member-test.false c.loop-member.invariant

pub sum_of_intervals-loop-member-init : goal.sum_of_intervals-loop-member-init
sum_of_intervals-loop-member-init t c =
    one_start _ (slice_index c.args.low.now) (slice_index c.args.high.now) c.requires.distinct

pub sum_of_intervals-interval_of-requires : goal.sum_of_intervals-interval_of-requires
sum_of_intervals-interval_of-requires t c =
    let asks = one_asks _ _ _ _ _ _ c.loop-member-test.true c.member-item.is c.loop-member.invariant in (
      search (rules, the_lemmas),
      (asks.0, (λ k has. c.requires.in_low k (asks.1 k has), λ k has. c.requires.in_high k (asks.1 k has))),
    )

pub sum_of_intervals-returns-in_err-interval_of-clause-value :
    goal.sum_of_intervals-returns-in_err-interval_of-clause-value
unfolding span
sum_of_intervals-returns-in_err-interval_of-clause-value t c =
    let none =
    one_none _ _ _ _ _ _ c.loop-member-test.true c.member-item.is c.loop-member.invariant
    c.in_err-interval_of.ensures.value
    in
    c.from_residual.ensures ∙ sym none

pub sum_of_intervals-plus-sum-requires : goal.sum_of_intervals-plus-sum-requires
sum_of_intervals-plus-sum-requires t c =
    let fits =
    one_fits _ _ _ _ _ _ c.loop-member-test.true c.member-item.is c.loop-member.invariant _
    c.in_ok-interval_of.ensures.within (λ k. omega (arith, c.type_inv.low k))
    (λ k. omega (arith, c.type_inv.high k))
    in
    record { lower = fits.0; upper = fits.1 }

pub sum_of_intervals-loop-member-preserved : goal.sum_of_intervals-loop-member-preserved
sum_of_intervals-loop-member-preserved t c =
    one_next _ _ _ _ _ _ c.loop-member-test.true c.member-item.is c.loop-member.invariant _ _
    c.in_ok-interval_of.ensures.value c.in_ok-interval_of.ensures.within c.plus-sum.ensures

pub sum_of_intervals-returns-clause-value : goal.sum_of_intervals-returns-clause-value
unfolding span
sum_of_intervals-returns-clause-value t c =
    one_end _ _ _ _ _ c.loop-member-test.false c.loop-member.invariant

pub sum_of_intervals-returns-clause-within : goal.sum_of_intervals-returns-clause-within
sum_of_intervals-returns-clause-within t c =
    one_within _ _ _ _ _ c.loop-member-test.false c.loop-member.invariant

pub interval_of-bounds-low-i : goal.interval_of-bounds-low-i
interval_of-bounds-low-i t c =
    rw c.from-i.ensures (symbol_below _ _ _ (is_sym _ _ c.in-Sym.is) c.requires.in_low)

pub interval_of-bounds-high-i : goal.interval_of-bounds-high-i
interval_of-bounds-high-i t c =
    rw c.from-i.ensures (symbol_below _ _ _ (is_sym _ _ c.in-Sym.is) c.requires.in_high)

pub interval_of-returns-in-Sym-clause-value : goal.interval_of-returns-in-Sym-clause-value
interval_of-returns-in-Sym-clause-value t c =
    symbol_span _ _ _ _ _ _ _ _ (is_sym _ _ c.in-Sym.is) c.from-i.ensures c.from.ensures c.from-in-Sym.ensures
    c.proper.ensures

pub interval_of-returns-in-Sym-clause-within : goal.interval_of-returns-in-Sym-clause-within
interval_of-returns-in-Sym-clause-within t c =
    let is = is_sym _ _ c.in-Sym.is in
    let small : c.in-Sym.symbol < 2 ^ 16 = omega arith in
    symbol_ends _ _ _ _ _ is small
    (symbol_span _ _ _ _ _ _ _ _ is c.from-i.ensures c.from.ensures c.from-in-Sym.ensures c.proper.ensures)

pub interval_of-common_interval-requires : goal.interval_of-common_interval-requires
interval_of-common_interval-requires t c =
    let is = is_each _ _ _ c.in-Each.is c.deref.ensures.value in (
      search (rules, the_lemmas),
      (
        subst IsDistinct is c.requires.distinct,
        (subst (Covers _) is c.requires.in_low, subst (Covers _) is c.requires.in_high),
      ),
    )

pub interval_of-sum_of_intervals-requires : goal.interval_of-sum_of_intervals-requires
interval_of-sum_of_intervals-requires t c =
    let is = is_one _ _ _ c.in-One.is c.deref-in-One.ensures.value in (
      search (rules, the_lemmas),
      (
        subst IsDistinct is c.requires.distinct,
        (subst (Covers _) is c.requires.in_low, subst (Covers _) is c.requires.in_high),
      ),
    )

pub interval_of-interval_of-requires : goal.interval_of-interval_of-requires
unfolding IsDistinct
interval_of-interval_of-requires t c =
    let is = is_many _ _ _ _ _ c.in-Many.is c.deref-in-Many.ensures in (
      search (rules, the_lemmas),
      (
        subst IsDistinct is c.requires.distinct,
        (subst (Covers _) is c.requires.in_low, subst (Covers _) is c.requires.in_high),
      ),
    )

pub interval_of-returns-in_err-interval_of-in-Many-clause-value :
    goal.interval_of-returns-in_err-interval_of-in-Many-clause-value
interval_of-returns-in_err-interval_of-in-Many-clause-value t c =
    many_none _ _ _ _ _ _ _ (is_many _ _ _ _ _ c.in-Many.is c.deref-in-Many.ensures)
    c.in_err-interval_of-in-Many.ensures.value c.from_residual.ensures

pub interval_of-returns-in_ok-interval_of-in-Many-clause-value :
    goal.interval_of-returns-in_ok-interval_of-in-Many-clause-value
interval_of-returns-in_ok-interval_of-in-Many-clause-value t c =
    many_span _ _ _ _ _ _ _ _ (is_many _ _ _ _ _ c.in-Many.is c.deref-in-Many.ensures)
    c.in_ok-interval_of-in-Many.ensures.value c.repeated.ensures

pub interval_of-returns-in_ok-interval_of-in-Many-clause-within :
    goal.interval_of-returns-in_ok-interval_of-in-Many-clause-within
interval_of-returns-in_ok-interval_of-in-Many-clause-within t c =
    many_ends _ _ _ _ _ _ _ _ (is_many _ _ _ _ _ c.in-Many.is c.deref-in-Many.ensures)
    c.in_ok-interval_of-in-Many.ensures.within c.repeated.ensures
