use Rattle.std.proofs.Common.{◌≡◌, slice_index, subst, sym, ap, ◌∙◌, arith}
use Rattle.tally.proofs.Exact.{copies_under, copies_span, span_copies, span_is}
use Rattle.tally.proofs.Parted.{copies_deal, deal_copies}
use Rattle.tally.proofs.Totals.{within_small}
use Rattle.tally.specs.Plan.{plan_of}
use Rattle.tally.specs.Span.{HasSpan, IsProper, span}
use Rattle.tally.proofs.counting.interval.Goals as goal

pub returns-clause-exact : goal.returns-clause-exact
returns-clause-exact c same k =
    let p = plan_of c.args.e.now in
    let low = slice_index c.args.low.now in
    let value : c.interval_of.result ≡ span p low low =
    c.interval_of.ensures.value ∙ ap (λ h. span p low (slice_index h)) (sym same)
    in (
      λ inside. span_copies p low k c.requires.sound (subst (λ r. HasSpan r k) value inside),
      λ copies. subst (λ r. HasSpan r k) (sym value) (copies_span p low k copies),
    )

pub returns-clause-divided : goal.returns-clause-divided
returns-clause-divided c same symbols k have =
    let p = plan_of c.args.e.now in
    let low = slice_index c.args.low.now in
    let exact = returns-clause-exact c same k in (
      λ inside. copies_deal p symbols low k c.requires.distinct c.requires.sound have (exact.0 inside),
      λ deals. exact.1 (deal_copies p symbols low k c.requires.distinct have deals),
    )

pub returns-clause-boxed : goal.returns-clause-boxed
returns-clause-boxed c counts k from to copies =
    let p = plan_of c.args.e.now in
    subst (λ r. HasSpan r k) (sym c.interval_of.ensures.value)
    (copies_under p (slice_index c.args.low.now) counts (slice_index c.args.high.now) k from to copies)

pub returns-clause-proper : goal.returns-clause-proper
returns-clause-proper c =
    subst IsProper (sym c.interval_of.ensures.value)
    (span_is (plan_of c.args.e.now) (slice_index c.args.low.now) (slice_index c.args.high.now))

pub returns-clause-small : goal.returns-clause-small
returns-clause-small c =
    within_small _ _ _ (λ k. omega (arith, c.type_inv.low k))
    (λ k. omega (arith, c.type_inv.high k)) c.interval_of.result
    c.interval_of.ensures.within
