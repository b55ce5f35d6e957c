use Rattle.std.proofs.Common.{◌∙◌, sym, length, [], ◌∷◌}
use Rattle.nonconformance.specs.Offers.{all_bound}
use Rattle.nonconformance.proofs.Offering.{bound_number}
use Rattle.nonconformance.proofs.Setting.{counts_more}
use Rattle.nonconformance.proofs.numbers.bound_counts.Goals as goal

pub loop-i-preserved : goal.loop-i-preserved
loop-i-preserved c = counts_more (λ i. length (all_bound (i ∷ []) c.args.offers.now)) c.loop-i.i c.loop-i.numbers.items _ _ c.loop-i.invariant c.in_ok-push.ensures.items
    (c.bound_count.ensures ∙ sym (bound_number (c.loop-i.i ∷ []) c.args.offers.now))
