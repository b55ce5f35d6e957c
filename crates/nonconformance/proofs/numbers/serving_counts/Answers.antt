use Rattle.std.proofs.Common.{◌∙◌, sym, length, [], ◌∷◌}
use Rattle.nonconformance.specs.Offers.{all_serving}
use Rattle.nonconformance.proofs.Offering.{serving_number}
use Rattle.nonconformance.proofs.Setting.{counts_more}
use Rattle.nonconformance.proofs.numbers.serving_counts.Goals as goal

pub loop-i-preserved : goal.loop-i-preserved
loop-i-preserved c = counts_more (λ i. length (all_serving (i ∷ []) c.args.offers.now)) c.loop-i.i c.loop-i.numbers.items _ _ c.loop-i.invariant c.in_ok-push.ensures.items
    (c.serving_count.ensures ∙ sym (serving_number (c.loop-i.i ∷ []) c.args.offers.now))
