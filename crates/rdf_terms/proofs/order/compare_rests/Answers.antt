use Rattle.std.proofs.Common.{length, ◌∙◌}
use Rattle.std.specs.Ordering.{nat_cmp, ordering_then}
use Rattle.rdf_terms.proofs.Comparing.{rests_compared}
use Rattle.rdf_terms.proofs.order.compare_rests.Goals as goal

pub returns : goal.returns
returns c =
    c.then.ensures
    ∙ (λ i. ordering_then (c.cmp.ensures i) (c.cmp-2.ensures i))
    ∙ (λ i. ordering_then (nat_cmp (c.first_or_close.ensures i) (c.first_or_close-2.ensures i)) (nat_cmp (length c.args.one.now) (length c.args.other.now)))
    ∙ rests_compared c.args.one.now c.args.other.now c.requires
