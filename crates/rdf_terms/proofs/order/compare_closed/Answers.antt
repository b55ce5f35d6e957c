use Rattle.std.proofs.Common.{ap, ◌∙◌}
use Rattle.std.specs.Ordering.{ordering_then}
use Rattle.rdf_terms.proofs.Comparing.{closed_compared}
use Rattle.rdf_terms.proofs.order.compare_closed.Goals as goal

pub returns : goal.returns
returns c =
    c.then.ensures
    ∙ ap (λ o. ordering_then o c.compare_rests.result) c.cmp.ensures
    ∙ closed_compared c.args.one.now c.args.other.now _ _ _ _ c.min-both.result c.compare_rests.result c.min-both.ensures c.split_at.ensures.front c.split_at-2.ensures.front
    c.split_at.ensures.back c.split_at-2.ensures.back c.compare_rests.ensures
