use Rattle.std.proofs.Common.{◌+◌, ap, ◌∙◌, slice_index}
use Rattle.bag_match.proofs.Deadness.{not_once, sums_are}
use Rattle.bag_match.proofs.dying.spell_never_more.Goals as goal

pub returns : goal.returns
returns c =
    not_once c.args.body.now c.args.counts.now (slice_index c.as_slice.result.now) (λ i. slice_index c.args.counts.now i + slice_index c.args.left.now i) c.can_spell_once.result
    (ap slice_index c.as_slice.ensures
    ∙ sums_are c.args.counts.now c.args.left.now c.as_mut_slice.result.now c.sum_up.new.sums c.requires.beside c.as_mut_slice.ensures.value c.sum_up.ensures.rest c.sum_up.ensures.sums)
    c.can_spell_once.ensures.span
