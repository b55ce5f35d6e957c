use Rattle.std.proofs.Common.{◌+◌, ◌-◌, ◌≤◌, ◌<◌, drop, set, sym, subst, ◌∙◌}
use Rattle.bag_match.proofs.Left.{ArePassed, next_first, pass_positive, pass_yes, pass_no, read_is}
use Rattle.bag_match.proofs.dying.pass_next.Goals as goal
use Rattle.bag_match.proofs.dying.pass_next.Goals.{then-fits, else-fits}

pub overflow_sub-index_mut : goal.overflow_sub-index_mut
overflow_sub-index_mut c =
    subst (λ k. 1 ≤ k) (sym (read_is c.loop-i.left.items c.loop-i.i c.index_mut.result.now (subst (λ k. c.loop-i.i < k) (sym c.loop-i.invariant.len) c.loop-i-test.true) c.index_mut.ensures.value))
    (pass_positive c.args.occs.now c.args.node (drop c.args.done c.args.triples.now) c.loop-i.i c.loop-i.left.items _ c.at-triple.result c.loop-i-test.true (next_first c.args.triples.now c.args.done c.at-triple.result c.at-triple.ensures.left) c.loop-i.invariant
    (sym c.fits.ensures ∙ c.if-fits.true))

pub loop-i-preserved : goal.loop-i-preserved
loop-i-preserved c = elim c.if-fits.branch [
  | then-fits w ↦ subst (λ v. ArePassed c.args.occs.now c.args.node (drop c.args.done c.args.triples.now) (c.loop-i.i + 1) v.items) (sym w.left-is)
      (subst (λ k. ArePassed c.args.occs.now c.args.node (drop c.args.done c.args.triples.now) (c.loop-i.i + 1) (set c.loop-i.left.items c.loop-i.i (k - 1))) (sym (read_is c.loop-i.left.items c.loop-i.i w.index_mut.result.now (subst (λ k. c.loop-i.i < k) (sym c.loop-i.invariant.len) c.loop-i-test.true) w.index_mut.ensures.value))
      (pass_yes c.args.occs.now c.args.node (drop c.args.done c.args.triples.now) c.loop-i.i c.loop-i.left.items _ c.at-triple.result c.loop-i-test.true (next_first c.args.triples.now c.args.done c.at-triple.result c.at-triple.ensures.left) c.loop-i.invariant
      (sym c.fits.ensures ∙ w.if-fits.true)))
  | else-fits w ↦ subst (λ v. ArePassed c.args.occs.now c.args.node (drop c.args.done c.args.triples.now) (c.loop-i.i + 1) v.items) (sym w.left-is)
      (pass_no c.args.occs.now c.args.node (drop c.args.done c.args.triples.now) c.loop-i.i c.loop-i.left.items _ c.at-triple.result c.loop-i-test.true (next_first c.args.triples.now c.args.done c.at-triple.result c.at-triple.ensures.left) c.loop-i.invariant
      (sym c.fits.ensures ∙ w.if-fits.false))
]
