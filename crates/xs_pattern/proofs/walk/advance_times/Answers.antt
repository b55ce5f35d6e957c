use Rattle.std.proofs.Common.{rules, ◌≡◌, ◌∙◌, ◌+◌, ◌++◌, ◌∷◌, [], ◌&&◌, ap, arith, false}
use Rattle.std.specs.Prelude.{slice_index_or, vec_len}
use Rattle.xs_pattern.proofs.TimesWay.{entered_on, next_on}
use Rattle.xs_pattern.proofs.walk.advance_times.Goals as goal

pub loop-i-preserved : goal.loop-i-preserved
loop-i-preserved c =
    let pushed : c.if-entered.push ≡ (c.loop-i.entered && c.args.has) = search rules in
    record {
      marks = next_on c.args.has c.args.enters c.loop-i.i _ c.args.behind.now.items c.loop-i.behind.items c.push.new.self.items c.loop-i.entered c.loop-i.invariant.marks c.loop-i.invariant.entered
          (c.in_ok-push.ensures.items ∙ ap (λ b. c.loop-i.behind.items ++ b ∷ []) pushed);
      entered = entered_on c.args.enters c.loop-i.i (vec_len c.args.behind.now) c.args.marks.now _ (ap (λ k. slice_index_or c.args.marks.now (k + c.loop-i.i) false) c.len-from.ensures);
      counted = (let e = c.in_ok-push.ensures.len in let f = c.loop-i.invariant.counted in omega (arith, e, f));
    }
