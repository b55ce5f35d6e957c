use Rattle.std.proofs.Common.{◌∙◌, List, [], Bor, ℕ, not, sym}
use Rattle.std.specs.Prelude.{◌&&◌}
use Rattle.shard_checks.specs.Cover.{is_read_at}
use Rattle.shard_checks.specs.Lines.{is_among}
use Rattle.shard_checks.proofs.Finding.{first_here, none_more}
use Rattle.shard_checks.proofs.compared.Compared.first_missing.Goals as goal

abbrev text : Bor (List ℕ) → List ℕ
text line = line.now

pub returns-then-is_missing : goal.returns-then-is_missing
returns-then-is_missing c = λ all at back are.
    sym (first_here text (λ line. is_read_at at back line && not (is_among line all)) c.args.lines.now c.loop-line.line-index (record { ref_ptr = (0, 0); now = [] }) c.loop-line-test.true
    (c.loop-line.invariant.none all at back are) (sym (c.is_missing.ensures.missing all at back are (c.loop-line.invariant.last all at back are)) ∙ c.if-is_missing.true))

pub loop-line-preserved : goal.loop-line-preserved
loop-line-preserved c = record {
  none = λ all at back are.
      none_more text (λ line. is_read_at at back line && not (is_among line all)) c.args.lines.now c.loop-line.line-index (record { ref_ptr = (0, 0); now = [] }) c.loop-line-test.true
      (c.loop-line.invariant.none all at back are) (sym (c.is_missing.ensures.missing all at back are (c.loop-line.invariant.last all at back are)) ∙ c.if-is_missing.false);
  last = λ all at back are. c.is_missing.ensures.looked all at back are (c.loop-line.invariant.last all at back are);
}
