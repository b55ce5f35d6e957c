use Rattle.std.proofs.Common.{subst, sym}
use Rattle.std.proofs.lemmas.Result.{IfOk-weaker}
use Rattle.shard_checks.specs.declared.way_lines.Reading.TheVariants.{Followed, FollowedBack, Back}
use Rattle.shard_checks.specs.WayLines.{AreReadSo, HasWays}
use Rattle.shard_checks.proofs.way_lines.lines_of_ways.Goals as goal

pub returns : goal.returns
returns c =
    let s = c.args.schema.now in
    let terms = c.args.terms.now in
    let has = subst (HasWays s) (sym c.as_slice-ways.ensures.value) c.in_ok-all.ensures in
    IfOk-weaker c.written.result _ _ (λ v made. record {
      followed = c.as_slice.result.now;
      are_followed = subst (AreReadSo s terms Followed) (sym c.as_slice.ensures.value) (c.in_ok-followed.ensures s has);
      followed_back = c.as_slice-2.result.now;
      are_followed_back = subst (AreReadSo s terms FollowedBack) (sym c.as_slice-2.ensures.value) (c.in_ok-followed_back.ensures s has);
      back = c.as_slice-3.result.now;
      are_back = subst (AreReadSo s terms Back) (sym c.as_slice-3.ensures.value) (c.in_ok-back.ensures s has);
      text_is = made;
    }) c.written.ensures
