use Rattle.std.proofs.Common.{rules, ◌≤◌, ◌∙◌, sym}
use Rattle.bag_match.specs.Later.{is_kept}
use Rattle.bag_match.proofs.Skipping.{fewer_no, fewer_yes, pass_no, pass_yes}
use Rattle.bag_match.proofs.passing.place_behind.Goals as goal
use Rattle.bag_match.proofs.passing.place_behind.Goals.{then-keeps, else-keeps}

pub loop-at-preserved : goal.loop-at-preserved
loop-at-preserved c =
    let some : 1 ≤ c.loop-at.left = search rules in
    elim c.if-keeps.branch [
      | then-keeps w ↦ record {
        later = c.loop-at.invariant.later
            ∙ pass_yes (is_kept c.args.occs.now c.args.node c.args.inward) c.args.triples.now c.loop-at.at _ c.loop-at-test.true c.loop-at.left c.if-keeps.left some w.left-is (sym c.keeps.ensures
            ∙ w.if-keeps.true);
        left = fewer_yes (is_kept c.args.occs.now c.args.node c.args.inward) c.args.triples.now c.loop-at.at _ c.loop-at-test.true c.loop-at.left c.if-keeps.left some w.left-is (sym c.keeps.ensures
            ∙ w.if-keeps.true) ∙ c.loop-at.invariant.left;
      }
      | else-keeps w ↦ record {
        later = c.loop-at.invariant.later
            ∙ pass_no (is_kept c.args.occs.now c.args.node c.args.inward) c.args.triples.now c.loop-at.at _ c.loop-at-test.true c.loop-at.left c.if-keeps.left w.left-is (sym c.keeps.ensures
            ∙ w.if-keeps.false);
        left = fewer_no (is_kept c.args.occs.now c.args.node c.args.inward) c.args.triples.now c.loop-at.at _ c.loop-at-test.true c.loop-at.left c.if-keeps.left w.left-is (sym c.keeps.ensures
            ∙ w.if-keeps.false) ∙ c.loop-at.invariant.left;
      }
    ]
