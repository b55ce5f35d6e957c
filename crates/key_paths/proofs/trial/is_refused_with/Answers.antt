use Rattle.std.proofs.Common.{◌≤◌, sym, subst, IfOk, MatchBool}
use Rattle.serde_json.specs.Data.{depth}
use Rattle.serde_json.specs.Read.{max_depth}
use Rattle.serde_json.specs.View.{view}
use Rattle.json_paths.proofs.Depths.{with_at_depth}
use Rattle.key_paths.specs.Refusals.{IsOther, IsRefused}
use Rattle.key_paths.proofs.trial.is_refused_with.Goals as goal

pub is_refused-requires : goal.is_refused-requires
is_refused-requires c =
    let p = c.args.place.now in
    subst (λ d. depth d ≤ max_depth) (sym c.in_ok-changed.ensures)
    (with_at_depth p.path.now (view c.args.new) (view p.document.now) (view p.here.now) max_depth c.requires.depth c.requires.place c.requires.limit)

pub returns : goal.returns
returns c =
    let e = c.args.place.now.error.now in
    subst (λ d. IfOk c.is_refused.result (λ b. MatchBool b (IsRefused e d) (IsOther e d))) c.in_ok-changed.ensures c.is_refused.ensures
