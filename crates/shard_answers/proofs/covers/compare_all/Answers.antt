use Rattle.std.proofs.Common.{◌∙◌}
use Rattle.std.proofs.lemmas.Result.{err_from_is_err_and}
use Rattle.std.specs.Option.{option_map}
use Rattle.shard_answers.proofs.Comparing.{finds_behind, lack_all, lack_next, lacks_here, pair_behind, some_kept, stops_here}
use Rattle.shard_answers.proofs.covers.compare_all.Goals as goal

pub returns-in_err-text-clause-stops : goal.returns-in_err-text-clause-stops
returns-in_err-text-clause-stops g c =
    let p = err_from_is_err_and c.from_residual.result c.from_residual.ensures.1 in
    let told = g.F.Files.told c.args.files.now in
    let before = g.F.Files.faults c.args.files.now in
    let after = g.F.Files.faults c.compare.new.files in
    let blame = g.F.Files.blame c.compare.new.files in
    let act = g.F.Files.act c.compare.new.files in
    let e = c.in_err-text.field-0.0 in
    rw (p.1, p.2)
    (λ lines back is_part.
    stops_here told lines back c.args.shards.now c.loop-at.at _ c.loop-at-test.true before after blame act e (c.loop-at.invariant.lack lines back is_part)
    (pair_behind told (g.F.Files.told c.loop-at.files) before (g.F.Files.faults c.loop-at.files) after blame act e c.loop-at.invariant.told c.loop-at.invariant.faults _ c.loop-at.at c.in_err-text.ensures.stops))

pub returns-then-is_some-clause-found : goal.returns-then-is_some-clause-found
returns-then-is_some-clause-found g c = λ lines back is_part.
    lacks_here (g.F.Files.told c.args.files.now) lines back c.args.shards.now c.loop-at.at _ c.loop-at-test.true (option_map (λ v. v.items) c.in_ok-text.text)
    (some_kept (λ v. v.items) c.in_ok-text.text _ c.is_some.ensures ∙ c.if-is_some.true) (c.loop-at.invariant.lack lines back is_part)
    (finds_behind (g.F.Files.told c.args.files.now) (g.F.Files.told c.loop-at.files) c.loop-at.invariant.told lines back _ _ (c.in_ok-text.ensures.found lines back is_part))

pub loop-at-preserved : goal.loop-at-preserved
loop-at-preserved g c = record {
  lack = λ lines back is_part.
      lack_next (g.F.Files.told c.args.files.now) lines back c.args.shards.now c.loop-at.at _ c.loop-at-test.true (option_map (λ v. v.items) c.in_ok-text.text)
      (some_kept (λ v. v.items) c.in_ok-text.text _ c.is_some.ensures ∙ c.if-is_some.false) (c.loop-at.invariant.lack lines back is_part)
      (finds_behind (g.F.Files.told c.args.files.now) (g.F.Files.told c.loop-at.files) c.loop-at.invariant.told lines back _ _ (c.in_ok-text.ensures.found lines back is_part));
  faults = c.in_ok-text.ensures.faults_stay ∙ c.loop-at.invariant.faults;
  told = c.in_ok-text.ensures.told_stays ∙ c.loop-at.invariant.told;
}

pub returns-clause-found : goal.returns-clause-found
returns-clause-found g c = λ lines back is_part.
    lack_all (g.F.Files.told c.args.files.now) lines back c.args.shards.now c.loop-at.at c.loop-at-test.false (c.loop-at.invariant.lack lines back is_part)
