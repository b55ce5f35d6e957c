use Rattle.std.proofs.Common.{◌<◌, ◌≤◌, length, rules}
use Rattle.schema_files.proofs.Steps.{all_here, goes_down}
use Rattle.schema_files.proofs.imports.follow_all.Goals as goal

pub loop-at-smaller : goal.loop-at-smaller
loop-at-smaller g c =
    let inside : c.loop-at.at < length c.loop-at.held.items = search rules in
    goes_down (g.F.Files.told c.args.files.now) c.args.asked.now c.loop-at.held.items c.loop-at.at c.loop-at.invariant.read inside

pub returns-clause-sources : goal.returns-clause-sources
returns-clause-sources g c =
    let past : length c.loop-at.held.items ≤ c.loop-at.at = search rules in
    all_here (g.F.Files.told c.args.files.now) c.args.asked.now c.loop-at.held.items c.loop-at.at c.loop-at.invariant.read past c.loop-at.invariant.followed
