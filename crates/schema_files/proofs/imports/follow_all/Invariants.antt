use Rattle.std.proofs.Common.{◌≡◌, ◌≤◌, ◌+◌, ◌-◌, length}
use Rattle.schema_files.specs.Held.{AreFollowedTo, WereRead}
use Rattle.schema_files.proofs.imports.follow_all.Given as goal

abbrev pub invariant-loop-at : goal.invariant-loop-at
invariant-loop-at g l = record {
  read : WereRead (g.F.Files.told l.fn.files) l.asked l.held.items;
  followed : AreFollowedTo l.asked l.held.items l.at 0;
  inside : l.at ≤ length l.held.items;
  faults : g.F.Files.faults l.files ≡ g.F.Files.faults l.fn.files;
  told : g.F.Files.told l.files ≡ g.F.Files.told l.fn.files;
}

abbrev pub decreases-loop-at : goal.decreases-loop-at
decreases-loop-at g l = length l.asked.words.now + 1 - l.at
