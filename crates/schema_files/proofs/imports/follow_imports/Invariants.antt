use Rattle.std.proofs.Common.{◌≡◌, ◌++◌, List}
use Rattle.schema_files.specs.declared.held.Held.{Held}
use Rattle.schema_files.specs.Held.{AreFollowedTo, WereRead}
use Rattle.schema_files.proofs.imports.follow_imports.Given as goal

abbrev pub invariant-loop-number : goal.invariant-loop-number
invariant-loop-number g l = record {
  grown : (more : List Held) × (l.held.items ≡ l.fn.held.items ++ more);
  read : WereRead (g.F.Files.told l.fn.files) l.asked l.held.items;
  followed : AreFollowedTo l.asked l.held.items l.at l.number;
  faults : g.F.Files.faults l.files ≡ g.F.Files.faults l.fn.files;
  told : g.F.Files.told l.files ≡ g.F.Files.told l.fn.files;
}
