use Rattle.std.proofs.Common.{◌≡◌, List, ℕ, map, take}
use Rattle.shard_checks.specs.Sets.{IsPart}
use Rattle.tool_words.specs.Lent.{shard_of}
use Rattle.shard_answers.specs.Answers.{LackNothing}
use Rattle.shard_answers.proofs.covers.compare_all.Given as goal

abbrev pub invariant-loop-at : goal.invariant-loop-at
invariant-loop-at g l = record {
  lack : (lines back : List (List ℕ)) → IsPart l.part lines back → LackNothing (g.F.Files.told l.fn.files) lines back (map shard_of (take l.at l.fn.shards));
  faults : g.F.Files.faults l.files ≡ g.F.Files.faults l.fn.files;
  told : g.F.Files.told l.files ≡ g.F.Files.told l.fn.files;
}
