use Rattle.std.proofs.Common.{◌≡◌, ◌++◌, drop, map}
use Rattle.xs_pattern.specs.Regex.{members_of}
use Rattle.xs_pattern.proofs.characters.copies.Given as goal

abbrev pub invariant-loop-group : goal.invariant-loop-group
invariant-loop-group l = map members_of l.all.items ++ map members_of (drop l.group-index l.groups) ≡ map members_of l.groups
