use Rattle.std.proofs.Common.{◌≡◌, ◌++◌, drop}
use Rattle.xs_pattern.specs.Tests.{partners}
use Rattle.xs_pattern.proofs.characters.add_partners.Given as goal

abbrev pub invariant-loop-pair : goal.invariant-loop-pair
invariant-loop-pair l = l.alike.items ++ partners l.code (drop l.pair-index l.pairs) ≡ l.fn.alike.items ++ partners l.code l.pairs
