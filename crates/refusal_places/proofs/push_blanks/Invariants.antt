use Rattle.std.proofs.Common.{◌≡◌, ◌++◌, take}
use Rattle.std.specs.List.{flat_map}
use Rattle.refusal_places.specs.Texts.{blank_for}
use Rattle.refusal_places.proofs.push_blanks.Given as goal

-- the blanks of the bytes so far
abbrev pub invariant-loop-byte : goal.invariant-loop-byte
invariant-loop-byte l = l.out.items ≡ l.fn.out.items ++ flat_map blank_for (take l.byte-index l.text)
