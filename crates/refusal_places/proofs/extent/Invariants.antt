use Rattle.std.proofs.Common.{◌≡◌, ◌+◌, drop}
use Rattle.refusal_places.specs.Texts.{extent}
use Rattle.refusal_places.proofs.extent.Given as goal

-- the bytes so far, and those of the characters that are left
abbrev pub invariant-loop-byte : goal.invariant-loop-byte
invariant-loop-byte l = (l.size ≡ l.byte-index) × (l.byte-index + extent l.left (drop l.byte-index l.text) ≡ extent l.count l.text)
