use Rattle.std.proofs.Common.{◌≡◌, ◌*◌, ◌<◌, length, take}
use Rattle.std.specs.List.{AllByRecursion, flat_map}
use Rattle.proof_file.specs.Text.{hex_text}
use Rattle.proof_file.proofs.fields.digest.Given as goal

abbrev pub invariant-loop-i : goal.invariant-loop-i
invariant-loop-i l = record {
  sized : length l.bytes ≡ 32;
  read : flat_map hex_text (take l.i l.bytes) ≡ take (2 * l.i) l.digits;
  small : AllByRecursion (λ byte. byte < 256) (take l.i l.bytes);
}
