-- What a file holds is one thing, where contents are told.
use Rattle.std.proofs.Common.{◌≡◌, ◌≤◌, ◌<◌, ap, ℕ, List, arith, length}
use Rattle.std.specs.Prelude.{Option, Some, None}
use Rattle.shex_io.specs.Fetching.{IsFile, IsTooLong, max_file}

module _ (contents : List ℕ → Option (List ℕ)) where
  pub same_bytes : (name a b : List ℕ) → contents name ≡ Some a → contents name ≡ Some b → a ≡ b
  same_bytes name a b h k = cc

  pub held_there : (name a : List ℕ) → contents name ≡ Some a → contents name ≡ None → ⊥
  held_there name a h k = cc

  pub not_too_long : (name bytes : List ℕ) → IsFile (Some contents) name bytes → IsTooLong (Some contents) name → ⊥
  not_too_long name bytes file long =
      let same : length bytes ≡ length long.bytes = ap length (same_bytes name bytes long.bytes file.held long.held) in
      let within : length bytes ≤ max_file = file.within in
      let above : max_file < length long.bytes = long.above in
      absurd (omega (arith, same, within, above))
