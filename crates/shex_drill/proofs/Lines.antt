-- The lines of items, one after the other.
use Rattle.std.proofs.Common.{◌≡◌, ℕ, suc, ◌+◌, ◌-◌, ◌<◌, List, ◌++◌, ap, sym, ◌∙◌, arith}
use Rattle.std.proofs.Common.{append_assoc}
use Rattle.std.specs.List.{flat_map, range_with_len}

-- a line more is put behind those before
pub one_more : (line : ℕ → List ℕ) (n i : ℕ) (old new whole : List ℕ) → i < n → old ++ flat_map line (range_with_len i (n - i)) ≡ whole → new ≡ old ++ line i
    → new ++ flat_map line (range_with_len (i + 1) (n - (i + 1))) ≡ whole
one_more line n i old new whole lt e is =
    let left : n - i ≡ suc (n - (i + 1)) = omega arith in
    let joined : new ++ flat_map line (range_with_len (i + 1) (n - (i + 1))) ≡ old ++ flat_map line (range_with_len i (suc (n - (i + 1)))) =
    rw is (append_assoc old (line i) (flat_map line (range_with_len (i + 1) (n - (i + 1))))) in
    joined ∙ ap (λ k. old ++ flat_map line (range_with_len i k)) (sym left) ∙ e
