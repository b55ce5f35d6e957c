use Rattle.std.proofs.Common.{◌≡◌, ◌++◌, List, take, ℕ}
use Rattle.std.specs.List.{flat_map}
use Rattle.idle_selectors.proofs.listing.push_all.Given as goal

abbrev pub invariant-loop-line : goal.invariant-loop-line
invariant-loop-line l = l.out.items ≡ l.fn.out.items ++ flat_map (λ (line : List ℕ). line) (take l.line-index l.fn.lines)
