use Rattle.std.proofs.Common.{◌≡◌, ◌≤◌, drop, max}
use Rattle.xs_pattern.specs.Limits.{depth}
use Rattle.xs_pattern.specs.Parsing.{tokens_of}
use Rattle.xs_pattern.proofs.parser.depth.Given as goal

abbrev pub invariant-loop-token : goal.invariant-loop-token
invariant-loop-token l =
    (max l.deepest (depth l.groups (tokens_of (drop l.token-index l.tokens))) ≡ depth 0 (tokens_of l.tokens)) ×
    ((l.groups ≤ l.token-index) × (l.groups ≤ l.deepest))
