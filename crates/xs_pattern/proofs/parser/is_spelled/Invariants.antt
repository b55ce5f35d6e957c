use Rattle.std.proofs.Common.{◌≡◌, ◌≤◌, drop, false}
use Rattle.xs_pattern.specs.Parsing.{is_spelled, tokens_of}
use Rattle.xs_pattern.proofs.parser.is_spelled.Given as goal

abbrev pub invariant-loop-token : goal.invariant-loop-token
invariant-loop-token l =
    (is_spelled l.groups l.ready (tokens_of (drop l.token-index l.tokens)) ≡ is_spelled 0 false (tokens_of l.tokens)) × (l.groups ≤ l.token-index)
