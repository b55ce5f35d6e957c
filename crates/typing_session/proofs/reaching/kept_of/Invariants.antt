use Rattle.std.proofs.Common.{◌≡◌, ◌++◌, drop, filter, not}
use Rattle.typing_session.specs.Kept.{is_free, kept_on}
use Rattle.typing_session.proofs.reaching.kept_of.Given as goal

abbrev pub invariant-loop-pair : goal.invariant-loop-pair
invariant-loop-pair l = filter (λ q. not (is_free (kept_on l.kept q))) l.pairs ≡ l.found.items ++ filter (λ q. not (is_free (kept_on l.kept q))) (drop l.pair-index l.pairs)
