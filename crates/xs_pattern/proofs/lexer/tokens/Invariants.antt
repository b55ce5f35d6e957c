use Rattle.std.proofs.Common.{◌≡◌, length}
use Rattle.xs_pattern.specs.Parsing.{tokens_of}
use Rattle.xs_pattern.proofs.Loops.{capped_tokens, tokens_before}
use Rattle.xs_pattern.proofs.lexer.tokens.Given as goal

abbrev pub invariant-loop-rest : goal.invariant-loop-rest
invariant-loop-rest l = tokens_before (tokens_of l.tokens.items) (capped_tokens l.rest) ≡ capped_tokens l.fn.text

abbrev pub decreases-loop-rest : goal.decreases-loop-rest
decreases-loop-rest l = length l.rest
