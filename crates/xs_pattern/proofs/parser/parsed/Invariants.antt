use Rattle.std.proofs.Common.{◌≡◌, []}
use Rattle.std.specs.Prelude.{reverse, vec_len}
use Rattle.xs_pattern.specs.Parsing.{blank, frame_of, parse, stack_of, tokens_of}
use Rattle.xs_pattern.proofs.parser.parsed.Given as goal

abbrev pub invariant-loop-token : goal.invariant-loop-token
invariant-loop-token l =
    parse (stack_of l.outer.items) (frame_of l.frame) (tokens_of (reverse l.rest.items))
    ≡ parse [] blank (tokens_of (reverse l.fn.rest.items))

abbrev pub decreases-loop-token : goal.decreases-loop-token
decreases-loop-token l = vec_len l.rest
