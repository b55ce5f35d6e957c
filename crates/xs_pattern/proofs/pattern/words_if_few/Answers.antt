use Rattle.std.proofs.Common.{arith}
use Rattle.xs_pattern.specs.Regex.{regex_of}
use Rattle.xs_pattern.proofs.Found.{sets_within}
use Rattle.xs_pattern.proofs.pattern.words_if_few.Goals as goal

pub unroll-requires : goal.unroll-requires
unroll-requires c =
    let all = sets_within (regex_of c.args.e.now) in
    let few = c.in-Some.ensures.some in
    omega (arith, all, few)
