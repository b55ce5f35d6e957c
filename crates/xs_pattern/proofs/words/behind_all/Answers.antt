use Rattle.std.proofs.Common.{rules, ◌≡◌, ◌∙◌, ◌^◌, ◌<◌, arith, sym, w64}
use Rattle.std.proofs.lemmas.Nat.Bits.{bit_at-trailing_zeros}
use Rattle.std.specs.Int.{trailing_zeros}
use Rattle.std.specs.Prelude.{slice_index_or}
use Rattle.xs_pattern.proofs.Bitwise.{left_less}
use Rattle.xs_pattern.proofs.Stepped.{none_behind, one_behind}
use Rattle.xs_pattern.proofs.words.behind_all.Goals as goal

pub loop-left-smaller : goal.loop-left-smaller
loop-left-smaller c =
    let small : c.loop-left.left < 2 ^ 64 = search rules in
    let lowest = bit_at-trailing_zeros w64 c.loop-left.left (omega arith) small in
    left_less c.loop-left.left (trailing_zeros w64 c.loop-left.left) small lowest.0 lowest.1

pub loop-left-preserved : goal.loop-left-preserved
loop-left-preserved c =
    let small : c.loop-left.left < 2 ^ 64 = search rules in
    let lowest = bit_at-trailing_zeros w64 c.loop-left.left (omega arith) small in
    let row : c.unwrap_or-all.result ≡ slice_index_or c.args.behind.now (trailing_zeros w64 c.loop-left.left) 0 = search rules in (
      λ none. absurd (let gone = (c.loop-left.invariant.0 none).0 in omega arith),
      λ n w are. one_behind n w c.args.behind.now are c.loop-left.all c.loop-left.left (trailing_zeros w64 c.loop-left.left) c.unwrap_or-all.result small lowest.0 lowest.1 row
          ∙ c.loop-left.invariant.1 n w are,
    )

pub returns-clause-all : goal.returns-clause-all
returns-clause-all c = λ n w are. sym (none_behind n w c.args.behind.now are c.loop-left.all c.loop-left.left (omega arith)) ∙ c.loop-left.invariant.1 n w are
