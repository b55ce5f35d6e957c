use Rattle.std.proofs.Common.{◌∙◌, ◌^◌, ◌<◌, arith, sym, w64, map, length, rules, List, Bool}
use Rattle.std.proofs.lemmas.List.{length-map}
use Rattle.std.proofs.lemmas.Nat.Bits.{bit_at-trailing_zeros}
use Rattle.std.specs.Int.{trailing_zeros}
use Rattle.xs_pattern.specs.Marked.{tested}
use Rattle.xs_pattern.specs.Regex.{chars_of}
use Rattle.xs_pattern.specs.Unrolling.{having}
use Rattle.xs_pattern.proofs.Bitwise.{all_asked, asked_has, asked_lacks, left_less, none_asked}
use Rattle.xs_pattern.proofs.words.Words.having.Goals as goal

pub loop-left-init : goal.loop-left-init
loop-left-init c =
    let has : List Bool = map (tested (having c.args.flags (map chars_of c.args.self.now.sets.items) c.args.c)) c.args.self.now.numbers.items in
    none_asked (length c.args.self.now.numbers.items) has (length-map c.args.self.now.numbers.items _) c.args.positions

pub loop-left-smaller : goal.loop-left-smaller
loop-left-smaller c =
    let small : c.loop-left.left < 2 ^ 64 = search rules in
    let lowest = bit_at-trailing_zeros w64 c.loop-left.left (omega arith) small in
    left_less c.loop-left.left (trailing_zeros w64 c.loop-left.left) small lowest.0 lowest.1

pub loop-left-smaller-then-has : goal.loop-left-smaller-then-has
loop-left-smaller-then-has c =
    let small : c.loop-left.left < 2 ^ 64 = search rules in
    let lowest = bit_at-trailing_zeros w64 c.loop-left.left (omega arith) small in
    left_less c.loop-left.left (trailing_zeros w64 c.loop-left.left) small lowest.0 lowest.1

pub loop-left-preserved-then-has : goal.loop-left-preserved-then-has
loop-left-preserved-then-has c =
    let small : c.loop-left.left < 2 ^ 64 = search rules in
    let lowest = bit_at-trailing_zeros w64 c.loop-left.left (omega arith) small in
    let has : List Bool = map (tested (having c.args.flags (map chars_of c.args.self.now.sets.items) c.args.c)) c.args.self.now.numbers.items in
    asked_has (length c.args.self.now.numbers.items) has (length-map c.args.self.now.numbers.items _) c.loop-left.having c.loop-left.left
    (trailing_zeros w64 c.loop-left.left) small lowest.0 lowest.1 (search rules) ∙ c.loop-left.invariant

pub loop-left-preserved : goal.loop-left-preserved
loop-left-preserved c =
    let small : c.loop-left.left < 2 ^ 64 = search rules in
    let lowest = bit_at-trailing_zeros w64 c.loop-left.left (omega arith) small in
    let has : List Bool = map (tested (having c.args.flags (map chars_of c.args.self.now.sets.items) c.args.c)) c.args.self.now.numbers.items in
    asked_lacks (length c.args.self.now.numbers.items) has (length-map c.args.self.now.numbers.items _) c.loop-left.having c.loop-left.left
    (trailing_zeros w64 c.loop-left.left) small lowest.0 lowest.1 (search rules) ∙ c.loop-left.invariant

pub returns : goal.returns
returns c =
    let has : List Bool = map (tested (having c.args.flags (map chars_of c.args.self.now.sets.items) c.args.c)) c.args.self.now.numbers.items in
    sym (all_asked (length c.args.self.now.numbers.items) has (length-map c.args.self.now.numbers.items _) c.loop-left.having c.loop-left.left (omega arith))
    ∙ c.loop-left.invariant
