use Rattle.std.proofs.Common.{◌∙◌, arith, ap, length}
use Rattle.xs_pattern.specs.Way.{way_of}
use Rattle.xs_pattern.proofs.Bitwise.{length_marks}
use Rattle.xs_pattern.proofs.Stepped.{place_is, start_is}
use Rattle.xs_pattern.proofs.Unions.{length_lasts}
use Rattle.xs_pattern.proofs.words.place_of.Goals as goal

pub exit_of-passes-requires : goal.exit_of-passes-requires
exit_of-passes-requires c =
    let len = ap length (c.deref.ensures.value ∙ c.in_ok-enters.ensures.marks) ∙ length_marks _ _ in
    let count = c.requires.count in omega (arith, len, count)

pub word_of-requires : goal.word_of-requires
word_of-requires c =
    let len = ap length (c.deref-2.ensures.value ∙ c.in_ok-fill_ends.ensures) ∙ length_lasts (record { start = c.args.start; end = c.args.end }) (way_of c.args.way.now) in
    let count = c.requires.count in let few = c.requires.few in omega (arith, len, count, few)

pub returns : goal.returns
returns c =
    place_is (way_of c.args.way.now)
    (record { start = c.args.start; end = c.args.end }) c.args.count c.in_ok-enters.enters c.word_of.result c.args.all.now c.deref-2.result.now c.exit_of-passes.result.passes
    c.requires.count c.requires.all c.in_ok-enters.ensures.row (c.deref-2.ensures.value ∙ c.in_ok-fill_ends.ensures) c.word_of.ensures.shown c.word_of.ensures.small c.exit_of-passes.ensures.passes

pub returns-then-start : goal.returns-then-start
returns-then-start c =
    start_is (way_of c.args.way.now) (record { start = c.args.start; end = c.args.end }) c.args.count c.in_ok-enters.enters c.args.all.now c.exit_of-passes.result.passes
    c.if-start.true c.requires.count c.requires.all c.in_ok-enters.ensures.row c.exit_of-passes.ensures.passes
