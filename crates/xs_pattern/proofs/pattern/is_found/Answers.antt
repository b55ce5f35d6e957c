use Rattle.std.proofs.Common.{◌∙◌, ap, arith, refl, ◌++◌, false, length}
use Rattle.std.specs.Prelude.{map, replicate}
use Rattle.std.specs.Str.{chars}
use Rattle.xs_pattern.specs.Regex.{chars_of}
use Rattle.xs_pattern.specs.Way.{size, way_of}
use Rattle.xs_pattern.proofs.Search.{begun, found_last, found_next, goes_on, left_is, length-marks_at, missed_last}
use Rattle.xs_pattern.proofs.pattern.is_found.Goals as goal

pub loop-c-init : goal.loop-c-init
loop-c-init c =
    rw (c.into_iter-c-iterator.ensures.into_iter_gives, c.chars-c-items.ensures.rest)
    (begun c.args.flags (map chars_of c.args.sets.now) (chars c.args.text.now) (way_of c.args.way.now) c.args.text.now _ c.utf8.text refl
    (c.in_ok-add_blank.ensures ∙ ap (λ v. v ++ replicate (size (way_of c.args.way.now)) false) c.new-marks.ensures.items))

pub read_char-requires : goal.read_char-requires
read_char-requires c =
    let len = length-marks_at c.args.flags (map chars_of c.args.sets.now) (chars c.args.text.now) (way_of c.args.way.now) (length c.loop-c.yielded) in
    let same = ap length c.loop-c.invariant.marks in
    omega arith

pub returns-then-branch-clause-found : goal.returns-then-branch-clause-found
returns-then-branch-clause-found c = λ _.
    found_next c.args.flags (map chars_of c.args.sets.now) (chars c.args.text.now) (way_of c.args.way.now) c.loop-c.yielded _ _ _ _ _ _ _
    c.in-Some.ensures.steps.0 refl c.in_ok-read_char.ensures.exits c.if-branch.true c.loop-c.invariant

pub loop-c-preserved : goal.loop-c-preserved
loop-c-preserved c =
    goes_on c.args.flags (map chars_of c.args.sets.now) (chars c.args.text.now) (way_of c.args.way.now) c.loop-c.yielded _ _ _ _ _ _ _ _ _
    c.in-Some.ensures.steps.0 refl (c.deref.ensures.value ∙ c.in_ok-fill_having.ensures) c.in_ok-read_char.ensures.marks
    c.in_ok-read_char.ensures.exits c.if-branch.false c.loop-c.invariant

pub exit_of-requires : goal.exit_of-requires
exit_of-requires c =
    let len = length-marks_at c.args.flags (map chars_of c.args.sets.now) (chars c.args.text.now) (way_of c.args.way.now) (length c.loop-c.yielded) in
    let same = ap length c.loop-c.invariant.marks in
    let all = ap length c.deref-2.ensures.value in
    omega arith

pub returns-clause-found : goal.returns-clause-found
returns-clause-found c =
    found_last c.args.flags (map chars_of c.args.sets.now) (chars c.args.text.now) (way_of c.args.way.now) c.loop-c.yielded _ _ _ _ _
    c.in-None.ensures.steps.0.0 refl
    (left_is c.args.flags (map chars_of c.args.sets.now) (chars c.args.text.now) (way_of c.args.way.now) _ _ _ _ _ _
    c.leaves.ensures c.exit_of.ensures.ends c.exit_of.ensures.passes c.deref-2.ensures.value)
    c.loop-c.invariant

pub returns-clause-missed : goal.returns-clause-missed
returns-clause-missed c =
    missed_last c.args.flags (map chars_of c.args.sets.now) (chars c.args.text.now) (way_of c.args.way.now) c.loop-c.yielded _ _ _ _ _
    c.in-None.ensures.steps.0.0 refl
    (left_is c.args.flags (map chars_of c.args.sets.now) (chars c.args.text.now) (way_of c.args.way.now) _ _ _ _ _ _
    c.leaves.ensures c.exit_of.ensures.ends c.exit_of.ensures.passes c.deref-2.ensures.value)
    c.loop-c.invariant
