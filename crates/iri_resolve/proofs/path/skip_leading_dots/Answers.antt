use Rattle.std.proofs.Common.{◌∙◌, ap, sym, lit<}
use Rattle.iri_resolve.specs.Text.{slash}
use Rattle.iri_resolve.specs.Dots.{path_of_segments, is_dot_segment}
use Rattle.iri_resolve.proofs.Places.{split_once_some, split_once_none}
use Rattle.iri_resolve.proofs.Reading.{after_leading_dots-end, after_leading_dots-other}
use Rattle.iri_resolve.proofs.path.skip_leading_dots.Goals as goal

-- a segment that is no dot segment ends the leading ones
pub returns-then-not-is_dot_segment : goal.returns-then-not-is_dot_segment
returns-then-not-is_dot_segment c =
    let rest = c.loop-segment.rest.now in
    let cut = split_once_some slash rest (c.in-Some.segment, c.in-Some.behind) c.in-Some.ensures.cases (lit< tt) in
    let other = ap is_dot_segment (sym cut.1) ∙ sym c.is_dot_segment.ensures ∙ c.if-not-is_dot_segment.true in
    ap path_of_segments (sym (after_leading_dots-end rest cut.0 other) ∙ c.loop-segment.invariant.same)

-- a last segment that is no dot segment stays
pub returns-else-is_dot_segment : goal.returns-else-is_dot_segment
returns-else-is_dot_segment c =
    let rest = c.loop-segment.rest.now in
    let none = split_once_none slash rest c.in_default.ensures.cases (lit< tt) in
    let other = sym c.is_dot_segment-2.ensures ∙ c.if-is_dot_segment.false in
    ap path_of_segments (sym (after_leading_dots-other rest none other) ∙ c.loop-segment.invariant.same)
