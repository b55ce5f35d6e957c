use Rattle.std.proofs.Common.{◌≡◌, ◌∙◌, ap, sym, lit<, string_bytes, rules, arith}
use Rattle.std.proofs.lemmas.Grind.{common_steps}
use Rattle.iri_resolve.specs.Text.{slash, before}
use Rattle.iri_resolve.specs.Dots.{without_dot_segments, left_of, with_end, segments_of}
use Rattle.iri_resolve.proofs.Places.{split_once_some, split_once_none}
use Rattle.iri_resolve.proofs.Reading.{outcome, outcome-start, outcome-step, outcome-last, path_of_segments-one}
use Rattle.iri_resolve.proofs.path.remove_dot_segments.Goals as goal

-- a path of one segment, which is no dot segment, stays
pub returns-in_default : goal.returns-in_default
returns-in_default c =
    let path = c.skip_leading_dots-relative.result.now in
    let one = path_of_segments-one path (split_once_none slash path c.in_default.ensures.cases (lit< tt)) in
    let same : path ≡ without_dot_segments c.args.path.now = sym one ∙ c.skip_leading_dots-relative.ensures in
    grind (arith, common_steps, c.from_str.ensures.ok, same)

-- at first the text is the first segment
pub loop-segment-init : goal.loop-segment-init
loop-segment-init c =
    let path = c.skip_leading_dots-relative.result.now in
    let cut = split_once_some slash path (c.in-Some.first, c.in-Some.later) c.in-Some.ensures.cases (lit< tt) in
    record {
      text = search rules;
      reads =
          ap (λ t. outcome t (left_of (with_end (segments_of c.in-Some.later.now)))) (c.in_ok-output.ensures.ok ∙ cut.1)
          ∙ ap (λ t. outcome (before slash path) (left_of (with_end (segments_of t)))) cut.2
          ∙ outcome-start path cut.0
          ∙ c.skip_leading_dots-relative.ensures;
    }

-- and each segment that is read is one less to be read
pub loop-segment-preserved : goal.loop-segment-preserved
loop-segment-preserved c =
    let rest = c.loop-segment.rest.now in
    let cut = split_once_some slash rest (c.in-Some-split_once.segment, c.in-Some-split_once.behind) c.in-Some-split_once.ensures.cases (lit< tt) in
    record {
      text = search rules;
      reads = outcome-step (string_bytes c.loop-segment.output)
          (string_bytes c.read_segment.new.output) c.in-Some-split_once.segment.now c.in-Some-split_once.behind.now rest _ cut.0 cut.1 cut.2 c.in_ok-read_segment.ensures c.loop-segment.invariant.reads;
    }

pub returns : goal.returns
returns c =
    let rest = c.loop-segment.rest.now in
    let none = split_once_none slash rest c.in_default-split_once.ensures.cases (lit< tt) in
    c.in_ok-read_last_segment.ensures ∙ outcome-last (string_bytes c.loop-segment.output) rest (without_dot_segments c.args.path.now) none c.loop-segment.invariant.reads
