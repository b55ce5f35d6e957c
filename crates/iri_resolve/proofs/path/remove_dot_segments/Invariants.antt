use Rattle.std.proofs.Common.{◌≡◌, length, string_bytes}
use denote.Text.{Utf8}
use denote.Shadow.{shadow}
use Rattle.iri_resolve.specs.Dots.{segments_of, without_dot_segments, with_end, left_of}
use Rattle.iri_resolve.proofs.Reading.{outcome}
use Rattle.iri_resolve.proofs.path.remove_dot_segments.Given as goal

-- what is left of the segments that are still to be read comes behind the text so far
abbrev pub invariant-loop-segment : goal.invariant-loop-segment
invariant-loop-segment l = record {
  text : shadow (Utf8 l.rest);
  reads : outcome (string_bytes l.output) (left_of (with_end (segments_of l.rest))) ≡ without_dot_segments l.fn.path;
}

abbrev pub decreases-loop-segment : goal.decreases-loop-segment
decreases-loop-segment l = length l.rest
