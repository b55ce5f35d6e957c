use Rattle.std.proofs.Common.{◌≡◌, length}
use denote.Text.{Utf8}
use denote.Shadow.{shadow}
use Rattle.iri_resolve.specs.Dots.{segments_of, after_leading_dots}
use Rattle.iri_resolve.proofs.path.skip_leading_dots.Given as goal

-- what is left has the same segments behind its leading dot segments as the path
abbrev pub invariant-loop-segment : goal.invariant-loop-segment
invariant-loop-segment l = record {
  text : shadow (Utf8 l.rest);
  same : after_leading_dots (segments_of l.rest) ≡ after_leading_dots (segments_of l.path);
}

abbrev pub decreases-loop-segment : goal.decreases-loop-segment
decreases-loop-segment l = length l.rest
