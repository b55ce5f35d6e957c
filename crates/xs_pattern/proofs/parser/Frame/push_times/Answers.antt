use Rattle.std.proofs.Common.{sym, ap}
use Rattle.std.specs.Prelude.{option_map}
use Rattle.xs_pattern.specs.Regex.{regex_of}
use Rattle.xs_pattern.proofs.Frames.{same_frame, quantified_piece}
use Rattle.xs_pattern.proofs.parser.Frame.push_times.Goals as goal

pub returns-clause-some : goal.returns-clause-some
returns-clause-some c _ = (
  regex_of c.in-Some.atom,
  ap (option_map regex_of) (sym c.in-Some.ensures.value),
  same_frame _ _ _ _ _
      (quantified_piece _ _ c.args.least c.args.most c.in_ok-body.body c.in-Some.atom c.in_ok-push.ensures.items c.in_ok-body.ensures.ok)
      (ap (option_map regex_of) c.in-Some.ensures.after),
)
