use Rattle.std.specs.Str.{chars}
use Rattle.xs_pattern.proofs.Answered.{good_read, too_large_refused}
use Rattle.xs_pattern.proofs.pattern.Pattern.read.Goals as goal

pub returns-clause-too_large : goal.returns-clause-too_large
returns-clause-too_large c = too_large_refused (chars c.args.flags.now) (chars c.args.text.now) c.read_flagged.result c.read_flagged.ensures

pub returns-clause-read : goal.returns-clause-read
returns-clause-read c = good_read (chars c.args.flags.now) (chars c.args.text.now) c.read_flagged.result c.read_flagged.ensures
