use Rattle.std.proofs.Common.{◌≡◌, true, rules}
use Rattle.std.specs.Str.{chars}
use Rattle.xs_pattern.specs.Flagged.{has_flag, literal}
use Rattle.xs_pattern.specs.Regex.{regex_of}
use Rattle.xs_pattern.proofs.Answered.{literal_read}
use Rattle.xs_pattern.proofs.reader.read_expression.Goals as goal

pub returns-then-has_flag : goal.returns-then-has_flag
returns-then-has_flag c =
    let quoted : has_flag 113 (chars c.args.flags.now) ≡ true = cc in
    let is : regex_of c.in_ok-literal.field-0 ≡ literal (chars c.args.text.now) = search rules in
    literal_read (chars c.args.flags.now) (chars c.args.text.now) (regex_of c.in_ok-literal.field-0) quoted is
