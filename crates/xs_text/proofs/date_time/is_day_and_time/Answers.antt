use Rattle.std.specs.Str.Parse.{digits_value}
use Rattle.xs_text.proofs.Forms.{day_and_time_short}
use Rattle.xs_text.proofs.date_time.is_day_and_time.Goals as goal

pub returns-then-text-lt14 : goal.returns-then-text-lt14
returns-then-text-lt14 c = day_and_time_short (digits_value 10 c.args.year.now) c.args.text.now c.if-text-lt14.true
