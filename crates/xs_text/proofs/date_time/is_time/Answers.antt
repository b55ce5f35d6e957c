use Rattle.std.proofs.Common.{lit<, refl, sym}
use lib.Chars.{codes}
use Rattle.xs_text.proofs.Forms.{digits_in_form}
use Rattle.xs_text.proofs.date_time.is_time.Goals as goal

pub field-hours-requires : goal.field-hours-requires
field-hours-requires c = digits_in_form (codes "99:99:99") c.args.text.now 0 (sym c.if-not-has_form.ensures) (lit< tt) refl refl

pub field-minutes-requires : goal.field-minutes-requires
field-minutes-requires c = digits_in_form (codes "99:99:99") c.args.text.now 3 (sym c.if-not-has_form.ensures) (lit< tt) refl refl

pub field-seconds-requires : goal.field-seconds-requires
field-seconds-requires c = digits_in_form (codes "99:99:99") c.args.text.now 6 (sym c.if-not-has_form.ensures) (lit< tt) refl refl
