use Rattle.std.proofs.Common.{lit<, None}
use Rattle.std.proofs.lemmas.Str.Pattern.{strip_prefix_char}
use Rattle.shexc_constraints.proofs.Counting.{no_sign}
use Rattle.shexc_constraints.proofs.numbers.unsigned.Goals as goal

pub returns-in-None : goal.returns-in-None
returns-in-None c = no_sign c.args.text.now (strip_prefix_char 45 c.args.text.now None c.in_default.ensures.cases (lit< tt))
    (strip_prefix_char 43 c.args.text.now None c.in-None.ensures.cases (lit< tt))
