use Rattle.std.proofs.Common.{lit<}
use Rattle.std.proofs.lemmas.Str.Pattern.{starts_char}
use Rattle.shexc_constraints.proofs.Counting.{minus_in_front}
use Rattle.shexc_constraints.proofs.numbers.is_minus.Goals as goal

pub returns : goal.returns
returns c = minus_in_front c.args.text.now c.starts_with.result (starts_char 45 c.args.text.now c.starts_with.result c.starts_with.ensures.cases (lit< tt) (lit< tt))
