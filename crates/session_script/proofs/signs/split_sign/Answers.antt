use Rattle.std.proofs.Common.{lit<, None}
use Rattle.std.proofs.lemmas.Str.Pattern.{strip_prefix_char}
use Rattle.session_script.proofs.Lines.{none_begins}
use Rattle.session_script.proofs.signs.split_sign.Goals as goal

pub returns-in-None : goal.returns-in-None
returns-in-None c =
    let line = c.args.line.now in
    none_begins line (strip_prefix_char 43 line None c.in_default.ensures.cases (lit< tt))
    (strip_prefix_char 45 line None c.in_default-strip_prefix.ensures.cases (lit< tt)) (strip_prefix_char 63 line None c.in-None.ensures.cases (lit< tt))
