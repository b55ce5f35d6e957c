use Rattle.xs_text.proofs.Names.{outside}
use Rattle.xs_text.proofs.lexical_ok.Goals as goal

pub returns-in-None : goal.returns-in-None
returns-in-None c = outside c.args.datatype.now c.args.lex.now c.in-None.ensures.cases
