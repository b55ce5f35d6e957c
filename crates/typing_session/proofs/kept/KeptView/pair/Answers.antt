use Rattle.std.proofs.Common.{sym}
use Rattle.typing_session.proofs.Keeping.{kept_answers, none_answers}
use Rattle.typing_session.proofs.kept.KeptView.pair.Goals as goal

pub returns-in-Some : goal.returns-in-Some
returns-in-Some c = kept_answers c.args.self.now c.args.pair c.in-Some.verdict (sym c.in-Some.ensures)

pub returns-in-None : goal.returns-in-None
returns-in-None c = none_answers c.args.self.now c.args.pair (sym c.in-None.ensures)
