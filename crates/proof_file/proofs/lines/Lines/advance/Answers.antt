use Rattle.std.proofs.Common.{refl, sym, ap, ◌∙◌, ◌++◌, ◌∷◌, subst}
use Rattle.proof_file.specs.Text.{IsFault}
use Rattle.proof_file.proofs.Steps.{heading_more, heading_stuck, heading_unended, past_more, past_stuck}
use Rattle.proof_file.proofs.lines.Lines.advance.Goals as goal

pub returns-in-Line-clause-head : goal.returns-in-Line-clause-head
returns-in-Line-clause-head c = λ h read.
    heading_more c.args.self.now (record { whole = c.args.self.now.whole; rest = c.in-Line.rest; last = c.last_behind-self.result; stage = c.stage_behind-self.result }) h c.in-Line.line read
    (c.in-Line.ensures.0 ∙ ap (λ z. z ++ 10 ∷ c.in-Line.rest.now) c.in-Line.ensures.1.0) c.in-Line.ensures.1.1 refl c.stage_behind-self.ensures c.last_behind-self.ensures

pub returns-in-End-clause-head : goal.returns-in-End-clause-head
returns-in-End-clause-head c = λ h read. heading_unended c.args.self.now h read c.in-End.ensures.1

pub returns-in-Bad-clause-head : goal.returns-in-Bad-clause-head
returns-in-Bad-clause-head c = λ h read.
    (refl, (sym c.place.ensures, subst (IsFault c.args.self.now.whole.now) (sym c.place.ensures) (heading_stuck c.args.self.now h c.in-Bad.rest.now read c.in-Bad.ensures)))

pub returns-in-Line-clause-goes : goal.returns-in-Line-clause-goes
returns-in-Line-clause-goes c = λ p past.
    past_more c.args.self.now (record { whole = c.args.self.now.whole; rest = c.in-Line.rest; last = c.last_behind-self.result; stage = c.stage_behind-self.result }) p c.in-Line.line past
    (c.in-Line.ensures.0 ∙ ap (λ z. z ++ 10 ∷ c.in-Line.rest.now) c.in-Line.ensures.1.0) c.in-Line.ensures.1.1 refl c.stage_behind-self.ensures c.last_behind-self.ensures

pub returns-in-Bad-clause-goes : goal.returns-in-Bad-clause-goes
returns-in-Bad-clause-goes c = λ p past.
    (refl, (sym c.place.ensures, subst (IsFault c.args.self.now.whole.now) (sym c.place.ensures) (past_stuck c.args.self.now p c.in-Bad.rest.now past c.in-Bad.ensures)))
