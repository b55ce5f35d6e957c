use Rattle.std.proofs.Common.{refl, sym, true≢false, ◌∙◌}
use Rattle.std.specs.Prelude.{IsTrue, ◌↔◌}
use Rattle.std.proofs.lemmas.Result.{IfOk-weaker}
use Rattle.proof_file.specs.Accepts.{AreStates}
use Rattle.proof_checker.specs.Stated.{DecideSettled}
use Rattle.lists.proofs.Tests.{neither}
use Rattle.proof_checker.proofs.Stating.{states_decide, states_shaped}
use Rattle.proof_checker.proofs.states.Listing.are_states.Goals as goal

pub returns-then-not-are_shaped : goal.returns-then-not-are_shaped
returns-then-not-are_shaped g c =
    neither (AreStates (g.J.Judge.hold c.args.self.now.judge.now) (g.J.Judge.fail c.args.self.now.judge.now) c.args.self.now.shape.now c.args.self.now.node c.args.self.now.triples.now c.args.self.now.states.now) (λ h. true≢false (sym (c.if-not-are_shaped.ensures.1 (states_shaped (g.J.Judge.hold c.args.self.now.judge.now) (g.J.Judge.fail c.args.self.now.judge.now) c.args.self.now.shape.now c.args.self.now.node c.args.self.now.triples.now c.args.self.now.states.now h))))

pub returns-then-not-branch : goal.returns-then-not-branch
returns-then-not-branch g c =
    neither (AreStates (g.J.Judge.hold c.args.self.now.judge.now) (g.J.Judge.fail c.args.self.now.judge.now) c.args.self.now.shape.now c.args.self.now.node c.args.self.now.triples.now c.args.self.now.states.now) (λ h. true≢false (sym (c.in_ok-is_opened.ensures.1 h.opened) ∙ c.if-not-branch.true))

pub all_settled-requires-clause-shaped : goal.all_settled-requires-clause-shaped
all_settled-requires-clause-shaped g c = c.if-not-are_shaped.ensures.0 refl

pub returns : goal.returns
returns g c =
    IfOk-weaker c.all_settled.result
    (DecideSettled (g.J.Judge.hold c.args.self.now.judge.now) (g.J.Judge.fail c.args.self.now.judge.now) c.args.self.now.shape.now c.args.self.now.node c.args.self.now.triples.now c.args.self.now.states.now c.args.self.now.states.now)
    (λ b. IsTrue b ↔ AreStates (g.J.Judge.hold c.args.self.now.judge.now) (g.J.Judge.fail c.args.self.now.judge.now) c.args.self.now.shape.now c.args.self.now.node c.args.self.now.triples.now c.args.self.now.states.now)
    (λ b decided. states_decide (g.J.Judge.hold c.args.self.now.judge.now) (g.J.Judge.fail c.args.self.now.judge.now) c.args.self.now.shape.now c.args.self.now.node c.args.self.now.triples.now c.args.self.now.states.now b (c.if-not-are_shaped.ensures.0 refl) (c.in_ok-is_opened.ensures.0 c.if-not-branch.false) decided)
    c.all_settled.ensures
