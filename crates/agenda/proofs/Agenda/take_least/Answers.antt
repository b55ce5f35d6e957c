use Rattle.std.proofs.Common.{subst, ◌∷◌, ◌≡◌}
use Rattle.std.specs.Prelude.{IfSome}
use Rattle.agenda.proofs.Numbers.{taken}
use Rattle.agenda.proofs.Agenda.take_least.Goals as goal

pub returns-clause-taken : goal.returns-clause-taken
returns-clause-taken c =
    taken c.args.self.now c.pop_first.new.self.keys c.pop_first.result
    (subst (λ xs. IfSome c.pop_first.result (λ k. xs ≡ k ∷ c.pop_first.new.self.keys)) c.self.view_is c.pop_first.ensures.removal)
