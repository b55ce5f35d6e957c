use Rattle.std.proofs.Common.{◌∙◌, arith, ap, cond, length, refl, sym}
use Rattle.std.specs.Map.{lookup}
use Rattle.std.specs.Prelude.{None, nat_eq}
use Rattle.typing_refiner.proofs.Stored.{left_out, taken_triples}
use Rattle.typing_refiner.proofs.witnesses.Witnesses.take.Goals as goal

pub returns-in_err-witness-clause-left : goal.returns-in_err-witness-clause-left
returns-in_err-witness-clause-left c =
    left_out c.args.self.now c.swap_remove.new.self.entries c.args.at (λ q. c.swap_remove.ensures.updates.0 q ∙ ap (λ es. cond (nat_eq c.args.at q) None (lookup (nat_eq q) es)) c.self.view_is)

pub overflow_sub-self : goal.overflow_sub-self
overflow_sub-self c =
    let own = c.self.invariant.0 in
    let left = taken_triples c.self.inside.held.entries c.swap_remove.new.self.entries c.args.at c.in_ok-witness.witness c.in_ok-witness.ensures.value c.in_ok-witness.ensures.entries c.in_ok-witness.ensures.len in
    let count = c.len.ensures ∙ ap (λ w. length w.triples) c.deref.ensures in
    omega (arith, own, left, count)

pub invariant_of-self-2 : goal.invariant_of-self-2
invariant_of-self-2 c =
    let own = c.self.invariant.0 in
    let most = c.self.invariant.1 in
    let left = taken_triples c.self.inside.held.entries c.swap_remove.new.self.entries c.args.at c.in_ok-witness.witness c.in_ok-witness.ensures.value c.in_ok-witness.ensures.entries c.in_ok-witness.ensures.len in
    let count = c.len.ensures ∙ ap (λ w. length w.triples) c.deref.ensures in
    (omega (arith, own, left, count), omega (arith, most))

pub returns-clause-taken : goal.returns-clause-taken
returns-clause-taken c = (c.in_ok-witness.witness, sym (c.in_ok-witness.ensures.value ∙ ap (λ es. lookup (nat_eq c.args.at) es) c.self.view_is), refl)

pub returns-clause-left : goal.returns-clause-left
returns-clause-left c =
    left_out c.args.self.now c.swap_remove.new.self.entries c.args.at (λ q. c.swap_remove.ensures.updates.0 q ∙ ap (λ es. cond (nat_eq c.args.at q) None (lookup (nat_eq q) es)) c.self.view_is)
