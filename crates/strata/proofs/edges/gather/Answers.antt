use Rattle.std.proofs.Common.{◌≡◌, ◌⊎◌, ℕ, subst, Contains}
use Rattle.std.specs.Prelude.{◌↔◌}
use Rattle.strata.proofs.Opened.{all_negative, one_below, one_by_one}
use Rattle.strata.proofs.edges.gather.Goals as goal

pub gather_negative-requires-clause-there : goal.gather_negative-requires-clause-there
gather_negative-requires-clause-there c =
    one_below _ c.args.e.0 c.put.new.self (subst (λ xs. (q : ℕ) → Contains c.put.new.self q ↔ (Contains xs q ⊎ (q ≡ c.args.e.0))) c.new-agenda.ensures c.in_ok-put.ensures) c.requires.there

pub returns-then-negative : goal.returns-then-negative
returns-then-negative c =
    all_negative c.args.s.now c.args.from c.args.negative c.put.new.self c.args.e c.args.arcs.now.items c.gather_negative.new.arcs.items c.if-negative.true
    (subst (λ xs. (q : ℕ) → Contains c.put.new.self q ↔ (Contains xs q ⊎ (q ≡ c.args.e.0))) c.new-agenda.ensures c.in_ok-put.ensures) c.in_ok-gather_negative.ensures

pub returns : goal.returns
returns c =
    one_by_one c.args.s.now c.args.from c.args.negative c.args.e c.args.arcs.now.items c.gather_plain.new.arcs.items c.gather_negative-2.new.arcs.items c.in_ok-negated.negated c.if-negative.false
    c.in_ok-negated.ensures c.in_ok-gather_negative-2.ensures
