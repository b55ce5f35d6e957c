use Rattle.std.proofs.Common.{map, subst, sym}
use Rattle.std.proofs.lemmas.List.{take_all}
use Rattle.strata.specs.Gathers.{Has}
use Rattle.strata.proofs.Opened.{next_number}
use Rattle.agenda.proofs.Growing.{has_one}
use Rattle.strata.proofs.edges.put_all.Goals as goal

pub loop-member-preserved : goal.loop-member-preserved
loop-member-preserved c =
    subst (λ xs. Has c.args.agenda.now xs c.put.new.self)
    (sym (next_number c.args.members.now c.loop-member.member-index (record { 0 = 0 }) c.loop-member-test.true))
    (has_one c.args.agenda.now _ c.loop-member.agenda c.put.new.self _ c.loop-member.invariant c.in_ok-put.ensures)

pub returns : goal.returns
returns c =
    subst (λ xs. Has c.args.agenda.now (map (λ d. d.0) xs) c.loop-member.agenda) (take_all c.loop-member.member-index c.args.members.now c.loop-member-test.false) c.loop-member.invariant
