use Rattle.std.proofs.Common.{[], ap, sym, subst}
use Rattle.std.specs.Prelude.{Some}
use Rattle.strata.specs.Gathers.{Has, negated_of}
use Rattle.strata.proofs.Opened.{has_none}
use Rattle.agenda.proofs.Growing.{has_one}
use Rattle.strata.proofs.edges.put_negated.Goals as goal

pub returns-in_ok-put-in-Not : goal.returns-in_ok-put-in-Not
returns-in_ok-put-in-Not c =
    subst (λ xs. Has c.args.agenda.now xs c.put.new.self) (ap (λ x. negated_of (Some x)) (sym c.in-Not.is))
    (has_one c.args.agenda.now [] c.args.agenda.now c.put.new.self c.in-Not.member.0 (has_none c.args.agenda.now) c.in_ok-put-in-Not.ensures)
