use Rattle.std.proofs.Common.{◌∙◌, ap, sym, map}
use Rattle.std.specs.Prelude.{Some}
use Rattle.demand.specs.Links.{members_of}
use Rattle.demand.proofs.Listed.{has_same, one_more}
use Rattle.demand.proofs.links.put_members.Goals as goal

pub returns-in_ok-put_all-in-And : goal.returns-in_ok-put_all-in-And
returns-in_ok-put_all-in-And c =
    has_same c.args.agenda.now _ _ c.put_all.new.agenda (ap (map (λ d. d.0)) c.as_slice.ensures ∙ ap (λ x. members_of (Some x)) (sym c.in-And.is)) c.in_ok-put_all-in-And.ensures

pub returns-in_ok-put_all-in-Or : goal.returns-in_ok-put_all-in-Or
returns-in_ok-put_all-in-Or c =
    has_same c.args.agenda.now _ _ c.put_all-in-Or.new.agenda (ap (map (λ d. d.0)) c.as_slice-in-Or.ensures ∙ ap (λ x. members_of (Some x)) (sym c.in-Or.is)) c.in_ok-put_all-in-Or.ensures

pub returns-in_ok-put-in-Not : goal.returns-in_ok-put-in-Not
returns-in_ok-put-in-Not c =
    has_same c.args.agenda.now _ _ c.put.new.self (ap (λ x. members_of (Some x)) (sym c.in-Not.is))
    (λ q. one_more c.args.agenda.now c.put.new.self c.in-Not.member.0 q (c.in_ok-put-in-Not.ensures q))
