use Rattle.std.proofs.Common.{◌∙◌, ap, sym, subst, map}
use Rattle.std.specs.Prelude.{Some}
use Rattle.strata.specs.Gathers.{Has, members_of}
use Rattle.strata.proofs.edges.put_members.Goals as goal

pub returns-in_ok-put_all-in-And : goal.returns-in_ok-put_all-in-And
returns-in_ok-put_all-in-And c =
    subst (λ xs. Has c.args.agenda.now xs c.put_all.new.agenda) (ap (map (λ d. d.0)) c.as_slice.ensures ∙ ap (λ x. members_of (Some x)) (sym c.in-And.is)) c.in_ok-put_all-in-And.ensures

pub returns-in_ok-put_all-in-Or : goal.returns-in_ok-put_all-in-Or
returns-in_ok-put_all-in-Or c =
    subst (λ xs. Has c.args.agenda.now xs c.put_all-in-Or.new.agenda) (ap (map (λ d. d.0)) c.as_slice-in-Or.ensures ∙ ap (λ x. members_of (Some x)) (sym c.in-Or.is)) c.in_ok-put_all-in-Or.ensures
