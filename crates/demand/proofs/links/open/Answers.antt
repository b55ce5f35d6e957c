use Rattle.std.proofs.Common.{◌∙◌, ◌≡◌, refl, length, ap, sym, ltb-false}
use borrow.Author.Tests.{ltb-true}
use Rattle.std.specs.Prelude.{Some, None, slice_get}
use Rattle.std.proofs.lemmas.Option.{slice_get_past, slice_get_read}
use Rattle.demand.specs.Links.{members_of, own_of}
use Rattle.demand.proofs.Listed.{has_same, none_more}
use Rattle.demand.proofs.links.open.Goals as goal

found : (c : goal.In_ok-add_own-in-Some) → slice_get c.args.schema.now.exprs c.args.expr.0 ≡ Some c.in-Some.found.now
found c =
    ap (λ xs. slice_get xs c.args.expr.0) (sym c.as_slice.ensures)
    ∙ slice_get_read c.as_slice.result.now (length c.as_slice.result.now) c.args.expr.0 c.in-Some.found.now refl
    (ltb-true c.args.expr.0 (length c.as_slice.result.now) (sym c.in-Some.ensures.lookup.0)) c.in-Some.ensures.lookup.1

missing : (c : goal.In-None) → slice_get c.args.schema.now.exprs c.args.expr.0 ≡ None
missing c =
    ap (λ xs. slice_get xs c.args.expr.0) (sym c.as_slice.ensures)
    ∙ slice_get_past c.as_slice.result.now c.args.expr.0 (ltb-false c.args.expr.0 (length c.as_slice.result.now) (sym c.in-None.ensures.lookup.0))

pub returns-in_ok-add_own-in-Some-clause-agenda : goal.returns-in_ok-add_own-in-Some-clause-agenda
returns-in_ok-add_own-in-Some-clause-agenda c =
    has_same c.args.agenda.now _ _ c.put_members.new.agenda (ap members_of (sym (found c))) c.in_ok-put_members-in-Some.ensures

pub returns-in_ok-add_own-in-Some-clause-shapes : goal.returns-in_ok-add_own-in-Some-clause-shapes
returns-in_ok-add_own-in-Some-clause-shapes c =
    has_same c.args.shapes.now.keys _ _ c.add_own.new.shapes.keys (ap own_of (sym (found c))) c.in_ok-add_own-in-Some.ensures

pub returns-in-None-clause-agenda : goal.returns-in-None-clause-agenda
returns-in-None-clause-agenda c = has_same c.args.agenda.now _ _ c.args.agenda.now (ap members_of (sym (missing c))) (none_more c.args.agenda.now)

pub returns-in-None-clause-shapes : goal.returns-in-None-clause-shapes
returns-in-None-clause-shapes c = has_same c.args.shapes.now.keys _ _ c.args.shapes.now.keys (ap own_of (sym (missing c))) (none_more c.args.shapes.now.keys)
