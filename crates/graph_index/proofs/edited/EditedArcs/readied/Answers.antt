use Rattle.std.proofs.Common.{◌∙◌, ap, arith, refl, subst, sym}
use Rattle.std.specs.Option.{IsSome, option_copied_mut}
use Rattle.indexmap.specs.IndexMap.{spare}
use Rattle.graph_index.proofs.Overlaid.{copied, room_edits, room_in}
use Rattle.graph_index.proofs.edited.EditedArcs.readied.Goals as goal

pub invariant_of-self : goal.invariant_of-self
invariant_of-self c =
    let is = sym c.get_mut.ensures.value ∙ ap option_copied_mut c.in-Some.is in
    let h = c.get_mut.follows.holds c.reserve.new.self in
    room_edits c.self.inside.sealed.end c.self.inside.sealed.rows.items c.self.inside.edited.entries (spare c.self.inside.edited) c.args.self.now c.self.view_is c.self.invariant
    _ c.args.n c.reserve.new.self c.in-Some.rows.now is c.reserve.ensures.items (h.3 (subst IsSome (sym is) refl)).0 h.1

pub invariant_of-self-in-Some : goal.invariant_of-self-in-Some
invariant_of-self-in-Some c =
    let is = sym c.get_mut.ensures.value ∙ ap option_copied_mut c.in-Some.is in
    let h = c.get_mut.follows.holds c.reserve.new.self in
    room_edits c.self.inside.sealed.end c.self.inside.sealed.rows.items c.self.inside.edited.entries (spare c.self.inside.edited) c.args.self.now c.self.view_is c.self.invariant
    _ c.args.n c.reserve.new.self c.in-Some.rows.now is c.reserve.ensures.items (h.3 (subst IsSome (sym is) refl)).0 h.1

pub returns-in_err-reserve-in-Some-clause-same : goal.returns-in_err-reserve-in-Some-clause-same
returns-in_err-reserve-in-Some-clause-same c =
    room_in c.self.inside.sealed.end c.self.inside.sealed.rows.items c.self.inside.edited.entries (spare c.self.inside.edited) c.args.self.now c.self.view_is c.self.invariant
    _ _ c.args.n c.reserve.new.self c.in-Some.rows.now (sym c.get_mut.ensures.value ∙ ap option_copied_mut c.in-Some.is) c.reserve.ensures.items (c.get_mut.follows.holds c.reserve.new.self).0

pub returns-in_ok-reserve-in-Some-clause-same : goal.returns-in_ok-reserve-in-Some-clause-same
returns-in_ok-reserve-in-Some-clause-same c =
    room_in c.self.inside.sealed.end c.self.inside.sealed.rows.items c.self.inside.edited.entries (spare c.self.inside.edited) c.args.self.now c.self.view_is c.self.invariant
    _ _ c.args.n c.reserve.new.self c.in-Some.rows.now (sym c.get_mut.ensures.value ∙ ap option_copied_mut c.in-Some.is) c.reserve.ensures.items (c.get_mut.follows.holds c.reserve.new.self).0

pub returns-in_ok-rows-in-None-clause-ready : goal.returns-in_ok-rows-in-None-clause-ready
returns-in_ok-rows-in-None-clause-ready c = (
  copied c.self.inside.sealed.end c.self.inside.sealed.rows.items c.self.inside.edited.entries (spare c.self.inside.edited) c.args.self.now c.self.view_is c.self.invariant
      c.in_ok-rows-in-None.rows.items c.args.n (sym c.get_mut.ensures.value ∙ ap option_copied_mut c.in-None.is) (c.in_ok-rows-in-None.ensures.rows ∙ c.of_node.ensures)
      c.reserve-in-None.new.self.entries (c.reserve-in-None.ensures.entries ∙ ap (λ m. m.entries) c.get_mut.follows.holds-at-none),
  c.in_ok-rows-in-None.ensures.room,
  let more = c.in_ok-reserve-in-None.ensures.ok in omega (arith, more),
)
