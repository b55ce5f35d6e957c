use Rattle.std.proofs.Common.{◌∙◌, ap, refl, subst, sym}
use Rattle.std.specs.List.{IsDistinct}
use Rattle.std.specs.Option.{IsSome, option_copied_mut}
use Rattle.indexmap.specs.IndexMap.{spare}
use Rattle.rdf_terms.specs.Graphs.{same_id}
use Rattle.rdf_terms.specs.declared.terms.TermId.{TermId}
use Rattle.graph_index.specs.Edits.{AreInTexts, Incidence, IsReady}
use Rattle.graph_index.specs.Rows.{arcs_at, node_at}
use Rattle.graph_index.specs.declared.ends.End.{End}
use Rattle.graph_index.proofs.Amid.{is_put, put_in_texts, puts_alike, room_of, sorted_here}
use Rattle.graph_index.proofs.Overlaid.{found_lent, put_edits, rows_put}
use Rattle.graph_index.proofs.edited.EditedArcs.insert.Goals as goal

pub put-requires-clause-in_texts : goal.put-requires-clause-in_texts
put-requires-clause-in_texts c =
    let at = c.end-end.ensures ∙ ap (λ (a : Incidence). a.end) c.self.view_is in
    let same = c.node_of-n.ensures ∙ ap (λ (z : End). node_at z c.args.t) at in
    put_in_texts c.args.self.now c.args.terms.now c.args.t c.end-end.result at c.put_among.new.rows.items c.node_of-n.result
    (is_put c.args.self.now c.args.terms.now c.args.t c.end-end.result at c.put_among.new.rows.items c.in-Some.rows.items (subst (λ f. IsReady (node_at c.args.self.now.end c.args.t) f c.args.self.now) c.in-Some.is c.requires.ready).0 c.put_among.ensures)
    same c.requires.sorted

pub put_among-requires-in-Some-get_mut-clause-sorted : goal.put_among-requires-in-Some-get_mut-clause-sorted
put_among-requires-in-Some-get_mut-clause-sorted c =
    let at = c.end-end.ensures ∙ ap (λ (a : Incidence). a.end) c.self.view_is in
    let same = c.node_of-n.ensures ∙ ap (λ (z : End). node_at z c.args.t) at in
    sorted_here c.args.self.now c.args.terms.now c.args.t c.end-end.result at c.in-Some-get_mut.rows.now.items
    (found_lent c.self.inside.sealed.end c.self.inside.sealed.rows.items c.self.inside.edited.entries (spare c.self.inside.edited) c.args.self.now c.self.view_is c.self.invariant
    c.in-Some-get_mut.rows.now.items c.node_of-n.result c.in-Some-get_mut.rows.now (sym c.get_mut.ensures.value ∙ ap option_copied_mut c.in-Some-get_mut.is) refl
    ∙ ap (λ (n : TermId). arcs_at c.args.self.now.end c.args.self.now.rows n) same)
    c.requires.sorted

pub put_among-requires-in-Some-get_mut-clause-room : goal.put_among-requires-in-Some-get_mut-clause-room
put_among-requires-in-Some-get_mut-clause-room c =
    let at = c.end-end.ensures ∙ ap (λ (a : Incidence). a.end) c.self.view_is in
    let same = c.node_of-n.ensures ∙ ap (λ (z : End). node_at z c.args.t) at in
    room_of c.args.self.now (node_at c.args.self.now.end c.args.t) c.node_of-n.result c.args.fresh c.self.inside.edited.entries c.in-Some-get_mut.rows.now c.in_default.not-Some
    (sym (ap (λ (a : Incidence). a.edited) c.self.view_is)) (sym same) (sym c.get_mut.ensures.value ∙ ap option_copied_mut c.in-Some-get_mut.is) c.requires.ready

pub invariant_of-self : goal.invariant_of-self
invariant_of-self c =
    let at = c.end-end.ensures ∙ ap (λ (a : Incidence). a.end) c.self.view_is in
    let same = c.node_of-n.ensures ∙ ap (λ (z : End). node_at z c.args.t) at in
    let is = sym c.get_mut.ensures.value ∙ ap option_copied_mut c.in-Some-get_mut.is in
    let h = c.get_mut.follows.holds c.put_among-in-Some-get_mut.new.rows in
    let here =
    found_lent c.self.inside.sealed.end c.self.inside.sealed.rows.items c.self.inside.edited.entries (spare c.self.inside.edited) c.args.self.now c.self.view_is c.self.invariant
    c.in-Some-get_mut.rows.now.items c.node_of-n.result c.in-Some-get_mut.rows.now is refl
    ∙ ap (λ (n : TermId). arcs_at c.args.self.now.end c.args.self.now.rows n) same in
    put_edits c.self.inside.sealed.end c.self.inside.edited.entries _ c.node_of-n.result c.put_among-in-Some-get_mut.new.rows (h.3 (subst IsSome (sym is) refl)).0 c.self.invariant
    (subst (λ (w : Incidence). AreInTexts w.end c.node_of-n.result c.put_among-in-Some-get_mut.new.rows.items) (sym c.self.view_is)
    (put_in_texts c.args.self.now c.args.terms.now c.args.t c.end-end.result at c.put_among-in-Some-get_mut.new.rows.items c.node_of-n.result
    (is_put c.args.self.now c.args.terms.now c.args.t c.end-end.result at c.put_among-in-Some-get_mut.new.rows.items c.in-Some-get_mut.rows.now.items here c.put_among-in-Some-get_mut.ensures) same c.requires.sorted))
    (subst (IsDistinct same_id) (sym h.1) c.self.invariant.once)

pub returns : goal.returns
returns c =
    let at = c.end-end.ensures ∙ ap (λ (a : Incidence). a.end) c.self.view_is in
    let same = c.node_of-n.ensures ∙ ap (λ (z : End). node_at z c.args.t) at in
    let is = sym c.get_mut.ensures.value ∙ ap option_copied_mut c.in-Some-get_mut.is in
    let h = c.get_mut.follows.holds c.put_among-in-Some-get_mut.new.rows in
    let here =
    found_lent c.self.inside.sealed.end c.self.inside.sealed.rows.items c.self.inside.edited.entries (spare c.self.inside.edited) c.args.self.now c.self.view_is c.self.invariant
    c.in-Some-get_mut.rows.now.items c.node_of-n.result c.in-Some-get_mut.rows.now is refl
    ∙ ap (λ (n : TermId). arcs_at c.args.self.now.end c.args.self.now.rows n) same in
    let own = is_put c.args.self.now c.args.terms.now c.args.t c.end-end.result at c.put_among-in-Some-get_mut.new.rows.items c.in-Some-get_mut.rows.now.items here c.put_among-in-Some-get_mut.ensures in
    puts_alike c.node_of-n.result (node_at c.args.self.now.end c.args.t) c.put_among-in-Some-get_mut.new.rows.items _ c.args.self.now _ same own
    (rows_put c.self.inside.sealed.end c.self.inside.sealed.rows.items c.self.inside.edited.entries (spare c.self.inside.edited) c.args.self.now c.self.view_is c.self.invariant
    (c.get_mut.follows.lender c.put_among-in-Some-get_mut.new.rows).entries (spare (c.get_mut.follows.lender c.put_among-in-Some-get_mut.new.rows)) c.node_of-n.result c.put_among-in-Some-get_mut.new.rows (h.3 (subst IsSome (sym is) refl)).0
    (put_in_texts c.args.self.now c.args.terms.now c.args.t c.end-end.result at c.put_among-in-Some-get_mut.new.rows.items c.node_of-n.result own same c.requires.sorted)
    (subst (IsDistinct same_id) (sym h.1) c.self.invariant.once))
