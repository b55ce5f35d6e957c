use Rattle.std.proofs.Common.{◌∙◌, ap, refl, subst, sym}
use Rattle.std.specs.List.{IsDistinct}
use Rattle.std.specs.Option.{IsSome, option_copied_mut}
use Rattle.indexmap.specs.IndexMap.{spare}
use Rattle.rdf_terms.specs.Graphs.{same_id}
use Rattle.rdf_terms.specs.declared.terms.TermId.{TermId}
use Rattle.graph_index.specs.Edits.{AreInTexts, Incidence, IsReady}
use Rattle.graph_index.specs.Rows.{arcs_at, node_at}
use Rattle.graph_index.specs.declared.ends.End.{End}
use Rattle.graph_index.proofs.Amid.{is_taken, one_here, puts_alike, taken_in_texts}
use Rattle.graph_index.proofs.Overlaid.{found_lent, put_edits, rows_put}
use Rattle.graph_index.proofs.edited.EditedArcs.remove.Goals as goal

pub take_from-requires : goal.take_from-requires
take_from-requires c =
    let at = c.end-end.ensures ∙ ap (λ (a : Incidence). a.end) c.self.view_is in
    let same = c.node_of-n.ensures ∙ ap (λ (z : End). node_at z c.args.t) at in (
      arcs_at c.args.self.now.end c.requires.sorted.0 (node_at c.args.self.now.end c.args.t),
      one_here c.args.self.now c.args.terms.now c.args.t c.end-end.result at c.in-Some.rows.items
          (subst (λ f. IsReady (node_at c.args.self.now.end c.args.t) f c.args.self.now) c.in-Some.is c.requires.ready).0 c.requires.sorted.0 c.requires.sorted.1,
    )

pub put-requires-clause-in_texts : goal.put-requires-clause-in_texts
put-requires-clause-in_texts c =
    let at = c.end-end.ensures ∙ ap (λ (a : Incidence). a.end) c.self.view_is in
    let same = c.node_of-n.ensures ∙ ap (λ (z : End). node_at z c.args.t) at in
    taken_in_texts c.args.self.now c.args.terms.now c.args.t c.end-end.result at c.take_from.new.rows.items c.node_of-n.result c.requires.sorted.0
    (is_taken c.args.self.now c.args.terms.now c.args.t c.end-end.result at c.take_from.new.rows.items c.in-Some.rows.items (subst (λ f. IsReady (node_at c.args.self.now.end c.args.t) f c.args.self.now) c.in-Some.is c.requires.ready).0 c.take_from.ensures c.requires.sorted.0 c.requires.sorted.1)
    same

pub take_from-requires-in-Some-get_mut : goal.take_from-requires-in-Some-get_mut
take_from-requires-in-Some-get_mut c =
    let at = c.end-end.ensures ∙ ap (λ (a : Incidence). a.end) c.self.view_is in
    let same = c.node_of-n.ensures ∙ ap (λ (z : End). node_at z c.args.t) at in
    let is = sym c.get_mut.ensures.value ∙ ap option_copied_mut c.in-Some-get_mut.is in
    let here =
    found_lent c.self.inside.sealed.end c.self.inside.sealed.rows.items c.self.inside.edited.entries (spare c.self.inside.edited) c.args.self.now c.self.view_is c.self.invariant
    c.in-Some-get_mut.rows.now.items c.node_of-n.result c.in-Some-get_mut.rows.now is refl
    ∙ ap (λ (n : TermId). arcs_at c.args.self.now.end c.args.self.now.rows n) same in
    (arcs_at c.args.self.now.end c.requires.sorted.0 (node_at c.args.self.now.end c.args.t), one_here c.args.self.now c.args.terms.now c.args.t c.end-end.result at c.in-Some-get_mut.rows.now.items here c.requires.sorted.0 c.requires.sorted.1)

pub invariant_of-self : goal.invariant_of-self
invariant_of-self c =
    let at = c.end-end.ensures ∙ ap (λ (a : Incidence). a.end) c.self.view_is in
    let same = c.node_of-n.ensures ∙ ap (λ (z : End). node_at z c.args.t) at in
    let is = sym c.get_mut.ensures.value ∙ ap option_copied_mut c.in-Some-get_mut.is in
    let here =
    found_lent c.self.inside.sealed.end c.self.inside.sealed.rows.items c.self.inside.edited.entries (spare c.self.inside.edited) c.args.self.now c.self.view_is c.self.invariant
    c.in-Some-get_mut.rows.now.items c.node_of-n.result c.in-Some-get_mut.rows.now is refl
    ∙ ap (λ (n : TermId). arcs_at c.args.self.now.end c.args.self.now.rows n) same in
    let h = c.get_mut.follows.holds c.take_from-in-Some-get_mut.new.rows in
    put_edits c.self.inside.sealed.end c.self.inside.edited.entries _ c.node_of-n.result c.take_from-in-Some-get_mut.new.rows (h.3 (subst IsSome (sym is) refl)).0 c.self.invariant
    (subst (λ (w : Incidence). AreInTexts w.end c.node_of-n.result c.take_from-in-Some-get_mut.new.rows.items) (sym c.self.view_is)
    (taken_in_texts c.args.self.now c.args.terms.now c.args.t c.end-end.result at c.take_from-in-Some-get_mut.new.rows.items c.node_of-n.result c.requires.sorted.0
    (is_taken c.args.self.now c.args.terms.now c.args.t c.end-end.result at c.take_from-in-Some-get_mut.new.rows.items c.in-Some-get_mut.rows.now.items here c.take_from-in-Some-get_mut.ensures c.requires.sorted.0 c.requires.sorted.1) same))
    (subst (IsDistinct same_id) (sym h.1) c.self.invariant.once)

pub returns-in-Some : goal.returns-in-Some
returns-in-Some c = λ ts one.
    let at = c.end-end.ensures ∙ ap (λ (a : Incidence). a.end) c.self.view_is in
    let same = c.node_of-n.ensures ∙ ap (λ (z : End). node_at z c.args.t) at in
    puts_alike c.node_of-n.result (node_at c.args.self.now.end c.args.t) c.take_from.new.rows.items _ c.args.self.now _ same
    (is_taken c.args.self.now c.args.terms.now c.args.t c.end-end.result at c.take_from.new.rows.items c.in-Some.rows.items (subst (λ f. IsReady (node_at c.args.self.now.end c.args.t) f c.args.self.now) c.in-Some.is c.requires.ready).0 c.take_from.ensures ts one)
    c.put.ensures

pub returns : goal.returns
returns c = λ ts one.
    let at = c.end-end.ensures ∙ ap (λ (a : Incidence). a.end) c.self.view_is in
    let same = c.node_of-n.ensures ∙ ap (λ (z : End). node_at z c.args.t) at in
    let is = sym c.get_mut.ensures.value ∙ ap option_copied_mut c.in-Some-get_mut.is in
    let here =
    found_lent c.self.inside.sealed.end c.self.inside.sealed.rows.items c.self.inside.edited.entries (spare c.self.inside.edited) c.args.self.now c.self.view_is c.self.invariant
    c.in-Some-get_mut.rows.now.items c.node_of-n.result c.in-Some-get_mut.rows.now is refl
    ∙ ap (λ (n : TermId). arcs_at c.args.self.now.end c.args.self.now.rows n) same in
    let h = c.get_mut.follows.holds c.take_from-in-Some-get_mut.new.rows in
    let own = is_taken c.args.self.now c.args.terms.now c.args.t c.end-end.result at c.take_from-in-Some-get_mut.new.rows.items c.in-Some-get_mut.rows.now.items here c.take_from-in-Some-get_mut.ensures ts one in
    puts_alike c.node_of-n.result (node_at c.args.self.now.end c.args.t) c.take_from-in-Some-get_mut.new.rows.items _ c.args.self.now _ same own
    (rows_put c.self.inside.sealed.end c.self.inside.sealed.rows.items c.self.inside.edited.entries (spare c.self.inside.edited) c.args.self.now c.self.view_is c.self.invariant
    (c.get_mut.follows.lender c.take_from-in-Some-get_mut.new.rows).entries (spare (c.get_mut.follows.lender c.take_from-in-Some-get_mut.new.rows)) c.node_of-n.result c.take_from-in-Some-get_mut.new.rows (h.3 (subst IsSome (sym is) refl)).0
    (taken_in_texts c.args.self.now c.args.terms.now c.args.t c.end-end.result at c.take_from-in-Some-get_mut.new.rows.items c.node_of-n.result ts own same)
    (subst (IsDistinct same_id) (sym h.1) c.self.invariant.once))
