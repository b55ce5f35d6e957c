use Rattle.std.proofs.Common.{List, ap, filter, not, subst, sym, ◌≡◌, ◌∙◌, ◌∷◌}
use Rattle.lists.specs.Sorting.{sorted_by}
use Rattle.rdf_terms.specs.Graphs.{ins, is_loop}
use Rattle.rdf_terms.specs.declared.terms.Triple.{Triple}
use Rattle.graph_index.specs.Contents.{IsArranged}
use Rattle.graph_index.specs.Edits.{GivesRows, PutsRows}
use Rattle.graph_index.specs.Rows.{arcs_at, by_texts, node_at}
use Rattle.graph_index.specs.declared.ends.End.{End}
use Rattle.graph_index.specs.declared.ends.End.TheVariants.{Object, Subject}
use Rattle.graph_index.proofs.KeptUp.{arranged_less, as_inserted, from_same, of_ready, others_less, others_one, put_kept}
use Rattle.graph_index.proofs.rows.Rows.remove.Goals as goal

pub remove-requires-clause-sorted : goal.remove-requires-clause-sorted
remove-requires-clause-sorted c =
    let t = c.args.t in
    let arranged = subst (IsArranged c.args.terms.now c.requires.0) (sym c.self.view_is) c.requires.3 in (
      c.requires.1,
      of_ready (λ e r. arcs_at e r (node_at e t) ≡
          sorted_by (by_texts e c.args.terms.now) (t ∷ arcs_at e c.requires.1 (node_at e t))) c.self.inside.outward c.readied.new.self Subject c.self.invariant.outward_end c.readied.ensures.same
          (as_inserted Subject c.args.terms.now t c.requires.0 c.requires.1 _ c.requires.2 (arranged.outward t.s)),
    )

pub remove-requires-2-clause-sorted : goal.remove-requires-2-clause-sorted
remove-requires-2-clause-sorted c =
    let t = c.args.t in
    let arranged = subst (IsArranged c.args.terms.now c.requires.0) (sym c.self.view_is) c.requires.3 in (
      c.requires.1,
      of_ready (λ e r. arcs_at e r (node_at e t) ≡
          sorted_by (by_texts e c.args.terms.now) (t ∷ arcs_at e c.requires.1 (node_at e t))) c.self.inside.inward c.readied-2.new.self Object c.self.invariant.inward_end c.readied-2.ensures.same
          (as_inserted Object c.args.terms.now t c.requires.0 c.requires.1 _ c.requires.2 (arranged.inward t.o)),
    )

pub remove_other-requires-clause-sorted : goal.remove_other-requires-clause-sorted
remove_other-requires-clause-sorted c =
    let t = c.args.t in
    let arranged = subst (IsArranged c.args.terms.now c.requires.0) (sym c.self.view_is) c.requires.3 in (
      filter (λ u. not (is_loop u)) c.requires.1,
      ap (λ (v : List Triple). arcs_at Object v t.o) c.readied-3.ensures.same.rows
          ∙ others_one c.args.terms.now t c.requires.1 (ins c.self.inside.inward.rows t.o) (arcs_at Object c.self.inside.into_others.rows t.o)
          (as_inserted Object c.args.terms.now t c.requires.0 c.requires.1 _ c.requires.2 (arranged.inward t.o)) (c.self.invariant.others t.o),
    )

pub invariant_of-self-2 : goal.invariant_of-self-2
invariant_of-self-2 c =
    let t = c.args.t in
    let arranged = subst (IsArranged c.args.terms.now c.requires.0) (sym c.self.view_is) c.requires.3 in
    put_kept c.self.inside.places.items c.self.inside.outward c.remove.new.self c.self.inside.inward c.remove-2.new.self c.self.inside.into_others c.remove_other.new.arcs
    (node_at c.self.inside.outward.end t) t.o _ (sorted_by (by_texts Object c.args.terms.now) (ins c.requires.1 t.o)) _
    (others_less c.args.terms.now t c.requires.1)
    (from_same (λ e. node_at e t) (λ e r. sorted_by (by_texts e c.args.terms.now) (arcs_at e c.requires.1 (node_at e t))) c.self.inside.outward c.readied.new.self c.remove.new.self c.readied.ensures.same
    (c.remove.ensures c.requires.1 (of_ready (λ e r. arcs_at e r (node_at e t) ≡
    sorted_by (by_texts e c.args.terms.now) (t ∷ arcs_at e c.requires.1 (node_at e t))) c.self.inside.outward c.readied.new.self Subject c.self.invariant.outward_end c.readied.ensures.same
    (as_inserted Subject c.args.terms.now t c.requires.0 c.requires.1 _ c.requires.2 (arranged.outward t.s)))))
    (subst (λ (e : End). PutsRows (node_at e t) (sorted_by (by_texts e c.args.terms.now) (arcs_at e c.requires.1 (node_at e t))) c.self.inside.inward c.remove-2.new.self) c.self.invariant.inward_end
    (from_same (λ e. node_at e t) (λ e r. sorted_by (by_texts e c.args.terms.now) (arcs_at e c.requires.1 (node_at e t))) c.self.inside.inward c.readied-2.new.self c.remove-2.new.self c.readied-2.ensures.same
    (c.remove-2.ensures c.requires.1 (of_ready (λ e r. arcs_at e r (node_at e t) ≡
    sorted_by (by_texts e c.args.terms.now) (t ∷ arcs_at e c.requires.1 (node_at e t))) c.self.inside.inward c.readied-2.new.self Object c.self.invariant.inward_end c.readied-2.ensures.same
    (as_inserted Object c.args.terms.now t c.requires.0 c.requires.1 _ c.requires.2 (arranged.inward t.o))))))
    (from_same (λ e. t.o) (λ e r. sorted_by (by_texts Object c.args.terms.now) (ins (filter (λ u. not (is_loop u)) c.requires.1) t.o)) c.self.inside.into_others c.readied-3.new.self c.remove_other.new.arcs c.readied-3.ensures.same
    (c.remove_other.ensures (filter (λ u. not (is_loop u)) c.requires.1)
    (ap (λ (v : List Triple). arcs_at Object v t.o) c.readied-3.ensures.same.rows
    ∙ others_one c.args.terms.now t c.requires.1 (ins c.self.inside.inward.rows t.o) (arcs_at Object c.self.inside.into_others.rows t.o)
    (as_inserted Object c.args.terms.now t c.requires.0 c.requires.1 _ c.requires.2 (arranged.inward t.o)) (c.self.invariant.others t.o))))
    c.self.invariant

pub returns-clause-arranged : goal.returns-clause-arranged
returns-clause-arranged c = λ triples left p arranged-now.
    let t = c.args.t in
    let arranged = subst (IsArranged c.args.terms.now triples) (sym c.self.view_is) arranged-now in
    arranged_less c.args.terms.now t (record { outward = c.self.inside.outward.rows; inward = c.self.inside.inward.rows }) _ triples left p
    (subst (λ (e : End). GivesRows e (node_at e t) (sorted_by (by_texts e c.args.terms.now) (arcs_at e left (node_at e t))) c.self.inside.outward.rows c.remove.new.self.rows) c.self.invariant.outward_end
    (from_same (λ e. node_at e t) (λ e r. sorted_by (by_texts e c.args.terms.now) (arcs_at e left (node_at e t))) c.self.inside.outward c.readied.new.self c.remove.new.self c.readied.ensures.same
    (c.remove.ensures left (of_ready (λ e r. arcs_at e r (node_at e t) ≡
    sorted_by (by_texts e c.args.terms.now) (t ∷ arcs_at e left (node_at e t))) c.self.inside.outward c.readied.new.self Subject c.self.invariant.outward_end c.readied.ensures.same
    (as_inserted Subject c.args.terms.now t triples left _ p (arranged.outward t.s))))).rows)
    (subst (λ (e : End). GivesRows e (node_at e t) (sorted_by (by_texts e c.args.terms.now) (arcs_at e left (node_at e t))) c.self.inside.inward.rows c.remove-2.new.self.rows) c.self.invariant.inward_end
    (from_same (λ e. node_at e t) (λ e r. sorted_by (by_texts e c.args.terms.now) (arcs_at e left (node_at e t))) c.self.inside.inward c.readied-2.new.self c.remove-2.new.self c.readied-2.ensures.same
    (c.remove-2.ensures left (of_ready (λ e r. arcs_at e r (node_at e t) ≡
    sorted_by (by_texts e c.args.terms.now) (t ∷ arcs_at e left (node_at e t))) c.self.inside.inward c.readied-2.new.self Object c.self.invariant.inward_end c.readied-2.ensures.same
    (as_inserted Object c.args.terms.now t triples left _ p (arranged.inward t.o))))).rows)
    arranged
