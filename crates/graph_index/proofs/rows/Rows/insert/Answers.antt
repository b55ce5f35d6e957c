use Rattle.std.proofs.Common.{List, ap, if◌then◌else◌, subst, sym, ◌∙◌}
use Rattle.lists.specs.Sorting.{insert_by}
use Rattle.rdf_terms.specs.Graphs.{ins, is_loop}
use Rattle.rdf_terms.specs.declared.terms.Triple.{Triple}
use Rattle.graph_index.specs.Contents.{IsArranged}
use Rattle.graph_index.specs.Edits.{AreInTextsOf, GivesRows, PutsRows}
use Rattle.graph_index.specs.Rows.{arcs_at, by_texts, node_at}
use Rattle.graph_index.specs.declared.ends.End.{End}
use Rattle.graph_index.specs.declared.ends.End.TheVariants.{Object, Subject}
use Rattle.graph_index.proofs.KeptUp.{arranged_more, from_same, of_ready, others_in_texts, others_more, put_kept}
use Rattle.graph_index.proofs.rows.Rows.insert.Goals as goal

pub insert-requires-clause-sorted : goal.insert-requires-clause-sorted
insert-requires-clause-sorted c =
    let arranged = subst (IsArranged c.args.terms.now c.requires.0) (sym c.self.view_is) c.requires.1 in
    of_ready (λ e r. AreInTextsOf c.args.terms.now e (node_at e c.args.t) (arcs_at e r (node_at e c.args.t))) c.self.inside.outward c.readied.new.self Subject c.self.invariant.outward_end c.readied.ensures.same
    (c.requires.0, arranged.outward c.args.t.s)

pub insert-requires-2-clause-sorted : goal.insert-requires-2-clause-sorted
insert-requires-2-clause-sorted c =
    let arranged = subst (IsArranged c.args.terms.now c.requires.0) (sym c.self.view_is) c.requires.1 in
    of_ready (λ e r. AreInTextsOf c.args.terms.now e (node_at e c.args.t) (arcs_at e r (node_at e c.args.t))) c.self.inside.inward c.readied-2.new.self Object c.self.invariant.inward_end c.readied-2.ensures.same
    (c.requires.0, arranged.inward c.args.t.o)

pub insert_other-requires-clause-sorted : goal.insert_other-requires-clause-sorted
insert_other-requires-clause-sorted c =
    let arranged = subst (IsArranged c.args.terms.now c.requires.0) (sym c.self.view_is) c.requires.1 in
    others_in_texts c.args.terms.now c.args.t.o c.requires.0 (ins c.self.inside.inward.rows c.args.t.o) (arcs_at Object c.readied-3.new.self.rows c.args.t.o) (arranged.inward c.args.t.o)
    (ap (λ (v : List Triple). arcs_at Object v c.args.t.o) c.readied-3.ensures.same.rows ∙ c.self.invariant.others c.args.t.o)

pub invariant_of-self-2 : goal.invariant_of-self-2
invariant_of-self-2 c =
    let arranged = subst (IsArranged c.args.terms.now c.requires.0) (sym c.self.view_is) c.requires.1 in
    let t = c.args.t in
    put_kept c.self.inside.places.items c.self.inside.outward c.insert.new.self c.self.inside.inward c.insert-2.new.self c.self.inside.into_others c.insert_other.new.arcs
    (node_at c.self.inside.outward.end t) t.o _ (insert_by (by_texts Object c.args.terms.now) t (ins c.self.inside.inward.rows t.o)) _
    (others_more c.args.terms.now t (ins c.requires.0 t.o) (ins c.self.inside.inward.rows t.o) (arcs_at Object c.self.inside.into_others.rows t.o) (arranged.inward t.o) (c.self.invariant.others t.o))
    (from_same (λ e. node_at e t) (λ e r. insert_by (by_texts e c.args.terms.now) t (arcs_at e r (node_at e t))) c.self.inside.outward c.readied.new.self c.insert.new.self c.readied.ensures.same c.insert.ensures)
    (subst (λ (e : End). PutsRows (node_at e t) (insert_by (by_texts e c.args.terms.now) t (arcs_at e c.self.inside.inward.rows (node_at e t))) c.self.inside.inward c.insert-2.new.self) c.self.invariant.inward_end
    (from_same (λ e. node_at e t) (λ e r. insert_by (by_texts e c.args.terms.now) t (arcs_at e r (node_at e t))) c.self.inside.inward c.readied-2.new.self c.insert-2.new.self c.readied-2.ensures.same c.insert-2.ensures))
    (from_same (λ e. t.o) (λ e r. if is_loop t then arcs_at Object r t.o else insert_by (by_texts Object c.args.terms.now) t (arcs_at Object r t.o)) c.self.inside.into_others c.readied-3.new.self c.insert_other.new.arcs c.readied-3.ensures.same c.insert_other.ensures)
    c.self.invariant

pub returns-clause-arranged : goal.returns-clause-arranged
returns-clause-arranged c = λ triples more p arranged.
    let t = c.args.t in
    arranged_more c.args.terms.now t (record { outward = c.self.inside.outward.rows; inward = c.self.inside.inward.rows }) _ triples more p
    (subst (λ (e : End). GivesRows e (node_at e t) (insert_by (by_texts e c.args.terms.now) t (arcs_at e c.self.inside.outward.rows (node_at e t))) c.self.inside.outward.rows c.insert.new.self.rows) c.self.invariant.outward_end
    (from_same (λ e. node_at e t) (λ e r. insert_by (by_texts e c.args.terms.now) t (arcs_at e r (node_at e t))) c.self.inside.outward c.readied.new.self c.insert.new.self c.readied.ensures.same c.insert.ensures).rows)
    (subst (λ (e : End). GivesRows e (node_at e t) (insert_by (by_texts e c.args.terms.now) t (arcs_at e c.self.inside.inward.rows (node_at e t))) c.self.inside.inward.rows c.insert-2.new.self.rows) c.self.invariant.inward_end
    (from_same (λ e. node_at e t) (λ e r. insert_by (by_texts e c.args.terms.now) t (arcs_at e r (node_at e t))) c.self.inside.inward c.readied-2.new.self c.insert-2.new.self c.readied-2.ensures.same c.insert-2.ensures).rows)
    (subst (IsArranged c.args.terms.now triples) (sym c.self.view_is) arranged)
