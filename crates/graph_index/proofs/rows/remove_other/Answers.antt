use Rattle.std.proofs.Common.{Bool, false, if◌then◌else◌, rules, subst, ◌≡◌, ◌∷◌}
use Rattle.lists.specs.Sorting.{sorted_by}
use Rattle.rdf_terms.specs.Graphs.{is_loop}
use Rattle.graph_index.specs.Edits.{PutsRows}
use Rattle.graph_index.specs.Rows.{arcs_at, by_texts, node_at}
use Rattle.graph_index.specs.declared.ends.End.{End}
use Rattle.graph_index.specs.declared.ends.End.TheVariants.{Object}
use Rattle.graph_index.proofs.rows.remove_other.Goals as goal

pub returns-then-ne : goal.returns-then-ne
returns-then-ne c = λ ts one.
    let t = c.args.t in
    let apart : is_loop t ≡ false = search rules in
    subst
    (λ (e : End). arcs_at e c.args.arcs.now.rows (node_at e t) ≡ sorted_by (by_texts e c.args.terms.now) (t ∷ arcs_at e ts (node_at e t))
    → PutsRows (node_at e t) (sorted_by (by_texts e c.args.terms.now) (arcs_at e ts (node_at e t))) c.args.arcs.now c.remove.new.self) c.requires.object (c.remove.ensures ts)
    (subst (λ (b : Bool). arcs_at Object c.args.arcs.now.rows t.o ≡ sorted_by (by_texts Object c.args.terms.now) (if b then arcs_at Object ts t.o else t ∷ arcs_at Object ts t.o)) apart one)
