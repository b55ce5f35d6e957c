use Rattle.std.proofs.Common.{Contains, IsPermutation, List, ap, refl, subst, sym, ◌∷◌}
use Rattle.indexmap.specs.IndexSet.{swap_remove_by}
use Rattle.lists.proofs.Distinct.{distinct_items}
use Rattle.rdf_terms.specs.declared.terms.Triple.{Triple}
use Rattle.graph_index.proofs.Held.{same_triple, triple_decides}
use Rattle.graph_index.proofs.Sealed.{rows_sealed, sealed_less, taken}
use Rattle.graph_index.proofs.graph.Graph.take_out.Goals as goal

pub remove_row-requires : goal.remove_row-requires
remove_row-requires c = (
  c.self.inside.held.keys,
  swap_remove_by (same_triple c.args.t) c.self.inside.held.keys,
  taken c.self.inside.held.keys _ c.args.t (subst (λ (ts : List Triple). Contains ts c.args.t) (sym (ap (λ g. g.triples) c.self.view_is)) c.requires.held) refl,
  rows_sealed c.args.terms.now c.args.t c.args.self.now c.self.inside.held.keys c.self.inside.rows c.self.view_is c.requires.sealed,
)

pub returns-clause-removed : goal.returns-clause-removed
returns-clause-removed c =
    subst (λ (ts : List Triple). IsPermutation ts (c.args.t ∷ c.swap_remove.new.self.keys)) (ap (λ g. g.triples) c.self.view_is)
    (taken c.self.inside.held.keys c.swap_remove.new.self.keys c.args.t (subst (λ (ts : List Triple). Contains ts c.args.t) (sym (ap (λ g. g.triples) c.self.view_is)) c.requires.held) c.swap_remove.ensures.keys)

pub returns-clause-sealed : goal.returns-clause-sealed
returns-clause-sealed c =
    sealed_less c.args.terms.now c.args.t c.args.self.now c.self.inside.held.keys c.self.inside.rows c.self.view_is c.requires.sealed c.swap_remove.new.self.keys c.remove_row.new.rows
    c.in_ok-remove_row.ensures.arranged
    (taken c.self.inside.held.keys c.swap_remove.new.self.keys c.args.t (subst (λ (ts : List Triple). Contains ts c.args.t) (sym (ap (λ g. g.triples) c.self.view_is)) c.requires.held) c.swap_remove.ensures.keys)

pub returns-clause-distinct : goal.returns-clause-distinct
returns-clause-distinct c = distinct_items same_triple triple_decides _ c.swap_remove.ensures.unique
