use Rattle.std.proofs.Common.{List, [], ap, sym, ◌++◌, ◌∙◌, ◌∷◌, ◌≡◌}
use Rattle.indexmap.specs.IndexSet.{insert_key}
use Rattle.rdf_terms.specs.declared.terms.Triple.{Triple}
use Rattle.graph_index.proofs.Held.{same_triple}
use Rattle.graph_index.proofs.Sealed.{appended, sealed_more}
use Rattle.graph_index.proofs.graph.Graph.take_up.Goals as goal

pub returns-clause-added : goal.returns-clause-added
returns-clause-added c =
    appended c.args.self.now.triples c.insert.new.self.keys c.args.t c.requires.new
    (c.in-Ok.ensures.keys ∙ ap (λ (ks : List Triple). insert_key same_triple ks c.args.t) (c.reserve.ensures.keys ∙ ap (λ g. g.triples) c.self.view_is))

pub returns-clause-sealed : goal.returns-clause-sealed
returns-clause-sealed c =
    let added : c.insert.new.self.keys ≡ c.args.self.now.triples ++ c.args.t ∷ [] =
    appended c.args.self.now.triples c.insert.new.self.keys c.args.t c.requires.new
    (c.in-Ok.ensures.keys ∙ ap (λ (ks : List Triple). insert_key same_triple ks c.args.t) (c.reserve.ensures.keys ∙ ap (λ g. g.triples) c.self.view_is)) in
    sealed_more c.args.terms.now c.args.t c.args.self.now c.self.inside.held.keys c.self.inside.rows c.self.view_is c.requires.sealed c.insert.new.self.keys c.insert_row.new.rows
    c.in_ok-insert_row.ensures.arranged (added ∙ ap (λ (ts : List Triple). ts ++ c.args.t ∷ []) (sym (ap (λ g. g.triples) c.self.view_is)))
