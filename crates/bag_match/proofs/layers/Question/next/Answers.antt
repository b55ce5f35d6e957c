use Rattle.std.proofs.Common.{List, ◌+◌, length, subst, sym, drop, le_of_lt}
use Rattle.std.proofs.lemmas.Result.{IfOk-weaker}
use Rattle.std.specs.Prelude.{Contains}
use Rattle.rdf_terms.specs.declared.terms.TermId.{TermId}
use Rattle.rdf_terms.specs.declared.terms.Triple.{Triple}
use Rattle.schema_tree.specs.declared.verdicts.State.{State}
use Rattle.bag_match.specs.Counts.{AreLeft, ArePlacesOf, HasCounts}
use Rattle.bag_match.specs.Layers.{AreLiving, IsLayer}
use Rattle.bag_match.specs.Sets.{lists_of}
use Rattle.bag_match.proofs.Stepping.{found_small, layer_counts, next_layer, places_now, places_there}
use Rattle.bag_match.proofs.Came.{ticks_few}
use Rattle.bag_match.proofs.layers.Question.next.Goals as goal

pub successors-requires-clause-there : goal.successors-requires-clause-there
successors-requires-clause-there g c =
    let (d, are) = places_now (g.J.Judge.hold c.args.self.now.judge.now)
    (g.J.Judge.fail c.args.self.now.judge.now) c.args.self.now.shape.now c.args.self.now.node c.args.self.now.triples.now c.args.done c.args.places.now c.requires.within c.requires.places in
    subst (λ occs. ArePlacesOf (length occs) c.args.places.now) (sym c.as_slice-occurrences.ensures)
    (places_there (g.J.Judge.hold c.args.self.now.judge.now) (g.J.Judge.fail c.args.self.now.judge.now) c.args.self.now.shape.now c.args.self.now.node c.args.self.now.triples.now _ c.args.places.now are)

pub successors-requires-clause-shaped : goal.successors-requires-clause-shaped
successors-requires-clause-shaped g c =
    subst (λ occs. (x : State) → Contains c.args.layer.now x → HasCounts (length occs) x) (sym c.as_slice-occurrences.ensures)
    (layer_counts (g.J.Judge.hold c.args.self.now.judge.now) (g.J.Judge.fail c.args.self.now.judge.now) c.args.self.now.shape.now c.args.self.now.node c.args.self.now.triples.now
    c.args.done c.args.layer.now (le_of_lt c.requires.within) c.requires.few c.requires.layer)

pub living-requires-clause-small : goal.living-requires-clause-small
living-requires-clause-small g c =
    let (d, are) = places_now (g.J.Judge.hold c.args.self.now.judge.now)
    (g.J.Judge.fail c.args.self.now.judge.now) c.args.self.now.shape.now c.args.self.now.node c.args.self.now.triples.now c.args.done c.args.places.now c.requires.within c.requires.places in
    found_small (g.J.Judge.hold c.args.self.now.judge.now) (g.J.Judge.fail c.args.self.now.judge.now) c.args.self.now.shape.now c.args.self.now.node c.args.self.now.triples.now
    c.args.done d c.args.layer.now c.args.places.now (lists_of c.in_ok-found.found) c.requires.within c.requires.few c.requires.layer are
    c.in_ok-found.ensures
    c.args.left.now c.requires.left

pub returns-clause-layer : goal.returns-clause-layer
returns-clause-layer g c =
    let (d, are) = places_now (g.J.Judge.hold c.args.self.now.judge.now)
    (g.J.Judge.fail c.args.self.now.judge.now) c.args.self.now.shape.now c.args.self.now.node c.args.self.now.triples.now c.args.done c.args.places.now c.requires.within c.requires.places in
    IfOk-weaker c.living.result
    (λ v. (n : TermId) (ts : List Triple) → AreLeft c.args.self.now.shape.now.occs n (drop (c.args.done + 1) ts) c.args.left.now →
    AreLiving c.args.self.now.shape.now n ts (c.args.done + 1) (lists_of c.in_ok-found.found) v.items)
    (λ v. IsLayer (g.J.Judge.hold c.args.self.now.judge.now) (g.J.Judge.fail c.args.self.now.judge.now) c.args.self.now.shape.now c.args.self.now.node c.args.self.now.triples.now (c.args.done + 1) v.items)
    (λ v living.
    next_layer (g.J.Judge.hold c.args.self.now.judge.now) (g.J.Judge.fail c.args.self.now.judge.now) c.args.self.now.shape.now c.args.self.now.node c.args.self.now.triples.now
    c.args.done d c.args.layer.now c.args.places.now (lists_of c.in_ok-found.found) c.requires.within c.requires.few c.requires.layer are
    c.in_ok-found.ensures
    v.items (living c.args.self.now.node c.args.self.now.triples.now c.requires.left))
    c.living.ensures.living

pub returns-clause-most : goal.returns-clause-most
returns-clause-most g c =
    let (d, are) = places_now (g.J.Judge.hold c.args.self.now.judge.now)
    (g.J.Judge.fail c.args.self.now.judge.now) c.args.self.now.shape.now c.args.self.now.node c.args.self.now.triples.now c.args.done c.args.places.now c.requires.within c.requires.places in
    ticks_few (g.J.Judge.hold c.args.self.now.judge.now) (g.J.Judge.fail c.args.self.now.judge.now) c.args.self.now.shape.now c.args.self.now.node c.args.self.now.triples.now
    c.args.done d c.args.layer.now c.args.places.now (lists_of c.in_ok-found.found) c.requires.within c.requires.layer are
    c.in_ok-found.ensures
    c.living.ensures.apart c.args.steps.now c.living.new.steps c.living.ensures.most
