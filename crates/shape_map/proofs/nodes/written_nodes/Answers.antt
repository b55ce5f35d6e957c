use Rattle.std.proofs.Common.{◌≡◌, ◌++◌, ◌∷◌, [], ◌∙◌, All, ap, subst, sym}
use Rattle.rdf_terms.specs.Laws.{IsTerm}
use Rattle.shape_map.proofs.Ordered.{node_on, pattern_on, own_more}
use Rattle.shape_map.proofs.nodes.written_nodes.Goals as goal
use Rattle.shape_map.proofs.nodes.written_nodes.Goals.{in-Node+in_ok-copy-in-Node+in_ok-push-in-Node, in-Triples}

pub loop-item-preserved : goal.loop-item-preserved
loop-item-preserved c = elim c.match-item.branch [
  | in-Node+in_ok-copy-in-Node+in_ok-push-in-Node w ↦ (
      let same : c.match-item.nodes.items ≡ c.loop-item.nodes.items ++ w.in-Node.node ∷ [] = ap (λ v. v.items) w.nodes-is ∙ w.in_ok-push-in-Node.ensures.items
      ∙ ap (λ t. c.loop-item.nodes.items ++ t ∷ []) w.in_ok-copy-in-Node.ensures in (
        node_on c.args.items.now c.loop-item.nodes.items c.loop-item.item-index c.item-item.result w.in-Node.node c.match-item.nodes.items c.loop-item-test.true c.item-item.is w.in-Node.is same c.loop-item.invariant.0,
        own_more c.loop-item.nodes.items c.match-item.nodes.items w.in-Node.node same c.loop-item.invariant.1 w.term_is_whole.ensures.own_text,
      )
      )
  | in-Triples w ↦ (
      let same : c.match-item.nodes.items ≡ c.loop-item.nodes.items = ap (λ v. v.items) w.nodes-is in (
        pattern_on c.args.items.now c.loop-item.nodes.items c.loop-item.item-index c.item-item.result w.in-Triples.field-0 c.match-item.nodes.items c.loop-item-test.true c.item-item.is w.in-Triples.is same c.loop-item.invariant.0,
        subst (All IsTerm) (sym same) c.loop-item.invariant.1,
      )
      )
]
