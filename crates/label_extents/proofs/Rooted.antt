-- The pairs that nodes with the expressions of labels reach.
use Rattle.std.proofs.Common.{◌≡◌, List, subst, sym, map}
use Rattle.std.specs.Prelude.{Contains}
use Rattle.lists.proofs.Members.{from_flat_map, from_map, in_flat_map, in_map}
use Rattle.rdf_terms.specs.declared.terms.Term.{Term}
use Rattle.rdf_terms.specs.declared.terms.TermId.{TermId}
use Rattle.rdf_terms.specs.declared.terms.Triple.{Triple}
use Rattle.schema_documents.specs.declared.label.Label.{Label}
use Rattle.schema_tree.specs.declared.schema.ExprId.{ExprId}
use Rattle.schema_tree.specs.declared.schema.Pair.{Pair}
use Rattle.schema_tree.specs.declared.schema.Schema.{Schema}
use Rattle.schema_tree.specs.Needs.{Reaches}
use Rattle.demand.specs.Demand.{AreAsked, AreTooMany as AsksTooMany, IsAsked, root, roots_of}
use Rattle.demand.specs.declared.reach.Root.{Root}
use Rattle.label_extents.specs.Demanded.{AreDemanded, AreTooMany, IsDemanded}
use Rattle.label_extents.specs.Extents.{AreInOrder, IsNode}
use Rattle.label_extents.specs.Members.{exprs_of}

module _ (s : Schema) (terms : List Term) (g : List Triple) (nodes : List TermId) (are : AreInOrder terms (IsNode g) nodes) (exprs : List ExprId) (of_labels : exprs ≡ exprs_of s.labels) where
  demanded_from : (q : Pair) → IsAsked s g (roots_of nodes exprs) q → IsDemanded s g q
  demanded_from q (r, held, reaches) =
      let (e, in_exprs, at) = from_flat_map (λ e. map (root e) nodes) exprs r held in
      let (d, declared, same) = from_map (λ (x : Label × ExprId). x.1) s.labels e (subst (λ es. Contains es e) of_labels in_exprs) in
      let (n, in_nodes, is) = from_map (root e) nodes r at in
      record {
        label = d.0;
        expr = d.1;
        node = n;
        declared = declared;
        is_node = (are.exactly n).0 in_nodes;
        reaches = subst (λ x. Reaches s g n x q) (sym same) (subst (λ (z : Root). Reaches s g z.node z.expr q) (sym is) reaches);
      }

  demanded_in : (q : Pair) → IsDemanded s g q → IsAsked s g (roots_of nodes exprs) q
  demanded_in q d =
      let in_exprs : Contains exprs d.expr = subst (λ es. Contains es d.expr) (sym of_labels) (in_map (λ (x : Label × ExprId). x.1) s.labels (d.label, d.expr) d.declared) in
      let in_nodes : Contains nodes d.node = (are.exactly d.node).1 d.is_node in
      (root d.expr d.node, in_flat_map (λ e. map (root e) nodes) exprs d.expr (root d.expr d.node) in_exprs (in_map (root d.expr) nodes d.node in_nodes), d.reaches)

  pub are_demanded : (pairs : List Pair) → AreAsked s terms g (roots_of nodes exprs) pairs → AreDemanded s terms g pairs
  are_demanded pairs asked = record { sorted = asked.sorted; exactly = λ q. (λ c. demanded_from q ((asked.exactly q).0 c), λ d. (asked.exactly q).1 (demanded_in q d)) }

  pub too_many : AsksTooMany s g (roots_of nodes exprs) → AreTooMany s g
  too_many h = record { pairs = h.pairs; distinct = h.distinct; many = h.many; demanded = λ q c. demanded_from q (h.reached q c) }

  pub not_too_many : ¬ AsksTooMany s g (roots_of nodes exprs) → ¬ AreTooMany s g
  not_too_many few h = few (record { pairs = h.pairs; distinct = h.distinct; many = h.many; reached = λ q c. demanded_in q (h.demanded q c) })
