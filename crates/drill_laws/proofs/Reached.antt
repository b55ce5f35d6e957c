-- The associations of a drill reach few pairs.
use Rattle.std.proofs.Common.{◌≡◌, ℕ, ◌<◌, ◌≤◌, List, Bool, true, false, sym, ap, arith, length, map}
use Rattle.std.specs.Prelude.{Contains}
use Rattle.node_constraint.specs.Constraint.{Constraint}
use Rattle.lists.proofs.Members.{from_map}
use Rattle.rdf_terms.specs.declared.terms.Term.{Term}
use Rattle.rdf_terms.specs.declared.terms.Triple.{Triple}
use Rattle.graph_index.specs.Laws.{IsOfTable}
use Rattle.demand.specs.Demand.{AreTooMany, IsAsked}
use Rattle.demand.specs.declared.reach.Root.{Root}
use Rattle.schema_tree.specs.declared.schema.Pair.{Pair}
use Rattle.schema_tree.specs.declared.schema.Schema.{Schema}
use Rattle.schema_tree.specs.Entries.{pair_of}
use Rattle.schema_tree.specs.Matches.{other_end}
use Rattle.schema_tree.specs.Needs.{Leads, Needs, here, step}
use Rattle.shape_map.specs.declared.resolve.Association.{Association}
use Rattle.shex_inputs.specs.Asked.{root_of}
use Rattle.shex_drill.specs.Schema.{item_label}
use Rattle.drill_laws.proofs.Selected.{made_few}
use Rattle.drill_laws.proofs.Standing.{item_schema}
use Rattle.drill_laws.proofs.Strata.{stands_first, stands_first_value}

module _ (tags : Constraint) (graph : List Triple) (old : List Term) (few : length old ≤ 600002) (below : (t : Triple) → Contains graph t → IsOfTable old t) where
  abbrev s : Schema
  s = item_schema item_label tags

  -- the pair is of the table and of the only Shape
  abbrev IsKnown : Pair → Type 0
  IsKnown q = (q.node.0 < length old) × (q.shape.0 ≡ 0)

  end_below : (inverse : Bool) (t : Triple) → Contains graph t → (other_end inverse t).0 < length old
  end_below true t c = (below t c).subject
  end_below false t c = (below t c).object

  needed_known : (p q : Pair) → Needs s graph p q → IsKnown q
  needed_known p q n = (
    (let l = end_below n.occ.inverse n.triple n.held in let e : q.node.0 ≡ (other_end n.occ.inverse n.triple).0 = ap (λ z. z.0) n.end in omega (arith, l, e)),
    (stands_first_value item_label tags q.shape n.occ.value n.sign n.stands).0,
  )

  led_known : (p q : Pair) → Leads s graph p q → IsKnown p → IsKnown q
  led_known p _ here k = k
  led_known p q (step m need rest) k = led_known m q rest (needed_known p m need)

  asked_known : (xs : List Association) → ((a : Association) → Contains xs a → a.node.0 < length old) → (q : Pair) → IsAsked s graph (map root_of xs) q → IsKnown q
  asked_known xs nodes q (r, c, (i, sign, stands, leads)) =
      let (a, held, e) = from_map root_of xs r c in
      let l = nodes a held in
      let same : a.node.0 ≡ r.node.0 = ap (λ (z : Root). z.node.0) e in
      led_known (pair_of r.node i) q leads ((omega (arith, l, same)), (stands_first item_label tags i r.expr sign stands).0)

  pair_made : (q : Pair) → IsKnown q → (k : ℕ) × (k < length old) × (pair_of (record { 0 = k }) (record { 0 = 0 }) ≡ q)
  pair_made q (l, e) = (q.node.0, l, ap (λ z. record { node = q.node; shape = record { 0 = z } }) (sym e))

  pub not_many : (xs : List Association) → ((a : Association) → Contains xs a → a.node.0 < length old) → AreTooMany s graph (map root_of xs) → ⊥
  not_many xs nodes m =
      let l = made_few (λ k. pair_of (record { 0 = k }) (record { 0 = 0 })) (length old) m.pairs m.distinct (λ q c. pair_made q (asked_known xs nodes q (m.reached q c))) in
      let many : 4194304 < length m.pairs = m.many in
      omega (arith, l, few, many)
