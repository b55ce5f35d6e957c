use Rattle.std.proofs.Common.{◌≡◌, ◌≤◌, ◌∷◌, [], ℕ, List, inl, inr, sym, subst, length, arith, rules, true≢false, Contains}
use Rattle.std.proofs.lemmas.List.{length-append}
use Rattle.schema_tree.specs.declared.schema.Pair.{Pair}
use Rattle.lists.specs.Additions.{Adds}
use Rattle.lists.proofs.Distinct.{adds_item, distinct_items}
use Rattle.demand.specs.Orders.{max_pairs}
use Rattle.demand.proofs.Same.{pair_decides, same_pair}
use Rattle.demand.proofs.table.PairTable.put.Goals.{in-Ok, in-Err}
use Rattle.demand.proofs.table.PairTable.put.Goals as goal

-- a table that was not full is not too large with one more
still_few : (old new : List Pair) (p : Pair) (most : ℕ) → Adds old p new → length old ≤ most → ((¬ Contains old p) × (length old ≡ most) → ⊥) → length new ≤ most
still_few old new p most (inl (there, is)) few less = subst (λ ps. length ps ≤ most) (sym is) few
still_few old new p most (inr (missing, is)) few less =
    let below : length old ≡ most → ⊥ = λ full. less (missing, full) in
    let one = length-append old (p ∷ []) in
    subst (λ ps. length ps ≤ most) (sym is) (omega (arith, few, below, one))

pub returns-clause-added : goal.returns-clause-added
returns-clause-added c = elim c.match-insert.branch [
  | in-Ok w ↦ rw w.result-is (subst (λ ps. Adds ps c.args.pair c.insert.new.self.keys) c.self.view_is (adds_item same_pair pair_decides _ c.args.pair c.insert.new.self.keys w.in-Ok.ensures.keys))
  | in-Err w ↦ rw w.result-is tt
]

pub returns-clause-distinct : goal.returns-clause-distinct
returns-clause-distinct c = distinct_items same_pair pair_decides _ c.insert.ensures.unique

pub invariant_of-self : goal.invariant_of-self
invariant_of-self c = elim c.match-insert.branch [
  | in-Ok w ↦ still_few c.self.inside.pairs.keys c.insert.new.self.keys c.args.pair max_pairs (adds_item same_pair pair_decides _ c.args.pair c.insert.new.self.keys w.in-Ok.ensures.keys) c.self.invariant
      (λ lacks. true≢false (sym (c.if-lacks_room.ensures.lacks.1 (subst (λ ps. (¬ Contains ps c.args.pair) × (length ps ≡ max_pairs)) c.self.view_is lacks))))
  | in-Err w ↦ (let same : c.insert.new.self.keys ≡ c.self.inside.pairs.keys = search rules in subst (λ ps. length ps ≤ max_pairs) (sym same) c.self.invariant)
]
