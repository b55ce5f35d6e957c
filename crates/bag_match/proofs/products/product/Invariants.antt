use Rattle.std.proofs.Common.{◌≡◌, ◌≤◌, ◌*◌, ◌-◌, ◌^◌, All, map, min}
use Rattle.std.specs.Map.{keys_of}
use Rattle.schema_tree.specs.Width.{product, ways}
use Rattle.bag_match.specs.Keys.{IsKeyLong, places_of, ways_by}
use Rattle.bag_match.proofs.products.product.Given as goal

abbrev pub invariant-loop-key : goal.invariant-loop-key
invariant-loop-key l = record {
  rest : min (l.product * product (map (λ e. ways e.1 (places_of e.0.items)) l.key-iterator)) (2 ^ 64 - 1) ≡ min (ways_by l.fn.classes) (2 ^ 64 - 1);
  long : All IsKeyLong (keys_of l.key-iterator);
  some : 1 ≤ l.product;
  most : l.product ≤ 2 ^ 64 - 1;
}
