use Rattle.std.proofs.Common.{arith, lit≤, subst, min, ◌≡◌}
use Rattle.schema_tree.specs.Width.{ways}
use Rattle.bag_match.specs.Keys.{places_of}
use Rattle.bag_match.proofs.Keyed.{long_rest, product_ends, product_goes, some_next, some_way}
use Rattle.bag_match.proofs.products.product.Goals as goal

pub loop-key-preserved : goal.loop-key-preserved
loop-key-preserved c =
    let way : c.ways_at.result ≡ min (ways c.in-Some.things.now (places_of c.in-Some.key.now.items)) 18446744073709551615 =
    subst (λ k. c.ways_at.result ≡ min (ways c.in-Some.things.now (places_of k)) 18446744073709551615) c.as_slice.ensures.value c.ways_at.ensures in
    record {
      rest = product_goes c.loop-key.key-iterator c.next.new.self c.in-Some.key.now c.in-Some.things.now c.loop-key.product c.ways_at.result c.saturating_mul-product.result 18446744073709551615 _
          c.in-Some.ensures.steps c.loop-key.invariant.some way c.saturating_mul-product.ensures c.loop-key.invariant.rest;
      long = (long_rest c.loop-key.key-iterator c.next.new.self c.in-Some.key.now c.in-Some.things.now c.in-Some.ensures.steps c.loop-key.invariant.long).1;
      some = some_next c.loop-key.product c.ways_at.result c.saturating_mul-product.result 18446744073709551615 (ways c.in-Some.things.now (places_of c.in-Some.key.now.items)) c.loop-key.invariant.some (some_way c.in-Some.things.now c.in-Some.key.now.items) (lit≤ tt) way c.saturating_mul-product.ensures;
      most = let e = c.saturating_mul-product.ensures in omega (arith, e);
    }

pub returns-clause-is : goal.returns-clause-is
returns-clause-is c = product_ends c.loop-key.key-iterator c.loop-key.product _ _ c.in-None.ensures.steps.0 c.loop-key.invariant.most c.loop-key.invariant.rest
