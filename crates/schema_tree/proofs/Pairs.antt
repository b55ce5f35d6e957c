-- Two pairs are the same exactly where their numbers are.
use Rattle.std.proofs.Common.{◌≡◌, ◌∙◌, true, ap, arith}
use Rattle.std.proofs.lemmas.Bool.{and_parts}
use Rattle.std.proofs.lemmas.Bool.Decides.{nat_tests}
use Rattle.std.specs.Prelude.{nat_eq}
use Rattle.schema_tree.specs.declared.schema.Pair.{Pair}
use Rattle.schema_tree.specs.Entries.{same_pair}

pub pair_is : (a b : Pair) → same_pair a b ≡ true → a ≡ b
pair_is a b h =
    let (m, n) = and_parts (nat_eq a.node.0 b.node.0) (nat_eq a.shape.0 b.shape.0) h in
    let node : a.node.0 ≡ b.node.0 = grind (arith, nat_tests, m) in
    let shape : a.shape.0 ≡ b.shape.0 = grind (arith, nat_tests, n) in
    ap (λ x. record { node = record { 0 = x }; shape = a.shape }) node ∙ ap (λ x. record { node = b.node; shape = record { 0 = x } }) shape

pub pair_same : (a : Pair) → same_pair a a ≡ true
pair_same a = grind (arith, nat_tests)
