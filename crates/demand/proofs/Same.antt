-- Pairs that a test of equality tells apart.
use Rattle.std.proofs.Common.{◌≡◌, Bool, true, ap, eq-eqb, refl, ◌&&◌}
use borrow.Author.Tests.{eqb-true}
use Rattle.std.specs.Bool.{Decides}
use Rattle.std.proofs.lemmas.Bool.{and_parts}
use Rattle.schema_tree.specs.declared.schema.Pair.{Pair}
use Rattle.schema_tree.specs.contracts.schema.PairPartialEq.TheImpl.{ghosts}

abbrev pub same_pair : Pair → Pair → Bool
same_pair = ghosts.eq

both_and : (p q : Bool) → p ≡ true → q ≡ true → (p && q) ≡ true
both_and p q a b = rw (a, b) refl

pub pair_decides : (a b : Pair) → Decides (same_pair a b) (a ≡ b)
pair_decides a b = (there, λ e. both_and _ _ (eq-eqb a.node.0 b.node.0 (ap (λ t. t.node.0) e)) (eq-eqb a.shape.0 b.shape.0 (ap (λ t. t.shape.0) e)))
  where
    there : same_pair a b ≡ true → a ≡ b
    there h =
        let parts = and_parts _ _ h in
        λ i. record { node = record { 0 = eqb-true a.node.0 b.node.0 parts.0 i }; shape = record { 0 = eqb-true a.shape.0 b.shape.0 parts.1 i } }
