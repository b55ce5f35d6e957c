use Rattle.std.proofs.Common.{◌≡◌, Contains, take}
use Rattle.std.specs.Prelude.{None}
use Rattle.schema_tree.specs.declared.schema.Pair.{Pair}
use Rattle.typing_session.specs.Kept.{kept_on}
use Rattle.typing_session.proofs.kept.Kept.forget_all.Given as goal

abbrev pub invariant-loop-pair : goal.invariant-loop-pair
invariant-loop-pair l = record {
  gone : (q : Pair) → Contains (take l.pair-index l.pairs) q → kept_on l.self q ≡ None;
  others : (q : Pair) → (¬ Contains (take l.pair-index l.pairs) q) → kept_on l.self q ≡ kept_on l.fn.self q;
}
