-- The strata of pairs: which pairs of a typing are below one, and what a list of numbers gives past its end.
use Rattle.std.proofs.Common.{◌≡◌, ℕ, zero, suc, ◌<◌, ◌≤◌, List, [], ◌∷◌, refl, arith, length, get_or}
use Rattle.std.specs.Prelude.{Contains, nat_lt}
use Rattle.schema_tree.specs.declared.schema.Pair.{Pair}
use Rattle.schema_tree.specs.Edges.{level}
use Rattle.schema_tree.specs.Typings.{below, top_of}
use Rattle.lists.proofs.Filters.{in_filter, filter_has}
use Rattle.std.proofs.lemmas.Bool.{lt-ltb, ltb-true}

-- no number of a list is above its greatest
pub level_top : (f : List ℕ) (i : ℕ) → get_or f i 0 ≤ top_of f
level_top [] i = omega arith
level_top (k ∷ f) zero = omega arith
level_top (k ∷ f) (suc i) = let h = level_top f i in omega arith

-- past the end of a list its number is 0
pub past_end : (f : List ℕ) (i : ℕ) → length f ≤ i → get_or f i 0 ≡ 0
past_end [] i h = refl
past_end (k ∷ f) zero h = absurd (omega arith)
past_end (k ∷ f) (suc i) h = past_end f i (omega arith)

-- a pair whose number is below k is below k
pub in_below : (f : List ℕ) (k : ℕ) (T : List Pair) (q : Pair) → Contains T q → level f q.shape < k → Contains (below f k T) q
in_below f k T q c lt = filter_has (λ r. nat_lt (level f r.shape) k) T q c (lt-ltb (level f q.shape) k lt)

-- and there are no others
pub out_below : (f : List ℕ) (k : ℕ) (T : List Pair) (q : Pair) → Contains (below f k T) q → Contains T q × (level f q.shape < k)
out_below f k T q c = let t = in_filter (λ r. nat_lt (level f r.shape) k) T q c in (t.0, ltb-true (level f q.shape) k t.1)
