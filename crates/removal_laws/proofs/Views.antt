-- What a record may use of all records answers as the view did when the record was made.
use Rattle.std.proofs.Common.{ℕ, suc, ◌<◌, ◌≤◌, List, arith}
use Rattle.std.specs.Prelude.{◌↔◌, Contains, nat_lt}
use Rattle.schema_tree.specs.declared.schema.Pair.{Pair}
use Rattle.schema_tree.specs.declared.verdicts.Verdict.{Verdict}
use Rattle.schema_tree.specs.declared.verdicts.Verdict.TheVariants.{Yes, No, Unknown}
use Rattle.schema_tree.specs.Edges.{level}
use Rattle.schema_tree.specs.Sure.{Known, PairIs}
use Rattle.schema_tree.specs.Typings.{below}
use Rattle.lists.proofs.Filters.{in_filter, filter_has}
use Rattle.std.proofs.lemmas.Bool.{lt-ltb}

-- a is what was known on the stratum k, all are the pairs of all records: up to k they have the same Yes, and below k the same No
module _ (f : List ℕ) (k : ℕ) (a all : Known) (yes_same : (q : Pair) → level f q.shape ≤ k → Contains a.yes q ↔ Contains all.yes q)
    (no_same : (q : Pair) → level f q.shape < k → Contains a.no q ↔ Contains all.no q) where
  -- what a record that confirms may use on the stratum
  abbrev plus : Known
  plus = record { yes = below f (suc k) all.yes; no = below f k all.no }

  pub plus_yes : (q : Pair) → level f q.shape ≤ k → PairIs a q Yes → PairIs plus q Yes
  plus_yes q le c =
      filter_has (λ p. nat_lt (level f p.shape) (suc k)) all.yes q ((yes_same q le).0 c) (lt-ltb (level f q.shape) (suc k) (let l : level f q.shape < suc k = omega arith in l))

  pub plus_no : (q : Pair) → level f q.shape < k → PairIs a q No → PairIs plus q No
  plus_no q lt (none, held) = (
    (λ c. none ((yes_same q (let l : level f q.shape ≤ k = omega arith in l)).1 (in_filter (λ p. nat_lt (level f p.shape) (suc k)) all.yes q c).0)),
    filter_has (λ p. nat_lt (level f p.shape) k) all.no q ((no_same q lt).0 held) (lt-ltb (level f q.shape) k lt),
  )

-- views with the same members up to the stratum answer alike up to it
pub same_up_to : (f : List ℕ) (k : ℕ) (a b : Known) → ((q : Pair) → level f q.shape ≤ k → Contains a.yes q ↔ Contains b.yes q) →
    ((q : Pair) → level f q.shape ≤ k → Contains a.no q ↔ Contains b.no q) → (q : Pair) → level f q.shape ≤ k → (v : Verdict) → PairIs a q v ↔ PairIs b q v
same_up_to f k a b y n q le Yes = y q le
same_up_to f k a b y n q le No =
    ((λ h. ((λ c. h.0 ((y q le).1 c)), (n q le).0 h.1)), (λ h. ((λ c. h.0 ((y q le).0 c)), (n q le).1 h.1)))
same_up_to f k a b y n q le Unknown =
    ((λ h. ((λ c. h.0 ((y q le).1 c)), (λ c. h.1 ((n q le).1 c)))), (λ h. ((λ c. h.0 ((y q le).0 c)), (λ c. h.1 ((n q le).0 c)))))
