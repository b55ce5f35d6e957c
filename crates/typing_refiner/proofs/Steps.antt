-- What a new mark and what is put on the agenda leave of those that wait, and that a stratum comes to an end.
use Rattle.std.proofs.Common.{◌≡◌, ◌≢◌, ◌∙◌, ℕ, zero, suc, ◌<◌, ◌≤◌, ◌+◌, ◌*◌, ◌⊎◌, inl, inr, List, [], ◌∷◌, ◌++◌, sym, ap, arith, length, cond, Bool, true, false}
use Rattle.std.proofs.Math.Nat.{mul-le-mul_right}
use Rattle.std.proofs.lemmas.List.{length-append}
use Rattle.std.proofs.lemmas.Option.{slice_get_within}
use Rattle.std.specs.Prelude.{Contains, Some, slice_get, slice_set}
use Rattle.schema_tree.specs.declared.verdicts.Verdict.{Verdict}
use Rattle.schema_tree.specs.declared.verdicts.Verdict.TheVariants.{Yes, No, Unknown}
use Rattle.removal_laws.specs.Marks.{same_verdict}
use Rattle.removal_laws.proofs.Known.{set_other}
use Rattle.removal_laws.proofs.Verdicts.{verdict_apart, verdict_same}
use Rattle.typing_refiner.specs.declared.ground.Ground.{Ground}
use Rattle.typing_refiner.specs.Ready.{AllWait, GoesBack, IsNearer, IsOpen, Waits, count_of}

-- another mark in the place of one that counts
pub count_less : (v w : Verdict) → v ≢ w → (marks : List Verdict) (at : ℕ) → slice_get marks at ≡ Some v → count_of v (slice_set marks at w) + 1 ≡ count_of v marks
count_less v w ne [] at is = cc
count_less v w ne (m ∷ ms) zero is =
    let same : m ≡ v = (let e : Some m ≡ Some v = is in cc) in
    let one : same_verdict v m ≡ true = ap (λ u. same_verdict v u) same ∙ verdict_same v in
    let none : same_verdict v w ≡ false = verdict_apart v w ne in
    ap (λ b. cond b 1 0 + count_of v ms + 1) none ∙ ((let e : 0 + count_of v ms + 1 ≡ 1 + count_of v ms = omega arith in e) ∙ ap (λ b. cond b 1 0 + count_of v ms) (sym one))
count_less v w ne (m ∷ ms) (suc at) is =
    let deeper = count_less v w ne ms at is in
    let e : cond (same_verdict v m) 1 0 + count_of v (slice_set ms at w) + 1 ≡ cond (same_verdict v m) 1 0 + count_of v ms = omega (arith, deeper) in e

-- no more than there are marks
pub count_most : (v : Verdict) (marks : List Verdict) → count_of v marks ≤ length marks
count_most v [] = omega arith
count_most v (m ∷ ms) = let deeper = count_most v ms in by (same_verdict v m) deeper
  where
    by : (b : Bool) → count_of v ms ≤ length ms → cond b 1 0 + count_of v ms ≤ suc (length ms)
    by true le = omega (arith, le)
    by false le = omega (arith, le)

-- some, where the mark stands somewhere
pub count_some : (v w : Verdict) → v ≢ w → (marks : List Verdict) (at : ℕ) → slice_get marks at ≡ Some v → 1 ≤ count_of v marks
count_some v w ne marks at is = let e = count_less v w ne marks at is in omega (arith, e)

-- one more went, and one less has the mark
pub fewer_left : {X : Type 0} (v w : Verdict) → v ≢ w → (marks : List Verdict) (at : ℕ) (marks' : List Verdict) → marks' ≡ slice_set marks at w → slice_get marks at ≡ Some v →
    (old new : List X) (x : X) → new ≡ old ++ x ∷ [] → length new + count_of v marks' ≤ length old + count_of v marks
fewer_left v w ne marks at marks' marked is old new x grown =
    let less : count_of v marks' + 1 ≡ count_of v marks = ap (λ ms. count_of v ms + 1) marked ∙ count_less v w ne marks at is in
    let more : length new ≡ length old + 1 = ap length grown ∙ length-append old (x ∷ []) in
    omega (arith, less, more)

-- the number of an open pair is one of the table
pub within : (h : Ground) (k : ℕ) (i : ℕ) → IsOpen h k i → i < length h.table.now
within h k i (p, is, narrow) = slice_get_within h.table.now i p is

module _ (h : Ground) (k : ℕ) (v w : Verdict) (ne : v ≢ w) (marks : List Verdict) (at : ℕ) (agenda next : List ℕ) (marks' : List Verdict) (marked : marks' ≡ slice_set marks at w)
    (waits : Waits h k marks v at) (least : (i : ℕ) → Contains agenda i → at < i) (all : AllWait h k marks v agenda)
    (put : (q : ℕ) → Contains next q → Contains agenda q ⊎ GoesBack h k at marks' v q) where
  pub all_wait : AllWait h k marks' v next
  all_wait i c = elim (put i c) [
    | inl o ↦ (let (is_open, mark) = all i o in
        (is_open, ap (λ ms. slice_get ms i) marked ∙ (set_other marks at i w (λ e. (let l = least i o in absurd (omega arith))) ∙ mark)))
    | inr t ↦ t.1
  ]

  pub nearer : ((n : ℕ) → ((q : ℕ) → Contains next q → q < n) → length next ≤ n) → IsNearer (length h.table.now) v marks agenda marks' next
  nearer few = inr (
    (let e : count_of v marks' + 1 ≡ count_of v marks = ap (λ ms. count_of v ms + 1) marked ∙ count_less v w ne marks at waits.1 in omega (arith, e)),
    few (length h.table.now) (λ q c. within h k q (all_wait q c).0),
  )

-- the measure falls
pub falls : (most : ℕ) (v : Verdict) (marks : List Verdict) (before agenda : List ℕ) (marks' : List Verdict) (agenda' : List ℕ) → length before ≡ length agenda + 1 →
    IsNearer most v marks agenda marks' agenda' → count_of v marks' * suc most + length agenda' < count_of v marks * suc most + length before
falls most v marks before agenda marks' agenda' less (inl (same, kept)) =
    let a : count_of v marks' * suc most ≡ count_of v marks * suc most = ap (λ ms. count_of v ms * suc most) same in
    let b : length agenda' ≡ length agenda = ap (λ xs. length xs) kept in omega (arith, a, b, less)
falls most v marks before agenda marks' agenda' less (inr (fewer, few)) =
    let a : (count_of v marks' + 1) * suc most ≤ count_of v marks * suc most = mul-le-mul_right (suc most) fewer in omega (arith, a, few, less)

pub unknown_no : Unknown ≢ No
unknown_no e = cc

pub yes_unknown : Yes ≢ Unknown
yes_unknown e = cc
