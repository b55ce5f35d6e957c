-- Whether a state is dead, by the sums of its counts with the later triples that fit.
use Rattle.std.proofs.Common.{◌≡◌, ℕ, ◌+◌, ◌<◌, ◌≤◌, inl, inr, length, List, drop, arith, ap, sym, subst, ◌∙◌, slice_index, Bool, true, false, true≢false, not, refl, replicate}
use Rattle.std.proofs.lemmas.List.{get_or_past, get_or-replicate, length-replicate}
use Rattle.std.proofs.lemmas.Bool.{cases_lt}
use Rattle.std.proofs.lemmas.Option.{slice_get_past}
use Rattle.std.specs.Prelude.{IsTrue, Some, ◌↔◌, slice_get}
use Rattle.rdf_terms.specs.declared.terms.TermId.{TermId}
use Rattle.rdf_terms.specs.declared.terms.Triple.{Triple}
use Rattle.tally.specs.Plan.{Plan}
use Rattle.tally.specs.Span.{HasSpan, span}
use Rattle.schema_tree.specs.declared.schema.Occurrence.{Occurrence}
use Rattle.schema_tree.specs.declared.schema.Shape.{Shape}
use Rattle.schema_tree.specs.States.{IsDead, IsDeadBody, fitting}
use Rattle.bag_match.specs.Counts.{AreLeft, state_of}

zeros_at : (n i : ℕ) → slice_index (replicate n 0) i ≡ 0
zeros_at n i = elim (cases_lt i n) [
  | inl lt ↦ get_or-replicate n i 0 0 lt
  | inr ge ↦ get_or_past (replicate n 0) i 0 (let len = length-replicate {A = ℕ} n 0 in omega (arith, len, ge))
]

-- the sums as a function
pub sums_are : (counts left before sums : List ℕ) → length counts ≡ length left → before ≡ replicate 256 0 →
    ((i : ℕ) → length counts ≤ i → slice_index sums i ≡ slice_index before i) →
    ((i : ℕ) → i < length counts → slice_index sums i ≡ slice_index counts i + slice_index left i) →
    slice_index sums ≡ (λ i. slice_index counts i + slice_index left i)
sums_are counts left before sums beside none rest each = λ k i. at i k
  where
    at : (i : ℕ) → slice_index sums i ≡ slice_index counts i + slice_index left i
    at i = elim (cases_lt i (length counts)) [
      | inl lt ↦ each i lt
      | inr ge ↦
          let a : slice_index counts i ≡ 0 = get_or_past counts i 0 ge in
          let b : slice_index left i ≡ 0 = get_or_past left i 0 (omega (arith, beside, ge)) in
          let c : slice_index sums i ≡ 0 = rest i ge ∙ ap (λ z. slice_index z i) none ∙ zeros_at 256 i in
          omega (arith, a, b, c)
    ]

never_more : (p : Plan) (counts : List ℕ) (high most : ℕ → ℕ) (r : Bool) → high ≡ most →
    (IsTrue r ↔ (¬ HasSpan (span p (slice_index counts) high) 1)) → IsTrue r ↔ (¬ HasSpan (span p (slice_index counts) most) 1)
never_more p counts high most r same h = subst (λ z. IsTrue r ↔ (¬ HasSpan (span p (slice_index counts) z) 1)) same h

-- counts spell the expression once in no way where they do not spell it in some
pub not_once : (p : Plan) (counts : List ℕ) (high most : ℕ → ℕ) (r : Bool) → high ≡ most →
    (IsTrue r ↔ HasSpan (span p (slice_index counts) high) 1) → IsTrue (not r) ↔ (¬ HasSpan (span p (slice_index counts) most) 1)
not_once p counts high most r same h = never_more p counts high most (not r) same (go r h)
  where
    go : (r : Bool) → (IsTrue r ↔ HasSpan (span p (slice_index counts) high) 1) → IsTrue (not r) ↔ (¬ HasSpan (span p (slice_index counts) high) 1)
    go true both = ((λ no. absurd (true≢false (sym no))), λ none. absurd (none (both.0 refl)))
    go false both = ((λ yes k. true≢false (sym (both.1 k))), λ none. refl)

-- the numbers beside the counts as a function
left_is : (occs : List Occurrence) (n : TermId) (later : List Triple) (counts left : List ℕ) → AreLeft occs n later left →
    ◌≡◌ {A = ℕ → ℕ} (λ i. slice_index counts i + slice_index left i) (λ i. slice_index counts i + fitting n later (slice_get occs i))
left_is occs n later counts left (len, each) = λ k i. slice_index counts i + at i k
  where
    at : (i : ℕ) → slice_index left i ≡ fitting n later (slice_get occs i)
    at i = elim (cases_lt i (length occs)) [
      | inl lt ↦ each i lt
      | inr ge ↦ get_or_past left i 0 (omega (arith, len, ge)) ∙ sym (ap (λ o. fitting n later o) (slice_get_past occs i ge))
    ]

pub dead_some : (sh : Shape) (counts left : List ℕ) (c : Plan) (r : Bool) → sh.body ≡ Some c →
    (IsTrue r ↔ (¬ HasSpan (span c (slice_index counts) (λ i. slice_index counts i + slice_index left i)) 1)) →
    (n : TermId) (ts : List Triple) (done : ℕ) → AreLeft sh.occs n (drop done ts) left → IsTrue r ↔ IsDead sh n ts (state_of done counts)
dead_some sh counts left c r is h n ts done held =
    subst (λ b. IsTrue r ↔ IsDeadBody sh n (drop done ts) (slice_index counts) b) (sym is)
    (never_more c counts (λ i. slice_index counts i + slice_index left i) (λ i. slice_index counts i + fitting n (drop done ts) (slice_get sh.occs i)) r
    (left_is sh.occs n (drop done ts) counts left held) h)
