-- Whether an expression holds between two places is decided by the reading that is entered at the first one.
use Rattle.std.proofs.Common.{◌≡◌, ℕ, zero, suc, ◌<◌, ◌≤◌, ◌⊎◌, inl, inr, List, [], refl, arith, sym, subst, Bool, true, false}
use Rattle.std.specs.Prelude.{nat_eq, replicate}
use Rattle.std.proofs.lemmas.Bool.{cases_lt, cases_eq, eqb-true, eq-eqb}
use Rattle.std.proofs.lemmas.List.{append-nil}
use Rattle.xs_pattern.specs.declared.expression.Flags.{Flags}
use Rattle.xs_pattern.specs.declared.walk.Edge.{Edge}
use Rattle.xs_pattern.specs.Language.{Holds}
use Rattle.xs_pattern.specs.Regex.{Regex}
use Rattle.xs_pattern.specs.Unrolling.{sets, unroll, edge_at, has_at}
use Rattle.xs_pattern.specs.Way.{Way, Runs, size, passes, ends, next}
use Rattle.xs_pattern.proofs.Reading.{IsRun, Came, exact, passes_holds, holds_passes, forward}
use Rattle.xs_pattern.proofs.SameLanguage.{same}

module _ (edge : ℕ → Edge) (has : ℕ → ℕ → Bool) (w : Way) (from : ℕ) where
  -- the marks of the reading that is entered at one place
  marks : ℕ → List Bool
  marks zero = replicate (size w) false
  marks (suc j) = next (edge j) (has j) w (nat_eq j from) (marks j)

  run : IsRun edge has w (λ j. nat_eq j from) marks
  unfolding marks
  run = record {
    blank = ([], sym (append-nil (replicate (size w) false)));
    goes = λ j. ([], sym (append-nil (next (edge j) (has j) w (nat_eq j from) (marks j))));
  }

  decide_later : (j : ℕ) → from < j → (b : Bool) → ends (edge j) w (marks j) ≡ b → Runs edge has w from j ⊎ (¬ Runs edge has w from j)
  decide_later j lt true e = inl (here ((exact edge has w (λ k. nat_eq k from) marks run j).0 e))
    where
      here : Came edge has w (λ k. nat_eq k from) j → Runs edge has w from j
      here (i, before, at, r) = subst (λ v. Runs edge has w v j) (eqb-true i from at) r
  decide_later j lt false e = inr (λ r. let t = (exact edge has w (λ k. nat_eq k from) marks run j).1 (from, lt, eq-eqb from from refl, r) in absurd (cc))

  decide_here : (b : Bool) → passes (edge from) w ≡ b → Runs edge has w from from ⊎ (¬ Runs edge has w from from)
  decide_here true e = inl (passes_holds edge has w from e)
  decide_here false e = inr (λ r. let t = holds_passes edge has w from r in absurd (cc))

  pub decide_runs : (j : ℕ) → Runs edge has w from j ⊎ (¬ Runs edge has w from j)
  decide_runs j = elim (cases_lt from j) [
    | inl lt ↦ decide_later j lt (ends (edge j) w (marks j)) refl
    | inr le ↦ elim (cases_eq from j) [
      | inl at ↦ subst (λ v. Runs edge has w from v ⊎ (¬ Runs edge has w from v)) at (decide_here (passes (edge from) w) refl)
      | inr apart ↦ inr (λ r. let up = forward edge has w from j r in apart (omega arith))
    ]
  ]

pub decide : (f : Flags) (text : List ℕ) (e : Regex) (i j : ℕ) → Holds f text e i j ⊎ (¬ Holds f text e i j)
decide f text e i j =
    let here = same f text (sets e) 0 e ([], sym (append-nil (sets e))) i j in
    elim (decide_runs (edge_at text) (has_at f (sets e) text) (unroll 0 e) i j) [
      | inl r ↦ inl (here.0 r)
      | inr none ↦ inr (λ h. none (here.1 h))
    ]

pub never_falls : (f : Flags) (text : List ℕ) (e : Regex) (i j : ℕ) → Holds f text e i j → i ≤ j
never_falls f text e i j h =
    forward (edge_at text) (has_at f (sets e) text) (unroll 0 e) i j
    ((same f text (sets e) 0 e ([], sym (append-nil (sets e))) i j).1 h)
