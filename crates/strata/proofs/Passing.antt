-- A pass over the edges raises numbers, or none of the edges is too low.
use Rattle.std.proofs.Common.{◌≡◌, ℕ, ◌+◌, ◌<◌, ◌≤◌, inl, inr, refl, List, arith, sym, subst, false, length, get_or, set, get_or-set_same, get_or-set_other}
use Rattle.std.proofs.lemmas.Bool.{cases_lt, cases_eq}
use Rattle.std.proofs.lemmas.List.{get_or_default}
use Rattle.std.proofs.lemmas.List.Elements.{All-contains_itself}
use Rattle.schema_tree.specs.declared.schema.Schema.{Schema}
use Rattle.schema_tree.specs.Edges.{level}
use Rattle.schema_tree.proofs.Strata.{edge_from}
use Rattle.strata.specs.declared.edges.Arc.{Arc}
use Rattle.strata.specs.declared.levels.Pass.{Pass}
use Rattle.strata.specs.declared.levels.Pass.TheVariants.{Settled, Raised, Beyond}
use Rattle.strata.specs.Arcs.{cost_of, left, IsLow, AreArcs, AreReached, AreWithin, Passes}
use Rattle.strata.proofs.Rising.{less_left, raised}

-- what a read past the end gives
abbrev pub no_arc : Arc
no_arc = record { from = record { 0 = 0 }; to = record { 0 = 0 }; negative = false }

-- what has come of the edges below an index: none of them is too low and all is as it was, or numbers were raised
abbrev pub HasPassed : Schema → List Arc → ℕ → List ℕ → List ℕ → Pass → Type 0
HasPassed s arcs n old now Settled = (now ≡ old) × ((k : ℕ) (d : Arc) → k < n → ¬ IsLow now (get_or arcs k d))
HasPassed s arcs n old now Raised = left s now < left s old
HasPassed s arcs n old now Beyond = ⊥

-- the numbers are had by paths and within the number of Shapes, and pass says what has come of the edges so far
pub record IsPassing (s : Schema) (arcs : List Arc) (n : ℕ) (old now : List ℕ) (pass : Pass) : Type 0 where
  pub reached : AreReached s now
  pub within : AreWithin s now
  pub passed : HasPassed s arcs n old now pass

-- the numbers after the edge has raised one
abbrev pub lifted : List ℕ → Arc → List ℕ
lifted f a = set f a.from.0 (level f a.to + cost_of a.negative)

module _ (s : Schema) (arcs : List Arc) where
  pub begun : (f : List ℕ) → AreReached s f → AreWithin s f → IsPassing s arcs 0 f f Settled
  begun f reached within = record { reached = reached; within = within; passed = (refl, λ k d lt. absurd (omega arith)) }

  not_more : (n : ℕ) (old now : List ℕ) (pass : Pass) → HasPassed s arcs n old now pass → left s now ≤ left s old
  not_more n old now Settled h = subst (λ f. left s now ≤ left s f) h.0 (omega arith)
  not_more n old now Raised h = omega arith
  not_more n old now Beyond h = absurd h

  -- where an edge raises a number above that of Shapes, one is beyond
  pub stepped_beyond :
      AreArcs s arcs → (n : ℕ) (old now : List ℕ) (pass : Pass) → IsPassing s arcs n old now pass → n < length arcs → IsLow now (get_or arcs n no_arc) →
      length s.shapes < level now (get_or arcs n no_arc).to + cost_of (get_or arcs n no_arc).negative →
      AreReached s (lifted now (get_or arcs n no_arc)) × Passes s arcs old (lifted now (get_or arcs n no_arc)) Beyond
  stepped_beyond are n old now pass h inside low many =
      let a = get_or arcs n no_arc in
      let is = are.sound a (All-contains_itself arcs n no_arc inside) in
      let from = edge_from s a.from a.to is.0 in
      let here = get_or-set_same now a.from.0 (level now a.to + cost_of a.negative) 0 (omega (arith, from, h.reached.size)) in
      let less = less_left s now h.reached h.within a is low in
      let before = not_more n old now pass h.passed in
      (raised s now h.reached a is, ((a.from, omega (arith, here, many)), omega (arith, less, before)))

  within_still :
      (now : List ℕ) → AreWithin s now → (a : Arc) → a.from.0 < length now → level now a.to + cost_of a.negative ≤ length s.shapes → AreWithin s (lifted now a)
  within_still now within a there few i = elim (cases_eq a.from.0 i.0) [
    | inl same ↦ subst (λ k. get_or (lifted now a) k 0 ≤ length s.shapes) same
        (let here = get_or-set_same now a.from.0 (level now a.to + cost_of a.negative) 0 there in omega (arith, here, few))
    | inr apart ↦ (let other = get_or-set_other now a.from.0 i.0 (level now a.to + cost_of a.negative) 0 (λ q. apart (sym q)) in let w = within i in omega (arith, other, w))
  ]

  -- and else all stay within
  pub stepped_up :
      AreArcs s arcs → (n : ℕ) (old now : List ℕ) (pass : Pass) → IsPassing s arcs n old now pass → n < length arcs → IsLow now (get_or arcs n no_arc) →
      level now (get_or arcs n no_arc).to + cost_of (get_or arcs n no_arc).negative ≤ length s.shapes →
      IsPassing s arcs (n + 1) old (lifted now (get_or arcs n no_arc)) Raised
  stepped_up are n old now pass h inside low few =
      let a = get_or arcs n no_arc in
      let is = are.sound a (All-contains_itself arcs n no_arc inside) in
      let from = edge_from s a.from a.to is.0 in
      let less = less_left s now h.reached h.within a is low in
      let before = not_more n old now pass h.passed in
      record {
        reached = raised s now h.reached a is;
        within = within_still now h.within a (omega (arith, from, h.reached.size)) few;
        passed = omega (arith, less, before);
      }

  passed_by :
      (n : ℕ) (old now : List ℕ) (pass : Pass) → HasPassed s arcs n old now pass → n < length arcs → ¬ IsLow now (get_or arcs n no_arc) →
      HasPassed s arcs (n + 1) old now pass
  passed_by n old now Settled h inside high = (
    h.0,
    λ k d lt. elim (cases_lt k n) [
      | inl before ↦ h.1 k d before
      | inr ge ↦ (let same : n ≡ k = omega arith in
          subst (λ m. ¬ IsLow now (get_or arcs m d)) same (subst (λ a. ¬ IsLow now a) (get_or_default arcs n no_arc d inside) high))
    ],
  )
  passed_by n old now Raised h inside high = h
  passed_by n old now Beyond h inside high = absurd h

  -- an edge that is not too low leaves all as it is
  pub stepped_by :
      (n : ℕ) (old now : List ℕ) (pass : Pass) → IsPassing s arcs n old now pass → n < length arcs → ¬ IsLow now (get_or arcs n no_arc) →
      IsPassing s arcs (n + 1) old now pass
  stepped_by n old now pass h inside high = record { reached = h.reached; within = h.within; passed = passed_by n old now pass h.passed inside high }
