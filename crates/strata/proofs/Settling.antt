-- Passes over the edges end, with the strata or with a number that only a cycle with a negative edge can give.
use Rattle.std.proofs.Common.{◌≡◌, ℕ, ◌+◌, ◌*◌, ◌<◌, ◌≤◌, inl, inr, refl, List, arith, sym, subst, length, get_or, All}
use Rattle.std.proofs.lemmas.Bool.{cases_lt}
use Rattle.std.proofs.lemmas.List.{get_or-replicate, length-replicate}
use Rattle.std.specs.Prelude.{replicate}
use Rattle.schema_tree.specs.declared.schema.Schema.{Schema}
use Rattle.schema_tree.specs.declared.schema.ShapeId.{ShapeId}
use Rattle.schema_tree.specs.Cycles.{HasNegatedCycle}
use Rattle.schema_tree.specs.Edges.{level, IsStratum}
use Rattle.schema_tree.proofs.Below.{past_end}
use Rattle.strata.specs.declared.edges.Arc.{Arc}
use Rattle.strata.specs.declared.levels.Pass.{Pass}
use Rattle.strata.specs.declared.levels.Pass.TheVariants.{Settled, Raised, Beyond}
use Rattle.strata.specs.Arcs.{left, IsLow, AreArcs, AreReached, AreWithin, Passes}
use Rattle.strata.proofs.Rising.{small, settled, zero_reached}

-- what is so of the numbers after a pass
abbrev pub Stands : Schema → List Arc → List ℕ → Pass → Type 0
Stands s arcs f Settled = All (λ a. ¬ IsLow f a) arcs
Stands s arcs f Raised = AreWithin s f
Stands s arcs f Beyond = (i : ShapeId) × (length s.shapes < level f i)

-- the numbers are had by paths, and pass says how they stand
pub record AreRising (s : Schema) (arcs : List Arc) (f : List ℕ) (pass : Pass) : Type 0 where
  pub reached : AreReached s f
  pub stands : Stands s arcs f pass

-- one more pass is to come after one that raised
abbrev pub to_come : Pass → ℕ
to_come Settled = 0
to_come Raised = 1
to_come Beyond = 0

-- falls with each pass
abbrev pub measure : Schema → List ℕ → Pass → ℕ
measure s f pass = 2 * left s f + to_come pass

module _ (s : Schema) (arcs : List Arc) where
  pub begins : (n : ℕ) → n ≡ length s.shapes → AreRising s arcs (replicate n 0) Raised
  begins n e = record { reached = zero_reached s n e; stands = λ i. within i.0 }
    where
      within : (i : ℕ) → get_or (replicate n 0) i 0 ≤ length s.shapes
      within i = elim (cases_lt i n) [
        | inl lt ↦ (let z = get_or-replicate {A = ℕ} n i 0 0 lt in omega (arith, z))
        | inr ge ↦ (let z = past_end (replicate n 0) i (let l = length-replicate {A = ℕ} n 0 in omega (arith, l)) in omega (arith, z))
      ]

  stands_then : (old new : List ℕ) (pass : Pass) → Passes s arcs old new pass → Stands s arcs new pass
  stands_then old new Settled h = subst (λ f. All (λ a. ¬ IsLow f a) arcs) (sym h.0) h.1
  stands_then old new Raised h = h.0
  stands_then old new Beyond h = h.0

  pub goes_on : (old new : List ℕ) (pass : Pass) → AreReached s new → Passes s arcs old new pass → AreRising s arcs new pass
  goes_on old new pass reached h = record { reached = reached; stands = stands_then old new pass h }

  pub falls : (old new : List ℕ) (pass : Pass) → Passes s arcs old new pass → measure s new pass < measure s old Raised
  falls old new Settled h = subst (λ f. measure s f Settled < measure s old Raised) (sym h.0) (omega arith)
  falls old new Raised h = let less = h.1 in omega (arith, less)
  falls old new Beyond h = let less = h.1 in omega (arith, less)

  pub is_within : (f : List ℕ) (pass : Pass) → pass ≡ Raised → AreRising s arcs f pass → AreWithin s f
  is_within f pass e h = subst (λ p. Stands s arcs f p) e h.stands

  pub ends_settled : AreArcs s arcs → (f : List ℕ) (pass : Pass) → pass ≡ Settled → AreRising s arcs f pass → IsStratum s f
  ends_settled are f pass e h = settled s f h.reached arcs are (subst (λ p. Stands s arcs f p) e h.stands)

  -- a number above that of Shapes is had by a path, and without a cycle that has a negative edge no path counts so many
  ends_stands : (f : List ℕ) (pass : Pass) → ¬ (pass ≡ Settled) → ¬ (pass ≡ Raised) → AreReached s f → Stands s arcs f pass → (¬ HasNegatedCycle s) → ⊥
  ends_stands f Settled not_settled not_raised reached h none = not_settled refl
  ends_stands f Raised not_settled not_raised reached h none = not_raised refl
  ends_stands f Beyond not_settled not_raised reached h none = let few = small s f reached none h.0 in let many = h.1 in absurd (omega (arith, few, many))

  pub ends_beyond : (f : List ℕ) (pass : Pass) → ¬ (pass ≡ Settled) → ¬ (pass ≡ Raised) → AreRising s arcs f pass → (¬ HasNegatedCycle s) → ⊥
  ends_beyond f pass not_settled not_raised h = ends_stands f pass not_settled not_raised h.reached h.stands
