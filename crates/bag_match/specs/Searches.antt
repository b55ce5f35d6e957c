-- A search for places that goes back where none leads on (own).
use Rattle.std.specs.Prelude.{ℕ, suc, List, [], ◌∷◌, ◌≡◌, ◌≤◌, ◌+◌, ◌*◌, ◌-◌, ◌⊎◌, Contains, Option, Some, length, slice_get, drop, take}
use Rattle.std.specs.BTreeSet.{BTreeSet}
use Rattle.std.specs.Global.{Vec}
use Rattle.rdf_terms.specs.declared.terms.TermId.{TermId}
use Rattle.rdf_terms.specs.declared.terms.Triple.{Triple}
use Rattle.schema_tree.specs.declared.schema.ExprId.{ExprId}
use Rattle.schema_tree.specs.declared.schema.Shape.{Shape}
use Rattle.schema_tree.specs.declared.verdicts.Place.{Place}
use Rattle.schema_tree.specs.Places.{AreAllowed, HaveCounts, times}
use Rattle.schema_tree.specs.States.{no_counts}
use Rattle.tally.specs.Plan.{Plan}
use Rattle.bag_match.specs.Bounds.{AreCountsOf}
use Rattle.bag_match.specs.Counts.{raised, state_of}
use Rattle.bag_match.specs.Hopes.{AreOffers, IsHopeless}
use Rattle.bag_match.specs.Least.{Finishes}
use Rattle.bag_match.specs.Sets.{lists_in, lists_of}

-- the counts are in the set of this number
abbrev pub HasFailed : List (BTreeSet (Vec ℕ)) → ℕ → List ℕ → Type 0
HasFailed sets left c = (s : BTreeSet (Vec ℕ)) × (slice_get sets left ≡ Some s) × Contains (lists_of s) c

-- the counts that are in the set of this number
abbrev pub failed_at : List (BTreeSet (Vec ℕ)) → ℕ → List (List ℕ)
failed_at sets left = lists_in (slice_get sets left)

-- the counts are hopeless, or are in the set of this number
abbrev pub IsLost : Option Plan → List ℕ → List (BTreeSet (Vec ℕ)) → ℕ → List ℕ → Type 0
IsLost body more failed left c = IsHopeless body c more ⊎ HasFailed failed left c

-- each of the places is among the first so many, or leads to counts that are lost
abbrev pub AreLost : Option Plan → List ℕ → List (BTreeSet (Vec ℕ)) → ℕ → List ℕ → List Place → List Place → Type 0
AreLost body more failed left counts first places = (p : Place) → Contains places p → Contains first p ⊎ IsLost body more failed left (raised counts p)

-- the place of this number is the first from one on that may lead on
abbrev pub IsOpenFrom : Option Plan → List ℕ → List (BTreeSet (Vec ℕ)) → ℕ → List ℕ → List Place → ℕ → ℕ → Type 0
IsOpenFrom body more failed left counts places from at =
    (p : Place) × (slice_get places at ≡ Some p) × (¬ IsHopeless body (raised counts p) more) × AreLost body more failed left counts (take from places) (take at places)

-- how many turns a search takes at most that tries each place of the first list with all of the others
abbrev pub turns : List (List Place) → ℕ
turns [] = 1
turns (places ∷ lists) = 2 + length places * turns lists

-- how many it takes still, where the places that are tried have these numbers, and in the next list those from one on are left
abbrev pub turns_left : List (List Place) → List ℕ → ℕ → ℕ
turns_left [] tried from = 0
turns_left (places ∷ lists) [] from = 1 + (length places - from) * turns lists
turns_left (places ∷ lists) (at ∷ tried) from = 1 + (length places - suc at) * turns lists + turns_left lists tried from

module _ (hold fail : TermId → Option ExprId → Type 0) (sh : Shape) (n : TermId) (ts : List Triple) where
  -- some list of allowed places has matching counts
  abbrev pub HavePlaces : Type 0
  HavePlaces = (ps : List Place) × AreAllowed hold fail sh n ts ps × HaveCounts sh.body (times ps)

  -- no places finish from the counts of so many triples
  abbrev pub FinishesNever : ℕ → List ℕ → Type 0
  FinishesNever done counts = (ps : List Place) → ¬ Finishes hold fail sh n ts (state_of done counts) ps

  -- the counts in the sets are those of allowed places for the triples before, and nothing finishes from them, where so many
  -- triples have no place yet
  abbrev pub AreFailed : List (BTreeSet (Vec ℕ)) → Type 0
  AreFailed sets =
      (done left : ℕ) (c : List ℕ) → done + left ≡ length ts → HasFailed sets left c → FinishesNever done c × AreCountsOf hold fail sh n (take done ts) c

  -- from the counts that any of the places for the next triple leads to nothing finishes
  abbrev pub AreTried : ℕ → List ℕ → List Place → Type 0
  AreTried done counts places = (p : Place) → Contains places p → FinishesNever (suc done) (raised counts p)

  module _ (lists : List (List Place)) where
    -- the place is the one of this number for the next triple, and those before it finish nothing
    abbrev pub IsTaken : ℕ → List ℕ → Place → ℕ → Type 0
    IsTaken done counts p at =
        (places : List Place) × (slice_get lists done ≡ Some places) × (slice_get places at ≡ Some p) × AreTried done counts (take at places)

    -- places of these numbers, one for each triple from one on, lead from counts to others, and those before them finish nothing
    abbrev pub IsWay : ℕ → List ℕ → List Place → List ℕ → List ℕ → Type 0
    IsWay done counts [] [] end = counts ≡ end
    IsWay done counts [] (at ∷ tried) end = ⊥
    IsWay done counts (p ∷ places) [] end = ⊥
    IsWay done counts (p ∷ places) (at ∷ tried) end = IsTaken done counts p at × IsWay (suc done) (raised counts p) places tried end

    -- where a search stands: on a way, with the numbers of the places of later triples, what has failed, and the first so
    -- many places of the next triple tried
    pub record IsSearch (places : List Place) (tried counts more : List ℕ) (failed : List (BTreeSet (Vec ℕ))) (from : ℕ) : Type 0 where
      pub within : length places ≤ length ts
      pub way : IsWay 0 (no_counts sh.occs) places tried counts
      pub left : AreOffers (length sh.occs) (drop (length places) lists) more
      pub failed_are : AreFailed failed
      pub next : (own : List Place) → slice_get lists (length places) ≡ Some own → AreTried (length places) counts (take from own)
      pub alive : length ts ≤ length places → ¬ IsHopeless sh.body counts more
