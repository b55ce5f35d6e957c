-- What is asked of the states of a record that refutes, one at a time.
use Rattle.std.specs.Prelude.{ℕ, Bool, false, List, ◌^◌, ◌≡◌, ◌↔◌, ◌<◌, ◌≤◌, ◌⊎◌, Contains, IsTrue, Option, Some, drop, length, slice_get, slice_index}
use Rattle.std.specs.Cmp.Lexicographic.{slice_cmp}
use Rattle.std.specs.Ordering.{nat_cmp, ordering_then}
use Rattle.std.specs.declared.cmp.Ordering.{Ordering}
use Rattle.rdf_terms.specs.declared.terms.TermId.{TermId}
use Rattle.rdf_terms.specs.declared.terms.Triple.{Triple}
use Rattle.schema_tree.specs.declared.schema.ExprId.{ExprId}
use Rattle.schema_tree.specs.declared.schema.Shape.{Shape}
use Rattle.schema_tree.specs.declared.verdicts.Place.{Place}
use Rattle.schema_tree.specs.declared.verdicts.State.{State}
use Rattle.schema_tree.specs.Loaded.{BodyOk}
use Rattle.schema_tree.specs.Places.{IsAllowed}
use Rattle.schema_tree.specs.States.{IsCovered, IsDead, after, IsStateBefore}
use Rattle.schema_tree.specs.Rising.{Rises}
use Rattle.bag_match.specs.Counts.{AreLeft}

-- by the number of triples done, and then the counts
abbrev pub compare_states : State → State → Ordering
compare_states a b = ordering_then (nat_cmp a.done b.done) (slice_cmp nat_cmp a.counts b.counts)

-- states in their order, of a loaded Shape at a node with these relevant triples
pub record IsListed (sh : Shape) (ts : List Triple) (states : List State) : Type 0 where
  pub body : BodyOk sh.occs sh.body
  pub few_occurrences : length sh.occs ≤ 256
  pub few : length ts < 2 ^ 31
  pub rising : Rises IsStateBefore states

-- some of these states, in their order, among which are all with so many triples done, and how many of the later triples each
-- occurrence fits
pub record IsLayer (sh : Shape) (n : TermId) (ts : List Triple) (states : List State) (done : ℕ) (some : List State) (counts : List ℕ) : Type 0 where
  pub rising : Rises IsStateBefore some
  pub same : (x : State) → x.done ≡ done → Contains some x ↔ Contains states x
  pub left : AreLeft sh.occs n (drop done ts) counts

-- the state has one count for each occurrence, and neither more triples done nor a count than there are triples
abbrev pub IsShapedBy : ℕ → ℕ → State → Type 0
IsShapedBy occurrences triples x = (length x.counts ≡ occurrences) × (x.done ≤ triples) × ((i : ℕ) → slice_index x.counts i ≤ triples)

abbrev pub AreShapedBy : ℕ → ℕ → List State → Type 0
AreShapedBy occurrences triples states = (x : State) → Contains states x → IsShapedBy occurrences triples x

abbrev pub IsShaped : Shape → List Triple → State → Type 0
IsShaped sh ts x = IsShapedBy (length sh.occs) (length ts) x

abbrev pub AreShaped : Shape → List Triple → List State → Type 0
AreShaped sh ts states = AreShapedBy (length sh.occs) (length ts) states

-- a state that is so, with so many triples done
abbrev pub IsShapedAt : Shape → List Triple → ℕ → State → Type 0
IsShapedAt sh ts done x = (x.done ≡ done) × IsShaped sh ts x

-- each of the places leads to a state that is listed or dead
abbrev pub AllLeadOn : Shape → TermId → List Triple → List State → State → List Place → Type 0
AllLeadOn sh n ts states x places = (p : Place) → Contains places p → IsCovered sh n ts states (after p x)

module _ (hold fail : TermId → Option ExprId → Type 0) (sh : Shape) (n : TermId) (ts : List Triple) (states : List State) where
  -- where the place is allowed for the triple, the state after it is listed or dead
  abbrev pub LeadsOn : State → Triple → Place → Type 0
  LeadsOn x t p = IsAllowed hold fail sh n t p → IsCovered sh n ts states (after p x)

  -- the state is dead, or has triples left, and each place that is allowed for the next leads to a state that is listed or dead
  abbrev pub IsSettled : State → Type 0
  IsSettled x =
      IsDead sh n ts x
      ⊎ ((x.done < length ts) × ((t : Triple) → slice_get ts x.done ≡ Some t → (p : Place) → LeadsOn x t p))

  -- the test says whether each of some states is settled
  pub record DecideSettled (some : List State) (test : Bool) : Type 0 where
    pub settled : IsTrue test → (x : State) → Contains some x → IsSettled x
    pub unsettled : test ≡ false → (x : State) × Contains some x × (¬ IsSettled x)
