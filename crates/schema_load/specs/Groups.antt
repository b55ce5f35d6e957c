-- Groups of places that lead to one another, and walks by which they are found.
use Rattle.std.specs.Prelude.{ℕ, ◌+◌, ◌<◌, ◌≤◌, ◌≡◌, ◌⊎◌, List, [], ◌∷◌, ◌++◌, Some, Contains, get_or, length, replicate, slice_get, take}
use Rattle.schema_load.specs.declared.groups.Standing.{Standing}
use Rattle.schema_load.specs.declared.groups.Standing.TheVariants.{Grouped, Open, Unseen}
use Rattle.schema_load.specs.declared.groups.Walk.{Walk}
use Rattle.schema_load.specs.declared.part.Part.{Part}
use Rattle.schema_load.specs.declared.sorting.Visit.{Visit}
use Rattle.schema_load.specs.declared.sorting.Visit.TheVariants.{Enter, Leave}
use Rattle.schema_load.specs.Graph.{Reaches}
use Rattle.schema_load.specs.Sorting.{place_of}
use Rattle.schema_load.specs.Steps.{IsNext, nexts}

-- The number of the group of each place. No place leads to a group of a greater number, and any two places of one group lead
-- to each other.
pub record AreGroups (parts : List Part) (targets groups : List ℕ) : Type 0 where
  pub size : length groups ≡ length parts
  pub falls : (p q : ℕ) → IsNext parts targets p q → get_or groups q 0 ≤ get_or groups p 0
  pub one : (p q : ℕ) → p < length parts → q < length parts → get_or groups p 0 ≡ get_or groups q 0 → (p ≡ q) ⊎ Reaches parts p q

-- ---- walks

-- a visit by which q is entered comes behind that by which p is left
abbrev pub IsComing : List Visit → ℕ → ℕ → Type 0
IsComing visits p q = (i : ℕ) × (j : ℕ) × (i < j) × (slice_get visits i ≡ Some (Leave p)) × (slice_get visits j ≡ Some (Enter q))

-- q has its group, or it is open and in no earlier group than what is open at position i
abbrev pub IsSettled : List Standing → List ℕ → ℕ → ℕ → Type 0
IsSettled standings starts i q =
    ((g : ℕ) × (get_or standings q Unseen ≡ Grouped g)) ⊎ ((j : ℕ) × (get_or standings q Unseen ≡ Open j) × ((b : ℕ) → Contains starts b → b ≤ i → b ≤ j))

-- What holds of a walk, where so many groups are known and the last visit is the next one. Groups of open places begin at the
-- positions `starts`.
pub record IsGrouping (parts : List Part) (targets : List ℕ) (standings : List Standing) (trail starts : List ℕ) (count : ℕ) (visits : List Visit) : Type 0 where
  pub size : length standings ≡ length parts
  pub inside : (i : ℕ) (v : Visit) → slice_get visits i ≡ Some v → place_of v < length parts
  pub held : (i p : ℕ) → slice_get trail i ≡ Some p → get_or standings p Unseen ≡ Open i
  pub stands : (p i : ℕ) → get_or standings p Unseen ≡ Open i → slice_get trail i ≡ Some p
  -- an open place leads to those that were opened later, and they lead back where they are in its group
  pub forward : (i j p q : ℕ) → i < j → slice_get trail i ≡ Some p → slice_get trail j ≡ Some q → Reaches parts p q
  pub back : (i j p q : ℕ) → i < j → slice_get trail i ≡ Some p → slice_get trail j ≡ Some q → ((b : ℕ) → Contains starts b → (b ≤ i) ⊎ (j < b)) → Reaches parts q p
  pub rising : (k l a b : ℕ) → k < l → slice_get starts k ≡ Some a → slice_get starts l ≡ Some b → a < b
  -- the first place of a group is still to be left
  pub begun : (b : ℕ) → Contains starts b → (i : ℕ) × (p : ℕ) × (slice_get trail b ≡ Some p) × (slice_get visits i ≡ Some (Leave p))
  pub first : 0 < length trail → Contains starts 0
  -- places are left in the order in which they were opened, last first
  pub left : (i p : ℕ) → slice_get visits i ≡ Some (Leave p) → (n : ℕ) × (get_or standings p Unseen ≡ Open n)
  pub order : (i j p q m n : ℕ) → i < j → slice_get visits i ≡ Some (Leave p) → slice_get visits j ≡ Some (Leave q) → get_or standings p Unseen ≡ Open m → get_or standings q Unseen ≡ Open n → m < n
  -- what is visited before a place is left is reached from it
  pub reach : (i j p : ℕ) (v : Visit) → i < j → slice_get visits i ≡ Some (Leave p) → slice_get visits j ≡ Some v → Reaches parts p (place_of v)
  pub pending : (i p q : ℕ) → slice_get trail i ≡ Some p → IsNext parts targets p q → IsSettled standings starts i q ⊎ IsComing visits p q
  -- groups that are known
  pub low : (p g : ℕ) → get_or standings p Unseen ≡ Grouped g → g < count
  pub falls : (p q g : ℕ) → get_or standings p Unseen ≡ Grouped g → IsNext parts targets p q → (h : ℕ) × (get_or standings q Unseen ≡ Grouped h) × (h ≤ g)
  pub one : (p q g : ℕ) → get_or standings p Unseen ≡ Grouped g → get_or standings q Unseen ≡ Grouped g → (p ≡ q) ⊎ Reaches parts p q
  -- each place was entered, or it is to be
  pub waits : (p : ℕ) → p < length parts → get_or standings p Unseen ≡ Unseen → (i : ℕ) × (slice_get visits i ≡ Some (Enter p))

-- a walk has grouped what it has left, with these visits before it
abbrev pub IsWalking : List Part → List ℕ → Walk → List Visit → Type 0
IsWalking parts targets w visits = IsGrouping parts targets w.standings.items w.trail.items w.starts.items (length w.firsts.items) visits

-- the starts behind a position go out
pub record AreJoined (starts : List ℕ) (position : ℕ) (kept : List ℕ) : Type 0 where
  pub out : List ℕ
  pub all : starts ≡ kept ++ out
  pub behind : (b : ℕ) → Contains out b → position < b
  pub last : (init : List ℕ) (b : ℕ) → kept ≡ init ++ b ∷ [] → b ≤ position

-- the places that are open from a position up to another have the group, and the others stand as before
pub record AreNumbered (before : List Standing) (trail : List ℕ) (start finish group : ℕ) (after : List Standing) : Type 0 where
  pub size : length after ≡ length before
  pub grouped : (i p : ℕ) → start ≤ i → i < finish → slice_get trail i ≡ Some p → get_or after p Unseen ≡ Grouped group
  pub kept : (p : ℕ) → ((i : ℕ) → start ≤ i → i < finish → slice_get trail i ≡ Some p → ⊥) → get_or after p Unseen ≡ get_or before p Unseen

-- the number of the group of each place
pub record AreNumbers (standings : List Standing) (groups : List ℕ) : Type 0 where
  pub size : length groups ≡ length standings
  pub each : (p g : ℕ) → p < length standings → get_or standings p Unseen ≡ Grouped g → get_or groups p 0 ≡ g

-- the visits that the places that were not entered can lead to
abbrev pub unseen : List Part → List ℕ → List Standing → ℕ
unseen (x ∷ xs) (t ∷ ts) (Unseen ∷ ss) = (1 + length (nexts t x)) + unseen xs ts ss
unseen (x ∷ xs) (t ∷ ts) (s ∷ ss) = unseen xs ts ss
unseen _ _ _ = 0

-- a walk over so many places that has entered none
pub record IsAtFirst (n : ℕ) (w : Walk) : Type 0 where
  pub standings : w.standings.items ≡ replicate n Unseen
  pub trail : w.trail.items ≡ []
  pub starts : w.starts.items ≡ []
  pub firsts : w.firsts.items ≡ []

-- the last group, which begins at the position of the trail, is closed
pub record IsClosed (before : Walk) (position : ℕ) (after : Walk) : Type 0 where
  pub ends : before.starts.items ≡ after.starts.items ++ position ∷ []
  pub numbered : AreNumbered before.standings.items before.trail.items position (length before.trail.items) (length before.firsts.items) after.standings.items
  pub trail : after.trail.items ≡ take position before.trail.items
  pub count : length after.firsts.items ≡ length before.firsts.items + 1
  pub less : (parts : List Part) (targets : List ℕ) → unseen parts targets after.standings.items ≤ unseen parts targets before.standings.items

-- an open place is left: its group is closed where it begins one
abbrev pub IsLeft : Walk → ℕ → Walk → Type 0
IsLeft before place after = (n : ℕ) × (get_or before.standings.items place Unseen ≡ Open n) ×
    (IsClosed before n after ⊎ (((init : List ℕ) → before.starts.items ≡ init ++ n ∷ [] → ⊥) × (after ≡ before)))
