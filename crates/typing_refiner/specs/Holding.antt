-- Witnesses that are held by the numbers of their pairs (own).
use Rattle.std.specs.Prelude.{ℕ, List, ◌≡◌, ◌⊎◌, Option, Some, length, nat_eq, slice_get}
use Rattle.std.specs.Global.{Box}
use Rattle.std.specs.List.{sum_by}
use Rattle.std.specs.Map.{lookup}
use Rattle.schema_tree.specs.declared.schema.Pair.{Pair}
use Rattle.schema_tree.specs.Places.{PairCanMatch}
use Rattle.schema_tree.specs.declared.verdicts.Lean.TheVariants.{Possible}
use Rattle.schema_tree.specs.Sure.{Known}
use Rattle.typing_refiner.specs.Ready.{IsAmong}
use Rattle.typing_refiner.specs.Witnessed.{IsWitnessBut, IsWitnessOf}
use Rattle.typing_refiner.specs.declared.ground.Ground.{Ground}
use Rattle.typing_refiner.specs.declared.witness.Witness.{Witness}

-- the witness is held at the number
abbrev pub Holds : List (ℕ × Box Witness) → ℕ → Witness → Type 0
Holds held i w = (b : Box Witness) × (lookup (nat_eq i) held ≡ Some b) × (b.value ≡ w)

-- how many triples the witnesses have together
abbrev pub triples_of : List (ℕ × Box Witness) → ℕ
triples_of held = sum_by (λ e. length e.1.value.triples) held

-- how many triples witnesses have together at most
abbrev pub most_triples : ℕ
most_triples = 4194304

-- each witness that is held shows that the pair of its number can match
abbrev pub AllShow : Ground → Known → List (ℕ × Box Witness) → Type 0
AllShow h view held = (i : ℕ) (w : Witness) (p : Pair) → Holds held i w → slice_get h.table.now i ≡ Some p → IsWitnessOf h view p w

-- each witness that is held shows that the pair of its number can match, but for triples that end at the node of another pair
-- where the number is one of these
abbrev pub AllShowBut : Ground → Known → Pair → Option (List ℕ) → List (ℕ × Box Witness) → Type 0
AllShowBut h view q numbers held =
    (i : ℕ) (w : Witness) (p : Pair) → Holds held i w → slice_get h.table.now i ≡ Some p →
    IsWitnessOf h view p w ⊎ (IsAmong numbers i × IsWitnessBut h view q p w)

-- the pair of the number can match under the view
abbrev pub CanMatchAt : Ground → Known → ℕ → Type 0
CanMatchAt h view i = (p : Pair) → slice_get h.table.now i ≡ Some p → PairCanMatch h.schema.now h.terms.now h.graph.now.triples view Possible p
