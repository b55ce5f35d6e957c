-- How many of some places are each occurrence.
use Rattle.std.specs.Prelude.{ℕ, List, ◌≡◌, ◌<◌, length, slice_index}
use Rattle.schema_tree.specs.declared.verdicts.Place.{Place}
use Rattle.schema_tree.specs.Places.{times}

-- the numbers are those of so many occurrences
abbrev pub Counts : ℕ → List Place → List ℕ → Type 0
Counts occurrences places numbers = (length numbers ≡ occurrences) × ((i : ℕ) → i < occurrences → slice_index numbers i ≡ times places i)
