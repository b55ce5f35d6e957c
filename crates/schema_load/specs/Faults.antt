-- Where parts break a requirement that follows references and inclusions.
use Rattle.std.specs.Prelude.{⊤, ℕ, ◌≤◌, List, filter, length}
use Rattle.schema_load.specs.declared.part.Part.{Part}
use Rattle.schema_load.specs.declared.limits.Fault.{Fault}
use Rattle.schema_load.specs.declared.limits.Fault.TheVariants.{Circle, Deep, IncludeCircle, Memory, Occurrences, Shapes}
use Rattle.schema_load.specs.Parts.{is_shape}
use Rattle.schema_load.specs.Requirements.{HasManyShapes, HasOccurrences, HasOne, IsCircle, IsCrowded, IsDeep, IsFirst, IsIncludeCircle, NoneIs}
use Rattle.schema_load.specs.Steps.{IsTripleAt}

-- the parts break the requirement, first at the place, and none that is looked for before
abbrev pub IsFault : List Part → Fault → Type 0
IsFault parts (Circle p) = IsFirst (HasOne (IsCircle parts)) p
IsFault parts (IncludeCircle p) = NoneIs (HasOne (IsCircle parts)) × IsFirst (HasOne (IsIncludeCircle parts)) p
IsFault parts (Deep p) = NoneIs (HasOne (IsCircle parts)) × NoneIs (HasOne (IsIncludeCircle parts)) × IsFirst (IsDeep parts) p
IsFault parts (Occurrences p) = NoneIs (HasOne (IsCircle parts)) × NoneIs (HasOne (IsIncludeCircle parts)) × NoneIs (IsDeep parts) × IsFirst (IsCrowded parts) p
IsFault parts Shapes = NoneIs (HasOne (IsCircle parts)) × NoneIs (HasOne (IsIncludeCircle parts)) × NoneIs (IsDeep parts) × NoneIs (IsCrowded parts) × HasManyShapes parts
IsFault parts Memory = ⊤

-- the parts keep the limits, and each triple expression has a number of occurrences
pub record MeetsLimits (parts : List Part) : Type 0 where
  pub not_deep : NoneIs (IsDeep parts)
  pub not_crowded : NoneIs (IsCrowded parts)
  pub few_shapes : length (filter is_shape parts) ≤ 4096
  pub counted : (p : ℕ) → IsTripleAt parts p → (n : ℕ) × HasOccurrences parts p n
