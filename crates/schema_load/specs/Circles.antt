-- What the functions that look for circles promise one another.
use Rattle.std.specs.Prelude.{ℕ, List}
use Rattle.schema_load.specs.declared.circles.CircleKind.{CircleKind}
use Rattle.schema_load.specs.declared.circles.CircleKind.TheVariants.{Inclusion, Reference}
use Rattle.schema_load.specs.declared.circles.Circles.{Circles}
use Rattle.schema_load.specs.declared.part.Part.{Part}
use Rattle.schema_load.specs.Groups.{AreGroups}
use Rattle.schema_load.specs.Requirements.{HasOne, IsCircle, IsIncludeCircle, IsTwice, NoneIs}
use Rattle.schema_load.specs.Steps.{AreInside, AreTargets, HaveBodies}

-- the labelled expression at the place refers to itself, or includes itself
abbrev pub IsRound : List Part → CircleKind → ℕ → Type 0
IsRound parts Reference p = HasOne (IsCircle parts) p
IsRound parts Inclusion p = HasOne (IsIncludeCircle parts) p

-- what is known of the places to which parts lead
pub record AreKnown (s : Circles) : Type 0 where
  pub once : NoneIs (HasOne (IsTwice s.parts.now))
  pub targets : AreTargets s.parts.now s.targets.now
  pub inside : AreInside s.parts.now s.targets.now
  pub bodies : HaveBodies s.parts.now
  pub groups : AreGroups s.parts.now s.targets.now s.groups.now
