-- What is found of the extents of a schema, and what the functions that list them promise one another.
use Rattle.std.specs.Prelude.{ℕ, false, ◌≡◌, ⊤}
use Rattle.label_extents.specs.declared.finding.Extents.{Extents}
use Rattle.label_extents.specs.Demanded.{AreTooMany}
use Rattle.label_extents.specs.Extents.{AreExtents}
use Rattle.label_extents.specs.Found.{AreFound, AreMembers, HoldDecided}
use Rattle.shex_inputs.specs.Held.{Held}
use Rattle.shex_tools.specs.declared.stop.Refusal.TheVariants as Refusals
use Rattle.shex_tools.specs.declared.stop.Stop.{Stop}
use Rattle.shex_tools.specs.declared.stop.Stop.TheVariants as Stops

-- this is found of the extents of what is held under the budget: they ask for few pairs; each answer is that of a member, each member
-- that depends on no pair above the budget is there, and where nothing is Unknown they are the extents
pub record IsFound (h : Held) (budget : ℕ) (x : Extents) : Type 0 where
  pub few : ¬ AreTooMany h.schema h.graph
  pub found : AreFound h.schema h.terms h.graph h.strata budget x
  pub are_members : AreMembers h.schema h.terms h.graph x.members
  pub decided : HoldDecided h.schema h.terms h.graph budget x.members
  pub whole : x.undecided ≡ false → AreExtents h.schema h.terms h.graph x.members

-- why they are not found: too many pairs are asked for, or memory ran out
abbrev pub FindingStops : Held → Stop → Type 0
FindingStops h (Stops.Refused Refusals.Pairs) = AreTooMany h.schema h.graph
FindingStops h (Stops.Refused refusal) = ⊥
FindingStops h (Stops.Failed source) = ⊥
FindingStops h Stops.Memory = ⊤
