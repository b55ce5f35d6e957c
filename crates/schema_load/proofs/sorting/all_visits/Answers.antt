use Rattle.std.proofs.Common.{[], ◌++◌, ◌∷◌, ◌≡◌, rules}
use Rattle.schema_load.specs.declared.sorting.Visit.TheVariants.{Enter}
use Rattle.schema_load.proofs.Visits.{entered_next, entered_none}
use Rattle.schema_load.proofs.sorting.all_visits.Goals as goal

pub loop-place-init : goal.loop-place-init
loop-place-init c = entered_none c.new-visits.result.items (search rules)

pub loop-place-preserved : goal.loop-place-preserved
loop-place-preserved c =
    let pushed : c.push.new.self.items ≡ c.loop-place.visits.items ++ Enter c.loop-place.place ∷ [] = search rules in
    entered_next c.loop-place.place c.loop-place.visits.items c.push.new.self.items c.loop-place.invariant pushed
