use Rattle.std.proofs.Common.{◌≡◌, length, rules, get_or}
use Rattle.schema_load.specs.declared.groups.Standing.TheVariants.{Grouped, Open, Unseen}
use Rattle.schema_load.proofs.Firsts.{on_ok}
use Rattle.schema_load.proofs.Grouped.{left_as, read_standing, trail_inside}
use Rattle.schema_load.proofs.Grouping.{entered_grouped, joined, left_inside, left_open, place_inside, trail_low}
use Rattle.schema_load.proofs.groups.Walk.visit.Goals as goal

pub leave-requires-clause-within : goal.leave-requires-clause-within
leave-requires-clause-within c =
    left_inside c.args.parts.now c.args.targets.now c.args.self.now.standings.items c.args.self.now.trail.items c.args.self.now.starts.items (length c.args.self.now.firsts.items) c.args.visits.now.items c.args.visit c.requires.walking c.in-Leave.place c.in-Leave.is

pub leave-requires-clause-opened : goal.leave-requires-clause-opened
leave-requires-clause-opened c =
    let (n, is) = left_open c.args.parts.now c.args.targets.now c.args.self.now.standings.items c.args.self.now.trail.items c.args.self.now.starts.items (length c.args.self.now.firsts.items) c.args.visits.now.items c.args.visit c.requires.walking c.in-Leave.place c.in-Leave.is in
    (n, is, trail_low c.args.parts.now c.args.targets.now c.args.self.now.standings.items c.args.self.now.trail.items c.args.self.now.starts.items (length c.args.self.now.firsts.items) c.args.visits.now.items c.args.visit c.requires.walking c.in-Leave.place n is)

pub leave-requires-clause-inside : goal.leave-requires-clause-inside
leave-requires-clause-inside c =
    trail_inside c.args.parts.now c.args.targets.now c.args.self.now.standings.items c.args.self.now.trail.items c.args.self.now.starts.items (length c.args.self.now.firsts.items) _ c.requires.walking

pub index-requires : goal.index-requires
index-requires c =
    let lt = place_inside c.args.parts.now c.args.targets.now c.args.self.now.standings.items c.args.self.now.trail.items c.args.self.now.starts.items (length c.args.self.now.firsts.items) c.args.visits.now.items c.args.visit c.requires.walking c.in-Enter.place c.in-Enter.is in
    search rules

pub returns-in-Leave-clause-walking : goal.returns-in-Leave-clause-walking
returns-in-Leave-clause-walking c =
    on_ok c.leave.result (λ left. left_as c.args.parts.now c.args.targets.now c.args.self.now c.leave.new.self c.args.visits.now.items c.args.visit c.in-Leave.place c.in-Leave.is c.requires.walking left) c.leave.ensures

pub returns-in-Open-clause-walking : goal.returns-in-Open-clause-walking
returns-in-Open-clause-walking c =
    let lt = place_inside c.args.parts.now c.args.targets.now c.args.self.now.standings.items c.args.self.now.trail.items c.args.self.now.starts.items (length c.args.self.now.firsts.items) c.args.visits.now.items c.args.visit c.requires.walking c.in-Enter.place c.in-Enter.is in
    let is : get_or c.args.self.now.standings.items c.in-Enter.place Unseen ≡ Open c.in-Open.position =
    read_standing c.args.self.now.standings.items c.in-Enter.place c.index.result.now (Open c.in-Open.position) lt c.index.ensures c.in-Open.is in
    joined c.args.parts.now c.args.targets.now c.args.self.now.standings.items c.args.self.now.trail.items c.args.self.now.starts.items (length c.args.self.now.firsts.items) c.args.visits.now.items c.args.visit c.requires.walking c.in-Enter.place c.in-Open.position c.in-Enter.is is c.join.new.starts.items c.join.ensures

pub returns-in-Grouped-clause-walking : goal.returns-in-Grouped-clause-walking
returns-in-Grouped-clause-walking c =
    let lt = place_inside c.args.parts.now c.args.targets.now c.args.self.now.standings.items c.args.self.now.trail.items c.args.self.now.starts.items (length c.args.self.now.firsts.items) c.args.visits.now.items c.args.visit c.requires.walking c.in-Enter.place c.in-Enter.is in
    entered_grouped c.args.parts.now c.args.targets.now c.args.self.now.standings.items c.args.self.now.trail.items c.args.self.now.starts.items (length c.args.self.now.firsts.items) c.args.visits.now.items c.args.visit c.requires.walking c.in-Enter.place c.in-Grouped.field-0 c.in-Enter.is
    (read_standing c.args.self.now.standings.items c.in-Enter.place c.index.result.now (Grouped c.in-Grouped.field-0) lt c.index.ensures c.in-Grouped.is)
