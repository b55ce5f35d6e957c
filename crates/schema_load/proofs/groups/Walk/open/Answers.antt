use Rattle.std.proofs.Common.{◌≡◌, ◌++◌, ◌∷◌, [], arith, length, refl, rules}
use Rattle.std.proofs.lemmas.Option.{slice_get_read}
use Rattle.schema_load.specs.declared.sorting.Visit.TheVariants.{Enter, Leave}
use Rattle.schema_load.specs.Parts.{IsAt}
use Rattle.schema_load.proofs.Firsts.{on_ok}
use Rattle.schema_load.proofs.Grouping.{place_inside, visit_inside}
use Rattle.schema_load.proofs.Opening.{less_as, opened_as}
use Rattle.schema_load.proofs.Visits.{now_visits}
use Rattle.schema_load.proofs.groups.Walk.open.Goals as goal

pub index_mut-requires : goal.index_mut-requires
index_mut-requires c =
    let lt = place_inside c.args.parts.now c.args.targets.now c.args.self.now.standings.items c.args.self.now.trail.items c.args.self.now.starts.items (length c.args.self.now.firsts.items) c.args.visits.now.items (Enter c.args.place) c.requires.walking c.args.place refl in
    search rules

pub offset_bounds-parts-place : goal.offset_bounds-parts-place
offset_bounds-parts-place c =
    let lt = visit_inside c.args.parts.now c.args.targets.now c.args.self.now.standings.items c.args.self.now.trail.items c.args.self.now.starts.items (length c.args.self.now.firsts.items) c.args.visits.now.items (Enter c.args.place) c.requires.walking in
    search rules

pub bounds-parts-place : goal.bounds-parts-place
bounds-parts-place c =
    visit_inside c.args.parts.now c.args.targets.now c.args.self.now.standings.items c.args.self.now.trail.items c.args.self.now.starts.items (length c.args.self.now.firsts.items) c.args.visits.now.items (Enter c.args.place) c.requires.walking

pub steps-requires : goal.steps-requires
steps-requires c =
    let lt = visit_inside c.args.parts.now c.args.targets.now c.args.self.now.standings.items c.args.self.now.trail.items c.args.self.now.starts.items (length c.args.self.now.firsts.items) c.args.visits.now.items (Enter c.args.place) c.requires.walking in
    let size = c.requires.targets.size in
    omega arith

pub returns-clause-walking : goal.returns-clause-walking
returns-clause-walking c =
    let lt = visit_inside c.args.parts.now c.args.targets.now c.args.self.now.standings.items c.args.self.now.trail.items c.args.self.now.starts.items (length c.args.self.now.firsts.items) c.args.visits.now.items (Enter c.args.place) c.requires.walking in
    let at : IsAt c.args.parts.now c.args.place c.index-parts-place.result = slice_get_read c.args.parts.now _ c.args.place c.index-parts-place.result refl lt c.index-parts-place.is in
    let position : c.len-position.result ≡ length c.args.self.now.trail.items = search rules in
    let trail : c.push.new.self.items ≡ c.args.self.now.trail.items ++ c.args.place ∷ [] = search rules in
    let starts : c.push-2.new.self.items ≡ c.args.self.now.starts.items ++ c.len-position.result ∷ [] = search rules in
    let left : c.push-3.new.self.items ≡ c.args.visits.now.items ++ Leave c.args.place ∷ [] = search rules in
    on_ok c.enter_all.result (λ entered.
    opened_as c.args.parts.now c.args.targets.now c.requires.targets c.requires.inside c.args.self.now.standings.items c.args.self.now.trail.items c.args.self.now.starts.items (length c.args.self.now.firsts.items) c.args.visits.now.items c.args.place c.index-parts-place.result c.requires.walking at c.requires.fresh
    c.len-position.result c.push.new.self.items c.push-2.new.self.items c.enter_all.new.visits.items position trail starts
    (now_visits c.args.visits.now.items c.push-3.new.self.items c.enter_all.new.visits.items c.steps.result.now _ c.args.place left c.steps.ensures entered)) c.enter_all.ensures

pub returns-clause-less : goal.returns-clause-less
returns-clause-less c =
    let lt = visit_inside c.args.parts.now c.args.targets.now c.args.self.now.standings.items c.args.self.now.trail.items c.args.self.now.starts.items (length c.args.self.now.firsts.items) c.args.visits.now.items (Enter c.args.place) c.requires.walking in
    let at : IsAt c.args.parts.now c.args.place c.index-parts-place.result = slice_get_read c.args.parts.now _ c.args.place c.index-parts-place.result refl lt c.index-parts-place.is in
    let position : c.len-position.result ≡ length c.args.self.now.trail.items = search rules in
    let left : c.push-3.new.self.items ≡ c.args.visits.now.items ++ Leave c.args.place ∷ [] = search rules in
    on_ok c.enter_all.result (λ entered.
    less_as c.args.parts.now c.args.targets.now c.requires.targets c.requires.inside c.args.self.now.standings.items c.args.self.now.trail.items c.args.self.now.starts.items (length c.args.self.now.firsts.items) c.args.visits.now.items c.args.place c.index-parts-place.result c.requires.walking at c.requires.fresh
    c.len-position.result c.enter_all.new.visits.items position
    (now_visits c.args.visits.now.items c.push-3.new.self.items c.enter_all.new.visits.items c.steps.result.now _ c.args.place left c.steps.ensures entered)) c.enter_all.ensures
