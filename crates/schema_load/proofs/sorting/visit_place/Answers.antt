use Rattle.std.proofs.Common.{◌≡◌, ◌++◌, ◌∷◌, ◌<◌, ◌+◌, [], ap, arith, false, get_or, length, refl, rules, set, sym, subst, true}
use Rattle.std.proofs.lemmas.Option.{slice_get_read}
use Rattle.schema_load.specs.declared.sorting.Visit.TheVariants.{Leave}
use Rattle.schema_load.specs.Parts.{IsAt}
use Rattle.schema_load.specs.Sorting.{IsVisiting, place_of, unopened}
use Rattle.schema_load.proofs.Visits.{dropped, enter_again, fewer, flag_off, leave_ready, now_visits, opened_first, visit_inside}
use Rattle.schema_load.proofs.Walks.{flag_on}
use Rattle.schema_load.proofs.sorting.visit_place.Goals as goal

pub finish-requires : goal.finish-requires
finish-requires c =
    let lt = subst (λ z. z < length c.args.parts.now) (ap place_of c.in-Leave.is)
    (visit_inside c.args.parts.now c.args.targets.now c.args.opened.now.items c.args.done.now.items c.args.visits.now.items c.args.visit c.requires.visiting) in
    subst (λ n. c.in-Leave.place < n) (sym c.requires.kept.size) lt

pub returns-in_ok-finish-in-Leave-clause-kept : goal.returns-in_ok-finish-in-Leave-clause-kept
returns-in_ok-finish-in-Leave-clause-kept c =
    c.in_ok-finish-in-Leave.ensures.kept c.args.parts.now c.args.targets.now c.requires.kept
    (leave_ready c.args.parts.now c.args.targets.now c.args.opened.now.items c.args.done.now.items c.args.visits.now.items c.args.visit c.requires.visiting c.in-Leave.place c.in-Leave.is)

pub index-requires : goal.index-requires
index-requires c =
    let lt = subst (λ z. z < length c.args.parts.now) (ap place_of c.in-Enter.is)
    (visit_inside c.args.parts.now c.args.targets.now c.args.opened.now.items c.args.done.now.items c.args.visits.now.items c.args.visit c.requires.visiting) in
    let size = c.requires.visiting.size in
    omega arith

pub index-requires-then-index : goal.index-requires-then-index
index-requires-then-index c =
    let lt = subst (λ z. z < length c.args.parts.now) (ap place_of c.in-Enter.is)
    (visit_inside c.args.parts.now c.args.targets.now c.args.opened.now.items c.args.done.now.items c.args.visits.now.items c.args.visit c.requires.visiting) in
    let size = c.requires.kept.size in
    omega arith

pub index_mut-requires : goal.index_mut-requires
index_mut-requires c =
    let lt = subst (λ z. z < length c.args.parts.now) (ap place_of c.in-Enter.is)
    (visit_inside c.args.parts.now c.args.targets.now c.args.opened.now.items c.args.done.now.items c.args.visits.now.items c.args.visit c.requires.visiting) in
    let size = c.requires.visiting.size in
    omega arith

pub bounds-parts-place : goal.bounds-parts-place
bounds-parts-place c = subst (λ z. z < length c.args.parts.now) (ap place_of c.in-Enter.is)
    (visit_inside c.args.parts.now c.args.targets.now c.args.opened.now.items c.args.done.now.items c.args.visits.now.items c.args.visit c.requires.visiting)

pub offset_bounds-parts-place : goal.offset_bounds-parts-place
offset_bounds-parts-place c =
    let lt = subst (λ z. z < length c.args.parts.now) (ap place_of c.in-Enter.is)
    (visit_inside c.args.parts.now c.args.targets.now c.args.opened.now.items c.args.done.now.items c.args.visits.now.items c.args.visit c.requires.visiting) in
    search rules

pub steps-requires : goal.steps-requires
steps-requires c =
    let lt = subst (λ z. z < length c.args.parts.now) (ap place_of c.in-Enter.is)
    (visit_inside c.args.parts.now c.args.targets.now c.args.opened.now.items c.args.done.now.items c.args.visits.now.items c.args.visit c.requires.visiting) in
    let size = c.requires.targets.size in
    omega arith

pub returns-then-index-clause-visiting : goal.returns-then-index-clause-visiting
returns-then-index-clause-visiting c = λ goes.
    let lt = subst (λ z. z < length c.args.parts.now) (ap place_of c.in-Enter.is)
    (visit_inside c.args.parts.now c.args.targets.now c.args.opened.now.items c.args.done.now.items c.args.visits.now.items c.args.visit c.requires.visiting) in
    let size = c.requires.kept.size in
    let over = flag_on c.args.done.now.items c.in-Enter.place c.index-then-index.result.now (omega arith) c.index-then-index.ensures goes in
    dropped c.args.parts.now c.args.targets.now c.args.opened.now.items c.args.done.now.items c.args.visits.now.items c.args.visit c.requires.visiting c.args.done.now.items (λ q d. d)
    (subst (λ z. get_or c.args.done.now.items z false ≡ true) (sym (ap place_of c.in-Enter.is)) over)

pub returns-then-index-clause-circle : goal.returns-then-index-clause-circle
returns-then-index-clause-circle c = λ stops.
    let lt = subst (λ z. z < length c.args.parts.now) (ap place_of c.in-Enter.is)
    (visit_inside c.args.parts.now c.args.targets.now c.args.opened.now.items c.args.done.now.items c.args.visits.now.items c.args.visit c.requires.visiting) in
    let size = c.requires.visiting.size in
    let entered = flag_on c.args.opened.now.items c.in-Enter.place c.index.result.now (omega arith) c.index.ensures c.if-index.true in
    enter_again c.args.parts.now c.args.targets.now c.args.opened.now.items c.args.done.now.items c.args.visits.now.items c.args.visit c.requires.visiting c.in-Enter.place c.in-Enter.is entered (flag_off c.args.done.now.items c.in-Enter.place c.index-then-index.result.now c.index-then-index.ensures stops)

pub returns-in_ok-finish-in-Leave-clause-visiting : goal.returns-in_ok-finish-in-Leave-clause-visiting
returns-in_ok-finish-in-Leave-clause-visiting c = λ goes.
    dropped c.args.parts.now c.args.targets.now c.args.opened.now.items c.args.done.now.items c.args.visits.now.items c.args.visit c.requires.visiting c.finish.new.done.items c.in_ok-finish-in-Leave.ensures.still
    (subst (λ z. get_or c.finish.new.done.items z false ≡ true) (sym (ap place_of c.in-Leave.is)) c.in_ok-finish-in-Leave.ensures.done)

pub returns-in_ok-enter_all-in-Enter-clause-visiting : goal.returns-in_ok-enter_all-in-Enter-clause-visiting
returns-in_ok-enter_all-in-Enter-clause-visiting c = λ goes.
    let lt = subst (λ z. z < length c.args.parts.now) (ap place_of c.in-Enter.is)
    (visit_inside c.args.parts.now c.args.targets.now c.args.opened.now.items c.args.done.now.items c.args.visits.now.items c.args.visit c.requires.visiting) in
    let at : IsAt c.args.parts.now c.in-Enter.place c.index-parts-place.result = slice_get_read c.args.parts.now _ c.in-Enter.place c.index-parts-place.result refl lt c.index-parts-place.is in
    let before = subst (λ w. IsVisiting c.args.parts.now c.args.targets.now c.args.opened.now.items c.args.done.now.items (c.args.visits.now.items ++ w ∷ [])) c.in-Enter.is c.requires.visiting in
    let pushed : c.push.new.self.items ≡ c.args.visits.now.items ++ Leave c.in-Enter.place ∷ [] = search rules in
    subst (λ vs. IsVisiting c.args.parts.now c.args.targets.now (set c.args.opened.now.items c.in-Enter.place true) c.args.done.now.items vs)
    (sym (now_visits c.args.visits.now.items c.push.new.self.items c.enter_all.new.visits.items c.steps.result.now _ c.in-Enter.place pushed c.steps.ensures c.in_ok-enter_all-in-Enter.ensures))
    (opened_first c.args.parts.now c.args.targets.now c.requires.targets c.requires.inside c.args.opened.now.items c.args.done.now.items c.args.visits.now.items c.in-Enter.place c.index-parts-place.result before at)

pub returns-in_ok-enter_all-in-Enter-clause-less : goal.returns-in_ok-enter_all-in-Enter-clause-less
returns-in_ok-enter_all-in-Enter-clause-less c = λ goes.
    let lt = subst (λ z. z < length c.args.parts.now) (ap place_of c.in-Enter.is)
    (visit_inside c.args.parts.now c.args.targets.now c.args.opened.now.items c.args.done.now.items c.args.visits.now.items c.args.visit c.requires.visiting) in
    let at : IsAt c.args.parts.now c.in-Enter.place c.index-parts-place.result = slice_get_read c.args.parts.now _ c.in-Enter.place c.index-parts-place.result refl lt c.index-parts-place.is in
    let before = subst (λ w. IsVisiting c.args.parts.now c.args.targets.now c.args.opened.now.items c.args.done.now.items (c.args.visits.now.items ++ w ∷ [])) c.in-Enter.is c.requires.visiting in
    let pushed : c.push.new.self.items ≡ c.args.visits.now.items ++ Leave c.in-Enter.place ∷ [] = search rules in
    subst (λ vs. length vs + unopened c.args.parts.now c.args.targets.now (set c.args.opened.now.items c.in-Enter.place true) < (length c.args.visits.now.items + 1) + unopened c.args.parts.now c.args.targets.now c.args.opened.now.items)
    (sym (now_visits c.args.visits.now.items c.push.new.self.items c.enter_all.new.visits.items c.steps.result.now _ c.in-Enter.place pushed c.steps.ensures c.in_ok-enter_all-in-Enter.ensures))
    (fewer c.args.parts.now c.args.targets.now c.requires.targets c.requires.inside c.args.opened.now.items c.args.done.now.items c.args.visits.now.items c.in-Enter.place c.index-parts-place.result before at c.requires.targets (flag_off c.args.opened.now.items c.in-Enter.place c.index.result.now c.index.ensures c.if-index.false))
