use Rattle.std.proofs.Common.{rules, ◌≡◌, ◌<◌, ◌+◌, ◌-◌, ◌^◌, arith, ap, drop, length, refl, slice_index, subst, suc, sym, take, ◌∙◌}
use Rattle.std.proofs.lemmas.Option.{slice_get_within}
use Rattle.std.specs.Prelude.{Some, slice_get}
use Rattle.std.specs.Vec.{vec_len}
use Rattle.bag_match.specs.Counts.{raised}
use Rattle.bag_match.specs.Hopes.{AreOffers}
use Rattle.bag_match.specs.Searches.{AreFailed, FinishesNever, IsSearch, turns_left}
use Rattle.lists.proofs.Members.{got_in}
use Rattle.bag_match.proofs.Failing.{lost_same, open_same}
use Rattle.bag_match.proofs.Hopeful.{more_small}
use Rattle.bag_match.proofs.Searching.{failed_more, own_left, own_room, own_some, own_there, search_came, search_enters, search_long, search_same, search_small, search_stops, turns_enter}
use Rattle.bag_match.proofs.layers.Question.turn.Goals as goal

pub take_all-requires-clause-there : goal.take_all-requires-clause-there
take_all-requires-clause-there g c =
    let size : vec_len c.args.way.now.places ≡ length c.args.way.now.places.items = search rules in
    let at : slice_get c.args.offered.now (length c.args.way.now.places.items) ≡ Some c.places_at-places.result.now =
    subst (λ k. slice_get c.args.offered.now k ≡ Some c.places_at-places.result.now) (c.len-3.ensures ∙ size) c.places_at-places.ensures in
    own_there (g.J.Judge.hold c.args.self.now.judge.now)
    (g.J.Judge.fail c.args.self.now.judge.now) c.args.self.now.shape.now c.args.self.now.node c.args.self.now.triples.now c.args.offered.now c.requires.offered (length c.args.way.now.places.items) c.places_at-places.result.now at (length c.args.way.now.more.items) c.requires.stands.left.0

pub take_all-requires-clause-some : goal.take_all-requires-clause-some
take_all-requires-clause-some g c =
    let size : vec_len c.args.way.now.places ≡ length c.args.way.now.places.items = search rules in
    let at : slice_get c.args.offered.now (length c.args.way.now.places.items) ≡ Some c.places_at-places.result.now =
    subst (λ k. slice_get c.args.offered.now k ≡ Some c.places_at-places.result.now) (c.len-3.ensures ∙ size) c.places_at-places.ensures in
    own_some (g.J.Judge.hold c.args.self.now.judge.now)
    (g.J.Judge.fail c.args.self.now.judge.now) c.args.self.now.shape.now c.args.self.now.node c.args.self.now.triples.now c.args.offered.now c.requires.offered (length c.args.way.now.places.items) c.places_at-places.result.now at c.args.way.now.more.items c.requires.stands.left

pub first_open-requires-clause-one_each : goal.first_open-requires-clause-one_each
first_open-requires-clause-one_each g c = search_long (g.J.Judge.hold c.args.self.now.judge.now)
    (g.J.Judge.fail c.args.self.now.judge.now) c.args.self.now.shape.now c.args.self.now.node c.args.self.now.triples.now c.args.offered.now c.requires.offered c.args.way.now.places.items c.args.way.now.tried.items c.args.way.now.counts.items c.args.way.now.more.items c.args.way.now.failed.items c.args.from c.requires.stands

pub first_open-requires-clause-small : goal.first_open-requires-clause-small
first_open-requires-clause-small g c = search_small (g.J.Judge.hold c.args.self.now.judge.now)
    (g.J.Judge.fail c.args.self.now.judge.now) c.args.self.now.shape.now c.args.self.now.node c.args.self.now.triples.now c.args.offered.now c.requires.offered c.args.way.now.places.items c.args.way.now.tried.items c.args.way.now.counts.items c.args.way.now.more.items c.args.way.now.failed.items c.args.from c.requires.stands c.requires.few

pub first_open-requires-clause-small_more : goal.first_open-requires-clause-small_more
first_open-requires-clause-small_more g c =
    let size : vec_len c.args.way.now.places ≡ length c.args.way.now.places.items = search rules in
    let at : slice_get c.args.offered.now (length c.args.way.now.places.items) ≡ Some c.places_at-places.result.now =
    subst (λ k. slice_get c.args.offered.now k ≡ Some c.places_at-places.result.now) (c.len-3.ensures ∙ size) c.places_at-places.ensures in
    let now = own_left (g.J.Judge.hold c.args.self.now.judge.now)
    (g.J.Judge.fail c.args.self.now.judge.now) c.args.self.now.shape.now c.args.self.now.node c.args.self.now.triples.now c.args.offered.now c.requires.offered (length c.args.way.now.places.items) c.places_at-places.result.now at c.args.way.now.more.items c.take_all.new.counts.items c.requires.stands.left c.take_all.ensures.len c.take_all.ensures.taken in
    more_small (g.J.Judge.hold c.args.self.now.judge.now)
    (g.J.Judge.fail c.args.self.now.judge.now) c.args.self.now.shape.now c.args.self.now.node c.args.self.now.triples.now c.args.offered.now c.requires.offered (suc (length c.args.way.now.places.items)) c.as_slice.result.now c.requires.few
    (subst (λ z. AreOffers (length c.args.self.now.shape.now.occs) (drop (suc (length c.args.way.now.places.items)) c.args.offered.now) z) (sym c.as_slice.ensures.value) now)

pub first_open-requires-clause-there : goal.first_open-requires-clause-there
first_open-requires-clause-there g c =
    let size : vec_len c.args.way.now.places ≡ length c.args.way.now.places.items = search rules in
    let at : slice_get c.args.offered.now (length c.args.way.now.places.items) ≡ Some c.places_at-places.result.now =
    subst (λ k. slice_get c.args.offered.now k ≡ Some c.places_at-places.result.now) (c.len-3.ensures ∙ size) c.places_at-places.ensures in
    own_there (g.J.Judge.hold c.args.self.now.judge.now)
    (g.J.Judge.fail c.args.self.now.judge.now) c.args.self.now.shape.now c.args.self.now.node c.args.self.now.triples.now c.args.offered.now c.requires.offered (length c.args.way.now.places.items) c.places_at-places.result.now at (length c.args.way.now.counts.items) (search_long (g.J.Judge.hold c.args.self.now.judge.now) (g.J.Judge.fail c.args.self.now.judge.now) c.args.self.now.shape.now c.args.self.now.node c.args.self.now.triples.now c.args.offered.now c.requires.offered c.args.way.now.places.items c.args.way.now.tried.items c.args.way.now.counts.items c.args.way.now.more.items c.args.way.now.failed.items c.args.from c.requires.stands)

pub place_at-requires : goal.place_at-requires
place_at-requires g c = let (q, there, hopes, lost) = c.in-Some.ensures.first in slice_get_within c.places_at-places.result.now c.in-Some.at q there

pub enter-requires-clause-small : goal.enter-requires-clause-small
enter-requires-clause-small g c i = subst (λ z. slice_index z i < 2 ^ 31) (sym c.first_open.ensures.same)
    (search_small (g.J.Judge.hold c.args.self.now.judge.now) (g.J.Judge.fail c.args.self.now.judge.now) c.args.self.now.shape.now c.args.self.now.node c.args.self.now.triples.now c.args.offered.now c.requires.offered c.args.way.now.places.items c.args.way.now.tried.items c.args.way.now.counts.items c.args.way.now.more.items c.args.way.now.failed.items c.args.from c.requires.stands c.requires.few i)

pub enter-requires-clause-there : goal.enter-requires-clause-there
enter-requires-clause-there g c =
    let size : vec_len c.args.way.now.places ≡ length c.args.way.now.places.items = search rules in
    let at : slice_get c.args.offered.now (length c.args.way.now.places.items) ≡ Some c.places_at-places.result.now =
    subst (λ k. slice_get c.args.offered.now k ≡ Some c.places_at-places.result.now) (c.len-3.ensures ∙ size) c.places_at-places.ensures in
    own_there (g.J.Judge.hold c.args.self.now.judge.now)
    (g.J.Judge.fail c.args.self.now.judge.now) c.args.self.now.shape.now c.args.self.now.node c.args.self.now.triples.now c.args.offered.now c.requires.offered (length c.args.way.now.places.items) c.places_at-places.result.now at (length c.first_open.new.counts.items) (ap (λ z. length z) c.first_open.ensures.same ∙ search_long (g.J.Judge.hold c.args.self.now.judge.now) (g.J.Judge.fail c.args.self.now.judge.now) c.args.self.now.shape.now c.args.self.now.node c.args.self.now.triples.now c.args.offered.now c.requires.offered c.args.way.now.places.items c.args.way.now.tried.items c.args.way.now.counts.items c.args.way.now.more.items c.args.way.now.failed.items c.args.from c.requires.stands)
    c.place_at.result (got_in c.places_at-places.result.now c.in-Some.at c.place_at.result c.place_at.ensures)

pub add_all-requires-clause-there : goal.add_all-requires-clause-there
add_all-requires-clause-there g c =
    let size : vec_len c.args.way.now.places ≡ length c.args.way.now.places.items = search rules in
    let at : slice_get c.args.offered.now (length c.args.way.now.places.items) ≡ Some c.places_at-places.result.now =
    subst (λ k. slice_get c.args.offered.now k ≡ Some c.places_at-places.result.now) (c.len-3.ensures ∙ size) c.places_at-places.ensures in
    let now = own_left (g.J.Judge.hold c.args.self.now.judge.now)
    (g.J.Judge.fail c.args.self.now.judge.now) c.args.self.now.shape.now c.args.self.now.node c.args.self.now.triples.now c.args.offered.now c.requires.offered (length c.args.way.now.places.items) c.places_at-places.result.now at c.args.way.now.more.items c.take_all.new.counts.items c.requires.stands.left c.take_all.ensures.len c.take_all.ensures.taken in
    own_there (g.J.Judge.hold c.args.self.now.judge.now)
    (g.J.Judge.fail c.args.self.now.judge.now) c.args.self.now.shape.now c.args.self.now.node c.args.self.now.triples.now c.args.offered.now c.requires.offered (length c.args.way.now.places.items) c.places_at-places.result.now at (length c.take_all.new.counts.items) now.0

pub add_all-requires-clause-small : goal.add_all-requires-clause-small
add_all-requires-clause-small g c =
    let size : vec_len c.args.way.now.places ≡ length c.args.way.now.places.items = search rules in
    let at : slice_get c.args.offered.now (length c.args.way.now.places.items) ≡ Some c.places_at-places.result.now =
    subst (λ k. slice_get c.args.offered.now k ≡ Some c.places_at-places.result.now) (c.len-3.ensures ∙ size) c.places_at-places.ensures in
    let now = own_left (g.J.Judge.hold c.args.self.now.judge.now)
    (g.J.Judge.fail c.args.self.now.judge.now) c.args.self.now.shape.now c.args.self.now.node c.args.self.now.triples.now c.args.offered.now c.requires.offered (length c.args.way.now.places.items) c.places_at-places.result.now at c.args.way.now.more.items c.take_all.new.counts.items c.requires.stands.left c.take_all.ensures.len c.take_all.ensures.taken in
    own_room (g.J.Judge.hold c.args.self.now.judge.now)
    (g.J.Judge.fail c.args.self.now.judge.now) c.args.self.now.shape.now c.args.self.now.node c.args.self.now.triples.now c.args.offered.now c.requires.offered (length c.args.way.now.places.items) c.places_at-places.result.now at c.take_all.new.counts.items now c.requires.few

pub back-requires-clause-failed : goal.back-requires-clause-failed
back-requires-clause-failed g c =
    let size : vec_len c.args.way.now.places ≡ length c.args.way.now.places.items = search rules in
    let at : slice_get c.args.offered.now (length c.args.way.now.places.items) ≡ Some c.places_at-places.result.now =
    subst (λ k. slice_get c.args.offered.now k ≡ Some c.places_at-places.result.now) (c.len-3.ensures ∙ size) c.places_at-places.ensures in
    let now = own_left (g.J.Judge.hold c.args.self.now.judge.now)
    (g.J.Judge.fail c.args.self.now.judge.now) c.args.self.now.shape.now c.args.self.now.node c.args.self.now.triples.now c.args.offered.now c.requires.offered (length c.args.way.now.places.items) c.places_at-places.result.now at c.args.way.now.more.items c.take_all.new.counts.items c.requires.stands.left c.take_all.ensures.len c.take_all.ensures.taken in
    let count : suc (length c.args.way.now.places.items) + (c.len.result - c.len-2.result - 1) ≡ length c.args.self.now.triples.now =
    (let a = c.len.ensures in let b = c.len-2.ensures in let e = c.requires.within in omega (arith, a, b, e, size)) in
    let lost = lost_same c.args.self.now.shape.now.body c.take_all.new.counts.items c.as_slice.result.now c.args.way.now.failed.items c.as_slice-2.result.now (c.len.result - c.len-2.result - 1) c.args.way.now.counts.items (take c.args.from c.places_at-places.result.now) c.places_at-places.result.now c.as_slice.ensures.value c.as_slice-2.ensures.value (c.in-None.ensures.none refl) in
    let never = search_stops (g.J.Judge.hold c.args.self.now.judge.now)
    (g.J.Judge.fail c.args.self.now.judge.now) c.args.self.now.shape.now c.args.self.now.node c.args.self.now.triples.now c.args.offered.now c.requires.offered c.args.way.now.places.items c.args.way.now.tried.items c.args.way.now.counts.items c.args.way.now.more.items c.args.way.now.failed.items c.args.from c.requires.stands c.places_at-places.result.now at (c.len.result - c.len-2.result - 1) count c.take_all.new.counts.items now lost in
    let whole : (length c.args.way.now.places.items) + (c.len.result - c.len-2.result) ≡ length c.args.self.now.triples.now =
    (let a = c.len.ensures in let b = c.len-2.ensures in let e = c.requires.within in omega (arith, a, b, e, size)) in
    failed_more (g.J.Judge.hold c.args.self.now.judge.now)
    (g.J.Judge.fail c.args.self.now.judge.now) c.args.self.now.shape.now c.args.self.now.node c.args.self.now.triples.now c.args.offered.now c.requires.offered c.args.way.now.failed.items c.put_failed.new.failed.items (length c.args.way.now.places.items) (c.len.result - c.len-2.result) c.args.way.now.counts.items c.as_slice-in-None.result.now
    c.requires.stands.failed_are whole never (search_came (g.J.Judge.hold c.args.self.now.judge.now) (g.J.Judge.fail c.args.self.now.judge.now) c.args.self.now.shape.now c.args.self.now.node c.args.self.now.triples.now c.args.offered.now c.requires.offered c.args.way.now.places.items c.args.way.now.tried.items c.args.way.now.counts.items c.args.way.now.more.items c.args.way.now.failed.items c.args.from c.requires.stands) (c.as_slice-in-None.ensures.value ∙ c.first_open.ensures.same) c.in_ok-put_failed-in-None.ensures

pub back-requires-clause-never : goal.back-requires-clause-never
back-requires-clause-never g c =
    let size : vec_len c.args.way.now.places ≡ length c.args.way.now.places.items = search rules in
    let at : slice_get c.args.offered.now (length c.args.way.now.places.items) ≡ Some c.places_at-places.result.now =
    subst (λ k. slice_get c.args.offered.now k ≡ Some c.places_at-places.result.now) (c.len-3.ensures ∙ size) c.places_at-places.ensures in
    let now = own_left (g.J.Judge.hold c.args.self.now.judge.now)
    (g.J.Judge.fail c.args.self.now.judge.now) c.args.self.now.shape.now c.args.self.now.node c.args.self.now.triples.now c.args.offered.now c.requires.offered (length c.args.way.now.places.items) c.places_at-places.result.now at c.args.way.now.more.items c.take_all.new.counts.items c.requires.stands.left c.take_all.ensures.len c.take_all.ensures.taken in
    let count : suc (length c.args.way.now.places.items) + (c.len.result - c.len-2.result - 1) ≡ length c.args.self.now.triples.now =
    (let a = c.len.ensures in let b = c.len-2.ensures in let e = c.requires.within in omega (arith, a, b, e, size)) in
    let lost = lost_same c.args.self.now.shape.now.body c.take_all.new.counts.items c.as_slice.result.now c.args.way.now.failed.items c.as_slice-2.result.now (c.len.result - c.len-2.result - 1) c.args.way.now.counts.items (take c.args.from c.places_at-places.result.now) c.places_at-places.result.now c.as_slice.ensures.value c.as_slice-2.ensures.value (c.in-None.ensures.none refl) in
    let never = search_stops (g.J.Judge.hold c.args.self.now.judge.now)
    (g.J.Judge.fail c.args.self.now.judge.now) c.args.self.now.shape.now c.args.self.now.node c.args.self.now.triples.now c.args.offered.now c.requires.offered c.args.way.now.places.items c.args.way.now.tried.items c.args.way.now.counts.items c.args.way.now.more.items c.args.way.now.failed.items c.args.from c.requires.stands c.places_at-places.result.now at (c.len.result - c.len-2.result - 1) count c.take_all.new.counts.items now lost in
    subst (λ z. FinishesNever (g.J.Judge.hold c.args.self.now.judge.now) (g.J.Judge.fail c.args.self.now.judge.now) c.args.self.now.shape.now c.args.self.now.node c.args.self.now.triples.now (length c.args.way.now.places.items) z) (sym c.first_open.ensures.same) never

pub returns-in_ok-enter-in-Some-clause-goes : goal.returns-in_ok-enter-in-Some-clause-goes
returns-in_ok-enter-in-Some-clause-goes g c =
    let size : vec_len c.args.way.now.places ≡ length c.args.way.now.places.items = search rules in
    let at : slice_get c.args.offered.now (length c.args.way.now.places.items) ≡ Some c.places_at-places.result.now =
    subst (λ k. slice_get c.args.offered.now k ≡ Some c.places_at-places.result.now) (c.len-3.ensures ∙ size) c.places_at-places.ensures in
    let now = own_left (g.J.Judge.hold c.args.self.now.judge.now)
    (g.J.Judge.fail c.args.self.now.judge.now) c.args.self.now.shape.now c.args.self.now.node c.args.self.now.triples.now c.args.offered.now c.requires.offered (length c.args.way.now.places.items) c.places_at-places.result.now at c.args.way.now.more.items c.take_all.new.counts.items c.requires.stands.left c.take_all.ensures.len c.take_all.ensures.taken in
    let count : suc (length c.args.way.now.places.items) + (c.len.result - c.len-2.result - 1) ≡ length c.args.self.now.triples.now =
    (let a = c.len.ensures in let b = c.len-2.ensures in let e = c.requires.within in omega (arith, a, b, e, size)) in
    let open_at = open_same c.args.self.now.shape.now.body c.take_all.new.counts.items c.as_slice.result.now c.args.way.now.failed.items c.as_slice-2.result.now (c.len.result - c.len-2.result - 1) c.args.way.now.counts.items c.places_at-places.result.now c.args.from c.in-Some.at c.as_slice.ensures.value c.as_slice-2.ensures.value c.in-Some.ensures.first in
    subst (λ z. IsSearch (g.J.Judge.hold c.args.self.now.judge.now) (g.J.Judge.fail c.args.self.now.judge.now) c.args.self.now.shape.now c.args.self.now.node c.args.self.now.triples.now c.args.offered.now c.enter.new.self.places.items c.enter.new.self.tried.items c.enter.new.self.counts.items z c.enter.new.self.failed.items 0) (sym c.in_ok-enter-in-Some.ensures.more)
    (subst (λ z. IsSearch (g.J.Judge.hold c.args.self.now.judge.now) (g.J.Judge.fail c.args.self.now.judge.now) c.args.self.now.shape.now c.args.self.now.node c.args.self.now.triples.now c.args.offered.now c.enter.new.self.places.items c.enter.new.self.tried.items c.enter.new.self.counts.items c.take_all.new.counts.items z 0) (sym c.in_ok-enter-in-Some.ensures.failed)
    (search_enters (g.J.Judge.hold c.args.self.now.judge.now) (g.J.Judge.fail c.args.self.now.judge.now) c.args.self.now.shape.now c.args.self.now.node c.args.self.now.triples.now c.args.offered.now c.requires.offered c.args.way.now.places.items c.args.way.now.tried.items c.args.way.now.counts.items c.args.way.now.more.items c.args.way.now.failed.items c.args.from c.requires.stands c.places_at-places.result.now at (c.len.result - c.len-2.result - 1) count c.take_all.new.counts.items now c.in-Some.at open_at c.place_at.result c.place_at.ensures
    c.enter.new.self.places.items c.enter.new.self.tried.items c.enter.new.self.counts.items c.in_ok-enter-in-Some.ensures.places c.in_ok-enter-in-Some.ensures.tried
    (c.in_ok-enter-in-Some.ensures.counts ∙ ap (λ z. raised z c.place_at.result) c.first_open.ensures.same)))

pub returns-in_ok-enter-in-Some-clause-less : goal.returns-in_ok-enter-in-Some-clause-less
returns-in_ok-enter-in-Some-clause-less g c =
    let size : vec_len c.args.way.now.places ≡ length c.args.way.now.places.items = search rules in
    let at : slice_get c.args.offered.now (length c.args.way.now.places.items) ≡ Some c.places_at-places.result.now =
    subst (λ k. slice_get c.args.offered.now k ≡ Some c.places_at-places.result.now) (c.len-3.ensures ∙ size) c.places_at-places.ensures in
    let (q, there, hopes, lost) = c.in-Some.ensures.first in
    subst (λ z. turns_left c.args.offered.now z 0 < turns_left c.args.offered.now c.args.way.now.tried.items c.args.from) (sym c.in_ok-enter-in-Some.ensures.tried)
    (turns_enter c.args.offered.now c.args.way.now.tried.items c.args.from c.in-Some.at c.places_at-places.result.now
    (subst (λ k. slice_get c.args.offered.now k ≡
    Some c.places_at-places.result.now) (sym (search_same (g.J.Judge.hold c.args.self.now.judge.now) (g.J.Judge.fail c.args.self.now.judge.now) c.args.self.now.shape.now c.args.self.now.node c.args.self.now.triples.now c.args.offered.now c.requires.offered c.args.way.now.places.items c.args.way.now.tried.items c.args.way.now.counts.items c.args.way.now.more.items c.args.way.now.failed.items c.args.from c.requires.stands)) at) c.in-Some.ensures.within (slice_get_within c.places_at-places.result.now c.in-Some.at q there))

pub returns-in_ok-enter-in-Some-clause-failed : goal.returns-in_ok-enter-in-Some-clause-failed
returns-in_ok-enter-in-Some-clause-failed g c =
    subst (λ z. AreFailed (g.J.Judge.hold c.args.self.now.judge.now) (g.J.Judge.fail c.args.self.now.judge.now) c.args.self.now.shape.now c.args.self.now.node c.args.self.now.triples.now z)
    (sym c.in_ok-enter-in-Some.ensures.failed) c.requires.stands.failed_are
