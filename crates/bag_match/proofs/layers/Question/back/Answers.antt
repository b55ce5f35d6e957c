use Rattle.std.proofs.Common.{rules, ◌≡◌, ◌<◌, ◌++◌, ◌∷◌, [], length, subst, sym, arith, suc, ◌≤◌, ◌∙◌}
use Rattle.std.specs.Prelude.{Some, slice_get}
use Rattle.std.specs.Vec.{vec_len}
use Rattle.bag_match.specs.Searches.{IsSearch, turns_left}
use Rattle.bag_match.proofs.Searching.{back_came, back_more, back_some, back_within, own_room, own_there, search_leaves, turns_leave}
use Rattle.bag_match.proofs.layers.Question.back.Goals as goal

pub lower-requires : goal.lower-requires
lower-requires g c =
    let within : length c.args.way.now.places.items ≤ length c.args.self.now.triples.now = (let h = c.requires.within in omega (arith, h)) in
    let split : c.args.way.now.places.items ≡ c.pop.new.self.items ++ c.in-Some.place ∷ [] = search rules in
    let split_tried : c.args.way.now.tried.items ≡ c.pop-2.new.self.items ++ c.in-Some-pop.at ∷ [] = search rules in
    back_came (g.J.Judge.hold c.args.self.now.judge.now)
    (g.J.Judge.fail c.args.self.now.judge.now) c.args.self.now.shape.now c.args.self.now.node c.args.self.now.triples.now c.args.offered.now c.requires.offered c.args.way.now.places.items c.args.way.now.tried.items c.args.way.now.counts.items within c.requires.way c.requires.never c.pop.new.self.items c.in-Some.place split c.pop-2.new.self.items c.in-Some-pop.at split_tried

pub add_all-requires-clause-there : goal.add_all-requires-clause-there
add_all-requires-clause-there g c =
    let size : vec_len c.pop.new.self ≡ length c.pop.new.self.items = search rules in
    let at : slice_get c.args.offered.now (length c.pop.new.self.items) ≡ Some c.places_at-places.result.now =
    subst (λ k. slice_get c.args.offered.now k ≡ Some c.places_at-places.result.now) (c.len.ensures ∙ size) c.places_at-places.ensures in
    own_there (g.J.Judge.hold c.args.self.now.judge.now)
    (g.J.Judge.fail c.args.self.now.judge.now) c.args.self.now.shape.now c.args.self.now.node c.args.self.now.triples.now c.args.offered.now c.requires.offered (length c.pop.new.self.items) c.places_at-places.result.now at (length c.args.way.now.more.items) c.requires.more.0

pub add_all-requires-clause-small : goal.add_all-requires-clause-small
add_all-requires-clause-small g c =
    let within : length c.args.way.now.places.items ≤ length c.args.self.now.triples.now = (let h = c.requires.within in omega (arith, h)) in
    let split : c.args.way.now.places.items ≡ c.pop.new.self.items ++ c.in-Some.place ∷ [] = search rules in
    let split_tried : c.args.way.now.tried.items ≡ c.pop-2.new.self.items ++ c.in-Some-pop.at ∷ [] = search rules in
    let size : vec_len c.pop.new.self ≡ length c.pop.new.self.items = search rules in
    let at : slice_get c.args.offered.now (length c.pop.new.self.items) ≡ Some c.places_at-places.result.now =
    subst (λ k. slice_get c.args.offered.now k ≡ Some c.places_at-places.result.now) (c.len.ensures ∙ size) c.places_at-places.ensures in
    own_room (g.J.Judge.hold c.args.self.now.judge.now)
    (g.J.Judge.fail c.args.self.now.judge.now) c.args.self.now.shape.now c.args.self.now.node c.args.self.now.triples.now c.args.offered.now c.requires.offered (length c.pop.new.self.items) c.places_at-places.result.now at c.args.way.now.more.items
    (back_more (g.J.Judge.hold c.args.self.now.judge.now) (g.J.Judge.fail c.args.self.now.judge.now) c.args.self.now.shape.now c.args.self.now.node c.args.self.now.triples.now c.args.offered.now c.requires.offered c.args.way.now.places.items c.args.way.now.tried.items c.args.way.now.counts.items within c.requires.way c.requires.never c.pop.new.self.items c.in-Some.place split c.pop-2.new.self.items c.in-Some-pop.at split_tried c.args.way.now.more.items c.requires.more) c.requires.few

pub number_after-requires : goal.number_after-requires
number_after-requires g c =
    let within : length c.args.way.now.places.items ≤ length c.args.self.now.triples.now = (let h = c.requires.within in omega (arith, h)) in
    let split : c.args.way.now.places.items ≡ c.pop.new.self.items ++ c.in-Some.place ∷ [] = search rules in
    let split_tried : c.args.way.now.tried.items ≡ c.pop-2.new.self.items ++ c.in-Some-pop.at ∷ [] = search rules in
    let size : vec_len c.pop.new.self ≡ length c.pop.new.self.items = search rules in
    let at : slice_get c.args.offered.now (length c.pop.new.self.items) ≡ Some c.places_at-places.result.now =
    subst (λ k. slice_get c.args.offered.now k ≡ Some c.places_at-places.result.now) (c.len.ensures ∙ size) c.places_at-places.ensures in
    back_within (g.J.Judge.hold c.args.self.now.judge.now)
    (g.J.Judge.fail c.args.self.now.judge.now) c.args.self.now.shape.now c.args.self.now.node c.args.self.now.triples.now c.args.offered.now c.requires.offered c.args.way.now.places.items c.args.way.now.tried.items c.args.way.now.counts.items within c.requires.way c.requires.never c.pop.new.self.items c.in-Some.place split c.pop-2.new.self.items c.in-Some-pop.at split_tried c.places_at-places.result.now at

pub returns-clause-goes : goal.returns-clause-goes
returns-clause-goes g c =
    let within : length c.args.way.now.places.items ≤ length c.args.self.now.triples.now = (let h = c.requires.within in omega (arith, h)) in
    let split : c.args.way.now.places.items ≡ c.pop.new.self.items ++ c.in-Some.place ∷ [] = search rules in
    let split_tried : c.args.way.now.tried.items ≡ c.pop-2.new.self.items ++ c.in-Some-pop.at ∷ [] = search rules in
    let size : vec_len c.pop.new.self ≡ length c.pop.new.self.items = search rules in
    let at : slice_get c.args.offered.now (length c.pop.new.self.items) ≡ Some c.places_at-places.result.now =
    subst (λ k. slice_get c.args.offered.now k ≡ Some c.places_at-places.result.now) (c.len.ensures ∙ size) c.places_at-places.ensures in
    subst (λ from. IsSearch (g.J.Judge.hold c.args.self.now.judge.now) (g.J.Judge.fail c.args.self.now.judge.now) c.args.self.now.shape.now c.args.self.now.node c.args.self.now.triples.now c.args.offered.now c.pop.new.self.items c.pop-2.new.self.items c.lower.new.counts.items c.add_all.new.counts.items c.args.way.now.failed.items from) (sym c.number_after.ensures)
    (search_leaves (g.J.Judge.hold c.args.self.now.judge.now) (g.J.Judge.fail c.args.self.now.judge.now) c.args.self.now.shape.now c.args.self.now.node c.args.self.now.triples.now c.args.offered.now c.requires.offered c.args.way.now.places.items c.args.way.now.tried.items c.args.way.now.counts.items within c.requires.way c.requires.never c.pop.new.self.items c.in-Some.place split c.pop-2.new.self.items c.in-Some-pop.at split_tried c.places_at-places.result.now at c.lower.new.counts.items c.args.way.now.more.items c.add_all.new.counts.items c.args.way.now.failed.items c.lower.ensures c.requires.more c.add_all.ensures.len c.add_all.ensures.added c.requires.failed)

pub returns-clause-less : goal.returns-clause-less
returns-clause-less g c next =
    let within : length c.args.way.now.places.items ≤ length c.args.self.now.triples.now = (let h = c.requires.within in omega (arith, h)) in
    let split : c.args.way.now.places.items ≡ c.pop.new.self.items ++ c.in-Some.place ∷ [] = search rules in
    let split_tried : c.args.way.now.tried.items ≡ c.pop-2.new.self.items ++ c.in-Some-pop.at ∷ [] = search rules in
    subst (λ from. turns_left c.args.offered.now c.pop-2.new.self.items from < turns_left c.args.offered.now c.args.way.now.tried.items next) (sym c.number_after.ensures)
    (subst (λ z. turns_left c.args.offered.now c.pop-2.new.self.items (suc c.in-Some-pop.at) < turns_left c.args.offered.now z next) (sym split_tried)
    (turns_leave c.args.offered.now c.pop-2.new.self.items c.in-Some-pop.at next (back_some (g.J.Judge.hold c.args.self.now.judge.now) (g.J.Judge.fail c.args.self.now.judge.now) c.args.self.now.shape.now c.args.self.now.node c.args.self.now.triples.now c.args.offered.now c.requires.offered c.args.way.now.places.items c.args.way.now.tried.items c.args.way.now.counts.items within c.requires.way c.requires.never c.pop.new.self.items c.in-Some.place split c.pop-2.new.self.items c.in-Some-pop.at split_tried c.requires.within)))
