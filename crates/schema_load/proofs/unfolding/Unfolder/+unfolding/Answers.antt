use Rattle.std.proofs.Common.{◌≡◌, ◌++◌, ◌∷◌, [], arith, get_or, length, refl, rules, sym, subst}
use Rattle.std.proofs.lemmas.List.Elements.{Contains-get_or}
use Rattle.std.proofs.lemmas.Option.{slice_get-get_or, slice_get_within}
use Rattle.schema_load.specs.declared.part.Part.TheVariants as Parts
use Rattle.schema_load.specs.Building.{number_in}
use Rattle.schema_load.specs.Parts.{IsAt}
use Rattle.schema_load.specs.Unfolding.{AreBelow, HaveRoom, IsFormAt}
use Rattle.schema_load.proofs.Unfolded.{by_arc, by_inclusion, each_ready, first_room, form_inside, include_ready, one_ready, predicate_there, rest_room, so_far_more, so_far_none, value_inside, with_times}
use Rattle.schema_load.proofs.unfolding.Unfolder.+unfolding.Goals as goal

pub unfold_form-unfold_members-requires : goal.unfold_form-unfold_members-requires
unfold_form-unfold_members-requires t c =
    let ready = each_ready c.args.self.now.parts.now c.args.self.now.depths.now c.requires.ready.depths c.requires.ready.triples c.args.place (length c.args.occs.now.items) c.in-Each.members
    (subst (λ f. IsFormAt c.args.self.now.parts.now c.args.place f) c.in-Each.is c.requires.here) c.requires.room in (
      omega (arith, c.decreases),
      (
        c.requires.ready,
        (
          subst (λ ps. AreBelow c.args.self.now.parts.now c.args.self.now.depths.now ps c.args.place) (sym c.as_slice.ensures) ready.0,
          subst (λ ps. HaveRoom c.args.self.now.parts.now ps (length c.args.occs.now.items)) (sym c.as_slice.ensures) ready.1,
        ),
      ),
    )

pub unfold_form-unfold_members-requires-in-One : goal.unfold_form-unfold_members-requires-in-One
unfold_form-unfold_members-requires-in-One t c =
    let ready = one_ready c.args.self.now.parts.now c.args.self.now.depths.now c.requires.ready.depths c.requires.ready.triples c.args.place (length c.args.occs.now.items) c.in-One.members
    (subst (λ f. IsFormAt c.args.self.now.parts.now c.args.place f) c.in-One.is c.requires.here) c.requires.room in (
      omega (arith, c.decreases),
      (
        c.requires.ready,
        (
          subst (λ ps. AreBelow c.args.self.now.parts.now c.args.self.now.depths.now ps c.args.place) (sym c.as_slice-in-One.ensures) ready.0,
          subst (λ ps. HaveRoom c.args.self.now.parts.now ps (length c.args.occs.now.items)) (sym c.as_slice-in-One.ensures) ready.1,
        ),
      ),
    )

pub unfold_form-occurrence_of-requires-clause-predicate : goal.unfold_form-occurrence_of-requires-clause-predicate
unfold_form-occurrence_of-requires-clause-predicate t c =
    predicate_there c.args.self.now.parts.now c.args.self.now.terms.now c.args.place c.in-Arc.arc c.requires.ready.predicates (subst (λ f. IsFormAt c.args.self.now.parts.now c.args.place f) c.in-Arc.is c.requires.here)

pub unfold_form-occurrence_of-requires-clause-value : goal.unfold_form-occurrence_of-requires-clause-value
unfold_form-occurrence_of-requires-clause-value t c =
    value_inside c.args.self.now.parts.now c.args.place (length c.args.self.now.numbers.now) c.in-Arc.arc c.requires.ready.whole c.requires.ready.numbers (subst (λ f. IsFormAt c.args.self.now.parts.now c.args.place f) c.in-Arc.is c.requires.here)

pub unfold_form-bounds-self-place : goal.unfold_form-bounds-self-place
unfold_form-bounds-self-place t c = form_inside c.args.self.now.parts.now c.args.self.now.targets.now c.args.place c.args.form.now c.requires.ready.targets c.requires.here

pub unfold_form-offset_bounds-self-place : goal.unfold_form-offset_bounds-self-place
unfold_form-offset_bounds-self-place t c = let lt =
    form_inside c.args.self.now.parts.now c.args.self.now.targets.now c.args.place c.args.form.now c.requires.ready.targets c.requires.here in search rules

pub unfold_form-unfold-requires : goal.unfold_form-unfold-requires
unfold_form-unfold-requires t c =
    let ready = include_ready c.args.self.now.parts.now c.args.self.now.depths.now c.requires.ready.depths c.requires.ready.triples c.requires.ready.once c.args.self.now.targets.now c.requires.ready.targets c.args.place (length c.args.occs.now.items) c.in-Include.field-0
    (subst (λ f. IsFormAt c.args.self.now.parts.now c.args.place f) c.in-Include.is c.requires.here) c.requires.room in
    let less = ready.less in
    (omega (arith, c.decreases), (c.requires.ready, (ready.there, ready.room)))

pub unfold_members-loop-member-init : goal.unfold_members-loop-member-init
unfold_members-loop-member-init t c = record {
  so_far = so_far_none c.args.self.now.terms.now c.args.self.now.parts.now (number_in c.args.self.now.numbers.now) c.args.occs.now.items c.new-counts.result.items (search rules);
  room = c.requires.room;
}

pub unfold_members-unfold-requires : goal.unfold_members-unfold-requires
unfold_members-unfold-requires t c =
    let has = c.requires.below (get_or c.args.members.now c.loop-member.member-index 0) (Contains-get_or c.args.members.now c.loop-member.member-index 0 c.loop-member-test.true) in
    let less = has.1 in
    (omega (arith, c.decreases), (c.requires.ready, (has.0, first_room c.args.self.now.terms.now c.args.self.now.parts.now (number_in c.args.self.now.numbers.now) c.args.members.now c.loop-member.member-index (get_or c.args.members.now c.loop-member.member-index 0) (length c.loop-member.occs.items) c.loop-member-test.true refl c.loop-member.invariant.room)))

pub unfold_members-loop-member-preserved : goal.unfold_members-loop-member-preserved
unfold_members-loop-member-preserved t c =
    let (added, grown, unfolded) = c.in_ok-count.ensures in
    let pushed : c.push.new.self.items ≡ c.loop-member.counts.items ++ c.in_ok-count.count ∷ [] = search rules in
    record {
      so_far =
          so_far_more c.args.self.now.terms.now c.args.self.now.parts.now (number_in c.args.self.now.numbers.now) c.args.members.now c.loop-member.member-index (get_or c.args.members.now c.loop-member.member-index 0) c.args.occs.now.items c.loop-member.occs.items c.unfold.new.occs.items added c.loop-member.counts.items c.push.new.self.items c.in_ok-count.count
          c.loop-member-test.true refl c.loop-member.invariant.so_far grown unfolded pushed;
      room =
          rest_room c.args.self.now.terms.now c.args.self.now.parts.now (number_in c.args.self.now.numbers.now) c.requires.ready.once c.args.members.now c.loop-member.member-index (get_or c.args.members.now c.loop-member.member-index 0) c.loop-member.occs.items c.unfold.new.occs.items added _
          c.loop-member-test.true refl c.loop-member.invariant.room grown unfolded;
    }

pub unfold-returns : goal.unfold-returns
unfold-returns t c =
    let (added, grown, unfolded) = c.in_ok-count-in-Triple.ensures in
    let (u, there) = c.requires.here in
    let lt = slice_get_within c.args.self.now.parts.now c.args.place (Parts.Triple u) there in
    with_times c.args.self.now.terms.now c.args.self.now.parts.now (number_in c.args.self.now.numbers.now) c.args.place (length c.args.occs.now.items) c.in-Triple.triple c.args.occs.now.items c.unfold_form.new.occs.items added _ c.repeated.result
    (subst (λ x. IsAt c.args.self.now.parts.now c.args.place x) c.in-Triple.is (slice_get-get_or c.args.self.now.parts.now c.args.place _ lt)) grown unfolded c.repeated.ensures

pub unfold_form-returns-in_ok-push-in-Arc : goal.unfold_form-returns-in_ok-push-in-Arc
unfold_form-returns-in_ok-push-in-Arc t c =
    let pushed : c.push.new.self.items ≡ c.args.occs.now.items ++ c.in_ok-occurrence-in-Arc.occurrence ∷ [] = search rules in
    let at : c.len-symbol.result ≡ length c.args.occs.now.items = search rules in
    by_arc c.args.self.now.terms.now c.args.self.now.parts.now (number_in c.args.self.now.numbers.now)
    (length c.args.occs.now.items) c.in-Arc.arc c.args.form.now c.in_ok-occurrence-in-Arc.occurrence c.len-symbol.result c.args.occs.now.items c.push.new.self.items
    c.in-Arc.is (c.in_ok-occurrence-in-Arc.ensures c.args.self.now.parts.now) at pushed

pub unfold_form-returns-in-Include : goal.unfold_form-returns-in-Include
unfold_form-returns-in-Include t c =
    let ready = include_ready c.args.self.now.parts.now c.args.self.now.depths.now c.requires.ready.depths c.requires.ready.triples c.requires.ready.once c.args.self.now.targets.now c.requires.ready.targets c.args.place (length c.args.occs.now.items) c.in-Include.field-0
    (subst (λ f. IsFormAt c.args.self.now.parts.now c.args.place f) c.in-Include.is c.requires.here) c.requires.room in
    by_inclusion c.args.self.now.terms.now c.args.self.now.parts.now (number_in c.args.self.now.numbers.now) (get_or c.args.self.now.targets.now c.args.place 0)
    (length c.args.occs.now.items) c.in-Include.field-0 c.args.form.now c.args.occs.now.items c.unfold.new.occs.items c.unfold.result
    c.in-Include.is ready.named c.unfold.ensures
