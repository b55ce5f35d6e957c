use Rattle.std.proofs.Common.{◌≡◌, ◌<◌, ◌^◌, ◌∙◌, ℕ, refl, sym, subst, ap, length, slice_index}
use Rattle.std.specs.Prelude.{Some, slice_get}
use Rattle.bag_match.specs.Counts.{IsPlaceOf, raised}
use Rattle.bag_match.proofs.Stepping.{raised_long}
use Rattle.typing_refiner.proofs.Tallies.{before_long, before_small, came, new_there, set_tally}
use Rattle.typing_refiner.proofs.witness.Witness.set_place.Goals as goal

pub lower-requires : goal.lower-requires
lower-requires c = came (length c.args.self.now.counts.items) c.args.self.now c.requires.tally c.args.at c.place_at-before.result (subst (λ ps. slice_get ps c.args.at ≡
    Some c.place_at-before.result) c.as_slice.ensures.value c.place_at-before.ensures)

pub raise-requires-clause-small : goal.raise-requires-clause-small
raise-requires-clause-small c =
    let (before, held, from) =
    came (length c.args.self.now.counts.items) c.args.self.now c.requires.tally c.args.at c.place_at-before.result (subst (λ ps. slice_get ps c.args.at ≡
    Some c.place_at-before.result) c.as_slice.ensures.value c.place_at-before.ensures) in
    subst (λ b. (i : ℕ) → slice_index b i < 2 ^ 31) (sym (c.lower.ensures before from))
    (before_small (length c.args.self.now.counts.items) c.args.self.now c.requires.tally c.args.at c.place_at-before.result (subst (λ ps. slice_get ps c.args.at ≡
    Some c.place_at-before.result) c.as_slice.ensures.value c.place_at-before.ensures) before from)

pub raise-requires-clause-there : goal.raise-requires-clause-there
raise-requires-clause-there c =
    let (before, held, from) =
    came (length c.args.self.now.counts.items) c.args.self.now c.requires.tally c.args.at c.place_at-before.result (subst (λ ps. slice_get ps c.args.at ≡
    Some c.place_at-before.result) c.as_slice.ensures.value c.place_at-before.ensures) in
    subst (λ b. IsPlaceOf (length b) c.args.place) (sym (c.lower.ensures before from))
    (new_there (length c.args.self.now.counts.items) c.args.self.now c.requires.tally c.args.at c.place_at-before.result (subst (λ ps. slice_get ps c.args.at ≡
    Some c.place_at-before.result) c.as_slice.ensures.value c.place_at-before.ensures) before from c.args.place c.requires.inside)

pub returns-clause-long : goal.returns-clause-long
returns-clause-long c =
    let (before, held, from) =
    came (length c.args.self.now.counts.items) c.args.self.now c.requires.tally c.args.at c.place_at-before.result (subst (λ ps. slice_get ps c.args.at ≡
    Some c.place_at-before.result) c.as_slice.ensures.value c.place_at-before.ensures) in
    ap length c.raise.ensures ∙ (raised_long _ c.args.place ∙ (ap length (c.lower.ensures before from)
    ∙ before_long (length c.args.self.now.counts.items) c.args.self.now c.requires.tally c.args.at c.place_at-before.result (subst (λ ps. slice_get ps c.args.at ≡
    Some c.place_at-before.result) c.as_slice.ensures.value c.place_at-before.ensures) before from))

pub returns-clause-tally : goal.returns-clause-tally
returns-clause-tally c =
    let (before, held, from) =
    came (length c.args.self.now.counts.items) c.args.self.now c.requires.tally c.args.at c.place_at-before.result (subst (λ ps. slice_get ps c.args.at ≡
    Some c.place_at-before.result) c.as_slice.ensures.value c.place_at-before.ensures) in
    set_tally (length c.args.self.now.counts.items) c.args.self.now c.requires.tally c.args.at c.place_at-before.result (subst (λ ps. slice_get ps c.args.at ≡
    Some c.place_at-before.result) c.as_slice.ensures.value c.place_at-before.ensures) before from c.args.place c.requires.inside
    _ refl c.put_place.ensures (c.raise.ensures ∙ ap (λ b. raised b c.args.place) (c.lower.ensures before from))
