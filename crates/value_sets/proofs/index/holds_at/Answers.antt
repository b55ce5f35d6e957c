use Rattle.std.proofs.Common.{IsTrue, ◌↔◌, length, ltb-false, refl, subst, sym, true≢false}
use borrow.Author.Tests.{ltb-true}
use Rattle.std.proofs.lemmas.Option.{slice_get_past, slice_get_read}
use Rattle.std.specs.Option.{IsSomeAnd}
use Rattle.value_sets.specs.Values.{IsValue}
use Rattle.value_sets.proofs.index.holds_at.Goals as goal

pub returns-in-Some : goal.returns-in-Some
returns-in-Some c =
    subst (λ o. IsTrue c.takes.result ↔ IsSomeAnd o (λ value. IsValue value c.args.term.now))
    (sym (slice_get_read c.args.values.now (length c.args.values.now) c.args.place c.in-Some.value.now refl
    (ltb-true c.args.place (length c.args.values.now) (sym c.in-Some.ensures.lookup.0)) c.in-Some.ensures.lookup.1)) c.takes.ensures

pub returns-in-None : goal.returns-in-None
returns-in-None c = (
  λ h. absurd (true≢false (sym h)),
  λ h. absurd (subst (λ o. IsSomeAnd o (λ value. IsValue value c.args.term.now)) (slice_get_past c.args.values.now c.args.place (ltb-false c.args.place (length c.args.values.now) (sym c.in-None.ensures.lookup.0))) h),
)
