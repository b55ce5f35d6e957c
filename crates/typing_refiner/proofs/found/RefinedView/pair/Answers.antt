use Rattle.std.proofs.Common.{◌≡◌, refl, subst, sym, length, ltb-false}
use borrow.Author.Tests.{ltb-true}
use Rattle.std.proofs.lemmas.Option.{slice_get_past, slice_get_read}
use Rattle.std.specs.Prelude.{Some, None, slice_get}
use Rattle.schema_tree.specs.Sure.{PairIs}
use Rattle.schema_tree.specs.declared.verdicts.Verdict.TheVariants.{Unknown}
use Rattle.typing_refiner.specs.Refinement.{known_by_it}
use Rattle.typing_refiner.proofs.Verdicts.{told_in, told_none, told_out}
use Rattle.typing_refiner.proofs.found.RefinedView.pair.Goals as goal

pub returns-in-Some-get : goal.returns-in-Some-get
returns-in-Some-get c =
    subst (λ r. PairIs (known_by_it r) c.args.pair c.in-Some-get.mark.now) c.self.view_is
    (told_in c.self.inside.table c.len-count.ensures.distinct c.self.inside.marks.items c.in-Some.place c.args.pair c.in-Some-get.mark.now c.in-Some.ensures.found
    (subst (λ ms. slice_get ms c.in-Some.place ≡ Some c.in-Some-get.mark.now) c.deref.ensures.value
    (slice_get_read c.deref.result.now (length c.deref.result.now) c.in-Some.place c.in-Some-get.mark.now refl
    (ltb-true c.in-Some.place (length c.deref.result.now) (sym c.in-Some-get.ensures.lookup.0)) c.in-Some-get.ensures.lookup.1)))

pub returns-in-None-get : goal.returns-in-None-get
returns-in-None-get c =
    subst (λ r. PairIs (known_by_it r) c.args.pair Unknown) c.self.view_is
    (told_none c.self.inside.table c.len-count.ensures.distinct c.self.inside.marks.items c.in-Some.place c.args.pair c.in-Some.ensures.found
    (subst (λ ms. slice_get ms c.in-Some.place ≡ None) c.deref.ensures.value
    (slice_get_past c.deref.result.now c.in-Some.place (ltb-false c.in-Some.place (length c.deref.result.now) (sym c.in-None-get.ensures.lookup.0)))))

pub returns-in-None : goal.returns-in-None
returns-in-None c =
    subst (λ r. PairIs (known_by_it r) c.args.pair Unknown) c.self.view_is
    (told_out c.self.inside.table c.len-count.ensures.distinct c.self.inside.marks.items c.args.pair (c.in-None.ensures.absent.0 refl))
