use Rattle.std.proofs.Common.{ap, refl, subst, sym, length, ltb-false}
use borrow.Author.Tests.{ltb-true}
use Rattle.std.proofs.lemmas.Option.{slice_get_past, slice_get_read}
use Rattle.std.specs.Prelude.{option_map}
use Rattle.typing_refiner.specs.Holding.{AllShowBut}
use Rattle.typing_refiner.specs.Ready.{IsAmong, known_of}
use Rattle.typing_refiner.proofs.Upheld.{all_but, lent_but, no_numbers, put_of, settled_of}
use Rattle.typing_refiner.proofs.ground.Ground.put_back_unshown.Goals as goal

pub put_each_unshown-requires-clause-shows : goal.put_each_unshown-requires-clause-shows
put_each_unshown-requires-clause-shows g c =
    let (before, marked, mark, all) = c.requires.shows in
    lent_but c.args.self.now c.args.stratum c.args.at c.args.marks.now c.in-Some.needing.now.items _ (ap (λ o. option_map (λ v. v.items) o) (slice_get_read c.args.self.now.needing.now (length c.args.self.now.needing.now) c.args.at c.in-Some.needing.now refl
    (ltb-true c.args.at (length c.args.self.now.needing.now) (sym c.in-Some.ensures.lookup.0)) c.in-Some.ensures.lookup.1)) c.as_slice-numbers.ensures.value
    (known_of c.args.self.now (g.K.View.known c.args.kept.now) c.args.marks.now) c.args.gone c.args.pending.now.witnesses
    (all_but c.args.self.now c.requires.ready (g.K.View.known c.args.kept.now) before c.args.at c.args.gone c.requires.pair c.args.marks.now marked c.args.pending.now.witnesses all)

pub returns-in_ok-put_each_unshown-in-Some-clause-put : goal.returns-in_ok-put_each_unshown-in-Some-clause-put
returns-in_ok-put_each_unshown-in-Some-clause-put g c =
    put_of c.args.self.now c.args.stratum c.args.at c.args.marks.now c.in-Some.needing.now.items _ (ap (λ o. option_map (λ v. v.items) o) (slice_get_read c.args.self.now.needing.now (length c.args.self.now.needing.now) c.args.at c.in-Some.needing.now refl
    (ltb-true c.args.at (length c.args.self.now.needing.now) (sym c.in-Some.ensures.lookup.0)) c.in-Some.ensures.lookup.1)) c.as_slice-numbers.ensures.value
    (known_of c.args.self.now (g.K.View.known c.args.kept.now) c.args.marks.now) c.args.pending.now.agenda _ c.in_ok-put_each_unshown-in-Some.ensures.put

pub returns-in_ok-put_each_unshown-in-Some-clause-settled : goal.returns-in_ok-put_each_unshown-in-Some-clause-settled
returns-in_ok-put_each_unshown-in-Some-clause-settled g c =
    settled_of c.args.self.now c.args.stratum c.args.at c.args.marks.now c.in-Some.needing.now.items _ (ap (λ o. option_map (λ v. v.items) o) (slice_get_read c.args.self.now.needing.now (length c.args.self.now.needing.now) c.args.at c.in-Some.needing.now refl
    (ltb-true c.args.at (length c.args.self.now.needing.now) (sym c.in-Some.ensures.lookup.0)) c.in-Some.ensures.lookup.1)) c.as_slice-numbers.ensures.value
    (known_of c.args.self.now (g.K.View.known c.args.kept.now) c.args.marks.now) c.args.pending.now.agenda _ c.in_ok-put_each_unshown-in-Some.ensures.settled

pub returns-in-None-clause-shows : goal.returns-in-None-clause-shows
returns-in-None-clause-shows g c =
    let (before, marked, mark, all) = c.requires.shows in
    no_numbers c.args.self.now (known_of c.args.self.now (g.K.View.known c.args.kept.now) c.args.marks.now) c.args.gone c.args.pending.now.witnesses
    (subst (λ o. AllShowBut c.args.self.now (known_of c.args.self.now (g.K.View.known c.args.kept.now) c.args.marks.now) c.args.gone (option_map (λ v. v.items) o) c.args.pending.now.witnesses) (slice_get_past c.args.self.now.needing.now c.args.at (ltb-false c.args.at (length c.args.self.now.needing.now) (sym c.in-None.ensures.lookup.0)))
    (all_but c.args.self.now c.requires.ready (g.K.View.known c.args.kept.now) before c.args.at c.args.gone c.requires.pair c.args.marks.now marked c.args.pending.now.witnesses all))

pub returns-in-None-clause-settled : goal.returns-in-None-clause-settled
returns-in-None-clause-settled g c =
    λ q t. absurd (subst (λ o. IsAmong (option_map (λ v. v.items) o) q) (slice_get_past c.args.self.now.needing.now c.args.at (ltb-false c.args.at (length c.args.self.now.needing.now) (sym c.in-None.ensures.lookup.0))) t.0)
