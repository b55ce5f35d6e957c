use Rattle.std.proofs.Common.{sym, subst}
use Rattle.std.proofs.lemmas.Bool.{OnTrue_at}
use Rattle.typing_refiner.specs.Ready.{known_of}
use Rattle.typing_refiner.specs.Witnessed.{IsWitnessBut}
use Rattle.typing_refiner.proofs.Upheld.{back_stays, can_at, out_stays, table_read}
use Rattle.typing_refiner.proofs.ground.Ground.is_shown.Goals as goal

pub returns-in_default-clause-witnesses : goal.returns-in_default-clause-witnesses
returns-in_default-clause-witnesses g c =
    out_stays c.args.self.now (known_of c.args.self.now (g.K.View.known c.args.kept.now) c.args.marks.now) c.args.other c.args.witnesses.now c.take.new.self c.take.ensures.left

pub returns-in_default-get-clause-witnesses : goal.returns-in_default-get-clause-witnesses
returns-in_default-get-clause-witnesses g c =
    out_stays c.args.self.now (known_of c.args.self.now (g.K.View.known c.args.kept.now) c.args.marks.now) c.args.other c.args.witnesses.now c.take.new.self c.take.ensures.left

pub returns-then-not-branch-clause-witnesses : goal.returns-then-not-branch-clause-witnesses
returns-then-not-branch-clause-witnesses g c =
    out_stays c.args.self.now (known_of c.args.self.now (g.K.View.known c.args.kept.now) c.args.marks.now) c.args.other c.args.witnesses.now c.take.new.self c.take.ensures.left

pub stands-requires-clause-shows : goal.stands-requires-clause-shows
stands-requires-clause-shows g c =
    subst (λ w. IsWitnessBut c.args.self.now (known_of c.args.self.now (g.K.View.known c.args.kept.now) c.args.marks.now) c.args.gone c.in-Some-get.pair.now w) (sym c.deref_mut.ensures.value)
    (c.requires.shows c.in-Some.witness.value c.in-Some-get.pair.now c.in-Some.ensures.taken (table_read c.args.self.now c.as_slice.result.now c.args.other c.in-Some-get.pair.now c.as_slice.ensures c.in-Some-get.ensures.lookup.0 c.in-Some-get.ensures.lookup.1))

pub returns-clause-shown : goal.returns-clause-shown
returns-clause-shown g c =
    can_at c.args.self.now (known_of c.args.self.now (g.K.View.known c.args.kept.now) c.args.marks.now) c.args.other c.in-Some-get.pair.now _ (table_read c.args.self.now c.as_slice.result.now c.args.other c.in-Some-get.pair.now c.as_slice.ensures c.in-Some-get.ensures.lookup.0 c.in-Some-get.ensures.lookup.1) (OnTrue_at c.if-not-branch.false c.in_ok-stands.ensures)

pub returns-clause-witnesses : goal.returns-clause-witnesses
returns-clause-witnesses g c =
    back_stays c.args.self.now (known_of c.args.self.now (g.K.View.known c.args.kept.now) c.args.marks.now) c.args.other c.args.witnesses.now c.take.new.self c.take.ensures.left c.in-Some-get.pair.now (table_read c.args.self.now c.as_slice.result.now c.args.other c.in-Some-get.pair.now c.as_slice.ensures c.in-Some-get.ensures.lookup.0 c.in-Some-get.ensures.lookup.1) _
    (OnTrue_at c.if-not-branch.false c.in_ok-stands.ensures) c.put.new.self c.in_ok-put.ensures
