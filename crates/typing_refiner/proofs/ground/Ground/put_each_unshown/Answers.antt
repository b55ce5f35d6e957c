use Rattle.std.proofs.Common.{Contains, subst, sym, drop}
use Rattle.std.proofs.lemmas.List.{take_all}
use Rattle.std.specs.Prelude.{Some}
use Rattle.typing_refiner.specs.Ready.{known_of}
use Rattle.typing_refiner.proofs.Upheld.{but_at, next_but, none_but, put_next, settled_next}
use Rattle.typing_refiner.proofs.ground.Ground.put_each_unshown.Goals as goal

pub put_unshown-requires-clause-shows : goal.put_unshown-requires-clause-shows
put_unshown-requires-clause-shows g c = λ w p.
    but_at c.args.self.now (known_of c.args.self.now (g.K.View.known c.args.kept.now) c.args.marks.now) c.args.gone (Some (drop c.loop-other.other-index c.args.numbers.now)) c.loop-other.pending.witnesses c.loop-other.invariant.shows _ w p

pub loop-other-preserved : goal.loop-other-preserved
loop-other-preserved g c = record {
  shows = next_but c.args.self.now (known_of c.args.self.now (g.K.View.known c.args.kept.now) c.args.marks.now) c.args.gone c.args.numbers.now c.loop-other.other-index c.loop-other.pending.witnesses _ c.loop-other-test.true c.loop-other.invariant.shows c.in_ok-put_unshown.ensures.witnesses;
  put = put_next c.args.self.now (known_of c.args.self.now (g.K.View.known c.args.kept.now) c.args.marks.now) c.args.stratum c.args.marks.now c.args.numbers.now c.loop-other.other-index c.loop-other-test.true c.args.pending.now.agenda c.loop-other.pending.agenda _ c.loop-other.invariant.put c.in_ok-put_unshown.ensures.put;
  kept = λ q b. c.in_ok-put_unshown.ensures.kept q (c.loop-other.invariant.kept q b);
  settled = settled_next c.args.self.now (known_of c.args.self.now (g.K.View.known c.args.kept.now) c.args.marks.now) c.args.stratum c.args.marks.now c.args.numbers.now c.loop-other.other-index c.loop-other-test.true c.args.pending.now.agenda c.loop-other.pending.agenda _ c.loop-other.invariant.settled
      c.in_ok-put_unshown.ensures.kept c.in_ok-put_unshown.ensures.settled;
}

pub returns-clause-shows : goal.returns-clause-shows
returns-clause-shows g c =
    none_but c.args.self.now (known_of c.args.self.now (g.K.View.known c.args.kept.now) c.args.marks.now) c.args.gone c.args.numbers.now c.loop-other.other-index c.loop-other.pending.witnesses c.loop-other-test.false c.loop-other.invariant.shows

pub returns-clause-settled : goal.returns-clause-settled
returns-clause-settled g c = λ q h w.
    c.loop-other.invariant.settled q (subst (λ xs. Contains xs q) (sym (take_all c.loop-other.other-index c.args.numbers.now c.loop-other-test.false)) h) w
