use Rattle.std.proofs.Common.{◌∙◌, inl, map, ap, refl, length, arith, subst, sym}
use Rattle.std.proofs.lemmas.List.{map-append}
use Rattle.schema_tree.specs.declared.verdicts.Verdict.TheVariants.{No, Unknown}
use Rattle.typing_refiner.proofs.Removals.{IsPlaced, further_as, still}
use Rattle.typing_refiner.proofs.Gone.{one_more_gone}
use Rattle.typing_refiner.proofs.Steps.{all_wait, fewer_left, nearer, unknown_no}
use Rattle.typing_refiner.proofs.Spending.{changed}
use Rattle.typing_refiner.proofs.ground.Ground.remove_next.Goals as goal

pub returns-in_ok-remember-in-Placed-clause-looked : goal.returns-in_ok-remember-in-Placed-clause-looked
returns-in_ok-remember-in-Placed-clause-looked g c =
    λ lower r. still c.args.self.now c.requires.ready _ lower c.args.stratum c.args.marks.now _ c.args.at c.args.pending.now.agenda r c.in_ok-places.field-0
    c.in_ok-places.ensures.found (subst IsPlaced (sym c.in-Placed.is) tt)

pub returns-in_ok-remember-in-Placed-clause-all : goal.returns-in_ok-remember-in-Placed-clause-all
returns-in_ok-remember-in-Placed-clause-all g c = c.requires.all

pub returns-in_ok-remember-in-Placed-clause-nearer : goal.returns-in_ok-remember-in-Placed-clause-nearer
returns-in_ok-remember-in-Placed-clause-nearer g c = inl (refl, refl)

pub returns-in_ok-put_back_unshown-in-Goes-clause-looked : goal.returns-in_ok-put_back_unshown-in-Goes-clause-looked
returns-in_ok-put_back_unshown-in-Goes-clause-looked g c =
    λ lower r. further_as c.args.self.now c.requires.ready _ lower c.args.stratum c.args.marks.now _ c.args.at c.args.pending.now.agenda r c.in_ok-places.field-0
    c.in_ok-places.ensures.found c.in-Goes.states c.in-Goes.is c.requires.least c.removed-removed.result.pair c.removed-removed.ensures.pair
    c.set_mark.new.marks c.set_mark.ensures _ (ap (λ rs. map (λ r. r.pair) rs) c.in_ok-push-in-Goes.ensures.items ∙ map-append (λ r. r.pair) c.args.gone.now.items _)
    c.put_back_unshown.new.pending.agenda c.in_ok-put_back_unshown-in-Goes.ensures.put c.in_ok-put_back_unshown-in-Goes.ensures.kept c.in_ok-put_back_unshown-in-Goes.ensures.settled

pub returns-in_ok-put_back_unshown-in-Goes-clause-all : goal.returns-in_ok-put_back_unshown-in-Goes-clause-all
returns-in_ok-put_back_unshown-in-Goes-clause-all g c =
    all_wait c.args.self.now c.args.stratum Unknown No unknown_no c.args.marks.now c.args.at c.args.pending.now.agenda c.put_back_unshown.new.pending.agenda c.set_mark.new.marks c.set_mark.ensures
    c.requires.waits c.requires.least c.requires.all c.in_ok-put_back_unshown-in-Goes.ensures.put

pub returns-in_ok-put_back_unshown-in-Goes-clause-nearer : goal.returns-in_ok-put_back_unshown-in-Goes-clause-nearer
returns-in_ok-put_back_unshown-in-Goes-clause-nearer g c =
    nearer c.args.self.now c.args.stratum Unknown No unknown_no c.args.marks.now c.args.at c.args.pending.now.agenda c.put_back_unshown.new.pending.agenda c.set_mark.new.marks c.set_mark.ensures
    c.requires.waits c.requires.least c.requires.all c.in_ok-put_back_unshown-in-Goes.ensures.put c.len-count.ensures.few

pub returns-in_ok-put_back_unshown-in-Goes-clause-paid : goal.returns-in_ok-put_back_unshown-in-Goes-clause-paid
returns-in_ok-put_back_unshown-in-Goes-clause-paid g c = λ width give.
    let less = changed c.args.self.now width c.args.stratum Unknown No unknown_no c.args.marks.now c.args.at c.args.pending.now.agenda c.put_back_unshown.new.pending.agenda c.set_mark.new.marks c.set_mark.ensures
    c.requires.waits c.in_ok-put_back_unshown-in-Goes.ensures.put in
    let spent = c.in_ok-places.ensures.spent width give in omega (arith, less, spent)

pub returns-in_ok-remember-in-Placed-clause-states : goal.returns-in_ok-remember-in-Placed-clause-states
returns-in_ok-remember-in-Placed-clause-states g c = λ lower r all. all

pub removed-removed-requires-clause-few : goal.removed-removed-requires-clause-few
removed-removed-requires-clause-few g c =
    let e = ap length c.as_slice-in-Goes.ensures.value in let f = c.requires.ready.few in let l = c.requires.few in omega (arith, e, f, l)

pub returns-in_ok-put_back_unshown-in-Goes-clause-few : goal.returns-in_ok-put_back_unshown-in-Goes-clause-few
returns-in_ok-put_back_unshown-in-Goes-clause-few g c =
    fewer_left Unknown No unknown_no c.args.marks.now c.args.at c.set_mark.new.marks c.set_mark.ensures c.requires.waits.1 c.args.gone.now.items c.push.new.self.items _ c.in_ok-push-in-Goes.ensures.items

pub returns-in_ok-put_back_unshown-in-Goes-clause-states : goal.returns-in_ok-put_back_unshown-in-Goes-clause-states
returns-in_ok-put_back_unshown-in-Goes-clause-states g c =
    λ lower r all. one_more_gone c.args.self.now _ lower c.args.stratum c.args.marks.now c.args.gone.now.items c.push.new.self.items _
    c.removed-removed.result c.in_ok-places.field-0 r all c.args.at c.removed-removed.ensures.at c.in_ok-places.ensures.found c.removed-removed.ensures.pair c.in-Goes.states c.in-Goes.is
    c.removed-removed.ensures.states (let e = ap length c.as_slice-in-Goes.ensures.value in let n = c.removed-removed.ensures.rank in omega (arith, e, n)) c.in_ok-push-in-Goes.ensures.items

pub put_back_unshown-requires-clause-shows : goal.put_back_unshown-requires-clause-shows
put_back_unshown-requires-clause-shows g c = (c.args.marks.now, c.set_mark.ensures, c.requires.waits.1, c.requires.shows)
