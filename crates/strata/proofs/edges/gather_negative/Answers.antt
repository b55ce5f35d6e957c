use Rattle.std.proofs.Common.{◌≡◌, ◌<◌, inr, refl, true, arith, ap, length}
use Rattle.std.specs.Prelude.{Some}
use Rattle.agenda.proofs.Bounds.{falls}
use Rattle.schema_tree.specs.declared.schema.ExprId.{ExprId}
use Rattle.schema_tree.specs.Entries.{entry}
use Rattle.strata.specs.Gathers.{FromOwn, FromSome}
use Rattle.strata.proofs.Grown.{entry_in}
use Rattle.strata.proofs.Opened.{further_below, member_below, negated_below, negative_begins, negative_ends, negative_opened, owes_less, put_below}
use Rattle.strata.proofs.edges.gather_negative.Goals as goal

pub loop-next-init : goal.loop-next-init
loop-next-init c =
    record {
      owes = negative_begins c.args.s.now c.args.from c.args.agenda.now c.args.arcs.now.items;
      below = c.requires.there;
    }

pub bounds-as_slice-next : goal.bounds-as_slice-next
bounds-as_slice-next c =
    let inside : c.in-Some.next < length c.args.s.now.exprs = c.loop-next.invariant.below c.in-Some.next ((c.in-Some.ensures.taken c.in-Some.next).1 (inr refl)) in
    omega (arith, inside, ap length c.as_slice.ensures)

pub loop-next-smaller : goal.loop-next-smaller
loop-next-smaller c =
    let e : ExprId = record { 0 = c.in-Some.next } in
    let inside : c.in-Some.next < length c.args.s.now.exprs = c.loop-next.invariant.below c.in-Some.next ((c.in-Some.ensures.taken c.in-Some.next).1 (inr refl)) in
    let is : entry c.args.s.now e ≡ Some c.index-as_slice-next.result =
    entry_in c.args.s.now e c.as_slice.result.now c.index-as_slice-next.result c.index-as_slice-next.result c.as_slice.ensures c.index-as_slice-next.is refl inside in
    falls c.loop-next.agenda c.put_negated.new.agenda c.in-Some.next ((c.in-Some.ensures.taken c.in-Some.next).1 (inr refl))
    (put_below c.in-Some.next c.put_members.new.agenda _ c.put_negated.new.agenda c.in_ok-put_negated.ensures
    (put_below c.in-Some.next c.take_greatest.new.self _ c.put_members.new.agenda c.in_ok-put_members.ensures c.in-Some.ensures.greatest (member_below c.args.s.now c.requires.loaded e c.index-as_slice-next.result is))
    (negated_below c.args.s.now c.requires.loaded e c.index-as_slice-next.result is))

pub loop-next-preserved : goal.loop-next-preserved
loop-next-preserved c =
    let e : ExprId = record { 0 = c.in-Some.next } in
    let inside : c.in-Some.next < length c.args.s.now.exprs = c.loop-next.invariant.below c.in-Some.next ((c.in-Some.ensures.taken c.in-Some.next).1 (inr refl)) in
    let is : entry c.args.s.now e ≡ Some c.index-as_slice-next.result =
    entry_in c.args.s.now e c.as_slice.result.now c.index-as_slice-next.result c.index-as_slice-next.result c.as_slice.ensures c.index-as_slice-next.is refl inside in
    record {
      owes = owes_less (FromSome c.args.s.now c.args.from true c.args.agenda.now) (FromSome c.args.s.now c.args.from true c.loop-next.agenda)
          (FromOwn c.args.from true (Some c.index-as_slice-next.result)) (FromSome c.args.s.now c.args.from true c.put_negated.new.agenda)
          c.args.arcs.now.items c.loop-next.arcs.items c.push_own.new.arcs.items c.loop-next.invariant.owes
          (negative_opened c.args.s.now c.args.from e (Some c.index-as_slice-next.result) is c.loop-next.agenda c.take_greatest.new.self c.put_members.new.agenda c.put_negated.new.agenda
          c.in-Some.ensures.taken c.in_ok-put_members.ensures c.in_ok-put_negated.ensures)
          c.in_ok-push_own.ensures;
      below = further_below c.in-Some.next (length c.args.s.now.exprs) c.put_negated.new.agenda inside
          (put_below c.in-Some.next c.put_members.new.agenda _ c.put_negated.new.agenda c.in_ok-put_negated.ensures
          (put_below c.in-Some.next c.take_greatest.new.self _ c.put_members.new.agenda c.in_ok-put_members.ensures c.in-Some.ensures.greatest (member_below c.args.s.now c.requires.loaded e c.index-as_slice-next.result is))
          (negated_below c.args.s.now c.requires.loaded e c.index-as_slice-next.result is));
    }

pub returns : goal.returns
returns c =
    negative_ends c.args.s.now c.args.from c.args.agenda.now c.loop-next.agenda c.args.arcs.now.items c.loop-next.arcs.items (c.in_default.ensures.none refl) c.loop-next.invariant.owes
