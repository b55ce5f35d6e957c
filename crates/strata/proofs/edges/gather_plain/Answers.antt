use Rattle.std.proofs.Common.{◌≡◌, ◌<◌, ◌⊎◌, ℕ, inr, refl, false, true, sym, subst, arith, ap, length, Contains}
use Rattle.std.specs.Prelude.{◌↔◌, Some}
use Rattle.agenda.proofs.Bounds.{falls}
use Rattle.schema_tree.specs.declared.schema.ExprId.{ExprId}
use Rattle.schema_tree.specs.Entries.{entry}
use Rattle.strata.specs.Gathers.{FromEntry, FromOwn, FromSome}
use Rattle.strata.proofs.Grown.{entry_in}
use Rattle.strata.proofs.Opened.{further_below, member_below, negated_below, one_below, owes_less, plain_begins, plain_ends, plain_opened, put_below}
use Rattle.strata.proofs.edges.gather_plain.Goals as goal

pub loop-next-init : goal.loop-next-init
loop-next-init c =
    let put = subst (λ xs. (q : ℕ) → Contains c.put.new.self q ↔ (Contains xs q ⊎ (q ≡ c.args.e.0))) c.new-agenda.ensures c.in_ok-put.ensures in
    record {
      owes = plain_begins c.args.s.now c.args.from c.args.e c.put.new.self c.new-negated.result put c.new-negated.ensures c.args.arcs.now.items;
      below = one_below (length c.args.s.now.exprs) c.args.e.0 c.put.new.self put (omega (arith, c.requires.there));
      there = subst (λ xs. (q : ℕ) → Contains xs q → q < length c.args.s.now.exprs) (sym c.new-negated.ensures) (λ q none. absurd (omega (arith, none.1)));
    }

pub bounds-as_slice-next : goal.bounds-as_slice-next
bounds-as_slice-next c =
    let inside : c.in-Some.next < length c.args.s.now.exprs = c.loop-next.invariant.below c.in-Some.next ((c.in-Some.ensures.taken c.in-Some.next).1 (inr refl)) in
    omega (arith, inside, ap length c.as_slice.ensures)

pub loop-next-smaller : goal.loop-next-smaller
loop-next-smaller c =
    let e : ExprId = record { 0 = c.in-Some.next } in
    let inside : c.in-Some.next < length c.args.s.now.exprs = c.loop-next.invariant.below c.in-Some.next ((c.in-Some.ensures.taken c.in-Some.next).1 (inr refl)) in
    let is : entry c.args.s.now e ≡ Some c.index-as_slice-next.result =
    entry_in c.args.s.now e c.as_slice.result.now c.index-as_slice-next.result c.index-as_slice-next.result c.as_slice.ensures c.index-as_slice-next.is refl inside in
    falls c.loop-next.agenda c.put_members.new.agenda c.in-Some.next ((c.in-Some.ensures.taken c.in-Some.next).1 (inr refl))
    (put_below c.in-Some.next c.take_greatest.new.self _ c.put_members.new.agenda c.in_ok-put_members.ensures c.in-Some.ensures.greatest (member_below c.args.s.now c.requires.loaded e c.index-as_slice-next.result is))

pub loop-next-preserved : goal.loop-next-preserved
loop-next-preserved c =
    let e : ExprId = record { 0 = c.in-Some.next } in
    let inside : c.in-Some.next < length c.args.s.now.exprs = c.loop-next.invariant.below c.in-Some.next ((c.in-Some.ensures.taken c.in-Some.next).1 (inr refl)) in
    let is : entry c.args.s.now e ≡ Some c.index-as_slice-next.result =
    entry_in c.args.s.now e c.as_slice.result.now c.index-as_slice-next.result c.index-as_slice-next.result c.as_slice.ensures c.index-as_slice-next.is refl inside in
    record {
      owes = owes_less (FromEntry c.args.s.now c.args.from false c.args.e)
          (λ a. FromSome c.args.s.now c.args.from false c.loop-next.agenda a ⊎ FromSome c.args.s.now c.args.from true c.loop-next.negated a)
          (FromOwn c.args.from false (Some c.index-as_slice-next.result))
          (λ a. FromSome c.args.s.now c.args.from false c.put_members.new.agenda a ⊎ FromSome c.args.s.now c.args.from true c.put_negated.new.agenda a)
          c.args.arcs.now.items c.loop-next.arcs.items c.push_own.new.arcs.items c.loop-next.invariant.owes
          (plain_opened c.args.s.now c.args.from e (Some c.index-as_slice-next.result) is c.loop-next.agenda c.take_greatest.new.self c.put_members.new.agenda c.loop-next.negated c.put_negated.new.agenda
          c.in-Some.ensures.taken c.in_ok-put_members.ensures c.in_ok-put_negated.ensures)
          c.in_ok-push_own.ensures;
      below = further_below c.in-Some.next (length c.args.s.now.exprs) c.put_members.new.agenda inside
          (put_below c.in-Some.next c.take_greatest.new.self _ c.put_members.new.agenda c.in_ok-put_members.ensures c.in-Some.ensures.greatest (member_below c.args.s.now c.requires.loaded e c.index-as_slice-next.result is));
      there = put_below (length c.args.s.now.exprs) c.loop-next.negated _ c.put_negated.new.agenda c.in_ok-put_negated.ensures c.loop-next.invariant.there
          (further_below c.in-Some.next (length c.args.s.now.exprs) _ inside (negated_below c.args.s.now c.requires.loaded e c.index-as_slice-next.result is));
    }

pub returns : goal.returns
returns c =
    plain_ends c.args.s.now c.args.from c.args.e c.loop-next.agenda c.loop-next.negated c.args.arcs.now.items c.loop-next.arcs.items (c.in_default.ensures.none refl) c.loop-next.invariant.owes c.loop-next.invariant.there
