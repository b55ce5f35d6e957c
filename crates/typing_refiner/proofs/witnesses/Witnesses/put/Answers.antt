use Rattle.std.proofs.Common.{◌∙◌, arith, ap, cond, inl, inr, length}
use Rattle.std.specs.Map.{lookup}
use Rattle.std.specs.Prelude.{Some, nat_eq}
use Rattle.indexmap.proofs.CallerLemmas.{insert_entry-new}
use Rattle.typing_refiner.specs.Holding.{triples_of}
use Rattle.typing_refiner.proofs.Stored.{gone_from, more_triples, put_there}
use Rattle.typing_refiner.proofs.witnesses.Witnesses.put.Goals as goal

pub returns-then-not-has_room : goal.returns-then-not-has_room
returns-then-not-has_room c = λ i w holds. inl (c.take.ensures.left i w holds).1

pub invariant_of-self-2 : goal.invariant_of-self-2
invariant_of-self-2 c =
    let own = c.self.invariant.0 in
    let same = ap triples_of c.self.view_is in
    let room = c.has_room.ensures.0 c.if-not-has_room.false in
    let none = ap (λ es. lookup (nat_eq c.args.at) es) c.self.view_is ∙ gone_from c.args.self.now c.take.new.self c.args.at c.take.ensures.left in
    let sum = more_triples c.self.inside.held.entries c.insert.new.self.entries c.args.at c.args.witness
    (c.in_ok-insert.ensures.entries ∙ insert_entry-new nat_eq c.self.inside.held c.args.at c.args.witness none) in
    let count = c.len-triples.ensures ∙ ap (λ w. length w.triples) c.deref.ensures in
    (omega (arith, own, sum, count), omega (arith, own, same, room))

pub returns : goal.returns
returns c = λ i w holds.
    elim (put_there c.take.new.self c.insert.new.self.entries c.args.at c.args.witness (λ q. c.in_ok-insert.ensures.updates.0 q
    ∙ ap (λ es. cond (nat_eq c.args.at q) (Some c.args.witness) (lookup (nat_eq q) es)) c.self.view_is) i w holds) [
      | inl o ↦ inl (c.take.ensures.left i w o).1
      | inr t ↦ inr t
    ]
