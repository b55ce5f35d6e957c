use Rattle.std.proofs.Common.{Contains, subst, sym, true≢false}
use Rattle.std.specs.Prelude.{◌↔◌}
use Rattle.graph_index.specs.Laws.{IsOfTable}
use Rattle.typing_session.specs.Edits.{Loses, ReachesEnd}
use Rattle.typing_session.specs.Kept.{pairs_of}
use Rattle.typing_session.specs.Seen.{Seen}
use Rattle.typing_session.proofs.Losing.{added_last, held_added, last_edit, loses, loses_by, sound_added}
use Rattle.typing_session.proofs.session.Session.add.Goals as goal

pub reaching-requires-clause-there : goal.reaching-requires-clause-there
reaching-requires-clause-there c = c.self.invariant.3

pub reaching-requires-clause-shapes : goal.reaching-requires-clause-shapes
reaching-requires-clause-shapes c = λ q h. (c.self.invariant.2.of_both q h).shape

pub invariant_of-self-2 : goal.invariant_of-self-2
invariant_of-self-2 c =
    let last = added_last c.self.inside.graph.triples c.insert_sealed.new.self.triples c.args.triple (λ h. true≢false (sym (c.if-holds.ensures.1 h))) c.in_ok-insert_sealed.ensures.added in
    let of = subst (λ (x : Seen). IsOfTable x.terms c.args.triple) (sym c.self.view_is) c.requires.ids in (
      c.self.invariant.0,
      held_added c.self.inside.terms c.self.inside.graph c.insert_sealed.new.self c.args.triple c.self.invariant.1 of c.insert_sealed.ensures.sealed last,
      sound_added c.self.inside.schema c.self.inside.terms c.self.inside.strata c.self.inside.budget c.args.triple c.self.inside.kept c.forget_all.new.self c.as_slice.result.now c.forget_all.ensures.gone c.forget_all.ensures.others c.self.inside.graph c.insert_sealed.new.self
          (λ q. subst (λ xs. Contains xs q ↔ (Contains (pairs_of c.self.inside.kept) q ×
          ReachesEnd c.self.inside.schema c.self.inside.graph.triples c.args.triple q)) (sym c.as_slice.ensures) (c.in-Ok.ensures.reaching q))
          c.edits_are_local.ensures.verdicts c.self.invariant.0.loaded c.forget_all.ensures.distinct c.len.ensures.distinct c.insert_sealed.ensures.distinct c.self.invariant.2
          (last_edit c.self.inside.graph.triples c.insert_sealed.new.self.triples c.args.triple last),
      c.reaching.ensures.there,
    )

pub returns-clause-loses : goal.returns-clause-loses
returns-clause-loses c =
    subst (λ (x : Seen). Loses x.schema x.graph c.args.triple x.kept (pairs_of c.forget_all.new.self)) c.self.view_is
    (loses c.self.inside.schema c.args.triple c.self.inside.kept c.forget_all.new.self c.as_slice.result.now c.forget_all.ensures.gone c.forget_all.ensures.others c.self.inside.graph.triples
    (λ q. subst (λ xs. Contains xs q ↔ (Contains (pairs_of c.self.inside.kept) q ×
    ReachesEnd c.self.inside.schema c.self.inside.graph.triples c.args.triple q)) (sym c.as_slice.ensures) (c.in-Ok.ensures.reaching q)))

pub returns-clause-loses_after : goal.returns-clause-loses_after
returns-clause-loses_after c =
    subst (λ (x : Seen). Loses x.schema c.insert_sealed.new.self.triples c.args.triple x.kept (pairs_of c.forget_all.new.self)) c.self.view_is
    (loses_by c.self.inside.schema c.args.triple c.self.inside.kept c.forget_all.new.self c.as_slice.result.now c.forget_all.ensures.gone c.forget_all.ensures.others c.self.inside.graph.triples
    (λ q. subst (λ xs. Contains xs q ↔ (Contains (pairs_of c.self.inside.kept) q ×
    ReachesEnd c.self.inside.schema c.self.inside.graph.triples c.args.triple q)) (sym c.as_slice.ensures) (c.in-Ok.ensures.reaching q))
    c.insert_sealed.new.self.triples
    (λ p. c.edits_are_local.ensures.reach c.self.inside.schema c.insert_sealed.new.self.triples c.self.inside.graph.triples c.args.triple
    (last_edit c.self.inside.graph.triples c.insert_sealed.new.self.triples c.args.triple
    (added_last c.self.inside.graph.triples c.insert_sealed.new.self.triples c.args.triple (λ h. true≢false (sym (c.if-holds.ensures.1 h))) c.in_ok-insert_sealed.ensures.added)) p))
