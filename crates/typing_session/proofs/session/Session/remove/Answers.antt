use Rattle.std.proofs.Common.{Contains, refl, subst, sym}
use Rattle.std.specs.Prelude.{◌↔◌}
use Rattle.typing_session.specs.Edits.{Loses, ReachesEnd}
use Rattle.typing_session.specs.Kept.{pairs_of}
use Rattle.typing_session.specs.Seen.{Seen}
use Rattle.typing_session.proofs.Losing.{held_removed, loses, loses_by, sound_removed, taken_out}
use Rattle.typing_session.proofs.session.Session.remove.Goals as goal

pub reaching-requires-clause-there : goal.reaching-requires-clause-there
reaching-requires-clause-there c = c.self.invariant.3

pub reaching-requires-clause-shapes : goal.reaching-requires-clause-shapes
reaching-requires-clause-shapes c = λ q h. (c.self.invariant.2.of_both q h).shape

pub invariant_of-self-2 : goal.invariant_of-self-2
invariant_of-self-2 c = (
  c.self.invariant.0,
  held_removed c.self.inside.terms c.self.inside.graph c.remove_sealed.new.self c.args.triple c.self.invariant.1 c.remove_sealed.ensures.sealed (taken_out _ c.self.inside.graph.triples c.remove_sealed.new.self.triples c.args.triple (c.if-not-holds.ensures.0 refl) c.in_ok-remove_sealed.ensures.held c.in_ok-remove_sealed.ensures.removed),
  sound_removed c.self.inside.schema c.self.inside.terms c.self.inside.strata c.self.inside.budget c.args.triple c.self.inside.kept c.forget_all.new.self c.as_slice.result.now c.forget_all.ensures.gone c.forget_all.ensures.others c.self.inside.graph c.remove_sealed.new.self
      (λ q. subst (λ xs. Contains xs q ↔ (Contains (pairs_of c.self.inside.kept) q ×
      ReachesEnd c.self.inside.schema c.self.inside.graph.triples c.args.triple q)) (sym c.as_slice.ensures) (c.in_ok-lost.ensures.reaching q))
      c.edits_are_local.ensures.verdicts c.self.invariant.0.loaded c.forget_all.ensures.distinct c.len-held.ensures.distinct c.remove_sealed.ensures.distinct c.self.invariant.2
      (taken_out _ c.self.inside.graph.triples c.remove_sealed.new.self.triples c.args.triple (c.if-not-holds.ensures.0 refl) c.in_ok-remove_sealed.ensures.held c.in_ok-remove_sealed.ensures.removed),
  c.reaching.ensures.there,
)

pub returns-clause-held : goal.returns-clause-held
returns-clause-held c = ((λ h. subst (λ (x : Seen). Contains x.graph c.args.triple) c.self.view_is (c.if-not-holds.ensures.0 refl)), (λ h. refl))

pub returns-clause-loses : goal.returns-clause-loses
returns-clause-loses c =
    subst (λ (x : Seen). Loses x.schema x.graph c.args.triple x.kept (pairs_of c.forget_all.new.self)) c.self.view_is
    (loses c.self.inside.schema c.args.triple c.self.inside.kept c.forget_all.new.self c.as_slice.result.now c.forget_all.ensures.gone c.forget_all.ensures.others c.self.inside.graph.triples
    (λ q. subst (λ xs. Contains xs q ↔ (Contains (pairs_of c.self.inside.kept) q ×
    ReachesEnd c.self.inside.schema c.self.inside.graph.triples c.args.triple q)) (sym c.as_slice.ensures) (c.in_ok-lost.ensures.reaching q)))

pub returns-clause-loses_after : goal.returns-clause-loses_after
returns-clause-loses_after c =
    subst (λ (x : Seen). Loses x.schema c.remove_sealed.new.self.triples c.args.triple x.kept (pairs_of c.forget_all.new.self)) c.self.view_is
    (loses_by c.self.inside.schema c.args.triple c.self.inside.kept c.forget_all.new.self c.as_slice.result.now c.forget_all.ensures.gone c.forget_all.ensures.others c.self.inside.graph.triples
    (λ q. subst (λ xs. Contains xs q ↔ (Contains (pairs_of c.self.inside.kept) q ×
    ReachesEnd c.self.inside.schema c.self.inside.graph.triples c.args.triple q)) (sym c.as_slice.ensures) (c.in_ok-lost.ensures.reaching q))
    c.remove_sealed.new.self.triples
    (λ p. let e = c.edits_are_local.ensures.reach c.self.inside.schema c.self.inside.graph.triples c.remove_sealed.new.self.triples c.args.triple (taken_out _ c.self.inside.graph.triples c.remove_sealed.new.self.triples c.args.triple (c.if-not-holds.ensures.0 refl) c.in_ok-remove_sealed.ensures.held c.in_ok-remove_sealed.ensures.removed) p in (e.1, e.0)))
