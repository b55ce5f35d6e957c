use Rattle.std.proofs.Common.{map, subst, sym}
use Rattle.typing_session.specs.Kept.{pairs_of}
use Rattle.typing_session.specs.References.{AreReferences}
use Rattle.typing_session.specs.Uses.{AreUsesByValue}
use Rattle.typing_session.proofs.Referring.{of_held, there}
use Rattle.typing_session.proofs.Spreading.{met_exactly}
use Rattle.typing_session.proofs.reaching.reaching.Goals as goal

pub found_references-requires : goal.found_references-requires
found_references-requires c = there _ _ c.in_ok-find_references.ensures.found

pub spread-requires-clause-uses : goal.spread-requires-clause-uses
spread-requires-clause-uses c =
    subst (λ lists. AreUsesByValue c.args.schema.now (map (λ l. l.items) lists)) (sym c.as_slice-uses.ensures.value)
    (of_held (AreReferences c.args.schema.now) _ _ c.found_references.ensures c.in_ok-find_references.ensures.found).uses

pub spread-requires-clause-within : goal.spread-requires-clause-within
spread-requires-clause-within c = λ q h. ((c.in_ok-met.ensures q).0 h).0

pub returns-clause-reaching : goal.returns-clause-reaching
returns-clause-reaching c =
    met_exactly c.args.schema.now c.args.graph.now.triples (pairs_of c.args.kept.now) c.args.triple c.in_ok-met.met c.spread.new.met c.requires.closed c.in_ok-met.ensures c.in_ok-spread.ensures.spread
    c.in_ok-spread.ensures.whole
