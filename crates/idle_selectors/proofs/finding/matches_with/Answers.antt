use Rattle.std.proofs.Common.{◌≡◌, None, refl, rules}
use Rattle.lists.proofs.Tests.{neither}
use Rattle.idle_selectors.specs.Idle.{HasMatch}
use Rattle.idle_selectors.proofs.Found.{matches_any, matches_none, matches_one, used_in}
use Rattle.idle_selectors.proofs.finding.matches_with.Goals as goal

pub returns-in_default : goal.returns-in_default
returns-in_default c =
    let any : c.args.pattern.now.other ≡ None = search rules in
    matches_any c.args.terms.now c.args.graph.now.triples c.args.pattern.now c.distinct_terms.ensures c.args.predicate c.requires.predicate any c.is_used.result
    (used_in c.triples.result.now c.args.graph.now.triples c.args.predicate c.is_used.result c.triples.ensures c.is_used.ensures)

pub returns-in-Some-find : goal.returns-in-Some-find
returns-in-Some-find c =
    matches_one c.args.terms.now c.args.graph.now.triples c.args.pattern.now c.distinct_terms.ensures c.args.predicate c.requires.predicate _ c.in-Some.is c.in-Some-find.other c.in-Some-find.ensures.found _ c.is_beside.ensures

pub returns-in-None : goal.returns-in-None
returns-in-None c =
    neither (HasMatch c.args.terms.now c.args.graph.now.triples c.args.pattern.now)
    (matches_none c.args.terms.now c.args.graph.now.triples c.args.pattern.now _ c.in-Some.is (c.in-None.ensures.absent.0 refl))
