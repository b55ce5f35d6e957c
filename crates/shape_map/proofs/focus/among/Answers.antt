use Rattle.std.proofs.Common.{[], refl}
use Rattle.shape_map.proofs.Focused.{some_among, none_among}
use Rattle.shape_map.proofs.focus.among.Goals as goal

pub returns-in-Some-find : goal.returns-in-Some-find
returns-in-Some-find c =
    some_among c.args.terms.now c.args.graph.now.triples c.args.pattern.now c.distinct_terms.ensures.distinct c.args.predicate _ c.in-Some.is c.in-Some-find.other c.in-Some-find.ensures.found _ c.beside.ensures

pub returns-in-None : goal.returns-in-None
returns-in-None c = none_among c.args.terms.now c.args.graph.now.triples c.args.pattern.now c.args.predicate _ c.in-Some.is (c.in-None.ensures.absent.0 refl) [] refl
