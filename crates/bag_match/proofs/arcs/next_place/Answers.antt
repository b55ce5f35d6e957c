use Rattle.std.proofs.Common.{arith, sym, ◌∙◌}
use Rattle.schema_tree.specs.Relevant.{is_relevant}
use Rattle.bag_match.proofs.Runs.{one_passed, run_passed}
use Rattle.bag_match.proofs.arcs.next_place.Goals as goal

pub returns-then-have_predicate-clause-passed : goal.returns-then-have_predicate-clause-passed
returns-then-have_predicate-clause-passed c n t here fails =
    one_passed (is_relevant c.args.occs.now n) c.args.triples.now c.args.at t (omega (arith, c.requires.at, c.requires.end)) here fails

pub returns-else-have_predicate-clause-passed : goal.returns-else-have_predicate-clause-passed
returns-else-have_predicate-clause-passed c n t here fails =
    run_passed c.args.occs.now n c.args.triples.now c.args.at c.last_alike.result c.args.end c.at.result.now c.last_alike.ensures.from c.last_alike.ensures.within c.requires.end
    c.requires.runs c.at.ensures (sym c.have_predicate.ensures ∙ c.if-have_predicate.false) c.last_alike.ensures.alike
