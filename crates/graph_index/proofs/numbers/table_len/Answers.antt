use Rattle.std.proofs.Common.{◌≤◌, arith}
use Rattle.std.proofs.lemmas.Grind.{common_steps}
use Rattle.std.proofs.lemmas.List.{get_or_default}
use Rattle.graph_index.proofs.Noted.{below_more, below_up}
use Rattle.graph_index.proofs.numbers.table_len.Goals as goal

pub loop-triple-preserved : goal.loop-triple-preserved
loop-triple-preserved c =
    let longer : c.loop-triple.len ≤ c.max-len.result = grind (arith, common_steps) in
    let fits : c.len_for.result ≤ c.max-len.result = grind (arith, common_steps) in
    below_more c.args.triples.now c.loop-triple.triple-index c.loop-triple.len c.max-len.result _ c.loop-triple.invariant
    (λ d. get_or_default c.args.triples.now c.loop-triple.triple-index _ d c.loop-triple-test.true) longer (below_up c.len_for.result c.max-len.result _ fits c.len_for.ensures)
