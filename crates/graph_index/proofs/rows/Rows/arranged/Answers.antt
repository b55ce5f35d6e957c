use Rattle.std.proofs.Common.{◌∙◌}
use Rattle.graph_index.proofs.KeptUp.{fresh_kept, lent_arranged}
use Rattle.graph_index.proofs.Lent.{both_arranged}
use Rattle.graph_index.proofs.rows.Rows.arranged.Goals as goal

pub invariant_of-result : goal.invariant_of-result
invariant_of-result c =
    fresh_kept c.in_ok-places.places.items c.as_slice.result.now c.as_slice-2.result.now c.args.triples.now c.in_ok-outward.outward.rows.items c.in_ok-inward.inward.rows.items c.in_ok-into_others.into_others.rows.items
    c.over.result c.over-2.result c.over-3.result c.as_slice.ensures.value c.as_slice-2.ensures.value c.in_ok-places.ensures.apart c.in_ok-places.ensures.placed c.in_ok-outward.ensures.rows c.in_ok-inward.ensures.rows
    c.in_ok-into_others.ensures.rows (c.over.ensures.end ∙ c.in_ok-outward.ensures.end) (c.over-2.ensures.end ∙ c.in_ok-inward.ensures.end)
    (c.over-3.ensures.end ∙ c.in_ok-into_others.ensures.end ∙ c.in_ok-inward.ensures.end)
    c.over.ensures.sealed c.over-2.ensures.sealed c.over-2.ensures.rows c.over-3.ensures.rows

pub returns : goal.returns
returns c =
    lent_arranged c.args.terms.now c.args.triples.now c.in_ok-outward.outward.rows.items c.in_ok-inward.inward.rows.items c.over.result.rows c.over-2.result.rows c.over.ensures.rows c.over-2.ensures.rows
    (both_arranged c.args.terms.now c.in_ok-places.places.items c.as_slice.result.now c.as_slice-2.result.now c.args.triples.now c.in_ok-outward.outward.rows.items c.in_ok-inward.inward.rows.items
    c.as_slice.ensures.value c.as_slice-2.ensures.value c.in_ok-places.ensures.texts c.in_ok-places.ensures.placed c.in_ok-outward.ensures.rows c.in_ok-inward.ensures.rows)
