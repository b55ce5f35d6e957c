use Rattle.std.proofs.Common.{List, ◌∙◌, ◌≤◌, length, subst}
use Rattle.rdf_terms.specs.declared.terms.Triple.{Triple}
use Rattle.graph_index.specs.Rows.{by_texts}
use Rattle.graph_index.proofs.Inserted.{IsPlace, goes_to}
use Rattle.graph_index.proofs.Permuted.{texts_total}
use Rattle.graph_index.proofs.node_rows.put_among.Goals as goal

pub returns : goal.returns
returns c =
    c.in-Ok.ensures.items
    ∙ goes_to (by_texts c.args.end c.args.terms.now) (texts_total c.args.end c.args.terms.now) c.args.t c.args.rows.now.items c.place_among-place.result
    (subst (λ (v : List Triple). c.place_among-place.result ≤ length v) c.as_slice.ensures.value c.place_among-place.ensures.within)
    (subst (λ (v : List Triple). IsPlace (by_texts c.args.end c.args.terms.now) (texts_total c.args.end c.args.terms.now) c.args.t v c.place_among-place.result) c.as_slice.ensures.value c.place_among-place.ensures.point)
