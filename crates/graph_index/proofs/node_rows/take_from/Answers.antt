use Rattle.std.proofs.Common.{List, ◌∙◌, ◌∷◌, ◌≤◌, arith, length, subst}
use Rattle.rdf_terms.specs.declared.terms.Triple.{Triple}
use Rattle.graph_index.specs.Rows.{by_texts}
use Rattle.graph_index.proofs.Inserted.{IsPlace, out_of}
use Rattle.graph_index.proofs.Permuted.{texts_total}
use Rattle.graph_index.proofs.node_rows.take_from.Goals as goal

pub place_among-place-requires : goal.place_among-place-requires
place_among-place-requires c = (c.args.t ∷ c.requires.0, c.as_slice.ensures.value ∙ c.requires.1)

pub remove-requires : goal.remove-requires
remove-requires c =
    let inside = (out_of (by_texts c.args.end c.args.terms.now) (texts_total c.args.end c.args.terms.now) c.args.t c.as_slice.result.now c.requires.0 c.place_among-place.result
    (c.as_slice.ensures.value ∙ c.requires.1) c.place_among-place.ensures.within c.place_among-place.ensures.point).inside in
    let len = c.as_slice.ensures.len in
    omega (arith, inside, len)

pub returns : goal.returns
returns c = λ ts e.
    c.remove.ensures.items
    ∙ (out_of (by_texts c.args.end c.args.terms.now) (texts_total c.args.end c.args.terms.now) c.args.t c.args.rows.now.items ts c.place_among-place.result e
    (subst (λ (v : List Triple). c.place_among-place.result ≤ length v) c.as_slice.ensures.value c.place_among-place.ensures.within)
    (subst (λ (v : List Triple). IsPlace (by_texts c.args.end c.args.terms.now) (texts_total c.args.end c.args.terms.now) c.args.t v c.place_among-place.result) c.as_slice.ensures.value c.place_among-place.ensures.point)).left
