use Rattle.std.proofs.lemmas.Result.{IfOk-weaker}
use Rattle.nonconformance.proofs.Setting.{shape_is}
use Rattle.nonconformance.proofs.Told.{known_offers}
use Rattle.nonconformance.proofs.finding.offers_of.Goals as goal

pub returns : goal.returns
returns g c =
    let is = shape_is c.args.schema.now c.args.pair.shape c.as_slice.result.now c.index-as_slice-pair.result c.as_slice.ensures c.requires.shape c.index-as_slice-pair.is in
    IfOk-weaker c.offers.result _ _
    (λ v are. known_offers c.args.schema.now c.args.terms.now c.args.graph.now.triples (g.V.View.known c.args.view.now) c.args.pair _ is
    c.in_ok-triples.triples v.items (c.in_ok-triples.ensures c.args.terms.now c.requires.sealed) are)
    c.offers.ensures
