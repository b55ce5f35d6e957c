use Rattle.std.proofs.Common.{arith, ap, length}
use Rattle.std.proofs.lemmas.Result.{IfOk-weaker}
use Rattle.explanations.proofs.Failing.{shape_is}
use Rattle.explanations.proofs.Misfitting.{lent_misfits, lent_refused}
use Rattle.explanations.proofs.explaining.Source.misfits_of.Goals as goal

pub fitting-requires : goal.fitting-requires
fitting-requires g c =
    let is = shape_is c.args.self.now.schema.now c.args.pair.shape c.as_slice.result.now c.index-as_slice-pair.result c.as_slice.ensures c.requires.shape c.index-as_slice-pair.is in
    let few = (c.requires.loaded.shapes c.args.pair.shape _ is).few in
    let lent = ap (λ z. length z) c.as_slice-occs.ensures in
    omega (arith, few, lent)

pub misfits-requires-clause-refused : goal.misfits-requires-clause-refused
misfits-requires-clause-refused g c =
    let is = shape_is c.args.self.now.schema.now c.args.pair.shape c.as_slice.result.now c.index-as_slice-pair.result c.as_slice.ensures c.requires.shape c.index-as_slice-pair.is in
    lent_refused c.args.self.now.schema.now c.args.self.now.terms.now (g.V.View.known c.args.self.now.view.now) c.args.pair c.args.triple c.index-as_slice-pair.result is
    c.as_slice-occs.result.now c.as_slice-occs.ensures c.in_ok-numbers.numbers.items c.as_slice-2.result.now c.in_ok-numbers.ensures c.as_slice-2.ensures.value
    c.reasons_are_whole.ensures.values c.requires.loaded c.args.self.now.graph.now.triples c.requires.reason

pub returns-clause-are : goal.returns-clause-are
returns-clause-are g c =
    let is = shape_is c.args.self.now.schema.now c.args.pair.shape c.as_slice.result.now c.index-as_slice-pair.result c.as_slice.ensures c.requires.shape c.index-as_slice-pair.is in
    IfOk-weaker c.misfits.result _ _
    (λ v h all on. lent_misfits c.args.self.now.schema.now c.args.self.now.terms.now (g.V.View.known c.args.self.now.view.now) c.args.pair c.args.triple
    c.index-as_slice-pair.result is c.as_slice-occs.result.now c.as_slice-occs.ensures c.in_ok-numbers.numbers.items c.as_slice-2.result.now c.in_ok-numbers.ensures
    c.as_slice-2.ensures.value all v.items (h all on))
    c.misfits.ensures.are
