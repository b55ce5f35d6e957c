use Rattle.std.proofs.Common.{◌+◌, [], ◌∷◌, map, take, drop}
use Rattle.std.proofs.lemmas.Result.{err_from_is_err_and}
use Rattle.lists.specs.Additions.{none}
use Rattle.lists.proofs.Additions.{grown_on, stays}
use Rattle.rdf_terms.specs.declared.terms.Term.TheVariants.{Iri}
use Rattle.schema_load.proofs.Putting.{iris_next, iris_whole, put_failed, put_on}
use Rattle.schema_load.proofs.predicates.put_iris.Goals as goal

pub loop-iri-init : goal.loop-iri-init
loop-iri-init c = (none, stays c.args.terms.now)

pub loop-iri-preserved : goal.loop-iri-preserved
loop-iri-preserved c = (
  put_on c.args.terms.now c.loop-iri.terms c.put_iri.new.terms (map Iri (take c.loop-iri.iri-index c.args.iris.now)) (Iri c.iri-item.result ∷ [])
      (map Iri (take (c.loop-iri.iri-index + 1) c.args.iris.now))
      (iris_next c.args.iris.now c.loop-iri.iri-index c.iri-item.result c.loop-iri-test.true c.iri-item.is) c.loop-iri.invariant.0 c.in_ok-put_iri.ensures.added,
  grown_on c.args.terms.now c.loop-iri.terms c.put_iri.new.terms c.loop-iri.invariant.1 c.put_iri.ensures.kept,
)

pub returns-in_err-put_iri-clause-refused : goal.returns-in_err-put_iri-clause-refused
returns-in_err-put_iri-clause-refused c =
    let p = err_from_is_err_and c.from_residual.result c.from_residual.ensures.1 in
    rw (p.1, p.2) (put_failed c.args.terms.now c.loop-iri.terms (map Iri (take c.loop-iri.iri-index c.args.iris.now)) (Iri c.iri-item.result ∷ []) (map Iri (drop (c.loop-iri.iri-index + 1) c.args.iris.now)) (map Iri c.args.iris.now) c.in_err-put_iri.field-0.0
    (iris_whole c.args.iris.now c.loop-iri.iri-index c.iri-item.result c.loop-iri-test.true c.iri-item.is) c.loop-iri.invariant.0 c.in_err-put_iri.ensures.refused)
