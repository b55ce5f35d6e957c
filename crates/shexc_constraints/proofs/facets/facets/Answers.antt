use Rattle.std.proofs.Common.{sym, ◌∙◌, true}
use Rattle.std.proofs.lemmas.Result.{err_from_is_err_and}
use Rattle.std.specs.Option.{option_copied}
use Rattle.rdf_cursor.proofs.Loops.{loop_goes, loop_ends}
use Rattle.rdf_cursor.specs.Cursors.{ahead}
use Rattle.shexc_constraints.proofs.Failing.{fails_loop}
use Rattle.shexc_constraints.proofs.Kinded.{consumes_facet_of}
use Rattle.shexc_constraints.proofs.facets.facets.Goals as goal

pub loop-kind-smaller : goal.loop-kind-smaller
loop-kind-smaller c =
    consumes_facet_of true (option_copied c.args.datatype) c.args.kind c.loop-kind.fs.items (ahead c.loop-kind.c) c.facet_of.new.fs.items (ahead c.facet_of.new.c) c.in_ok-facet_of.ensures.gives

pub loop-kind-preserved : goal.loop-kind-preserved
loop-kind-preserved c = (
  loop_goes _ _ (consumes_facet_of true (option_copied c.args.datatype) c.args.kind) _ _ _ _ _ (sym c.at_kind.ensures ∙ c.loop-kind-test.true) c.in_ok-facet_of.ensures.gives c.loop-kind.invariant.0,
  c.in_ok-facet_of.ensures.source ∙ c.loop-kind.invariant.1,
  c.in_ok-facet_of.ensures.sound,
)

pub returns-in_err-facet_of-clause-gives : goal.returns-in_err-facet_of-clause-gives
returns-in_err-facet_of-clause-gives c =
    let p = err_from_is_err_and c.from_residual.result c.from_residual.ensures.1 in
    rw (p.1, p.2) (fails_loop _ _ (consumes_facet_of true (option_copied c.args.datatype) c.args.kind) c.in_err-facet_of.field-0.0 _ _ _ _ (sym c.at_kind.ensures
    ∙ c.loop-kind-test.true) c.in_err-facet_of.ensures.gives c.loop-kind.invariant.0)

pub returns-clause-gives : goal.returns-clause-gives
returns-clause-gives c = loop_ends _ _ (consumes_facet_of true (option_copied c.args.datatype) c.args.kind) _ _ _ (sym c.at_kind.ensures ∙ c.loop-kind-test.false) c.loop-kind.invariant.0
