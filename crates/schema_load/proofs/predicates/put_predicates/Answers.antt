use Rattle.std.proofs.Common.{◌+◌, take, drop}
use Rattle.std.proofs.lemmas.Result.{err_from_is_err_and}
use Rattle.lists.specs.Additions.{none}
use Rattle.lists.proofs.Additions.{grown_on, stays}
use Rattle.schema_load.specs.Parts.{predicates_in, predicates_of}
use Rattle.schema_load.proofs.Putting.{flat_next, flat_whole, put_failed, put_on}
use Rattle.schema_load.proofs.predicates.put_predicates.Goals as goal

pub loop-part-init : goal.loop-part-init
loop-part-init c = (none, stays c.args.terms.now)

pub loop-part-preserved : goal.loop-part-preserved
loop-part-preserved c = (
  put_on c.args.terms.now c.loop-part.terms c.put_part.new.terms (predicates_of (take c.loop-part.part-index c.args.parts.now))
      (predicates_in c.part-item.result) (predicates_of (take (c.loop-part.part-index + 1) c.args.parts.now))
      (flat_next predicates_in c.args.parts.now c.loop-part.part-index c.part-item.result c.loop-part-test.true c.part-item.is) c.loop-part.invariant.0 c.in_ok-put_part.ensures.added,
  grown_on c.args.terms.now c.loop-part.terms c.put_part.new.terms c.loop-part.invariant.1 c.put_part.ensures.kept,
)

pub returns-in_err-put_part-clause-refused : goal.returns-in_err-put_part-clause-refused
returns-in_err-put_part-clause-refused c =
    let p = err_from_is_err_and c.from_residual.result c.from_residual.ensures.1 in
    rw (p.1, p.2) (put_failed c.args.terms.now c.loop-part.terms (predicates_of (take c.loop-part.part-index c.args.parts.now)) (predicates_in c.part-item.result) (predicates_of (drop (c.loop-part.part-index + 1) c.args.parts.now)) (predicates_of c.args.parts.now) c.in_err-put_part.field-0.0
    (flat_whole predicates_in c.args.parts.now c.loop-part.part-index c.part-item.result c.loop-part-test.true c.part-item.is) c.loop-part.invariant.0 c.in_err-put_part.ensures.refused)
