use Rattle.serde_json.specs.View.{view}
use Rattle.shexj_reader.specs.ConstraintFaults.{ConstraintFault, PartsFault, bad_parts}
use Rattle.shexj_reader.specs.Constraints.{constraint_keys}
use Rattle.shexj_reader.specs.Keys.{with_id}
use Rattle.shexj_reader.proofs.Causes.{handed}
use Rattle.shexj_reader.proofs.FacetLists.{no_other}
use Rattle.shexj_reader.proofs.Restrictions.{restrictions_made}
use Rattle.shexj_reader.proofs.constraints.read_restrictions.Goals as goal

pub make-requires : goal.make-requires
make-requires c = no_other _ _ c.in_ok-facets.ensures.ok

pub returns-clause-ok : goal.returns-clause-ok
returns-clause-ok c =
    restrictions_made _ _ _ _ _ _ c.requires c.in_ok-only_own_keys.ensures.ok c.in_ok-kind.ensures.ok c.in_ok-datatype.ensures.ok c.in_ok-facets.ensures.ok c.make.ensures.made c.make.ensures.sound

pub returns-clause-cause : goal.returns-clause-cause
returns-clause-cause c =
    handed (λ f. PartsFault c.in_ok-datatype.datatype c.in_ok-facets.facets.items f) (λ f. ConstraintFault (with_id c.args.labelled constraint_keys) f (view c.args.value.now)) c.make.result
    (λ f h. bad_parts (record { datatype = _; has_datatype = c.in_ok-datatype.ensures.ok; facets = _; has_facets = c.in_ok-facets.ensures.ok; fault = h })) c.make.ensures.cause
