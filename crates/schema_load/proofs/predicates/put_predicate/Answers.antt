use Rattle.lists.proofs.Additions.{stays}
use Rattle.schema_load.proofs.Putting.{no_arc}
use Rattle.schema_load.proofs.predicates.put_predicate.Goals as goal

pub returns-in_default : goal.returns-in_default
returns-in_default c = record {
  added = no_arc c.args.terms.now c.args.form.now c.in_default.not-Arc;
  refused = tt;
  kept = stays c.args.terms.now;
}
