use Rattle.lists.proofs.Additions.{stays}
use Rattle.schema_load.proofs.Putting.{no_predicate}
use Rattle.schema_load.proofs.predicates.put_part.Goals as goal

pub returns-in_default : goal.returns-in_default
returns-in_default c = record {
  added = no_predicate c.args.terms.now c.args.part.now c.in_default.not-Shape c.in_default.not-Triple;
  refused = tt;
  kept = stays c.args.terms.now;
}
