use Rattle.std.proofs.Common.{subst}
use Rattle.lists.specs.Additions.{AddsAll}
use Rattle.lists.proofs.Additions.{all_held}
use Rattle.schema_load.specs.Parts.{predicates_of}
use Rattle.schema_load.proofs.load.schema_in.Goals as goal

pub schema_of-requires-clause-predicates : goal.schema_of-requires-clause-predicates
schema_of-requires-clause-predicates c = λ t held.
    all_held c.args.terms.now c.put_predicates.new.terms (predicates_of c.args.surveyed.parts.items) t
    (subst (λ ps. AddsAll c.args.terms.now (predicates_of ps) c.put_predicates.new.terms) c.as_slice-2.ensures.value c.in_ok-put_predicates.ensures.added) held
