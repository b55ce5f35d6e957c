use Rattle.std.proofs.Common.{subst}
use Rattle.std.specs.Prelude.{Some}
use Rattle.shex_drill.specs.Files.{contents_of}
use Rattle.shex_inputs.specs.Held.{HasTaken}
use Rattle.shex_run.specs.Tasks.{inputs_of}
use Rattle.shex_run.proofs.Drilled.{are_held, bases_pass}
use Rattle.shex_run.proofs.drilling.hold.Goals as goal

pub read_holding-requires-clause-schema_base : goal.read_holding-requires-clause-schema_base
read_holding-requires-clause-schema_base c = (bases_pass c.args.validation.now c.requires.asked).0

pub read_holding-requires-clause-data_base : goal.read_holding-requires-clause-data_base
read_holding-requires-clause-data_base c = (bases_pass c.args.validation.now c.requires.asked).1

pub unreachable-requires : goal.unreachable-requires
unreachable-requires c =
    are_held c.drill_is_taken.ensures (contents_of c.args.files.now) c.requires.texts c.args.validation.now c.requires.asked c.in-Err.error (c.in-Err.ensures.cause c.args.validation.now.map.now) _ _
    (c.in-Err.ensures.faults c.args.validation.now.map.now) c.in_default.not-Memory

pub returns-in-Ok-clause-taken : goal.returns-in-Ok-clause-taken
returns-in-Ok-clause-taken c =
    subst (λ k. HasTaken (Some (contents_of c.args.files.now)) (inputs_of k) c.in-Ok.taken) c.requires.asked
    (c.in-Ok.ensures.taken c.args.validation.now.map.now)
