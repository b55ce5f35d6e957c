use Rattle.std.proofs.Common.{subst, sym}
use Rattle.schema_load.specs.Faults.{IsFault}
use Rattle.schema_load.specs.Requirements.{HasOne, IsMissing, IsTwice, NoneIs}
use Rattle.schema_load.specs.Steps.{AreFine}
use Rattle.schema_load.proofs.surveyed.survey_named.Goals as goal

pub survey_of-requires-clause-once : goal.survey_of-requires-clause-once
survey_of-requires-clause-once c = subst (λ ps. NoneIs (HasOne (IsTwice ps))) (sym c.as_slice.ensures.value) c.requires.once

pub survey_of-requires-clause-there : goal.survey_of-requires-clause-there
survey_of-requires-clause-there c = subst (λ ps. NoneIs (HasOne (IsMissing ps))) (sym c.as_slice.ensures.value) c.requires.there

pub survey_of-requires-clause-fine : goal.survey_of-requires-clause-fine
survey_of-requires-clause-fine c = subst AreFine (sym c.as_slice.ensures.value) c.requires.fine

pub error_of-requires-clause-fault : goal.error_of-requires-clause-fault
error_of-requires-clause-fault c = subst (λ ps. IsFault ps c.in-Err.fault) c.as_slice.ensures.value c.in-Err.ensures.refused
