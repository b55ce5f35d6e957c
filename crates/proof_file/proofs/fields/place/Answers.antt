use Rattle.proof_file.proofs.Gathered.{far_place}
use Rattle.proof_file.proofs.fields.place.Goals as goal

pub returns-then-occurrence-gt65534 : goal.returns-then-occurrence-gt65534
returns-then-occurrence-gt65534 c = far_place c.args.field.now c.in_ok-occurrence.occurrence c.if-occurrence-gt65534.true c.in_ok-occurrence.ensures.1 c.in_ok-occurrence.ensures.0
