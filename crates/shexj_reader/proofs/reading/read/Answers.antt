use Rattle.std.proofs.Common.{rules}
use Rattle.serde_json.specs.View.{view}
use Rattle.shexj_reader.proofs.Readings.{one_reading, refused_exactly}
use Rattle.shexj_reader.proofs.reading.read.Goals as goal

pub returns-in_err-doc-clause-complete : goal.returns-in_err-doc-clause-complete
returns-in_err-doc-clause-complete c = λ doc h.
    refused_exactly c.args.source.now doc (view c.in-Ok-from_str.value) c.from_residual.result c.in_err-doc.field-0.0 c.from_residual.ensures.1 c.in_err-doc.ensures.cause
    (search rules) (search rules) h

pub returns-clause-complete : goal.returns-clause-complete
returns-clause-complete c = λ doc h. one_reading c.args.source.now _ doc (search rules) h
