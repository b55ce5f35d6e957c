use Rattle.shexc_reader.proofs.reader.read.Goals as goal

pub returns-in-Err-clause-complete : goal.returns-in-Err-clause-complete
returns-in-Err-clause-complete c = λ x doc. absurd (c.in-Err.ensures.cases.0 doc.1)
