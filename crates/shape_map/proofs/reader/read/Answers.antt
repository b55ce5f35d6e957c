use Rattle.shape_map.proofs.reader.read.Goals as goal

pub returns-in-Err-clause-complete : goal.returns-in-Err-clause-complete
returns-in-Err-clause-complete c = λ items m. c.in-Err.ensures.cases.0 m.1
