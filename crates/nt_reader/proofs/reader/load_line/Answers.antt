use Rattle.graph_index.proofs.Loaded.{loads_grow}
use Rattle.nt_reader.proofs.Turns.{blank_steps}
use Rattle.nt_reader.proofs.reader.load_line.Goals as goal

pub returns-in-None-clause-steps : goal.returns-in-None-clause-steps
returns-in-None-clause-steps c = blank_steps _ _ _ _ _ c.in_ok-line.ensures.gives c.in-None.is

pub returns-in_ok-load-in-Some-clause-appended : goal.returns-in_ok-load-in-Some-clause-appended
returns-in_ok-load-in-Some-clause-appended c = (loads_grow _ _ _ _ _ c.in_ok-load-in-Some.ensures.loaded).1
