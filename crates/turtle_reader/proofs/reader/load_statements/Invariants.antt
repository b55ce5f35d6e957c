use Rattle.std.proofs.Common.{◌≡◌}
use Rattle.rdf_cursor.specs.Ahead.{count}
use Rattle.rdf_cursor.specs.Cursors.{ahead, source_in}
use Rattle.turtle_reader.specs.States.{scope_of}
use Rattle.turtle_reader.specs.Steps.{Comes}
use Rattle.turtle_reader.proofs.reader.load_statements.Given as goal

abbrev pub invariant-loop-c : goal.invariant-loop-c
invariant-loop-c l =
    Comes (scope_of l.fn.state) (ahead l.fn.c) l.fn.terms l.fn.graph.triples (scope_of l.state) (ahead l.c) l.terms l.graph.triples × (source_in l.c ≡ source_in l.fn.c)

abbrev pub decreases-loop-c : goal.decreases-loop-c
decreases-loop-c l = count (ahead l.c)
