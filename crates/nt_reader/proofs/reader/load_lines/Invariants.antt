use Rattle.std.proofs.Common.{◌≡◌}
use Rattle.rdf_cursor.specs.Ahead.{count}
use Rattle.rdf_cursor.specs.Cursors.{ahead, source_in}
use Rattle.nt_reader.specs.Steps.{Comes}
use Rattle.nt_reader.proofs.reader.load_lines.Given as goal

abbrev pub invariant-loop-alloc : goal.invariant-loop-alloc
invariant-loop-alloc l = Comes (ahead l.fn.c) l.fn.terms l.fn.graph.triples (ahead l.c) l.terms l.graph.triples × (source_in l.c ≡ source_in l.fn.c)

abbrev pub decreases-loop-alloc : goal.decreases-loop-alloc
decreases-loop-alloc l = count (ahead l.c)
