use Rattle.std.proofs.Common.{ℕ, ◌<◌, slice_index_or}
use Rattle.rdf_terms.specs.declared.terms.Triple.{Triple}
use Rattle.graph_index.specs.Places.{IsBelow}
use Rattle.graph_index.proofs.numbers.table_len.Given as goal

abbrev pub invariant-loop-triple : goal.invariant-loop-triple
invariant-loop-triple l = (k : ℕ) (d : Triple) → k < l.triple-index → IsBelow l.len (slice_index_or l.triples k d)
