-- Whether a pair is shut is decided.
use Rattle.std.proofs.Common.{List}
use Rattle.std.specs.Prelude.{not}
use Rattle.std.specs.List.{list_any}
use Rattle.rdf_terms.specs.Graphs.{outs}
use Rattle.rdf_terms.specs.declared.terms.TermId.{TermId}
use Rattle.rdf_terms.specs.declared.terms.Triple.{Triple}
use Rattle.schema_tree.specs.declared.schema.Shape.{Shape}
use Rattle.schema_tree.specs.Places.{IsShut}
use Rattle.schema_tree.specs.Relevant.{is_relevant}
use Rattle.lists.proofs.Decided.{Decided, decide_both, decide_true}

pub decide_shut : (g : List Triple) (sh : Shape) (n : TermId) → Decided (IsShut g sh n)
decide_shut g sh n = decide_both (decide_true sh.closed) (decide_true (list_any (λ t. not (is_relevant sh.occs n t)) (outs g n)))
