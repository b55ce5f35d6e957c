use Rattle.std.proofs.Common.{◌≡◌, drop, map}
use Rattle.schema_documents.specs.Tree.{expr_of, exprs, triple_of, triples}
use Rattle.shexj_writer.specs.Whole.{are_whole_exprs, are_whole_triples}
use Rattle.shexj_writer.proofs.wholes.+wholes.Given as goal

abbrev pub invariant-are_whole_exprs-loop-member : goal.invariant-are_whole_exprs-loop-member
invariant-are_whole_exprs-loop-member l =
    are_whole_exprs (exprs (map expr_of l.members)) ≡ are_whole_exprs (exprs (map expr_of (drop l.member-index l.members)))

abbrev pub invariant-are_whole_triples-loop-member : goal.invariant-are_whole_triples-loop-member
invariant-are_whole_triples-loop-member l =
    are_whole_triples (triples (map triple_of l.members)) ≡ are_whole_triples (triples (map triple_of (drop l.member-index l.members)))
