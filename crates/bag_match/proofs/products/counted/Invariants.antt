use Rattle.std.proofs.Common.{Option, take}
use Rattle.rdf_terms.specs.declared.terms.TermId.{TermId}
use Rattle.schema_tree.specs.declared.schema.ExprId.{ExprId}
use Rattle.schema_tree.specs.declared.verdicts.Verdict.{Verdict}
use Rattle.bag_match.specs.Keys.{AreCounted, AreSized, HaveKeys}
use Rattle.bag_match.proofs.products.counted.Given as goal

abbrev pub invariant-loop-i : goal.invariant-loop-i
invariant-loop-i g l = record {
  counted : (plain : TermId → Option ExprId → Verdict) → g.P.Plain.tells l.known plain → AreCounted plain l.shape l.node (take l.i l.triples) l.found;
  have : (plain : TermId → Option ExprId → Verdict) → g.P.Plain.tells l.known plain → HaveKeys plain l.shape l.node (take l.i l.triples);
  sized : AreSized l.i l.found;
}
