use Rattle.std.proofs.Common.{◌≡◌, ◌+◌, ◌∷◌, Option, length, map, take}
use Rattle.rdf_terms.specs.declared.terms.TermId.{TermId}
use Rattle.rdf_terms.specs.Graphs.{is_loop, same_id}
use Rattle.schema_tree.specs.declared.schema.ExprId.{ExprId}
use Rattle.schema_tree.specs.declared.verdicts.Verdict.{Verdict}
use Rattle.schema_tree.specs.Width.{is_open_at, is_open_rest}
use Rattle.bag_match.specs.Keys.{bit}
use Rattle.bag_match.proofs.keys.key.Given as goal

abbrev pub invariant-loop-o : goal.invariant-loop-o
invariant-loop-o g l = record {
  key :
      (plain : TermId → Option ExprId → Verdict) → g.P.Plain.tells l.known plain →
      l.key.items ≡ l.triple.p.0 ∷ bit (is_loop l.triple) ∷ bit (same_id l.triple.s l.node) ∷ bit (is_open_rest plain l.shape l.node l.triple) ∷ map (λ o. bit (is_open_at plain l.node l.triple o))
      (take l.o-index l.shape.occs);
  long : length l.key.items ≡ l.o-index + 4;
}
