use Rattle.std.proofs.Common.{◌≡◌, ◌++◌, ◌||◌, drop}
use Rattle.rdf_terms.specs.declared.terms.TermId.{TermId}
use Rattle.schema_tree.specs.declared.schema.ExprId.{ExprId}
use Rattle.schema_tree.specs.declared.verdicts.Verdict.{Verdict}
use Rattle.typing_refiner.specs.Refinement.{known_by_it}
use Rattle.label_extents.specs.Members.{GivesVerdicts, has_unknown, members_with}
use Rattle.label_extents.proofs.members.note_all.Given as goal

abbrev pub invariant-loop-node : goal.invariant-loop-node
invariant-loop-node l = record {
  members : (verdict : TermId → ExprId → Verdict) → GivesVerdicts l.schema l.terms (known_by_it l.refined) verdict →
      l.fn.found.answers.items ++ members_with verdict l.nodes (l.label, l.expr) ≡ l.found.answers.items ++ members_with verdict (drop l.node-index l.nodes) (l.label, l.expr);
  undecided : (verdict : TermId → ExprId → Verdict) → GivesVerdicts l.schema l.terms (known_by_it l.refined) verdict →
      (l.fn.found.undecided || has_unknown verdict l.nodes (l.label, l.expr)) ≡ (l.found.undecided || has_unknown verdict (drop l.node-index l.nodes) (l.label, l.expr));
}
