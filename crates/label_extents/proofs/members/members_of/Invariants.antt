use Rattle.std.proofs.Common.{◌≡◌, take}
use Rattle.std.specs.List.{flat_map, list_any}
use Rattle.rdf_terms.specs.declared.terms.TermId.{TermId}
use Rattle.schema_tree.specs.declared.schema.ExprId.{ExprId}
use Rattle.schema_tree.specs.declared.verdicts.Verdict.{Verdict}
use Rattle.typing_refiner.specs.Refinement.{known_by_it}
use Rattle.label_extents.specs.Members.{GivesVerdicts, has_unknown, members_with}
use Rattle.label_extents.proofs.members.members_of.Given as goal

abbrev pub invariant-loop-place : goal.invariant-loop-place
invariant-loop-place l = record {
  members : (verdict : TermId → ExprId → Verdict) → GivesVerdicts l.schema l.terms (known_by_it l.refined) verdict →
      l.found.answers.items ≡ flat_map (members_with verdict l.nodes) (take l.place l.schema.labels);
  undecided : (verdict : TermId → ExprId → Verdict) → GivesVerdicts l.schema l.terms (known_by_it l.refined) verdict →
      l.found.undecided ≡ list_any (has_unknown verdict l.nodes) (take l.place l.schema.labels);
}
