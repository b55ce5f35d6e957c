use Rattle.std.proofs.Common.{refl, ◌∙◌}
use Rattle.tally.specs.declared.Count.{Sym}
use Rattle.tally.proofs.Plans.{is_sym}
use Rattle.schema_tree.proofs.body.Body.once.Goals as goal

pub returns : goal.returns
returns c = c.of.ensures ∙ is_sym (Sym c.args.occurrence) c.args.occurrence refl
