use Rattle.std.proofs.Common.{◌++◌, ◌∷◌, [], ◌∙◌, ap, sym, subst, refl}
use Rattle.indexmap.proofs.CallerLemmas.{insert_entry-new}
use Rattle.schema_tree.specs.Labels.{IsDeclared}
use Rattle.schema_tree.proofs.SameLabels.{same_label, declared_some, missed_label, none_from_test}
use Rattle.schema_tree.proofs.labels.Labels.declare.Goals as goal

pub returns-then-contains_key-clause-declared : goal.returns-then-contains_key-clause-declared
returns-then-contains_key-clause-declared c =
    (subst (λ ls. IsDeclared ls c.args.label) c.self.view_is (declared_some c.args.label _ (sym c.if-contains_key.ensures)), refl)

pub returns-clause-declared : goal.returns-clause-declared
returns-clause-declared c = (
  subst (λ ls. IsDeclared ls c.args.label → ⊥) c.self.view_is (missed_label c.args.label _ (sym c.if-contains_key.ensures)),
  c.in_ok-insert.ensures.entries
      ∙ insert_entry-new same_label c.self.inside.entries c.args.label c.args.expr (none_from_test _ (sym c.if-contains_key.ensures))
      ∙ ap (λ ls. ls ++ (c.args.label, c.args.expr) ∷ []) c.self.view_is,
)
