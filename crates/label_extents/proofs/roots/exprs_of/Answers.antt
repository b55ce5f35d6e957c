use Rattle.std.proofs.Common.{◌∙◌, ◌∷◌, ◌++◌, [], ap, sym}
use Rattle.schema_documents.specs.declared.label.Label.{Label}
use Rattle.schema_tree.specs.declared.schema.ExprId.{ExprId}
use Rattle.label_extents.proofs.Fronted.{mapped_further}
use Rattle.label_extents.proofs.roots.exprs_of.Goals as goal

pub loop-place-preserved : goal.loop-place-preserved
loop-place-preserved c =
    c.in_ok-push-in-Some.ensures.items ∙ ap (λ es. es ++ c.in-Some.expr ∷ []) c.loop-place.invariant
    ∙ sym (mapped_further (λ (d : Label × ExprId). d.1) c.args.labels.now c.loop-place.place (c.in-Some.field-0-0.now, c.in-Some.expr) (sym c.in-Some.ensures.entry))
