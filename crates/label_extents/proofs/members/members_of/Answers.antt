use Rattle.std.proofs.Common.{◌∙◌, ◌++◌, ◌||◌, ap, sym}
use Rattle.schema_documents.specs.declared.label.Label.{Label}
use Rattle.schema_tree.specs.declared.schema.ExprId.{ExprId}
use Rattle.label_extents.specs.Members.{has_unknown, members_with}
use Rattle.label_extents.proofs.Fronted.{joined_further, some_further}
use Rattle.label_extents.proofs.members.members_of.Goals as goal

pub loop-place-preserved : goal.loop-place-preserved
loop-place-preserved c =
    let nodes = c.args.nodes.now in
    let labels = c.args.schema.now.labels in
    let d : Label × ExprId = (c.in-Some.label.now, c.in-Some.expr) in
    record {
      members = λ verdict gives.
          c.in_ok-note_all-in-Some.ensures.members verdict gives ∙ ap (λ xs. xs ++ members_with verdict nodes d) (c.loop-place.invariant.members verdict gives)
          ∙ sym (joined_further (members_with verdict nodes) labels c.loop-place.place d (sym c.in-Some.ensures.entry));
      undecided = λ verdict gives.
          c.in_ok-note_all-in-Some.ensures.undecided verdict gives ∙ ap (λ b. b || has_unknown verdict nodes d) (c.loop-place.invariant.undecided verdict gives)
          ∙ sym (some_further (has_unknown verdict nodes) labels c.loop-place.place d (sym c.in-Some.ensures.entry));
    }
