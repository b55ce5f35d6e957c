use Rattle.std.proofs.Common.{subst}
use Rattle.std.specs.Prelude.{Contains}
use Rattle.lists.proofs.Members.{yields_there}
use Rattle.typing_answers.proofs.sections.moved_sections.Goals as goal

pub renumber-requires : goal.renumber-requires
renumber-requires c = λ r h.
    let all = c.loop-section.invariant.all in
    let held = yields_there _ c.loop-section.yielded _ _ c.in-Some.section all c.in-Some.ensures.steps.0 in
    c.requires c.in-Some.section r held (subst (λ xs. Contains xs r) c.into_vec-records.ensures h)
