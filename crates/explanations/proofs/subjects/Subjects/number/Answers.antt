use Rattle.std.proofs.Common.{subst}
use Rattle.lists.specs.Additions.{Adds}
use Rattle.lists.proofs.Distinct.{adds_item, inserted_item}
use Rattle.explanations.proofs.Same.{same_subject, subject_decides}
use Rattle.explanations.proofs.subjects.Subjects.number.Goals as goal

pub returns-clause-added : goal.returns-clause-added
returns-clause-added c = subst (λ ts. Adds ts c.args.subject c.insert_full.new.self.keys) c.self.view_is (adds_item same_subject subject_decides _ c.args.subject _ c.in_ok-number.ensures.keys)

pub returns-clause-number : goal.returns-clause-number
returns-clause-number c = inserted_item same_subject subject_decides c.insert_full.new.self.keys c.args.subject c.in_ok-number.number c.in_ok-number.ensures.stored
