use Rattle.std.proofs.Common.{subst}
use Rattle.lists.specs.Distinct.{AreDistinct}
use Rattle.lists.proofs.Distinct.{distinct_items}
use Rattle.explanations.proofs.Same.{same_subject, subject_decides}
use Rattle.explanations.proofs.subjects.Subjects.len.Goals as goal

pub returns-clause-distinct : goal.returns-clause-distinct
returns-clause-distinct c = subst AreDistinct c.self.view_is (distinct_items same_subject subject_decides _ c.len.ensures.unique)
