use Rattle.std.proofs.Common.{subst}
use Rattle.lists.specs.Distinct.{AreDistinct}
use Rattle.lists.proofs.Distinct.{distinct_items}
use Rattle.schema_tree.specs.Labels.{labels_of}
use Rattle.schema_tree.proofs.SameLabels.{same_label, label_decides}
use Rattle.schema_tree.proofs.labels.Labels.len.Goals as goal

pub returns-clause-once : goal.returns-clause-once
returns-clause-once c = subst (λ ls. AreDistinct (labels_of ls)) c.self.view_is (distinct_items same_label label_decides _ c.len.ensures.unique)
