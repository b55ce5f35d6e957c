use Rattle.std.proofs.Common.{subst}
use Rattle.lists.specs.Distinct.{AreDistinct}
use Rattle.lists.proofs.Distinct.{distinct_items}
use Rattle.rdf_terms.proofs.SameTerms.{same_term, term_decides}
use Rattle.rdf_terms.proofs.table.TermTable.len.Goals as goal

pub returns-clause-distinct : goal.returns-clause-distinct
returns-clause-distinct c = subst AreDistinct c.self.view_is (distinct_items same_term term_decides _ c.len.ensures.unique)
