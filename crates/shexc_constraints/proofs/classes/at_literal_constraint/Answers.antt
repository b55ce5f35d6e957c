use Rattle.rdf_cursor.specs.Cursors.{ahead}
use Rattle.shexc_constraints.specs.Symbols.{literal_kinds, number_facets}
use Rattle.shexc_constraints.proofs.Nexts.{first_next, second_next}
use Rattle.shexc_constraints.proofs.classes.at_literal_constraint.Goals as goal

pub returns-then-at_literal_kind : goal.returns-then-at_literal_kind
returns-then-at_literal_kind c = first_next literal_kinds number_facets (ahead c.args.c.now) c.at_literal_kind.result c.at_literal_kind.ensures c.if-at_literal_kind.true

pub returns-else-at_literal_kind : goal.returns-else-at_literal_kind
returns-else-at_literal_kind c =
    second_next literal_kinds number_facets (ahead c.args.c.now) c.at_literal_kind.result c.at_number_facet.result c.at_literal_kind.ensures c.if-at_literal_kind.false c.at_number_facet.ensures
