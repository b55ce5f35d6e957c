use Rattle.rdf_cursor.specs.Cursors.{ahead}
use Rattle.shexc_constraints.specs.Symbols.{node_kinds, text_facets}
use Rattle.shexc_constraints.proofs.Nexts.{first_next, second_next}
use Rattle.shexc_constraints.proofs.classes.at_non_literal.Goals as goal

pub returns-then-at_node_kind : goal.returns-then-at_node_kind
returns-then-at_node_kind c = first_next node_kinds text_facets (ahead c.args.c.now) c.at_node_kind.result c.at_node_kind.ensures c.if-at_node_kind.true

pub returns-else-at_node_kind : goal.returns-else-at_node_kind
returns-else-at_node_kind c =
    second_next node_kinds text_facets (ahead c.args.c.now) c.at_node_kind.result c.at_text_facet.result c.at_node_kind.ensures c.if-at_node_kind.false c.at_text_facet.ensures
