use Rattle.rdf_cursor.specs.Cursors.{ahead}
use Rattle.shexc_constraints.specs.Symbols.{text_facets, number_facets}
use Rattle.shexc_constraints.proofs.Nexts.{first_next, second_next}
use Rattle.shexc_constraints.proofs.classes.at_facet.Goals as goal

pub returns-then-at_text_facet : goal.returns-then-at_text_facet
returns-then-at_text_facet c = first_next text_facets number_facets (ahead c.args.c.now) c.at_text_facet.result c.at_text_facet.ensures c.if-at_text_facet.true

pub returns-else-at_text_facet : goal.returns-else-at_text_facet
returns-else-at_text_facet c =
    second_next text_facets number_facets (ahead c.args.c.now) c.at_text_facet.result c.at_number_facet.result c.at_text_facet.ensures c.if-at_text_facet.false c.at_number_facet.ensures
