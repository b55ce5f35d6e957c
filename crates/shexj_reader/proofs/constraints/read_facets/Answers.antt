use Rattle.shexj_reader.proofs.FacetLists.{facets_are}
use Rattle.shexj_reader.proofs.constraints.read_facets.Goals as goal

pub returns-clause-ok : goal.returns-clause-ok
returns-clause-ok c =
    facets_are _ _ _ _ _ _ _ c.new-facets.ensures.items c.in_ok-add_lengths.ensures.ok c.in_ok-pattern.ensures.ok c.in_ok-add.ensures.ok c.in_ok-add_ranges.ensures.ok c.in_ok-add_digits.ensures.ok
