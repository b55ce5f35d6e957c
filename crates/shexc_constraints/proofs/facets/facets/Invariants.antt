use Rattle.std.proofs.Common.{◌≡◌, true}
use Rattle.std.specs.Option.{option_copied}
use Rattle.node_constraint.specs.Making.{IsSound}
use Rattle.rdf_cursor.specs.Ahead.{count}
use Rattle.rdf_cursor.specs.Cursors.{ahead, source_in}
use Rattle.rdf_cursor.specs.Readers.{loop}
use Rattle.rdf_cursor.specs.Symbols.{is_among}
use Rattle.shexc_constraints.specs.FacetKinds.{facet_of, firsts}
use Rattle.shexc_constraints.proofs.facets.facets.Given as goal

abbrev pub invariant-loop-kind : goal.invariant-loop-kind
invariant-loop-kind l =
    (loop (is_among (firsts l.kind)) (facet_of true (option_copied l.datatype) l.kind) l.fs.items (ahead l.c)
    ≡ loop (is_among (firsts l.fn.kind)) (facet_of true (option_copied l.fn.datatype) l.fn.kind) l.fn.fs.items (ahead l.fn.c))
    × (source_in l.c ≡ source_in l.fn.c) × IsSound (option_copied l.fn.datatype) l.fs.items

abbrev pub decreases-loop-kind : goal.decreases-loop-kind
decreases-loop-kind l = count (ahead l.c)
