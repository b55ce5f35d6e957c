use Rattle.shexj_writer.proofs.ConstraintParts.{parts_held, parts_written}
use Rattle.shexj_writer.proofs.constraints.constraint_value.Goals as goal

pub returns-clause-value : goal.returns-clause-value
returns-clause-value c =
    parts_written _ _ _ _ _ _ _ _ _ _ _ _ _ _ _ _
    (record { kinds = c.kind.ensures; datatypes = c.datatype.ensures; lists = c.facets-facets.ensures; sets = c.values.ensures })
    c.facet_under.ensures c.flags_of.ensures.flags c.new-object.ensures
    c.in_ok-put_last_keys.ensures.put c.in_ok-put_bounds.ensures.put c.in_ok-put_if.ensures c.in_ok-put_facet.ensures.put c.in_ok-put_text_if.ensures.put c.in_ok-put_datatype.ensures.put
    c.into_value.ensures

pub returns-clause-held : goal.returns-clause-held
returns-clause-held c =
    parts_held _ _ _ _ _ _
    (record { kinds = c.kind.ensures; datatypes = c.datatype.ensures; lists = c.facets-facets.ensures; sets = c.values.ensures })
    c.facet_under.ensures
    c.in_ok-put_last_keys.ensures.values c.in_ok-put_last_keys.ensures.digits c.in_ok-put_last_keys.ensures.pattern c.in_ok-put_bounds.ensures.held c.in_ok-put_facet.ensures.held
    c.flags_of.ensures.held c.in_ok-put_datatype.ensures.held
