use Rattle.std.specs.Option.{option_copied}
use Rattle.shexj_writer.specs.Built.{members_of}
use Rattle.shexj_writer.proofs.ConstraintParts.{last_written}
use Rattle.shexj_writer.proofs.constraints.put_last_keys.Goals as goal

pub returns-clause-put : goal.returns-clause-put
returns-clause-put c =
    last_written c.args.kind c.args.facets.now (option_copied c.args.values) (members_of c.args.object.now) _ _ _ _ _
    c.in_ok-put_values.ensures.put c.in_ok-put_word.ensures c.in_ok-put_facet.ensures.put c.in_ok-put_facet-2.ensures.put c.in_ok-put_kind.ensures
