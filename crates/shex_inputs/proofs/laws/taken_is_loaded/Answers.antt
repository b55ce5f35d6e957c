use Rattle.schema_files.specs.Sources.{documents_of}
use Rattle.schema_load.proofs.OrderedParts.{ordered_parts}
use Rattle.shex_inputs.specs.Named.{asked_of}
use Rattle.shex_inputs.proofs.Sources.{all_ordered}
use Rattle.shex_inputs.proofs.laws.taken_is_loaded.Goals as goal

pub returns : goal.returns
returns c = λ told i h x.
    let docs = documents_of x.sources in
    c.standing_is_loaded.ensures docs x.holding.first h.schema (ordered_parts docs (all_ordered told (asked_of i) c.schemas_are_ordered.ensures x.sources x.are_sources)) x.holding.is_schema.stands
