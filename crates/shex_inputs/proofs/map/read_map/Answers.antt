use Rattle.shex_inputs.specs.Held.{held_by}
use Rattle.shex_inputs.specs.Named.{inputs_with}
use Rattle.shex_inputs.proofs.Demanded.{asked_over}
use Rattle.shex_inputs.proofs.Reading.{demand_explains, demand_faults, too_many}
use Rattle.shex_inputs.proofs.map.read_map.Goals as goal

pub returns-in-Err-clause-cause : goal.returns-in-Err-clause-cause
returns-in-Err-clause-cause g c =
    let digests = c.requires.taken.0 in
    let r = c.in_ok-resolved.resolved in
    demand_explains (g.F.Files.told c.args.files.now) (inputs_with c.args.inputs.now c.args.name.now)
    (held_by c.args.holding.now digests) r.map r.associations.items c.read_associations.new.holding.terms c.in-Err.error
    c.demand_error.result c.requires.taken.1 (c.in_ok-resolved.ensures.map digests) (c.in_ok-resolved.ensures.ends digests)
    (λ apart. too_many c.read_associations.new.holding.schema c.args.holding.now.schema c.read_associations.new.holding.graph.triples c.args.holding.now.graph.triples c.as_slice.result.now r.associations.items c.in_ok-resolved.ensures.schema c.in_ok-resolved.ensures.graph c.as_slice.ensures.value (c.in-Err.ensures.many apart)) c.demand_error.ensures

pub returns-in-Err-clause-faults : goal.returns-in-Err-clause-faults
returns-in-Err-clause-faults g c =
    demand_faults (inputs_with c.args.inputs.now c.args.name.now) _ _ _ _ c.in-Err.error c.demand_error.result c.demand_error.ensures c.in_ok-resolved.ensures.faults_stay

pub returns-in-Ok-clause-asked : goal.returns-in-Ok-clause-asked
returns-in-Ok-clause-asked g c = λ digests taken.
    let r = c.in_ok-resolved.resolved in
    let old = c.args.holding.now in
    let new = c.read_associations.new.holding in
    record {
      taken = taken;
      items = r.map;
      holds_map = c.in_ok-resolved.ensures.map digests;
      ends = c.in_ok-resolved.ensures.ends digests;
      few = c.in-Ok.ensures.few;
      asked = asked_over new.schema old.schema new.terms new.graph.triples old.graph.triples c.as_slice.result.now r.associations.items
          c.in-Ok.pairs c.in_ok-resolved.ensures.schema c.in_ok-resolved.ensures.graph c.as_slice.ensures.value c.in-Ok.ensures.asked;
    }

pub returns-in-Ok-clause-ends : goal.returns-in-Ok-clause-ends
returns-in-Ok-clause-ends g c = λ digests taken. c.in_ok-resolved.ensures.ends digests
