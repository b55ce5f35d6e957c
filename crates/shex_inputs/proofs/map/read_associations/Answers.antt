use Rattle.std.proofs.Common.{subst}
use Rattle.shape_map.specs.Maps.{IsMap}
use Rattle.term_tokens.specs.Scopes.{scope_of}
use Rattle.shex_inputs.specs.Held.{held_by}
use Rattle.shex_inputs.specs.Named.{inputs_with}
use Rattle.shape_map.specs.declared.error.MapError.TheVariants as MapErrors
use Rattle.shex_inputs.specs.declared.error.Refusal.TheVariants as Refusals
use Rattle.shex_inputs.proofs.Reading.{asking_explains, map_explains, refused_faults}
use Rattle.shex_inputs.proofs.map.read_associations.Goals as goal

pub returns-in-Err-clause-cause : goal.returns-in-Err-clause-cause
returns-in-Err-clause-cause g c =
    map_explains (g.F.Files.told c.args.files.now) (inputs_with c.args.inputs.now c.args.name.now)
    (held_by c.args.holding.now c.requires.taken.0) c.in_ok-bytes.bytes.items c.as_slice.result.now c.in-Err.error c.map_error.result c.requires.taken.1
    c.in_ok-bytes.ensures.bytes c.as_slice.ensures.value c.in-Err.ensures.stops c.map_error.ensures

pub returns-in-Err-clause-faults : goal.returns-in-Err-clause-faults
returns-in-Err-clause-faults g c =
    refused_faults MapErrors.Memory (λ e. Refusals.Map e) c.in-Err.error c.map_error.result (inputs_with c.args.inputs.now c.args.name.now) _ _ _ _ c.map_error.ensures c.in_ok-bytes.ensures.faults_stay

pub returns-clause-cause : goal.returns-clause-cause
returns-clause-cause g c =
    asking_explains (g.F.Files.told c.args.files.now) (inputs_with c.args.inputs.now c.args.name.now)
    (held_by c.args.holding.now c.requires.taken.0) c.in-Ok.map c.in-Err-associations_of.error c.map_error-in-Err-associations_of.result c.requires.taken.1
    (record {
      bytes = c.in_ok-bytes.bytes.items;
      file = c.in_ok-bytes.ensures.bytes;
      spelled = subst (λ bs. IsMap (scope_of c.args.holding.now.names) (scope_of c.args.holding.now.labels) bs c.in-Ok.map) c.as_slice.ensures.value c.in-Ok.ensures.found;
    })
    c.in-Err-associations_of.ensures.stops c.map_error-in-Err-associations_of.ensures

pub returns-clause-faults : goal.returns-clause-faults
returns-clause-faults g c =
    refused_faults MapErrors.Memory (λ e. Refusals.Map e) c.in-Err-associations_of.error c.map_error-in-Err-associations_of.result (inputs_with c.args.inputs.now c.args.name.now) _ _ _ _ c.map_error-in-Err-associations_of.ensures c.in_ok-bytes.ensures.faults_stay

pub returns-in-Ok-associations_of-clause-map : goal.returns-in-Ok-associations_of-clause-map
returns-in-Ok-associations_of-clause-map g c = λ digests. record {
  bytes = c.in_ok-bytes.bytes.items;
  file = c.in_ok-bytes.ensures.bytes;
  spelled = subst (λ bs. IsMap (scope_of c.args.holding.now.names) (scope_of c.args.holding.now.labels) bs c.in-Ok.map) c.as_slice.ensures.value
      c.in-Ok.ensures.found;
}
