use Rattle.std.proofs.Common.{◌∙◌, ap, codes, refl, subst}
use Rattle.std.proofs.lemmas.Result.{err_from_is_err_and}
use Rattle.graph_index.specs.declared.read_error.ReadError.TheVariants as ReadErrors
use Rattle.shex_inputs.specs.declared.error.Refusal.TheVariants as Refusals
use Rattle.shex_inputs.specs.declared.error.Source.TheVariants.{Data}
use Rattle.proof_file.specs.declared.head.Digests.{Digests}
use Rattle.shex_inputs.specs.Held.{digests_with, held_by}
use Rattle.shex_io.specs.Fetching.{IsFile}
use Rattle.schema_files.specs.Sources.{documents_of}
use Rattle.term_tokens.specs.Scopes.{scope_of}
use Rattle.shex_inputs.specs.Named.{inputs_with}
use Rattle.shex_inputs.specs.Stops.{FetchStops}
use Rattle.shex_inputs.proofs.Reading.{are_taken, base_scheme, data_explains, fetch_before_map, fetch_explains, refused_before_map, refused_faults}
use Rattle.shex_inputs.proofs.holding.read_holding.Goals as goal

pub hold-requires : goal.hold-requires
hold-requires g c = record { scheme = base_scheme c.args.inputs.now.data_base.now c.requires.data_base }

pub returns-in_err-loaded-clause-cause : goal.returns-in_err-loaded-clause-cause
returns-in_err-loaded-clause-cause g c = λ map_name.
    let p = err_from_is_err_and c.from_residual.result c.from_residual.ensures.1 in
    rw (p.1, p.2) (c.in_err-loaded.ensures.cause map_name)

pub returns-in_err-loaded-clause-faults : goal.returns-in_err-loaded-clause-faults
returns-in_err-loaded-clause-faults g c = λ map_name.
    let p = err_from_is_err_and c.from_residual.result c.from_residual.ensures.1 in
    rw (p.1, p.2) (c.in_err-loaded.ensures.faults map_name)

pub returns-in_err-bytes-clause-cause : goal.returns-in_err-bytes-clause-cause
returns-in_err-bytes-clause-cause g c = λ map_name.
    let p = err_from_is_err_and c.from_residual-in_err-bytes.result c.from_residual-in_err-bytes.ensures.1 in
    let before = g.F.Files.faults c.read_schema.new.files in
    let after = g.F.Files.faults c.fetch.new.files in
    let blame = g.F.Files.blame c.fetch.new.files in
    let act = g.F.Files.act c.fetch.new.files in
    let l = c.in_ok-loaded.loaded in
    rw (p.1, p.2)
    (fetch_explains (g.F.Files.told c.args.files.now) (inputs_with c.args.inputs.now map_name) Data before after blame act c.in_err-bytes.field-0.0 (l.terms, l.schema, l.strata, scope_of l.labels, (c.in_ok-loaded.ensures.taken map_name).0)
    (subst (λ t. FetchStops t c.args.inputs.now.data.now Data before after blame act c.in_err-bytes.field-0.0) c.in_ok-loaded.ensures.told_stays c.in_err-bytes.ensures.stops))

pub returns-in-Ok-clause-taken : goal.returns-in-Ok-clause-taken
returns-in-Ok-clause-taken g c = λ map_name.
    let (taken, digests) = c.in_ok-loaded.ensures.taken map_name in
    let l = c.in_ok-loaded.loaded in
    let files : Digests = digests_with l.digests c.as_slice-source.result.now in
    let (triples, spelled, holding) = c.in-Ok.ensures.read (documents_of taken.sources) files taken.is_schema in
    record {
      files = files;
      taken = are_taken (g.F.Files.told c.args.files.now) (inputs_with c.args.inputs.now map_name)
          (held_by c.in-Ok.taken.holding files) c.of_name-format.result l.terms l.schema l.strata
          (scope_of l.labels) c.in_ok-bytes.bytes.items c.as_slice-source.result.now triples taken (ap scope_of c.in-Ok.ensures.labels)
          (subst (λ t. IsFile t c.args.inputs.now.data.now c.in_ok-bytes.bytes.items) c.in_ok-loaded.ensures.told_stays c.in_ok-bytes.ensures.bytes)
          c.of_name-format.ensures c.as_slice-source.ensures.value spelled holding l.digests digests refl refl;
      kept = c.in-Ok.ensures.kept;
    }

pub returns-in-Ok-clause-strata : goal.returns-in-Ok-clause-strata
returns-in-Ok-clause-strata g c =
    let (taken, digests) = c.in_ok-loaded.ensures.taken (codes "") in
    let (triples, spelled, holding) = c.in-Ok.ensures.read (documents_of taken.sources)
    (digests_with c.in_ok-loaded.loaded.digests c.as_slice-source.result.now) taken.is_schema in
    holding.is_schema.strata

pub returns-in-Ok-clause-distinct : goal.returns-in-Ok-clause-distinct
returns-in-Ok-clause-distinct g c =
    let (taken, digests) = c.in_ok-loaded.ensures.taken (codes "") in
    let (triples, spelled, holding) = c.in-Ok.ensures.read (documents_of taken.sources)
    (digests_with c.in_ok-loaded.loaded.digests c.as_slice-source.result.now) taken.is_schema in
    holding.distinct

pub returns-in_err-bytes-clause-before_map : goal.returns-in_err-bytes-clause-before_map
returns-in_err-bytes-clause-before_map g c =
    let p = err_from_is_err_and c.from_residual-in_err-bytes.result c.from_residual-in_err-bytes.ensures.1 in
    rw (p.1, p.2) (fetch_before_map _ _ _ _ _ _ _ _ (λ e. cc) c.in_err-bytes.ensures.stops)

pub returns-clause-before_map : goal.returns-clause-before_map
returns-clause-before_map g c = refused_before_map ReadErrors.Memory (λ e. Refusals.Data e) c.in-Err.error c.data_error.result c.data_error.ensures (λ e. cc)

pub returns-clause-cause : goal.returns-clause-cause
returns-clause-cause g c = λ map_name.
    let l = c.in_ok-loaded.loaded in
    data_explains (g.F.Files.told c.args.files.now) (inputs_with c.args.inputs.now map_name) c.of_name-format.result l.terms l.schema l.strata
    (scope_of l.labels) c.in_ok-bytes.bytes.items c.as_slice-source.result.now c.in-Err.error c.data_error.result (c.in_ok-loaded.ensures.taken map_name).0
    (subst (λ t. IsFile t c.args.inputs.now.data.now c.in_ok-bytes.bytes.items) c.in_ok-loaded.ensures.told_stays c.in_ok-bytes.ensures.bytes)
    c.of_name-format.ensures c.as_slice-source.ensures.value c.in-Err.ensures.unread c.data_error.ensures

pub returns-clause-faults : goal.returns-clause-faults
returns-clause-faults g c = λ map_name.
    refused_faults ReadErrors.Memory (λ e. Refusals.Data e) c.in-Err.error c.data_error.result (inputs_with c.args.inputs.now map_name) _ _ _ _ c.data_error.ensures (c.in_ok-bytes.ensures.faults_stay
    ∙ c.in_ok-loaded.ensures.faults_stay)
