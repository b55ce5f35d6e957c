use Rattle.std.proofs.Common.{refl, subst}
use Rattle.std.proofs.lemmas.Result.{err_from_is_err_and}
use Rattle.shex_inputs.specs.declared.error.Source.TheVariants.{Data}
use Rattle.shex_inputs.proofs.Reading.{base_scheme}
use Rattle.tool_words.specs.Asked.{of_lines}
use Rattle.tool_words.specs.Lent.{lining_of}
use Rattle.shard_answers.specs.declared.error.CallFile.TheVariants.{Input}
use Rattle.shard_answers.specs.Answers.{AreHeld}
use Rattle.shard_answers.proofs.Stopping.{data_explains, data_faults, fetch_explains, fetch_faults}
use Rattle.shard_answers.proofs.lines.hold.Goals as goal

pub load-requires : goal.load-requires
load-requires g c = base_scheme c.args.lining.now.data_base.now c.requires

pub returns-in_err-bytes-clause-cause : goal.returns-in_err-bytes-clause-cause
returns-in_err-bytes-clause-cause g c =
    let p = err_from_is_err_and c.from_residual.result c.from_residual.ensures.1 in
    rw (p.1, p.2)
    (fetch_explains (g.F.Files.told c.args.files.now) (of_lines (lining_of c.args.lining.now)) (Input Data) (g.F.Files.faults c.args.files.now) (g.F.Files.faults c.fetch.new.files)
    (g.F.Files.blame c.fetch.new.files) (g.F.Files.act c.fetch.new.files) c.in_err-bytes.field-0.0 refl c.in_err-bytes.ensures.stops)

pub returns-in_err-bytes-clause-faults : goal.returns-in_err-bytes-clause-faults
returns-in_err-bytes-clause-faults g c =
    let p = err_from_is_err_and c.from_residual.result c.from_residual.ensures.1 in
    rw (p.1, p.2)
    (fetch_faults (g.F.Files.told c.args.files.now) (of_lines (lining_of c.args.lining.now)) (Input Data) (g.F.Files.faults c.args.files.now) (g.F.Files.faults c.fetch.new.files)
    (g.F.Files.blame c.fetch.new.files) (g.F.Files.act c.fetch.new.files) c.in_err-bytes.field-0.0 c.in_err-bytes.ensures.stops)

pub returns-in-Ok-clause-loaded : goal.returns-in-Ok-clause-loaded
returns-in-Ok-clause-loaded g c = record {
  bytes = c.in_ok-bytes.bytes.items;
  file = c.in_ok-bytes.ensures.bytes;
  held = subst (λ f. AreHeld f c.args.lining.now.data_base.now c.in_ok-bytes.bytes.items c.in-Ok.loaded.terms c.in-Ok.loaded.graph.triples) c.of_name-format.ensures
      (subst (λ bs. AreHeld c.of_name-format.result c.args.lining.now.data_base.now bs c.in-Ok.loaded.terms c.in-Ok.loaded.graph.triples) c.as_slice.ensures.value c.in-Ok.ensures.loaded);
}

pub returns-clause-cause : goal.returns-clause-cause
returns-clause-cause g c =
    data_explains (g.F.Files.told c.args.files.now) (lining_of c.args.lining.now) c.of_name-format.result c.in_ok-bytes.bytes.items c.as_slice.result.now c.in-Err.error c.data_stop.result
    c.in_ok-bytes.ensures.bytes c.of_name-format.ensures c.as_slice.ensures.value c.in-Err.ensures.unread c.data_stop.ensures

pub returns-clause-faults : goal.returns-clause-faults
returns-clause-faults g c =
    data_faults (of_lines (lining_of c.args.lining.now)) c.in-Err.error c.data_stop.result _ _ _ _ c.data_stop.ensures c.in_ok-bytes.ensures.faults_stay
