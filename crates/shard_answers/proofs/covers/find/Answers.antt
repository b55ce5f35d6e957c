use Rattle.std.proofs.Common.{◌∙◌, ap, map, subst}
use Rattle.std.proofs.lemmas.Result.{IfErr-weaker, IfOk-weaker, err_from_is_err_and}
use Rattle.std.specs.Option.{option_map}
use Rattle.shex_io.specs.Fetching.{IsFile}
use Rattle.tool_words.specs.Asked.{of_cover}
use Rattle.tool_words.specs.Lent.{covering_of, shard_of}
use Rattle.shard_answers.specs.declared.error.CallFile.TheVariants.{Cover}
use Rattle.shard_answers.specs.declared.error.CoverFile.TheVariants.{Followed, Part}
use Rattle.shard_answers.proofs.Comparing.{all_explain, all_fault, behind_explains, behind_faults, covers_to}
use Rattle.shard_answers.proofs.Stopping.{fetch_explains, fetch_faults}
use Rattle.shard_answers.proofs.covers.find.Goals as goal

pub returns-in_err-ways-clause-cause : goal.returns-in_err-ways-clause-cause
returns-in_err-ways-clause-cause g c =
    let p = err_from_is_err_and c.from_residual.result c.from_residual.ensures.1 in
    rw (p.1, p.2)
    (fetch_explains (g.F.Files.told c.args.files.now) (of_cover (covering_of c.args.covering.now)) (Cover Followed) (g.F.Files.faults c.args.files.now) (g.F.Files.faults c.fetch.new.files)
    (g.F.Files.blame c.fetch.new.files) (g.F.Files.act c.fetch.new.files) c.in_err-ways.field-0.0 tt c.in_err-ways.ensures.stops)

pub returns-in_err-ways-clause-faults : goal.returns-in_err-ways-clause-faults
returns-in_err-ways-clause-faults g c =
    let p = err_from_is_err_and c.from_residual.result c.from_residual.ensures.1 in
    rw (p.1, p.2)
    (fetch_faults (g.F.Files.told c.args.files.now) (of_cover (covering_of c.args.covering.now)) (Cover Followed) (g.F.Files.faults c.args.files.now) (g.F.Files.faults c.fetch.new.files)
    (g.F.Files.blame c.fetch.new.files) (g.F.Files.act c.fetch.new.files) c.in_err-ways.field-0.0 c.in_err-ways.ensures.stops)

pub returns-in_err-bytes-clause-cause : goal.returns-in_err-bytes-clause-cause
returns-in_err-bytes-clause-cause g c =
    let p = err_from_is_err_and c.from_residual-in_err-bytes.result c.from_residual-in_err-bytes.ensures.1 in
    rw (p.1, p.2)
    (behind_explains (g.F.Files.told c.args.files.now) (g.F.Files.told c.fetch.new.files) (g.F.Files.faults c.args.files.now) (g.F.Files.faults c.fetch.new.files) (g.F.Files.faults c.fetch-2.new.files)
    (g.F.Files.blame c.fetch-2.new.files)
    (g.F.Files.act c.fetch-2.new.files) c.in_err-bytes.field-0.0 c.in_ok-ways.ensures.told_stays c.in_ok-ways.ensures.faults_stay (of_cover (covering_of c.args.covering.now)) (Cover Part)
    (c.in_ok-ways.ways.items, c.in_ok-ways.ensures.bytes) c.in_err-bytes.ensures.stops)

pub returns-in_err-bytes-clause-faults : goal.returns-in_err-bytes-clause-faults
returns-in_err-bytes-clause-faults g c =
    let p = err_from_is_err_and c.from_residual-in_err-bytes.result c.from_residual-in_err-bytes.ensures.1 in
    rw (p.1, p.2)
    (behind_faults (g.F.Files.told c.args.files.now) (g.F.Files.told c.fetch.new.files) (g.F.Files.faults c.args.files.now) (g.F.Files.faults c.fetch.new.files) (g.F.Files.faults c.fetch-2.new.files)
    (g.F.Files.blame c.fetch-2.new.files)
    (g.F.Files.act c.fetch-2.new.files) c.in_err-bytes.field-0.0 c.in_ok-ways.ensures.told_stays c.in_ok-ways.ensures.faults_stay (of_cover (covering_of c.args.covering.now)) (Cover Part)
    c.in_err-bytes.ensures.stops)

pub returns-clause-found : goal.returns-clause-found
returns-clause-found g c =
    let part_file = subst (λ t. IsFile t c.args.covering.now.part.now c.in_ok-bytes.bytes.items) c.in_ok-ways.ensures.told_stays c.in_ok-bytes.ensures.bytes in
    IfOk-weaker c.compare_all.result _ _
    (λ r finds.
    covers_to (g.F.Files.told c.args.files.now) (g.F.Files.told c.fetch-2.new.files)
    (covering_of c.args.covering.now) c.in_ok-ways.ways.items c.in_ok-bytes.bytes.items c.as_slice-2.result.now c.as_slice.result.now
    (map shard_of c.as_slice-3.result.now) (record { ways_file = c.in_ok-ways.ensures.bytes; part_file = part_file })
    (c.in_ok-bytes.ensures.told_stays ∙ c.in_ok-ways.ensures.told_stays) c.as_slice-2.ensures.value
    c.as_slice.ensures.value (ap (map shard_of) c.as_slice-3.ensures.value) (option_map (λ v. v.items) r) (finds _ _ c.in_ok-part.ensures))
    c.compare_all.ensures.found

pub returns-clause-cause : goal.returns-clause-cause
returns-clause-cause g c =
    let part_file = subst (λ t. IsFile t c.args.covering.now.part.now c.in_ok-bytes.bytes.items) c.in_ok-ways.ensures.told_stays c.in_ok-bytes.ensures.bytes in
    IfErr-weaker c.compare_all.result _ _
    (λ e stops.
    all_explain (g.F.Files.told c.args.files.now) (g.F.Files.told c.fetch-2.new.files)
    (covering_of c.args.covering.now) c.in_ok-ways.ways.items c.in_ok-bytes.bytes.items c.as_slice-2.result.now c.as_slice.result.now
    (map shard_of c.as_slice-3.result.now) (record { ways_file = c.in_ok-ways.ensures.bytes; part_file = part_file })
    (c.in_ok-bytes.ensures.told_stays ∙ c.in_ok-ways.ensures.told_stays) c.as_slice-2.ensures.value
    c.as_slice.ensures.value (ap (map shard_of) c.as_slice-3.ensures.value) (g.F.Files.faults c.args.files.now) (g.F.Files.faults c.fetch-2.new.files) (g.F.Files.faults c.compare_all.new.files)
    (g.F.Files.blame c.compare_all.new.files) (g.F.Files.act c.compare_all.new.files) (c.in_ok-bytes.ensures.faults_stay ∙ c.in_ok-ways.ensures.faults_stay) e stops)
    (c.compare_all.ensures.stops _ _ c.in_ok-part.ensures)

pub returns-clause-faults : goal.returns-clause-faults
returns-clause-faults g c =
    let part_file = subst (λ t. IsFile t c.args.covering.now.part.now c.in_ok-bytes.bytes.items) c.in_ok-ways.ensures.told_stays c.in_ok-bytes.ensures.bytes in
    IfErr-weaker c.compare_all.result _ _
    (λ e stops.
    all_fault (g.F.Files.told c.args.files.now) (g.F.Files.told c.fetch-2.new.files)
    (covering_of c.args.covering.now) c.in_ok-ways.ways.items c.in_ok-bytes.bytes.items c.as_slice-2.result.now c.as_slice.result.now
    (map shard_of c.as_slice-3.result.now) (record { ways_file = c.in_ok-ways.ensures.bytes; part_file = part_file })
    (c.in_ok-bytes.ensures.told_stays ∙ c.in_ok-ways.ensures.told_stays) c.as_slice-2.ensures.value
    c.as_slice.ensures.value (ap (map shard_of) c.as_slice-3.ensures.value) (g.F.Files.faults c.args.files.now) (g.F.Files.faults c.fetch-2.new.files) (g.F.Files.faults c.compare_all.new.files)
    (g.F.Files.blame c.compare_all.new.files) (g.F.Files.act c.compare_all.new.files) (c.in_ok-bytes.ensures.faults_stay ∙ c.in_ok-ways.ensures.faults_stay) e stops)
    (c.compare_all.ensures.stops _ _ c.in_ok-part.ensures)
