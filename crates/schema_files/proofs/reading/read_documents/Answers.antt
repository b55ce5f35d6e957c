use Rattle.std.proofs.Common.{◌≡◌, ◌<◌, All, arith, length, rules, subst, sym}
use Rattle.std.specs.Vec.{vec_len}
use Rattle.std.proofs.lemmas.Result.{err_from_is_err_and}
use Rattle.schema_documents.specs.Ordered.{IsOrderedDocument}
use Rattle.schema_files.specs.declared.asked.Asked.{Asked as LentAsked}
use Rattle.schema_files.specs.Held.{AreAll, asked_of, sources_of}
use Rattle.schema_files.specs.Refusals.{root}
use Rattle.schema_files.proofs.Steps.{all_held, all_ordered, first_read, some_held}
use Rattle.schema_files.proofs.reading.read_documents.Goals as goal

pub returns-in_err-first-clause-cause : goal.returns-in_err-first-clause-cause
returns-in_err-first-clause-cause g c =
    let p = err_from_is_err_and c.from_residual.result c.from_residual.ensures.1 in
    rw (p.1, p.2) (c.in_err-first.ensures.cause root)

pub follow_all-requires : goal.follow_all-requires
follow_all-requires g c =
    record {
      read = first_read (g.F.Files.told c.args.files.now) (g.F.Files.told c.read_file.new.files)
          (record { root = c.args.root; base = c.args.base; words = c.args.words }) c.in_ok-first.first c.in_ok-held.held.items
          c.in_ok-first.ensures.file c.in_ok-first.ensures.held c.in_ok-held.ensures.items c.in_ok-first.ensures.told_stays;
    }

pub remove-first-requires : goal.remove-first-requires
remove-first-requires g c =
    let asked : LentAsked = record { root = c.args.root; base = c.args.base; words = c.args.words } in
    let some : 0 < length c.follow_all.new.held.items = some_held (g.F.Files.told c.read_file.new.files) asked c.follow_all.new.held.items c.in_ok-follow_all.ensures.sources in
    let size : vec_len c.follow_all.new.held ≡ length c.follow_all.new.held.items = search rules in
    omega (arith, some, size)

pub returns-clause-sources : goal.returns-clause-sources
returns-clause-sources g c =
    let asked : LentAsked = record { root = c.args.root; base = c.args.base; words = c.args.words } in
    let told = g.F.Files.told c.read_file.new.files in
    let items = c.follow_all.new.held.items in
    let some = some_held told asked items c.in_ok-follow_all.ensures.sources in (
      sources_of (asked_of asked) items,
      subst (λ t. AreAll t asked items) c.in_ok-first.ensures.told_stays c.in_ok-follow_all.ensures.sources,
      all_held (asked_of asked) items c.remove-first.new.self.items c.remove-first.result c.into_parsed.result c.in_ok-documents_of.field-0 some
          c.remove-first.ensures.value c.remove-first.ensures.items c.into_parsed.ensures.parsed c.in_ok-documents_of.ensures.docs c.in_ok-documents_of.ensures.names c.in_ok-documents_of.ensures.digests,
    )

pub returns-clause-ordered : goal.returns-clause-ordered
returns-clause-ordered g c =
    let asked : LentAsked = record { root = c.args.root; base = c.args.base; words = c.args.words } in
    let told = g.F.Files.told c.read_file.new.files in
    let items = c.follow_all.new.held.items in
    let held = all_held (asked_of asked) items c.remove-first.new.self.items c.remove-first.result c.into_parsed.result c.in_ok-documents_of.field-0 (some_held told asked items c.in_ok-follow_all.ensures.sources)
    c.remove-first.ensures.value c.remove-first.ensures.items c.into_parsed.ensures.parsed c.in_ok-documents_of.ensures.docs c.in_ok-documents_of.ensures.names c.in_ok-documents_of.ensures.digests in
    subst (λ ds. All IsOrderedDocument ds) (sym held.documents)
    (all_ordered told (asked_of asked) c.schemas_are_ordered.ensures (sources_of (asked_of asked) items) c.in_ok-follow_all.ensures.sources.are_read)
