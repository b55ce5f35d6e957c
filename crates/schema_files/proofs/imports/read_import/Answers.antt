use Rattle.std.proofs.Common.{◌≡◌, ◌∙◌, true, encode_utf8_all, refl, subst, sym}
use Rattle.std.proofs.lemmas.Result.{err_from_is_err_and}
use Rattle.schema_files.specs.Held.{asked_of, source_of, sources_of}
use Rattle.schema_files.specs.Named.{file_for}
use Rattle.schema_files.specs.Sources.{AreRead, is_read}
use Rattle.schema_files.proofs.Steps.{base_schemed, lacking_stops, next_file, read_on, seen, seen_on, with_last}
use Rattle.schema_files.proofs.imports.read_import.Goals as goal

pub returns-in-None-clause-cause : goal.returns-in-None-clause-cause
returns-in-None-clause-cause g c =
    let a = asked_of c.args.asked.now in
    lacking_stops (g.F.Files.told c.args.files.now) a (sources_of a c.args.held.now)
    (record { by = c.args.by; iri = encode_utf8_all c.args.iri.now }) c.requires.read c.requires.next c.args.by c.args.iri.now c.lacks_word.result refl
    (sym c.file_for.ensures ∙ c.in-None.is) c.lacks_word.ensures

pub read_file-requires : goal.read_file-requires
read_file-requires g c =
    base_schemed (asked_of c.args.asked.now) (encode_utf8_all c.args.iri.now) c.in-Some.file (sym c.file_for.ensures ∙ c.in-Some.is) c.requires.scheme

pub returns-then-is_read-clause-followed : goal.returns-then-is_read-clause-followed
returns-then-is_read-clause-followed g c =
    let a = asked_of c.args.asked.now in
    seen (g.F.Files.told c.args.files.now) a (sources_of a c.args.held.now)
    (record { by = c.args.by; iri = encode_utf8_all c.args.iri.now }) c.requires.read c.requires.next c.in-Some.file (sym c.file_for.ensures ∙ c.in-Some.is)
    (sym c.is_read.ensures ∙ c.if-is_read.true)

pub returns-in_err-next-clause-cause : goal.returns-in_err-next-clause-cause
returns-in_err-next-clause-cause g c =
    let a = asked_of c.args.asked.now in
    let p = err_from_is_err_and c.from_residual.result c.from_residual.ensures.1 in
    rw (p.1, p.2) (c.in_err-next.ensures.cause (next_file (g.F.Files.told c.args.files.now) a (sources_of a c.args.held.now) (record { by = c.args.by; iri = encode_utf8_all c.args.iri.now }) c.requires.read c.requires.next c.in-Some.file (sym c.file_for.ensures ∙ c.in-Some.is) (sym c.is_read.ensures ∙ c.if-is_read.false)))

pub returns-clause-read : goal.returns-clause-read
returns-clause-read g c =
    let a = asked_of c.args.asked.now in
    let told = g.F.Files.told c.args.files.now in
    subst (λ ss. AreRead told a ss) (sym (with_last a c.args.held.now c.in_ok-next.next))
    (read_on told a (sources_of a c.args.held.now) (record { by = c.args.by; iri = encode_utf8_all c.args.iri.now }) c.requires.read c.requires.next c.in-Some.file (sym c.file_for.ensures
    ∙ c.in-Some.is)
    (source_of a c.in_ok-next.next) c.in_ok-next.ensures.file refl c.in_ok-next.ensures.held (sym c.is_read.ensures ∙ c.if-is_read.false))

pub returns-clause-followed : goal.returns-clause-followed
returns-clause-followed g c =
    let a = asked_of c.args.asked.now in
    subst (λ ss. is_read a ss (file_for a.words (encode_utf8_all c.args.iri.now)) ≡ true) (sym (with_last a c.args.held.now c.in_ok-next.next))
    (seen_on (g.F.Files.told c.args.files.now) a (sources_of a c.args.held.now) (record { by = c.args.by; iri = encode_utf8_all c.args.iri.now }) c.requires.read c.requires.next c.in-Some.file (sym c.file_for.ensures ∙ c.in-Some.is)
    (source_of a c.in_ok-next.next) c.in_ok-next.ensures.file refl)
