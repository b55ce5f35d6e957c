-- The steps of the reading, by what the code holds.
use Rattle.std.proofs.Common.{◌≡◌, ◌∙◌, ◌⊎◌, ap, sym, subst, refl, ℕ, ◌<◌, ◌≤◌, ◌+◌, ◌-◌, true, false, List, [], ◌∷◌, ◌++◌, inl, inr, arith, drop, get_or, length, length-append, map, append-nil, encode_utf8_all, IsSome}
use Rattle.std.specs.Prelude.{All, Option, Some, None, ◌||◌, option_map}
use Rattle.std.specs.List.{list_any, position, remove}
use Rattle.std.specs.Str.{bytes_eq}
use Rattle.std.proofs.lemmas.List.{drop-append-le, get_or_default, get_or-map, length-map, map-append}
use Rattle.std.proofs.lemmas.List.Elements.{All-push}
use Rattle.std.proofs.lemmas.List.Quantifiers.{position-Some}
use Rattle.std.proofs.lemmas.Slice.Eq.{bytes_eq-Decides}
use Rattle.iri_resolve.specs.Reference.{scheme_of}
use Rattle.lists.proofs.Members.{items_left}
use Rattle.input_names.specs.Names.{Import as Word, is_among}
use Rattle.input_names.specs.Lent.{import_of}
use Rattle.schema_documents.specs.Ordered.{IsOrderedDocument}
use Rattle.schema_documents.specs.Tree.{document_of}
use Rattle.schema_documents.specs.declared.error.SchemaError.{SchemaError}
use Rattle.schema_reader.specs.declared.format.Format.{Format}
use Rattle.schema_reader.specs.Documents.{AreNone, Explains as ReaderExplains, read_of}
use Rattle.schema_reader.specs.Formats.{format_of}
use Rattle.schema_reader.specs.Laws.{SchemasAreOrdered}
use Rattle.shexc_reader.specs.declared.state.Parsed.{Parsed}
use Rattle.term_tokens.specs.Scopes.{scope_of}
use Rattle.shex_io.specs.Files.{Told}
use Rattle.schema_files.specs.declared.error.FilesError.{FilesError}
use Rattle.schema_files.specs.declared.error.FilesError.TheVariants as errors
use Rattle.schema_files.specs.declared.error.FilesRefusal.TheVariants as refusals
use Rattle.schema_files.specs.declared.error.SchemaFile.{SchemaFile}
use Rattle.schema_files.specs.declared.error.SchemaFile.TheVariants.{Imported, Root}
use Rattle.schema_files.specs.declared.asked.Asked.{Asked as LentAsked}
use Rattle.schema_files.specs.declared.held.Held.{Held}
use Rattle.schema_files.specs.declared.reading.Documents.{Documents}
use Rattle.shex_io.specs.Fetching.{IsFile}
use Rattle.schema_files.specs.Held.{AreAll, AreFollowed, AreFollowedTo, ComesTo, WereRead, and_next, asked_of, digests_of, held_document, imports_at, imports_before, source_of, sources_of}
use Rattle.schema_files.specs.Named.{Asked, base_for, file_for, name_of}
use Rattle.schema_files.specs.Refusals.{Explains, IsNext, LacksWord, imported}
use Rattle.schema_files.specs.Sources.{AreHeld, AreRead, HoldsSource, Import, Source, digest_list, documents_of, is_read, next, next_import, root, source_digests}
use Rattle.schema_files.specs.Stops.{IsRefusalOf}
use Rattle.schema_files.proofs.Few.{few_read}
use Rattle.schema_files.proofs.Following.{all_before, comes_next, comes_to, counted, followed_on, last_read, passed}

some_one : {X : Type 0} (x y : X) → Some x ≡ Some y → x ≡ y
some_one x y e = cc

no_file : (file : SchemaFile) → Path (Option SchemaFile) None (Some file) → ⊥
no_file file e = cc

-- the base of an imported document is the IRI of its import
pub base_is_iri : (a : Asked) (iri : List ℕ) (file : SchemaFile) → file_for a.words iri ≡ Some file → base_for a file ≡ iri
base_is_iri a iri file e = by (position (λ w. bytes_eq w.iri iri) a.words) refl e
  where
    there : (n : ℕ) → position (λ w. bytes_eq w.iri iri) a.words ≡ Some n → base_for a (Imported n) ≡ iri
    there n at =
        let none : Word = record { iri = []; file = [] } in
        let p = position-Some (λ w. bytes_eq w.iri iri) a.words n none at in
        get_or-map (λ (w : Word). w.iri) a.words n none [] p.0 ∙ (bytes_eq-Decides (get_or a.words n none).iri iri).0 p.1

    by : (o : Option ℕ) → position (λ w. bytes_eq w.iri iri) a.words ≡ o → option_map (λ n. Imported n) o ≡ Some file → base_for a file ≡ iri
    by None at e = absurd (no_file file e)
    by (Some n) at e = ap (base_for a) (sym (some_one (Imported n) file e)) ∙ there n at

pub base_schemed : (a : Asked) (iri : List ℕ) (file : SchemaFile) → file_for a.words iri ≡ Some file → IsSome (scheme_of iri) → IsSome (scheme_of (base_for a file))
base_schemed a iri file e h = subst (λ t. IsSome (scheme_of t)) (sym (base_is_iri a iri file e)) h

-- whether a file was read, by the files of the documents
pub read_by_files : (a : Asked) (held : List Held) (name : List ℕ) → list_any (λ h. bytes_eq (name_of a h.file) name) held ≡ is_among name (map (λ s. name_of a s.file) (sources_of a held))
read_by_files a [] name = refl
read_by_files a (h ∷ held) name = ap (λ b. bytes_eq (name_of a h.file) name || b) (read_by_files a held name)

module _ (told : Told) (a : Asked) where
  -- bytes that spell no document stop the reading, and so does want of memory
  pub document_stops :
      (file : SchemaFile) (e : SchemaError) (stop : FilesError) (format : Format) (base source bytes : List ℕ) → format ≡ format_of (name_of a file) → base ≡ base_for a file → source ≡ bytes →
      IsRefusalOf file e stop → IsFile told (name_of a file) bytes → ReaderExplains format base e source → AreNone format base source e → IsNext told a file (base_for a file) → Explains told a stop
  document_stops file e stop format base source bytes formats bases sources (inl (memory, is)) held cause none n = subst (λ s. Explains told a s) (sym is) tt
  document_stops file e stop format base source bytes formats bases sources (inr (apart, is)) held cause none n =
      subst (λ s. Explains told a s) (sym is) (record {
        base = base_for a file;
        next = n;
        bytes = bytes;
        is_file = held;
        apart = apart;
        cause = subst (λ (k : Format × List ℕ × List ℕ). ReaderExplains k.0 k.1 e k.2) (λ i. (formats i, bases i, sources i)) cause;
        none = subst (λ (k : Format × List ℕ × List ℕ). AreNone k.0 k.1 k.2 e) (λ i. (formats i, bases i, sources i)) none apart;
      })

  module _ (ss : List Source) (i : Import) (read : AreRead told a ss) (comes : ComesTo a ss i) where
    pub lacking_stops : (by : SchemaFile) (iri : List ℕ) (stop : FilesError) → i ≡ record { by = by; iri = encode_utf8_all iri } →
        file_for a.words i.iri ≡ None → (stop ≡ errors.Memory) ⊎ (stop ≡ errors.Refused (refusals.Import by iri)) → Explains told a stop
    lacking_stops by iri stop same none (inl is) = subst (λ s. Explains told a s) (sym is) tt
    lacking_stops by iri stop same none (inr is) =
        let l : LacksWord told a i = record { sources = ss; are_read = read; next = comes_next a ss i comes (ap (is_read a ss) none); missing = none } in
        subst (λ s. Explains told a s) (sym is) (subst (λ j. LacksWord told a j) same l)

    module _ (file : SchemaFile) (named : file_for a.words i.iri ≡ Some file) where
      is_next : is_read a ss (Some file) ≡ false → next_import a ss ≡ Some i
      is_next new = comes_next a ss i comes (ap (is_read a ss) named ∙ new)

      pub next_file : is_read a ss (Some file) ≡ false → IsNext told a file (base_for a file)
      next_file new = subst (λ b. IsNext told a file b) (sym (base_is_iri a i.iri file named)) (imported ss i file read (is_next new) named)

      pub seen : is_read a ss (Some file) ≡ true → is_read a ss (file_for a.words i.iri) ≡ true
      seen e = ap (is_read a ss) named ∙ e

      module _ (s : Source) (same : s.file ≡ file) (base : s.base ≡ base_for a s.file) where
        at_iri : s.base ≡ i.iri
        at_iri = base ∙ ap (base_for a) same ∙ base_is_iri a i.iri file named

        is_source : s ≡ record { file = file; base = i.iri; read = s.read; digest = s.digest }
        is_source = λ j. record { file = same j; base = at_iri j; read = s.read; digest = s.digest }

        pub read_on : HoldsSource told a s → is_read a ss (Some file) ≡ false → AreRead told a (ss ++ s ∷ [])
        read_on held new =
            subst (λ t. AreRead told a (ss ++ t ∷ [])) (sym is_source) (next ss i file s.read s.digest read (is_next new) named (subst (λ t. HoldsSource told a t) is_source held))

        pub seen_on : is_read a (ss ++ s ∷ []) (file_for a.words i.iri) ≡ true
        seen_on = ap (is_read a (ss ++ s ∷ [])) (named ∙ ap (λ f. Some f) (sym same)) ∙ last_read a ss s

pub with_last : (a : Asked) (held : List Held) (h : Held) → sources_of a (held ++ h ∷ []) ≡ sources_of a held ++ source_of a h ∷ []
with_last a held h = map-append (source_of a) held (h ∷ [])

-- ---- the document at a place

module _ (a : Asked) (held : List Held) (at : ℕ) (h : Held) (inside : at < length held) (is : h ≡ get_or held at h) where
  here : drop at (sources_of a held) ≡ source_of a h ∷ drop (at + 1) (sources_of a held)
  here =
      items_left (sources_of a held) at (source_of a h) (omega (arith, inside, length-map held (source_of a)))
      (ap (source_of a) is ∙ sym (get_or-map (source_of a) held at h (source_of a h) inside))

  pub imports_counted : length (imports_at (sources_of a held) at) ≡ length h.parsed.doc.imports
  imports_counted = counted (sources_of a held) at (source_of a h) (drop (at + 1) (sources_of a held)) here

  pub number_inside : (number : ℕ) → number < length (imports_at (sources_of a held) at) → number < length h.parsed.doc.imports
  number_inside number l = omega (arith, l, imports_counted)

  module _ (number : ℕ) (l : number < length (imports_at (sources_of a held) at)) (iri : List ℕ) (got : iri ≡ get_or h.parsed.doc.imports number iri)
      (followed : AreFollowed a (sources_of a held) (imports_before (sources_of a held) at number)) where
    pub comes_here : ComesTo a (sources_of a held) (record { by = h.file; iri = encode_utf8_all iri })
    comes_here = comes_to (sources_of a held) at (source_of a h) (drop (at + 1) (sources_of a held)) here number iri (number_inside number l) got a followed

    followed_with : (more : List Source) → is_read a (sources_of a held ++ more) (file_for a.words (encode_utf8_all iri)) ≡ true →
        AreFollowed a (sources_of a held ++ more) (imports_before (sources_of a held ++ more) at (number + 1))
    followed_with more e = followed_on (sources_of a held) at (source_of a h) (drop (at + 1) (sources_of a held)) here a more number iri (number_inside number l) got followed e

    pub followed_here : (o : Option Held) → is_read a (sources_of a (and_next held o)) (file_for a.words (encode_utf8_all iri)) ≡ true →
        AreFollowed a (sources_of a (and_next held o)) (imports_before (sources_of a (and_next held o)) at (number + 1))
    followed_here None e =
        subst (λ (ss : List Source). AreFollowed a ss (imports_before ss at (number + 1))) (append-nil (sources_of a held))
        (followed_with [] (ap (λ (ss : List Source). is_read a ss (file_for a.words (encode_utf8_all iri))) (append-nil (sources_of a held)) ∙ e))
    followed_here (Some k) e =
        subst (λ (ss : List Source). AreFollowed a ss (imports_before ss at (number + 1))) (sym (with_last a held k))
        (followed_with (source_of a k ∷ []) (ap (λ (ss : List Source). is_read a ss (file_for a.words (encode_utf8_all iri))) (sym (with_last a held k)) ∙ e))

-- all imports of the document at a place are followed, and so all before the next document
pub passed_here :
    (a : Asked) (held now : List Held) (at number count : ℕ) → at < length held → ((more : List Held) × (now ≡ held ++ more)) →
    length (imports_at (sources_of a held) at) ≡ count → count ≤ number → number ≤ count →
    AreFollowed a (sources_of a now) (imports_before (sources_of a now) at number) → AreFollowed a (sources_of a now) (imports_before (sources_of a now) (at + 1) 0)
passed_here a [] now at number count inside grown counted_is low high followed = absurd (omega (arith, inside))
passed_here a (k ∷ ks) now at number count inside (more, e) counted_is low high followed =
    let all : sources_of a now ≡ sources_of a (k ∷ ks) ++ sources_of a more = ap (sources_of a) e ∙ map-append (source_of a) (k ∷ ks) more in
    subst (λ (us : List Source). AreFollowed a us (imports_before us (at + 1) 0)) (sym all)
    (go (get_or (k ∷ ks) at k) (get_or_default (k ∷ ks) at k (get_or (k ∷ ks) at k) inside) (subst (λ (us : List Source). AreFollowed a us (imports_before us at number)) all followed))
  where
    go :
        (h : Held) → h ≡ get_or (k ∷ ks) at h → AreFollowed a (sources_of a (k ∷ ks) ++ sources_of a more) (imports_before (sources_of a (k ∷ ks) ++ sources_of a more) at number) →
        AreFollowed a (sources_of a (k ∷ ks) ++ sources_of a more) (imports_before (sources_of a (k ∷ ks) ++ sources_of a more) (at + 1) 0)
    go h is followed =
        let old = sources_of a (k ∷ ks) in
        let new = sources_of a more in
        let rest = drop (at + 1) old in
        let there : drop at old ≡ source_of a h ∷ rest = here a (k ∷ ks) at h inside is in
        let still : drop at (old ++ new) ≡ source_of a h ∷ (rest ++ new) = drop-append-le at old new (omega (arith, inside, length-map (k ∷ ks) (source_of a)))
        ∙ ap (λ (us : List Source). us ++ new) there in
        let same : number ≡ length (imports_at (old ++ new) at) =
        omega (arith, low, high, counted_is, counted old at (source_of a h) rest there, counted (old ++ new) at (source_of a h) (rest ++ new) still) in
        passed (old ++ new) at (source_of a h) (rest ++ new) still a (subst (λ n. AreFollowed a (old ++ new) (imports_before (old ++ new) at n)) same followed)

-- ---- the loop over the documents

pub goes_down : (told : Told) (asked : LentAsked) (held : List Held) (at : ℕ) → WereRead told asked held → at < length held → length asked.words.now + 1 - (at + 1) < length asked.words.now + 1 - at
goes_down told asked held at read inside =
    let few : length (sources_of (asked_of asked) held) ≤ length (asked_of asked).words + 1 = few_read told (asked_of asked) (sources_of (asked_of asked) held) read in
    omega (arith, few, inside, length-map held (source_of (asked_of asked)), length-map asked.words.now import_of)

pub all_here : (told : Told) (asked : LentAsked) (held : List Held) (at : ℕ) → WereRead told asked held → length held ≤ at → AreFollowedTo asked held at 0 → AreAll told asked held
all_here told asked held at read past followed =
    let a = asked_of asked in
    record { are_read = read; all_read = all_before a (sources_of a held) at (omega (arith, past, length-map held (source_of a))) followed }

-- ---- the first document, and all of them

pub first_read :
    (told other : Told) (asked : LentAsked) (h : Held) (items : List Held) → h.file ≡ Root → HoldsSource told (asked_of asked) (source_of (asked_of asked) h) → items ≡ h ∷ [] → other ≡ told →
    WereRead other asked items
first_read told other asked h items is held items_are same =
    let a = asked_of asked in
    let source : source_of a h ≡ record { file = Root; base = a.base; read = read_of h.parsed; digest = h.digest } =
    λ i. record { file = is i; base = base_for a (is i); read = read_of h.parsed; digest = h.digest } in
    let one : WereRead told asked (h ∷ []) = subst (λ s. AreRead told a (s ∷ [])) (sym source) (root (read_of h.parsed) h.digest (subst (λ s. HoldsSource told a s) source held)) in
    subst (λ t. WereRead t asked items) (sym same) (subst (λ hs. WereRead told asked hs) (sym items_are) one)

some_source : (told : Told) (a : Asked) (ss : List Source) → AreRead told a ss → 0 < length ss
some_source told a ss (root r d h) = omega arith
some_source told a ss (next before i file r d h is named held) = omega (arith, length-append before (record { file = file; base = i.iri; read = r; digest = d } ∷ []))

pub some_held : (told : Told) (asked : LentAsked) (held : List Held) → AreAll told asked held → 0 < length held
some_held told asked held all = omega (arith, some_source told (asked_of asked) (sources_of (asked_of asked) held) all.are_read, length-map held (source_of (asked_of asked)))

held_documents : (a : Asked) (held : List Held) → map held_document held ≡ documents_of (sources_of a held)
held_documents a [] = refl
held_documents a (h ∷ held) = ap (λ ds. held_document h ∷ ds) (held_documents a held)

held_digests : (a : Asked) (held : List Held) → digests_of held ≡ source_digests (sources_of a held)
held_digests a [] = refl
held_digests a (h ∷ held) = ap (λ ds. h.digest ∷ ds) (held_digests a held)

pub all_held :
    (a : Asked) (items rest : List Held) (h : Held) (first : Parsed) (d : Documents) → 0 < length items → h ≡ get_or items 0 h → rest ≡ remove items 0 → first ≡ h.parsed →
    map document_of d.docs.items ≡ document_of first.doc ∷ map held_document rest → d.names ≡ first.prefixes → digest_list d.digests ≡ h.digest ∷ digests_of rest →
    AreHeld d (sources_of a items)
all_held a [] rest h first d some is left parsed docs names digests = absurd (omega (arith, some))
all_held a (k ∷ ks) rest h first d some is left parsed docs names digests =
    let all : first ≡ k.parsed = parsed ∙ ap (λ (x : Held). x.parsed) is in
    record {
      documents = docs ∙ (λ i. document_of (all i).doc ∷ map held_document (left i)) ∙ held_documents a (k ∷ ks);
      names = ap (λ p. Some (scope_of p)) (names ∙ ap (λ (p : Parsed). p.prefixes) all);
      digests = digests ∙ (λ i. (is i).digest ∷ digests_of (left i)) ∙ held_digests a (k ∷ ks);
    }

module _ (told : Told) (a : Asked) (law : SchemasAreOrdered) where
  source_ordered : (s : Source) → HoldsSource told a s → IsOrderedDocument s.read.document
  source_ordered s h = law (format_of (name_of a s.file)) s.base h.bytes s.read h.spelled

  pub all_ordered : (ss : List Source) → AreRead told a ss → All IsOrderedDocument (documents_of ss)
  all_ordered ss (root r d h) = All-push IsOrderedDocument [] r.document (λ k e l. absurd (omega (arith, l))) (source_ordered (record { file = Root; base = a.base; read = r; digest = d }) h)
  all_ordered ss (next before i file r d h is named held) =
      let s : Source = record { file = file; base = i.iri; read = r; digest = d } in
      subst (λ ds. All IsOrderedDocument ds) (sym (map-append (λ (t : Source). t.read.document) before (s ∷ [])))
      (All-push IsOrderedDocument (documents_of before) r.document (all_ordered before h) (source_ordered s held))
