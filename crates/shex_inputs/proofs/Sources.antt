-- What is known of each document of a schema, and of the base and the prefixes at the end of the first.
use Rattle.std.proofs.Common.{◌≡◌, ◌<◌, ◌+◌, ◌∙◌, ap, sym, subst, refl, List, [], ◌∷◌, ◌++◌, arith, inl, inr, length, map}
use Rattle.std.proofs.lemmas.List.{length-append, length-map}
use Rattle.std.specs.Prelude.{Contains, Some, option_map, slice_get}
use Rattle.std.specs.List.{AllByRecursion}
use Rattle.std.proofs.lemmas.List.Elements.{Contains-append_cases}
use Rattle.lists.proofs.Members.{from_map, in_one}
use Rattle.lists.proofs.Quantifiers.{all_of}
use Rattle.rdf_lex.specs.Prefixes.{AreOneLine}
use Rattle.rdf_terms.specs.OneLine.{IsOneLine}
use Rattle.proof_file.specs.declared.head.Digest256.{Digest256}
use Rattle.schema_documents.specs.Ordered.{IsOrderedDocument}
use Rattle.schema_reader.specs.Documents.{Read}
use Rattle.schema_reader.specs.Formats.{format_of}
use Rattle.schema_reader.specs.Laws.{NamesHaveLines, SchemasAreOrdered}
use Rattle.shex_io.specs.Files.{Told}
use Rattle.term_tokens.specs.Scopes.{Scope}
use Rattle.schema_files.specs.declared.error.SchemaFile.TheVariants.{Root}
use Rattle.schema_files.specs.Named.{Asked, name_of}
use Rattle.schema_documents.specs.Tree.{document_of}
use Rattle.schema_files.specs.declared.reading.Documents.{Documents}
use Rattle.schema_files.specs.Sources.{AreHeld, AreRead, AreSources, HoldsSource, Source, documents_of, next, root, root_names}

module _ (told : Told) (a : Asked) where
  -- each document is in its file
  all_held : (ss : List Source) → AreRead told a ss → (s : Source) → Contains ss s → HoldsSource told a s
  all_held ss (root r d holds) s h = subst (HoldsSource told a) (in_one (record { file = Root; base = a.base; read = r; digest = d }) s h) holds
  all_held ss (next before i file r d read found named holds) s h = elim (Contains-append_cases before (record { file = file; base = i.iri; read = r; digest = d } ∷ []) s h) [
    | inl earlier ↦ all_held before read s earlier
    | inr last ↦ subst (HoldsSource told a) (in_one (record { file = file; base = i.iri; read = r; digest = d }) s last) holds
  ]

  -- no minimum of a document is above its bound
  pub all_ordered : SchemasAreOrdered → (ss : List Source) → AreSources told a ss → AllByRecursion IsOrderedDocument (documents_of ss)
  all_ordered law ss are = all_of IsOrderedDocument (documents_of ss) (λ d h. (
      let (s, listed, same) = from_map (λ (z : Source). z.read.document) ss d h in
      let holds = all_held ss are.are_read s listed in
      subst IsOrderedDocument same (law (format_of (name_of a s.file)) s.base holds.bytes s.read holds.spelled)
      ))

  -- there is one at least
  some_read : (ss : List Source) → AreRead told a ss → 0 < length ss
  some_read ss (root r d holds) = omega arith
  some_read ss (next before i file r d read found named holds) =
      let last : List Source = record { file = file; base = i.iri; read = r; digest = d } ∷ [] in
      let more : length (before ++ last) ≡ length before + length last = length-append before last in
      let one : length last ≡ 1 = refl in
      omega (arith, more, one)

  pub some_documents : (d : Documents) (ss : List Source) → AreSources told a ss → AreHeld d ss → 0 < length d.docs.items
  some_documents d ss are held =
      let some : 0 < length ss = some_read ss are.are_read in
      let same : length (documents_of ss) ≡ length ss = length-map ss (λ (s : Source). s.read.document) in
      let own : length (map document_of d.docs.items) ≡ length d.docs.items = length-map d.docs.items document_of in
      let both : length (map document_of d.docs.items) ≡ length (documents_of ss) = ap length held.documents in
      omega (arith, some, same, own, both)

  -- the document of the schema file, under the schema's base
  abbrev of_root : Read → Digest256 → Source
  of_root r d = record { file = Root; base = a.base; read = r; digest = d }

  record IsFirst (ss : List Source) : Type 0 where
    read : Read
    digest : Digest256
    holds : HoldsSource told a (of_root read digest)
    first : slice_get ss 0 ≡ Some (of_root read digest)

  stays_first : (ss more : List Source) (s : Source) → slice_get ss 0 ≡ Some s → slice_get (ss ++ more) 0 ≡ Some s
  stays_first [] more s h = absurd cc
  stays_first (t ∷ ss) more s h = h

  -- it comes first
  root_first : (ss : List Source) → AreRead told a ss → IsFirst ss
  root_first ss (root r d holds) = record { read = r; digest = d; holds = holds; first = refl }
  root_first ss (next before i file r d read found named holds) =
      let f = root_first before read in
      record { read = f.read; digest = f.digest; holds = f.holds; first = stays_first before (record { file = file; base = i.iri; read = r; digest = d } ∷ []) (of_root f.read f.digest) f.first }

  one_scope : (v w : Scope) → Some v ≡ Some w → v ≡ w
  one_scope v w h = cc

  pub names_are_lines : NamesHaveLines → (ss : List Source) (v : Scope) → AreSources told a ss → IsOneLine a.base → Some v ≡ root_names ss → AreOneLine v.base v.prefixes
  names_are_lines law ss v are line is =
      let f = root_first ss are.are_read in
      let same : f.read.names ≡ v = one_scope f.read.names v (ap (option_map (λ (s : Source). s.read.names)) (sym f.first) ∙ sym is) in
      subst (λ (z : Scope). AreOneLine z.base z.prefixes) same (law (format_of a.root) a.base f.holds.bytes f.read line f.holds.spelled)
