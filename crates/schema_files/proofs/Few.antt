-- Each document that is read has a file of its own, so there are few.
use Rattle.std.proofs.Common.{◌≡◌, ◌≤◌, ◌<◌, ◌+◌, ◌∙◌, ◌⊎◌, ap, sym, subst, refl, ℕ, Bool, true, false, not, cond, List, [], ◌∷◌, inl, inr, arith, get_or, length, map}
use Rattle.std.specs.Prelude.{Contains, Option, Some, None, option_map}
use Rattle.std.specs.Bool.{Decides}
use Rattle.std.specs.List.{IsDistinct, find, position}
use Rattle.std.specs.Str.{bytes_eq}
use Rattle.std.proofs.lemmas.List.{get_or_default, length-map, map-append}
use Rattle.std.proofs.lemmas.List.Elements.{Contains-append_cases}
use Rattle.std.proofs.lemmas.List.Quantifiers.{position-Some}
use Rattle.std.proofs.lemmas.Map.Keys.{IsDistinct-push}
use Rattle.std.proofs.lemmas.Slice.Eq.{bytes_eq-Decides}
use Rattle.lists.proofs.Among.{few_among}
use Rattle.lists.proofs.Distinct.{distinct_items}
use Rattle.lists.proofs.Members.{in_one, is_first, is_later, item_there}
use Rattle.lists.specs.Equality.{decided_equiv}
use Rattle.shex_io.specs.Files.{Told}
use Rattle.input_names.specs.Names.{Import as Word}
use Rattle.schema_files.specs.declared.error.SchemaFile.{SchemaFile}
use Rattle.schema_files.specs.declared.error.SchemaFile.TheVariants.{Imported}
use Rattle.schema_files.specs.Named.{Asked, file_for, name_of}
use Rattle.schema_files.specs.Sources.{AreRead, Import, Source, imports_of, is_read, next, next_import, root}

some_one : {X : Type 0} (x y : X) → Some x ≡ Some y → x ≡ y
some_one x y e = cc

no_file : (file : SchemaFile) → Path (Option SchemaFile) None (Some file) → ⊥
no_file file e = cc

found_passes : (p : Import → Bool) (is : List Import) (i : Import) → find p is ≡ Some i → p i ≡ true
found_passes p [] i e = cc
found_passes p (j ∷ is) i e = by (p j) refl e (λ h. found_passes p is i h)
  where
    by : (b : Bool) → p j ≡ b → cond b (Some j) (find p is) ≡ Some i → (find p is ≡ Some i → p i ≡ true) → p i ≡ true
    by true h e deeper = ap p (sym (some_one j i e)) ∙ h
    by false h e deeper = deeper e

not_true : (b : Bool) → not b ≡ true → b ≡ false
not_true true e = sym e
not_true false e = refl

-- the next import is by an IRI for which no word names a file that was read
pub next_is_new : (a : Asked) (ss : List Source) (i : Import) (file : SchemaFile) → next_import a ss ≡ Some i → file_for a.words i.iri ≡ Some file → is_read a ss (Some file) ≡ false
next_is_new a ss i file e named =
    ap (is_read a ss) (sym named) ∙ not_true (is_read a ss (file_for a.words i.iri)) (found_passes (λ j. not (is_read a ss (file_for a.words j.iri))) (imports_of ss) i e)

abbrev names_of : Asked → List Source → List (List ℕ)
names_of a ss = map (λ s. name_of a s.file) ss

-- the names that files have
abbrev pub all_names : Asked → List (List ℕ)
all_names a = a.root ∷ map (λ w. w.file) a.words

-- a file that a word names has one of them
pub word_named : (a : Asked) (iri : List ℕ) (file : SchemaFile) → file_for a.words iri ≡ Some file → Contains (all_names a) (name_of a file)
word_named a iri file e = by (position (λ w. bytes_eq w.iri iri) a.words) refl e
  where
    there : (n : ℕ) → n < length a.words → Contains (all_names a) (name_of a (Imported n))
    there n inside =
        let files = map (λ (w : Word). w.file) a.words in
        let within : n < length files = omega (arith, inside, length-map a.words (λ (w : Word). w.file)) in
        is_later a.root files (get_or files n []) (item_there files n (get_or files n []) within (get_or_default files n [] (get_or files n []) within))

    by : (o : Option ℕ) → position (λ w. bytes_eq w.iri iri) a.words ≡ o → option_map (λ n. Imported n) o ≡ Some file → Contains (all_names a) (name_of a file)
    by None at e = absurd (no_file file e)
    by (Some n) at e =
        subst (λ f. Contains (all_names a) (name_of a f)) (some_one (Imported n) file e)
        (there n (position-Some (λ w. bytes_eq w.iri iri) a.words n (record { iri = []; file = [] }) at).0)

abbrev same : List ℕ → List ℕ → Bool
same x y = bytes_eq y x

same_decides : (x y : List ℕ) → Decides (same x y) (x ≡ y)
same_decides x y = let d = bytes_eq-Decides y x in (λ h. sym (d.0 h), λ e. d.1 (sym e))

only_one : (name : List ℕ) → IsDistinct same (name ∷ [])
unfolding IsDistinct
only_one name = (tt, tt)

module _ (told : Told) (a : Asked) where
  -- the names of the files that were read differ
  differ : (ss : List Source) → AreRead told a ss → IsDistinct same (names_of a ss)
  differ ss (root r d h) = only_one a.root
  differ ss (next before i file r d h is named held) =
      subst (λ ns. IsDistinct same ns) (sym (map-append (λ s. name_of a s.file) before (record { file = file; base = i.iri; read = r; digest = d } ∷ [])))
      (IsDistinct-push (decided_equiv same same_decides) (names_of a before) (name_of a file) (differ before h) (next_is_new a before i file is named))

  among : (ss : List Source) → AreRead told a ss → (name : List ℕ) → Contains (names_of a ss) name → Contains (all_names a) name
  among ss (root r d h) name c = subst (λ n. Contains (all_names a) n) (in_one a.root name c) (is_first a.root (map (λ w. w.file) a.words))
  among ss (next before i file r d h is named held) name c =
      on (Contains-append_cases (names_of a before) (name_of a file ∷ []) name (subst (λ ns. Contains ns name) (map-append (λ s. name_of a s.file) before (record { file = file; base = i.iri; read = r; digest = d } ∷ [])) c)) (λ earlier. among before h name earlier)
    where
      on : Contains (names_of a before) name ⊎ Contains (name_of a file ∷ []) name → (Contains (names_of a before) name → Contains (all_names a) name) → Contains (all_names a) name
      on (inl earlier) deeper = deeper earlier
      on (inr last) deeper = subst (λ n. Contains (all_names a) n) (in_one (name_of a file) name last) (word_named a i.iri file named)

  -- at most one document for each word, and that of the schema's file
  pub few_read : (ss : List Source) → AreRead told a ss → length ss ≤ length a.words + 1
  few_read ss h =
      let few = few_among (names_of a ss) (all_names a) (distinct_items same same_decides (names_of a ss) (differ ss h)) (among ss h) in
      omega (arith, few, length-map ss (λ (s : Source). name_of a s.file), length-map a.words (λ (w : Word). w.file))
