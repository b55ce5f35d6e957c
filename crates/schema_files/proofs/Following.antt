-- The imports of documents in their order, and which of them are followed.
use Rattle.std.proofs.Common.{◌≡◌, ◌∙◌, ap, sym, subst, refl, ℕ, suc, ◌<◌, ◌≤◌, ◌+◌, Bool, true, false, cond, not, List, [], ◌∷◌, ◌++◌, arith, drop, get_or, length, map, take, append_assoc, append-nil, encode_utf8_all}
use Rattle.std.specs.Prelude.{All, Option, Some, None, ◌||◌}
use Rattle.std.specs.List.{find}
use Rattle.std.specs.Option.{option_or}
use Rattle.std.specs.Str.{bytes_eq}
use Rattle.std.proofs.lemmas.List.{drop-append-le, take-append-drop, take-append-le, get_or-drop, get_or-map, length-drop, length-map, map-append, take_all, take_more}
use Rattle.std.proofs.lemmas.List.Concat.{flat_map-append}
use Rattle.std.proofs.lemmas.List.Elements.{All-push, All-weaker}
use Rattle.std.proofs.lemmas.List.Folds.{find-append, list_any-append}
use Rattle.std.proofs.lemmas.Slice.Eq.{bytes_eq-Decides}
use Rattle.std.proofs.Math.Seq.{take-length}
use Rattle.lists.proofs.Members.{items_left}
use Rattle.input_names.specs.Names.{is_among}
use Rattle.schema_files.specs.declared.error.SchemaFile.{SchemaFile}
use Rattle.schema_files.specs.Held.{AreFollowed, ComesTo, imports_at, imports_before}
use Rattle.schema_files.specs.Named.{Asked, file_for, name_of}
use Rattle.schema_files.specs.Sources.{Import, Source, imports_of, is_read, next_import}

-- ---- files that were read

abbrev names_of : Asked → List Source → List (List ℕ)
names_of a ss = map (λ s. name_of a s.file) ss

names_more : (a : Asked) (ss more : List Source) (name : List ℕ) → is_among name (names_of a (ss ++ more)) ≡ (is_among name (names_of a ss) || is_among name (names_of a more))
names_more a ss more name =
    ap (is_among name) (map-append (λ s. name_of a s.file) ss more) ∙ list_any-append (λ other. bytes_eq other name) (names_of a ss) (names_of a more)

-- a file that was read stays so
pub still_read : (a : Asked) (ss more : List Source) (o : Option SchemaFile) → is_read a ss o ≡ true → is_read a (ss ++ more) o ≡ true
still_read a ss more None e = e
still_read a ss more (Some file) e = names_more a ss more (name_of a file) ∙ ap (λ b. b || is_among (name_of a file) (names_of a more)) e

or_true : (b : Bool) → (b || true) ≡ true
or_true true = refl
or_true false = refl

-- that of the last document is read
pub last_read : (a : Asked) (ss : List Source) (s : Source) → is_read a (ss ++ s ∷ []) (Some s.file) ≡ true
last_read a ss s =
    let name = name_of a s.file in
    names_more a ss (s ∷ []) name ∙ ap (λ b. is_among name (names_of a ss) || (b || false)) ((bytes_eq-Decides name name).1 refl) ∙ or_true (is_among name (names_of a ss))

pub still_followed : (a : Asked) (ss more : List Source) (is : List Import) → AreFollowed a ss is → AreFollowed a (ss ++ more) is
still_followed a ss more is h = All-weaker _ _ (λ i e. still_read a ss more (file_for a.words i.iri) e) is h

-- ---- the next import

none_found : (p : Import → Bool) (is : List Import) → All (λ i. p i ≡ true) is → find (λ i. not (p i)) is ≡ None
none_found p [] h = refl
none_found p (i ∷ is) h =
    ap (λ b. cond (not b) (Some i) (find (λ i. not (p i)) is)) (h 0 i (omega arith)) ∙ none_found p is (λ k d l. h (suc k) d (omega (arith, l)))

-- the first that is not followed
pub comes_next : (a : Asked) (ss : List Source) (i : Import) → ComesTo a ss i → is_read a ss (file_for a.words i.iri) ≡ false → next_import a ss ≡ Some i
comes_next a ss i c e =
    let p : Import → Bool = λ i. is_read a ss (file_for a.words i.iri) in
    ap (find (λ i. not (p i))) c.whole ∙ find-append (λ i. not (p i)) c.front (i ∷ c.back) ∙ ap (λ o. option_or o (find (λ i. not (p i)) (i ∷ c.back))) (none_found p c.front c.followed)
    ∙ ap (λ b. cond (not b) (Some i) (find (λ i. not (p i)) c.back)) e

pub none_next : (a : Asked) (ss : List Source) → AreFollowed a ss (imports_of ss) → next_import a ss ≡ None
none_next a ss h = none_found (λ i. is_read a ss (file_for a.words i.iri)) (imports_of ss) h

-- ---- imports in their order

abbrev import_by : SchemaFile → List ℕ → Import
import_by file iri = record { by = file; iri = encode_utf8_all iri }

abbrev own : Source → List Import
own s = map (import_by s.file) s.read.document.imports

module _ (ss : List Source) (at : ℕ) (s : Source) (rest : List Source) (here : drop at ss ≡ s ∷ rest) where
  inside_all : at < length ss
  inside_all = omega (arith, length-drop at ss, ap length here)

  get_here : get_or ss at s ≡ s
  get_here = let e : at ≡ at + 0 = omega arith in ap (λ n. get_or ss n s) e ∙ sym (get_or-drop at ss 0 s) ∙ ap (λ (xs : List Source). get_or xs 0 s) here

  at_own : imports_at ss at ≡ own s
  at_own = ap (λ (xs : List Source). imports_of (take 1 xs)) here ∙ append-nil (own s)

  pub counted : length (imports_at ss at) ≡ length s.read.document.imports
  counted = ap length at_own ∙ length-map s.read.document.imports (import_by s.file)

  all_own : imports_of ss ≡ imports_of (take at ss) ++ (own s ++ imports_of rest)
  all_own = ap imports_of (sym (take-append-drop at ss)) ∙ flat_map-append own (take at ss) (drop at ss) ∙ ap (λ (xs : List Source). imports_of (take at ss) ++ imports_of xs) here

  module _ (number : ℕ) (iri : List ℕ) (inside : number < length s.read.document.imports) (is : iri ≡ get_or s.read.document.imports number iri) where
    left : drop number (own s) ≡ import_by s.file iri ∷ drop (number + 1) (own s)
    left =
        items_left (own s) number (import_by s.file iri) (omega (arith, inside, length-map s.read.document.imports (import_by s.file)))
        (ap (import_by s.file) is ∙ sym (get_or-map (import_by s.file) s.read.document.imports number iri (import_by s.file iri) inside))

    divided : own s ≡ take number (imports_at ss at) ++ import_by s.file iri ∷ drop (number + 1) (own s)
    divided =
        sym (take-append-drop number (own s)) ∙ ap (λ (xs : List Import). take number (own s) ++ xs) left
        ∙ ap (λ (xs : List Import). take number xs ++ import_by s.file iri ∷ drop (number + 1) (own s)) (sym at_own)

    pub comes_to : (a : Asked) → AreFollowed a ss (imports_before ss at number) → ComesTo a ss (import_by s.file iri)
    comes_to a followed =
        let front = imports_of (take at ss) in
        let later = drop (number + 1) (own s) in
        record {
          front = imports_before ss at number;
          back = later ++ imports_of rest;
          whole = all_own ∙ ap (λ (xs : List Import). front ++ (xs ++ imports_of rest)) divided
              ∙ ap (λ (xs : List Import). front ++ xs) (append_assoc (take number (imports_at ss at)) (import_by s.file iri ∷ later) (imports_of rest))
              ∙ sym (append_assoc front (take number (imports_at ss at)) (import_by s.file iri ∷ later ++ imports_of rest));
          followed = followed;
        }

    -- and the imports before the next one
    one_more : imports_before ss at (number + 1) ≡ imports_before ss at number ++ import_by s.file iri ∷ []
    one_more =
        let front = imports_of (take at ss) in
        let within : number < length (imports_at ss at) = omega (arith, inside, counted) in
        let same : get_or (imports_at ss at) number (import_by s.file iri) ≡ import_by s.file iri =
        ap (λ (xs : List Import). get_or xs number (import_by s.file iri)) at_own
        ∙ get_or-map (import_by s.file) s.read.document.imports number iri (import_by s.file iri) inside ∙ ap (import_by s.file) (sym is) in
        ap (λ (xs : List Import). front ++ xs) (take_more (imports_at ss at) number (import_by s.file iri) within ∙ ap (λ i. take number (imports_at ss at) ++ i ∷ []) same)
        ∙ sym (append_assoc front (take number (imports_at ss at)) (import_by s.file iri ∷ []))

  -- documents behind a place change nothing before it
  before_more : (more : List Source) (number : ℕ) → imports_before (ss ++ more) at number ≡ imports_before ss at number
  before_more more number =
      ap (λ (xs : List Source). imports_of xs ++ take number (imports_at (ss ++ more) at)) (take-append-le at ss more (omega (arith, inside_all)))
      ∙ ap (λ (xs : List Source). imports_of (take at ss) ++ take number (imports_of (take 1 xs))) (drop-append-le at ss more (omega (arith, inside_all)) ∙ ap (λ (xs : List Source). xs ++ more) here)
      ∙ ap (λ (xs : List Source). imports_of (take at ss) ++ take number (imports_of (take 1 xs))) (sym here)

  -- where one more is followed, all before the next one are
  pub followed_on :
      (a : Asked) (more : List Source) (number : ℕ) (iri : List ℕ) → number < length s.read.document.imports → iri ≡ get_or s.read.document.imports number iri →
      AreFollowed a ss (imports_before ss at number) → is_read a (ss ++ more) (file_for a.words (encode_utf8_all iri)) ≡ true →
      AreFollowed a (ss ++ more) (imports_before (ss ++ more) at (number + 1))
  followed_on a more number iri inside is h one =
      subst (λ (xs : List Import). AreFollowed a (ss ++ more) xs) (sym (before_more more (number + 1) ∙ one_more number iri inside is))
      (All-push (λ i. is_read a (ss ++ more) (file_for a.words i.iri) ≡ true) (imports_before ss at number) (import_by s.file iri) (still_followed a ss more (imports_before ss at number) h) one)

  -- all imports of the document, and so all before the next document
  pub passed : (a : Asked) → AreFollowed a ss (imports_before ss at (length (imports_at ss at))) → AreFollowed a ss (imports_before ss (at + 1) 0)
  passed a h = subst (λ (xs : List Import). AreFollowed a ss xs) same h
    where
      next : take (at + 1) ss ≡ take at ss ++ take 1 (drop at ss)
      next = take_more ss at s inside_all ∙ ap (λ x. take at ss ++ x ∷ []) get_here ∙ ap (λ (xs : List Source). take at ss ++ take 1 xs) (sym here)

      same : imports_before ss at (length (imports_at ss at)) ≡ imports_before ss (at + 1) 0
      same =
          ap (λ (xs : List Import). imports_of (take at ss) ++ xs) (take-length (imports_at ss at)) ∙ sym (flat_map-append own (take at ss) (take 1 (drop at ss)))
          ∙ ap imports_of (sym next) ∙ sym (append-nil (imports_of (take (at + 1) ss)))

-- before the first place there is none; past the last document all imports are before
pub none_before : (a : Asked) (ss : List Source) → AreFollowed a ss (imports_before ss 0 0)
none_before a ss = λ k d l. absurd (omega (arith, l))

pub all_before : (a : Asked) (ss : List Source) (at : ℕ) → length ss ≤ at → AreFollowed a ss (imports_before ss at 0) → next_import a ss ≡ None
all_before a ss at past h =
    none_next a ss (subst (λ (xs : List Import). AreFollowed a ss xs) (append-nil (imports_of (take at ss)) ∙ ap imports_of (take_all at ss past)) h)
