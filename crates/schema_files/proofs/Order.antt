-- Documents are read in one order.
use Rattle.std.proofs.Common.{◌≡◌, ◌<◌, ◌∙◌, ◌⊎◌, ap, sym, subst, refl, ℕ, List, [], ◌∷◌, ◌++◌, inl, inr, arith, length, append_assoc, append-nil, length-append}
use Rattle.std.specs.Prelude.{Option, Some, None}
use Rattle.shex_io.specs.Files.{Told}
use Rattle.proof_file.specs.declared.head.Digest256.{Digest256}
use Rattle.schema_documents.specs.declared.error.SchemaError.{SchemaError}
use Rattle.schema_reader.specs.Documents.{IsSchema, Read}
use Rattle.schema_reader.specs.Formats.{format_of}
use Rattle.schema_reader.specs.Laws.{SchemasAreOne}
use Rattle.sha2.specs.Sha256.{sha256}
use Rattle.schema_files.specs.declared.error.FilesRefusal.{FilesRefusal}
use Rattle.schema_files.specs.declared.error.FilesRefusal.TheVariants as refusals
use Rattle.schema_files.specs.declared.error.SchemaFile.{SchemaFile}
use Rattle.schema_files.specs.declared.error.SchemaFile.TheVariants.{Root}
use Rattle.shex_io.specs.Fetching.{IsTooLong}
use Rattle.schema_files.specs.Laws.{ReadIsNotLeft, RefusedIsOne, SourcesAreOne}
use Rattle.schema_files.specs.Named.{Asked, file_for, file_of, name_of}
use Rattle.schema_files.specs.Refusals.{IsAbsent, IsNext, IsNoDocument, IsRefused, LacksWord, Reaches, imported, root as next_root}
use Rattle.schema_files.specs.Sources.{AreRead, AreSources, HoldsSource, Import, Source, next, next_import, root}
use Rattle.schema_files.proofs.Contents.{held_there, not_too_long, same_bytes}

-- ---- lists

some_one : {X : Type 0} (x y : X) → Some x ≡ Some y → x ≡ y
some_one x y e = cc

not_some : {X : Type 0} (o : Option X) (x : X) → o ≡ None → o ≡ Some x → ⊥
not_some o x e f = cc

same_head : {X : Type 0} (x y : X) (xs ys : List X) → x ∷ xs ≡ y ∷ ys → x ≡ y
same_head x y xs ys e = cc

same_tail : {X : Type 0} (x y : X) (xs ys : List X) → x ∷ xs ≡ y ∷ ys → xs ≡ ys
same_tail x y xs ys e = cc

-- where one more item makes a list that goes on behind another, that item does, or the list did before
abbrev IsLast : (ss before : List Source) (x s : Source) (more : List Source) → Type 0
IsLast ss before x s more = ((before ≡ ss) × (x ≡ s)) ⊎ ((rest : List Source) × (before ≡ ss ++ s ∷ rest))

last_of : (ss before : List Source) (x s : Source) (more : List Source) → before ++ x ∷ [] ≡ ss ++ s ∷ more → IsLast ss before x s more
last_of [] [] x s more e = inl (refl, same_head x s [] more e)
last_of [] (t ∷ before) x s more e = inr (before, ap (λ h. h ∷ before) (same_head t s (before ++ x ∷ []) more e))
last_of (u ∷ ss) [] x s more e = absurd (omega (arith, ap length e, length-append ss (s ∷ more)))
last_of (u ∷ ss) (t ∷ before) x s more e =
    on (same_head t u (before ++ x ∷ []) (ss ++ s ∷ more) e) (last_of ss before x s more (same_tail t u (before ++ x ∷ []) (ss ++ s ∷ more) e))
  where
    on : t ≡ u → IsLast ss before x s more → IsLast (u ∷ ss) (t ∷ before) x s more
    on h (inl (same, last)) = inl ((λ i. h i ∷ same i), last)
    on h (inr (rest, same)) = inr (rest, (λ i. h i ∷ same i))

-- one list begins the other
abbrev Begins : List Source → List Source → Type 0
Begins ss ts = (more : List Source) × (ts ≡ ss ++ more)

module _ (contents : List ℕ → Option (List ℕ)) (a : Asked) (one : SchemasAreOne) where
  abbrev told : Told
  told = Some contents

  abbrev source_in : SchemaFile → List ℕ → Read → Digest256 → Source
  source_in file base r d = record { file = file; base = base; read = r; digest = d }

  abbrev Holds : SchemaFile → List ℕ → Type 0
  Holds file base = (r : Read) × (d : Digest256) × HoldsSource told a (source_in file base r d)

  -- ---- a file holds one document

  one_held : (file : SchemaFile) (base : List ℕ) (r q : Read) (d e : Digest256) → HoldsSource told a (source_in file base r d) →
      HoldsSource told a (source_in file base q e) → source_in file base r d ≡ source_in file base q e
  one_held file base r q d e h k =
      let format = format_of (name_of a file) in
      let bytes : k.bytes ≡ h.bytes = same_bytes contents (name_of a file) k.bytes h.bytes k.is_file.held h.is_file.held in
      let reads : r ≡ q = one format base h.bytes r q h.spelled (subst (λ bs. IsSchema format base q bs) bytes k.spelled) in
      let digests : d.0 ≡ e.0 = h.is_digest ∙ ap sha256 (sym bytes) ∙ sym k.is_digest in
      λ i. source_in file base (reads i) (record { 0 = digests i })

  moved : (file other : SchemaFile) (base final : List ℕ) (r : Read) (d : Digest256) → file ≡ other → base ≡ final →
      HoldsSource told a (source_in file base r d) → HoldsSource told a (source_in other final r d)
  moved file other base final r d e f h = subst (λ b. HoldsSource told a (source_in other b r d)) f (subst (λ n. HoldsSource told a (source_in n base r d)) e h)

  same_source :
      (file other : SchemaFile) (base final : List ℕ) (r q : Read) (d x : Digest256) → file ≡ other → base ≡ final → HoldsSource told a (source_in file base r d) →
      HoldsSource told a (source_in other final q x) → source_in file base r d ≡ source_in other final q x
  same_source file other base final r q d x e f h k =
      (λ i. source_in (e i) (f i) r d) ∙ one_held other final r q d x (moved file other base final r d e f h) k

  -- ---- the document that is read behind others

  record Follows (ss : List Source) (s : Source) : Type 0 where
    by : Import
    file : SchemaFile
    read : Read
    digest : Digest256
    is_next : next_import a ss ≡ Some by
    named : file_for a.words by.iri ≡ Some file
    held : HoldsSource told a (source_in file by.iri read digest)
    same : s ≡ source_in file by.iri read digest

  same_import : (ss : List Source) (s : Source) (f : Follows ss s) (i : Import) → next_import a ss ≡ Some i → f.by ≡ i
  same_import ss s f i e = some_one f.by i (sym f.is_next ∙ e)

  same_file : (ss : List Source) (s : Source) (f : Follows ss s) (i : Import) (file : SchemaFile) → next_import a ss ≡ Some i → file_for a.words i.iri ≡ Some file → f.file ≡ file
  same_file ss s f i file e named = some_one f.file file (sym f.named ∙ ap (λ (j : Import). file_for a.words j.iri) (same_import ss s f i e) ∙ named)

  follows_one : (ss : List Source) (s t : Source) → Follows ss s → Follows ss t → s ≡ t
  follows_one ss s t f g =
      f.same ∙ same_source f.file g.file f.by.iri g.by.iri f.read g.read f.digest g.digest (same_file ss s f g.by g.file g.is_next g.named)
      (ap (λ (j : Import). j.iri) (same_import ss s f g.by g.is_next)) f.held g.held
      ∙ sym g.same

  behind : (ts : List Source) → AreRead told a ts → (ss : List Source) (s : Source) (more : List Source) → 0 < length ss → ts ≡ ss ++ s ∷ more → Follows ss s
  behind ts (root r d h) ss s more some e = absurd (omega (arith, ap length e, length-append ss (s ∷ more), some))
  behind ts (next before i file r d h is named held) ss s more some e =
      on (last_of ss before (source_in file i.iri r d) s more e) (λ rest same. behind before h ss s rest some same)
    where
      on : IsLast ss before (source_in file i.iri r d) s more → ((rest : List Source) → before ≡ ss ++ s ∷ rest → Follows ss s) → Follows ss s
      on (inl (same, last)) deeper = record {
        by = i;
        file = file;
        read = r;
        digest = d;
        is_next = subst (λ us. next_import a us ≡ Some i) same is;
        named = named;
        held = held;
        same = sym last;
      }
      on (inr (rest, same)) deeper = deeper rest same

  -- the first is that of the schema's file
  record IsLed (ts : List Source) : Type 0 where
    read : Read
    digest : Digest256
    more : List Source
    held : HoldsSource told a (source_in Root a.base read digest)
    same : ts ≡ source_in Root a.base read digest ∷ more

  is_led : (ts : List Source) → AreRead told a ts → IsLed ts
  is_led ts (root r d h) = record { read = r; digest = d; more = []; held = h; same = refl }
  is_led ts (next before i file r d h is named held) =
      let l = is_led before h in
      record {
        read = l.read;
        digest = l.digest;
        more = l.more ++ source_in file i.iri r d ∷ [];
        held = l.held;
        same = ap (λ us. us ++ source_in file i.iri r d ∷ []) l.same;
      }

  not_none : (ts : List Source) → AreRead told a ts → 0 < length ts
  not_none ts h = omega (arith, ap length (is_led ts h).same)

  -- ---- of two lists one begins the other

  ordered : (ss : List Source) → AreRead told a ss → (ts : List Source) → AreRead told a ts → Begins ss ts ⊎ Begins ts ss
  ordered ss (root r d h) ts k =
      let l = is_led ts k in
      let same : source_in Root a.base l.read l.digest ≡ source_in Root a.base r d = one_held Root a.base l.read r l.digest d l.held h in
      inl (l.more, l.same ∙ ap (λ s. s ∷ l.more) same)
  ordered ss (next before i file r d h is named held) ts k = on (ordered before h ts k)
    where
      goes_on : (more : List Source) → ts ≡ before ++ more → Begins (before ++ (source_in file i.iri r d) ∷ []) ts ⊎ Begins ts (before ++ (source_in file i.iri r d) ∷ [])
      goes_on [] e = inr ((source_in file i.iri r d) ∷ [], ap (λ us. us ++ (source_in file i.iri r d) ∷ []) (sym (append-nil before) ∙ sym e))
      goes_on (s ∷ more) e =
          let f : Follows before (source_in file i.iri r d) = record { by = i; file = file; read = r; digest = d; is_next = is; named = named; held = held; same = refl } in
          let same : s ≡ (source_in file i.iri r d) = follows_one before s (source_in file i.iri r d) (behind ts k before s more (not_none before h) e) f in
          inl (more, e ∙ ap (λ x. before ++ x ∷ more) same ∙ sym (append_assoc before ((source_in file i.iri r d) ∷ []) more))

      on : Begins before ts ⊎ Begins ts before → Begins (before ++ (source_in file i.iri r d) ∷ []) ts ⊎ Begins ts (before ++ (source_in file i.iri r d) ∷ [])
      on (inl (more, e)) = goes_on more e
      on (inr (more, e)) = inr (more ++ (source_in file i.iri r d) ∷ [], ap (λ us. us ++ (source_in file i.iri r d) ∷ []) e ∙ append_assoc ts more ((source_in file i.iri r d) ∷ []))

  -- nothing is read behind these
  abbrev Ends : List Source → Type 0
  Ends ss = (s : Source) → ¬ Follows ss s

  begun : (ss ts : List Source) → AreRead told a ss → AreRead told a ts → Ends ss → Begins ss ts → ss ≡ ts
  begun ss ts h k ends ([], e) = sym (append-nil ss) ∙ sym e
  begun ss ts h k ends (s ∷ more, e) = absurd (ends s (behind ts k ss s more (not_none ss h) e))

  ends_one : (ss ts : List Source) → AreRead told a ss → AreRead told a ts → Ends ss → Ends ts → ss ≡ ts
  ends_one ss ts h k ends final = elim (ordered ss h ts k) [
    | inl begins ↦ begun ss ts h k ends begins
    | inr begins ↦ sym (begun ts ss k h final begins)
  ]

  all_end : (ss : List Source) → AreSources told a ss → Ends ss
  all_end ss x s f = not_some (next_import a ss) f.by x.all_read f.is_next

  pub sources_one : (ss others : List Source) → AreSources told a ss → AreSources told a others → ss ≡ others
  sources_one ss others x y = ends_one ss others x.are_read y.are_read (all_end ss x) (all_end others y)

  -- ---- where the reading stops

  -- the reading comes to a file that holds no document
  record Blocks (file : SchemaFile) : Type 0 where
    base : List ℕ
    next_file : IsNext told a file base
    none : ¬ Holds file base

  -- nothing is read behind documents whose next import is in such a file, or in none
  blocked_end : (ss : List Source) (i : Import) (file : SchemaFile) → next_import a ss ≡ Some i → file_for a.words i.iri ≡ Some file → ¬ Holds file i.iri → Ends ss
  blocked_end ss i file is named none s f =
      none (f.read, f.digest, moved f.file file f.by.iri i.iri f.read f.digest (same_file ss s f i file is named) (ap (λ (j : Import). j.iri) (same_import ss s f i is)) f.held)

  lacking_end : (i : Import) (l : LacksWord told a i) → Ends l.sources
  lacking_end i l s f = not_some (file_for a.words i.iri) f.file l.missing (ap (λ (j : Import). file_for a.words j.iri) (sym (same_import l.sources s f i l.next)) ∙ f.named)

  blocks_by : (file other : SchemaFile) (base final : List ℕ) → IsNext told a file base → IsNext told a other final → ¬ Holds file base → ¬ Holds other final → file ≡ other
  blocks_by file other base final next_root next_root none nothing = refl
  blocks_by file other base final next_root (imported ts j g k are also) none nothing = let l = is_led ts k in absurd (none (l.read, l.digest, l.held))
  blocks_by file other base final (imported ss i f h is named) next_root none nothing = let l = is_led ss h in absurd (nothing (l.read, l.digest, l.held))
  blocks_by file other base final (imported ss i f h is named) (imported ts j g k are also) none nothing =
      let same : ss ≡ ts = ends_one ss ts h k (blocked_end ss i f is named none) (blocked_end ts j g are also nothing) in
      let imports : i ≡ j = some_one i j (sym is ∙ ap (next_import a) same ∙ are) in
      some_one f g (sym named ∙ ap (λ (x : Import). file_for a.words x.iri) imports ∙ also)

  blocks_one : (file other : SchemaFile) → Blocks file → Blocks other → file ≡ other
  blocks_one file other b c = blocks_by file other b.base c.base b.next_file c.next_file b.none c.none

  lacks_one : (i j : Import) → LacksWord told a i → LacksWord told a j → i ≡ j
  lacks_one i j l m =
      some_one i j (sym l.next ∙ ap (next_import a) (ends_one l.sources m.sources l.are_read m.are_read (lacking_end i l) (lacking_end j m)) ∙ m.next)

  not_both : (file : SchemaFile) (base : List ℕ) (j : Import) → IsNext told a file base → ¬ Holds file base → LacksWord told a j → ⊥
  not_both file base j next_root none l = let led = is_led l.sources l.are_read in none (led.read, led.digest, led.held)
  not_both file base j (imported ss i f h is named) none l =
      let same : ss ≡ l.sources = ends_one ss l.sources h l.are_read (blocked_end ss i f is named none) (lacking_end j l) in
      let imports : i ≡ j = some_one i j (sym is ∙ ap (next_import a) same ∙ l.next) in
      not_some (file_for a.words j.iri) f l.missing (ap (λ (x : Import). file_for a.words x.iri) (sym imports) ∙ named)

  -- ---- which refusals stop it

  long_blocks : (file : SchemaFile) → Reaches told a file → IsTooLong told (name_of a file) → Blocks file
  long_blocks file (base, n) long = record { base = base; next_file = n; none = λ (r, d, h). not_too_long contents (name_of a file) h.bytes h.is_file long }

  absent_blocks : (file : SchemaFile) → IsAbsent told a file → Blocks file
  absent_blocks file ((base, n), lacks) = record { base = base; next_file = n; none = λ (r, d, h). held_there contents (name_of a file) h.bytes h.is_file.held lacks }

  unread_blocks : (file : SchemaFile) (e : SchemaError) → IsNoDocument told a file e → Blocks file
  unread_blocks file e u = record {
    base = u.base;
    next_file = u.next;
    none = λ (r, d, h). u.none r (subst (λ bs. IsSchema (format_of (name_of a file)) u.base r bs) (same_bytes contents (name_of a file) h.bytes u.bytes h.is_file.held u.is_file.held) h.spelled);
  }

  -- why a refusal stops the reading: its file holds no document, or no word names a file
  data Stop (refusal : FilesRefusal) : Type 0 where
    blocking : (there : List ℕ) → contents (name_of a (file_of refusal)) ≡ Some there → Blocks (file_of refusal) → Stop refusal
    lacking : (i : Import) → LacksWord told a i → i.by ≡ file_of refusal → Stop refusal

  stop_of : (refusal : FilesRefusal) → IsRefused told a refusal → Stop refusal
  stop_of (refusals.Size file) (reached, long) = blocking long.bytes long.held (long_blocks file reached long)
  stop_of (refusals.Document file e) u = blocking u.bytes u.is_file.held (unread_blocks file e u)
  stop_of (refusals.Import file iri) l = lacking _ l refl

  same_files : (refusal other : FilesRefusal) → Stop refusal → Stop other → file_of refusal ≡ file_of other
  same_files refusal other (blocking x e b) (blocking y f c) = blocks_one (file_of refusal) (file_of other) b c
  same_files refusal other (blocking x e b) (lacking j m f) = absurd (not_both (file_of refusal) b.base j b.next_file b.none m)
  same_files refusal other (lacking i l e) (blocking y f c) = absurd (not_both (file_of other) c.base i c.next_file c.none l)
  same_files refusal other (lacking i l e) (lacking j m f) = sym e ∙ ap (λ (x : Import). x.by) (lacks_one i j l m) ∙ f

  not_absent : (refusal : FilesRefusal) → Stop refusal → (file : SchemaFile) → IsAbsent told a file → ⊥
  not_absent refusal (blocking there e b) file absent =
      let same = blocks_one (file_of refusal) file b (absent_blocks file absent) in
      held_there contents (name_of a file) there (ap (λ n. contents (name_of a n)) (sym same) ∙ e) absent.1
  not_absent refusal (lacking i l e) file absent = let b = absent_blocks file absent in not_both file b.base i b.next_file b.none l

  -- ---- where all is read, nothing stops it

  not_blocked : (ss : List Source) → AreSources told a ss → (file : SchemaFile) (base : List ℕ) → IsNext told a file base → ¬ Holds file base → ⊥
  not_blocked ss x file base next_root none = let l = is_led ss x.are_read in none (l.read, l.digest, l.held)
  not_blocked ss x file base (imported ts i f h is named) none =
      not_some (next_import a ts) i (ap (next_import a) (ends_one ts ss h x.are_read (blocked_end ts i f is named none) (all_end ss x)) ∙ x.all_read) is

  not_lacking : (ss : List Source) → AreSources told a ss → (i : Import) → LacksWord told a i → ⊥
  not_lacking ss x i l = not_some (next_import a l.sources) i (ap (next_import a) (ends_one l.sources ss l.are_read x.are_read (lacking_end i l) (all_end ss x)) ∙ x.all_read) l.next

  not_stopped : (ss : List Source) → AreSources told a ss → (refusal : FilesRefusal) → Stop refusal → ⊥
  not_stopped ss x refusal (blocking there e b) = not_blocked ss x (file_of refusal) b.base b.next_file b.none
  not_stopped ss x refusal (lacking i l e) = not_lacking ss x i l

  pub not_left : (ss : List Source) → AreSources told a ss → ((refusal : FilesRefusal) → ¬ IsRefused told a refusal) × ((file : SchemaFile) → ¬ IsAbsent told a file)
  not_left ss x = (λ refusal h. not_stopped ss x refusal (stop_of refusal h), λ file absent. (let b = absent_blocks file absent in not_blocked ss x file b.base b.next_file b.none))

  pub refused_one :
      (refusal : FilesRefusal) → IsRefused told a refusal →
      ((other : FilesRefusal) → IsRefused told a other → file_of refusal ≡ file_of other) × ((file : SchemaFile) → ¬ IsAbsent told a file)
  refused_one refusal h = (λ other k. same_files refusal other (stop_of refusal h) (stop_of other k), λ file absent. not_absent refusal (stop_of refusal h) file absent)

-- ---- the laws

pub sources_are_one : SchemasAreOne → SourcesAreOne
sources_are_one one contents a ss others x y = sources_one contents a one ss others x y

pub read_is_not_left : SchemasAreOne → ReadIsNotLeft
read_is_not_left one contents a ss x = not_left contents a one ss x

pub refused_is_one : SchemasAreOne → RefusedIsOne
refused_is_one one contents a refusal h = refused_one contents a one refusal h
