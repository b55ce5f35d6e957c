-- One import word after the other.
use Rattle.std.proofs.Common.{◌≡◌, ◌∙◌, ◌<◌, ◌+◌, ◌++◌, ◌≤◌, ◌||◌, Bool, true, false, cond, not, refl, ℕ, List, [], ◌∷◌, inl, inr, sym, ap, subst, map, drop, length, get_or, append_assoc, add-one}
use Rattle.std.proofs.lemmas.List.{append-nil, drop_all, map-append}
use Rattle.std.proofs.Math.Seq.{drop-cons}
use Rattle.std.specs.BTreeMap.{is_at}
use Rattle.std.specs.BTreeSet.{BTreeSet, contains}
use Rattle.std.specs.List.{list_any}
use Rattle.std.specs.Cmp.Lexicographic.{slice_cmp}
use Rattle.std.specs.Ordering.{is_eq, nat_cmp}
use Rattle.std.specs.declared.cmp.Ordering.{Ordering}
use Rattle.std.specs.Str.{bytes_eq}
use Rattle.std.proofs.lemmas.List.Folds.{list_any-append}
use Rattle.std.proofs.lemmas.Map.Text.{is_eq-slice_cmp}
use Rattle.std.specs.Borrow.{Bor}
use Rattle.clap.specs.Words.{Text}
use Rattle.input_names.specs.declared.inputs.Import.{Import as LentImport}
use Rattle.input_names.specs.Names.{Import, is_among, is_schema_name}
use Rattle.input_names.specs.Lent.{import_of}
use Rattle.command_words.specs.Checks.{AreImports, Divides, Fault, IsImport, IsImportFault, IsWordFault}

-- the order of lent texts
abbrev pub text_order : Bor Text → Bor Text → Ordering
text_order x y = slice_cmp nat_cmp x.now y.now

-- the set has the IRIs of these imports
abbrev pub Knows : BTreeSet (Bor Text) → List Text → Type 0
Knows given earlier = (iri : Bor Text) → contains text_order given iri ≡ is_among iri.now earlier

abbrev pub iris : List LentImport → List Text
iris = map (λ i. i.iri.now)

-- behind these imports, what holds of the words that are left holds of all words
pub record Stands (whole : List Text) (before : List LentImport) (left : List Text) : Type 0 where
  pub passes : (more : List Import) → AreImports (iris before) left more → AreImports [] whole (map import_of before ++ more)
  pub fault : (f : Fault) → IsImportFault (iris before) left f → IsImportFault [] whole f

pub stands_first : (whole : List Text) → Stands whole [] whole
stands_first whole = record { passes = λ more h. h; fault = λ f h. h }

grown : (before : List LentImport) (x : LentImport) → iris (before ++ x ∷ []) ≡ iris before ++ (x.iri.now ∷ [])
grown before x = map-append (λ (i : LentImport). i.iri.now) before (x ∷ [])

shifted : (before : List LentImport) (x : LentImport) (more : List Import) → map import_of before ++ (import_of x ∷ more) ≡ map import_of (before ++ x ∷ []) ++ more
shifted before x more = sym (ap (λ (is : List Import). is ++ more) (map-append import_of before (x ∷ [])) ∙ append_assoc (map import_of before) (import_of x ∷ []) more)

pub stands_next : (whole : List Text) (before : List LentImport) (x : LentImport) (word : Text) (left : List Text)
    → Stands whole before (word ∷ left) → IsImport (iris before) word (import_of x) → Stands whole (before ++ x ∷ []) left
stands_next whole before x word left h one = record {
  passes = λ more given.
      let own : AreImports (iris before ++ (x.iri.now ∷ [])) left more = subst (λ (es : List Text). AreImports es left more) (grown before x) given in
      subst (λ (is : List Import). AreImports [] whole is) (shifted before x more) (h.passes (import_of x ∷ more) (one, own));
  fault = λ f bad.
      let own : IsImportFault (iris before ++ (x.iri.now ∷ [])) left f = subst (λ (es : List Text). IsImportFault es left f) (grown before x) bad in
      h.fault f (inr (import_of x, one, own));
}

knows_none : (given : BTreeSet (Bor Text)) (before : List LentImport) → given.keys ≡ [] → before ≡ [] → Knows given (iris before)
knows_none given before e f = λ iri. ap (list_any (is_at (text_order iri))) e ∙ sym (ap (λ (xs : List LentImport). is_among iri.now (iris xs)) f)

chosen : (b a : Bool) → cond b true a ≡ (a || (b || false))
chosen true true = refl
chosen true false = refl
chosen false true = refl
chosen false false = refl

-- one more IRI
pub knows_next : (old new : BTreeSet (Bor Text)) (earlier : List Text) (x : Bor Text) → Knows old earlier →
    ((iri : Bor Text) → contains text_order new iri ≡ cond (is_eq (text_order x iri)) true (contains text_order old iri))
    → Knows new (earlier ++ x.now ∷ [])
knows_next old new earlier x h changed = λ iri.
    changed iri
    ∙ ap (λ (b : Bool). cond b true (contains text_order old iri)) (is_eq-slice_cmp x.now iri.now)
    ∙ ap (cond (bytes_eq x.now iri.now) true) (h iri)
    ∙ chosen (bytes_eq x.now iri.now) (is_among iri.now earlier)
    ∙ sym (list_any-append (λ other. bytes_eq other iri.now) earlier (x.now ∷ []))

-- the words that are left begin with the next one
pub next_left : (words : List (Bor Text)) (i : ℕ) (d : Bor Text) → i < length words → map (λ w. w.now) (drop i words) ≡ (get_or words i d).now ∷ map (λ w. w.now) (drop (i + 1) words)
next_left words i d inside =
    ap (map (λ (w : Bor Text). w.now)) (drop-cons words i d inside) ∙ ap (λ (n : ℕ). (get_or words i d).now ∷ map (λ (w : Bor Text). w.now) (drop n words)) (sym (add-one i))

-- at the end, all words give these imports
pub stands_last : (whole : List Text) (imports : List LentImport) (left : List Text) → left ≡ [] → Stands whole imports left → AreImports [] whole (map import_of imports)
stands_last whole imports left none h =
    subst (λ (is : List Import). AreImports [] whole is) (append-nil (map import_of imports))
    (h.passes [] (subst (λ (ws : List Text). AreImports (iris imports) ws []) (sym none) tt))

-- where the loop over the words stands: these imports were read before the word at i, and the set has their IRIs
pub record Goes (words : List (Bor Text)) (i : ℕ) (given : BTreeSet (Bor Text)) (imports : List LentImport) : Type 0 where
  pub stands : Stands (map (λ w. w.now) words) imports (map (λ w. w.now) (drop i words))
  pub known : Knows given (iris imports)

pub goes_first : (words : List (Bor Text)) (given : BTreeSet (Bor Text)) (imports : List LentImport) → given.keys ≡ [] → imports ≡ [] → Goes words 0 given imports
goes_first words given imports e f = record {
  stands = subst (λ (before : List LentImport). Stands (map (λ w. w.now) words) before (map (λ w. w.now) words)) (sym f) (stands_first (map (λ w. w.now) words));
  known = knows_none given imports e f;
}

pub was_new : (given : BTreeSet (Bor Text)) (earlier : List Text) (x : Bor Text) (added : Bool) → Knows given earlier →
    added ≡ not (contains text_order given x) → added ≡ true → is_among x.now earlier ≡ false
was_new given earlier x added h e new = sym (h x) ∙ by (contains text_order given x) (sym e ∙ new)
  where
    by : (b : Bool) → not b ≡ true → b ≡ false
    by true e = sym e
    by false e = refl

pub was_known : (given : BTreeSet (Bor Text)) (earlier : List Text) (x : Bor Text) (added : Bool) → Knows given earlier →
    added ≡ not (contains text_order given x) → added ≡ false → is_among x.now earlier ≡ true
was_known given earlier x added h e old = sym (h x) ∙ by (contains text_order given x) (sym e ∙ old)
  where
    by : (b : Bool) → not b ≡ false → b ≡ true
    by true e = refl
    by false e = sym e

pub goes_next : (words : List (Bor Text)) (i : ℕ) (d : Bor Text) (old new : BTreeSet (Bor Text)) (before after : List LentImport) (x : LentImport) (added : Bool)
    → i < length words → Goes words i old before → Divides (get_or words i d).now (import_of x) → added ≡ not (contains text_order old x.iri) → added ≡ true → is_schema_name x.file.now ≡ true
    → ((iri : Bor Text) → contains text_order new iri ≡ cond (is_eq (text_order x.iri iri)) true (contains text_order old iri)) → after ≡ before ++ x ∷ [] → Goes words (i + 1) new after
goes_next words i d old new before after x added inside h divides told new_one named changed pushed = record {
  stands = subst (λ (all : List LentImport). Stands (map (λ w. w.now) words) all (map (λ w. w.now) (drop (i + 1) words))) (sym pushed) own;
  known = subst (λ (all : List LentImport). Knows new (iris all)) (sym pushed)
      (subst (Knows new) (sym (grown before x)) (knows_next old new (iris before) x.iri h.known changed));
}
  where
    here : Stands (map (λ w. w.now) words) before ((get_or words i d).now ∷ map (λ w. w.now) (drop (i + 1) words))
    here = subst (Stands (map (λ w. w.now) words) before) (next_left words i d inside) h.stands

    own : Stands (map (λ w. w.now) words) (before ++ x ∷ []) (map (λ w. w.now) (drop (i + 1) words))
    own = stands_next (map (λ w. w.now) words) before x (get_or words i d).now (map (λ w. w.now) (drop (i + 1) words)) here
        (record { divides = divides; first = was_new old (iris before) x.iri added h.known told new_one; schema = named })

-- the word at i is at fault
pub fault_here : (words : List (Bor Text)) (i : ℕ) (d : Bor Text) (given : BTreeSet (Bor Text)) (imports : List LentImport) (f : Fault)
    → i < length words → Goes words i given imports → IsWordFault (iris imports) (get_or words i d).now f → IsImportFault [] (map (λ w. w.now) words) f
fault_here words i d given imports f inside h bad =
    h.stands.fault f (subst (λ (ws : List Text). IsImportFault (iris imports) ws f) (sym (next_left words i d inside)) (inl bad))

-- all words are read
pub goes_last : (words : List (Bor Text)) (i : ℕ) (given : BTreeSet (Bor Text)) (imports : List LentImport) → length words ≤ i → Goes words i given imports →
    AreImports [] (map (λ w. w.now) words) (map import_of imports)
goes_last words i given imports all h =
    stands_last (map (λ w. w.now) words) imports (map (λ w. w.now) (drop i words)) (ap (map (λ w. w.now)) (drop_all i words all)) h.stands
