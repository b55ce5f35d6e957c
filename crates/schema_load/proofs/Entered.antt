-- The entries of parts, one after the other.
use Rattle.std.proofs.Common.{◌≡◌, ℕ, zero, suc, ◌+◌, ◌<◌, ◌≤◌, List, [], ◌∷◌, ◌++◌, refl, sym, ap, subst, arith, length, ◌∙◌, Some, get_or, take, Bool, true, false, length-append}
use Rattle.std.specs.Prelude.{slice_get, filter, if◌then◌else◌}
use Rattle.std.specs.List.{AllZip}
use Rattle.std.proofs.lemmas.List.{take_more}
use Rattle.std.proofs.lemmas.Option.{get_or_from_slice_get, slice_get-get_or, slice_get_within}
use Rattle.lists.specs.Distinct.{AreDistinct}
use Rattle.lists.proofs.Beside.{zip_push}
use Rattle.rdf_terms.specs.declared.terms.Term.{Term}
use Rattle.schema_tree.specs.declared.schema.Expr.{Expr}
use Rattle.schema_tree.specs.declared.schema.ExprId.{ExprId}
use Rattle.schema_load.specs.declared.part.Part.{Part}
use Rattle.schema_load.specs.Building.{AreEntries, AreShapeNumbers}
use Rattle.schema_load.specs.Parts.{AreWhole, IsAt, Names, is_entry, is_shape}
use Rattle.schema_load.specs.Stands.{IsEntryAt, IsEntryOf, shape_number}
use Rattle.schema_load.specs.Steps.{one_if}
use Rattle.schema_load.proofs.Deeper.{item_at}
use Rattle.schema_load.proofs.Leads.{each_push}
use Rattle.schema_load.proofs.One.{one_at}
use Rattle.schema_load.proofs.Tops.{filter_step}

pub number_read : (ns : List ℕ) (p v : ℕ) → p < length ns → v ≡ get_or ns p v → v ≡ get_or ns p 0
number_read ns p v lt e = e ∙ sym (get_or_from_slice_get ns p (get_or ns p v) 0 (slice_get-get_or ns p v lt))

-- ---- the numbers of Shapes

-- as far as some place
pub record AreCountedTo (parts : List Part) (numbers : List ℕ) (i : ℕ) : Type 0 where
  pub size : length numbers ≡ i
  pub each : (p : ℕ) → p < i → get_or numbers p 0 ≡ shape_number parts p

pub counted_none : (parts : List Part) (numbers : List ℕ) → numbers ≡ [] → AreCountedTo parts numbers 0
counted_none parts numbers e = record { size = ap length e; each = λ p lt. absurd (omega arith) }

pub counted_more : (parts : List Part) (numbers after : List ℕ) (i v : ℕ) → AreCountedTo parts numbers i → v ≡ length (filter is_shape (take i parts)) →
    after ≡ numbers ++ v ∷ [] → AreCountedTo parts after (i + 1)
counted_more parts numbers after i v before is pushed = record {
  size = ap length pushed ∙ (let h = length-append numbers (v ∷ []) in let s = before.size in omega arith);
  each = λ p lt. subst (λ ns. get_or ns p 0 ≡ shape_number parts p) (sym pushed) (each_push (λ q n. n ≡ shape_number parts q) numbers i v before.size before.each is p lt);
}

pub counted_all : (parts : List Part) (numbers : List ℕ) (i : ℕ) → i ≤ length parts → length parts ≤ i → AreCountedTo parts numbers i → AreShapeNumbers parts numbers
counted_all parts numbers i low le before = record { size = (let s = before.size in omega arith); each = λ p lt. before.each p (omega arith) }

-- no more Shapes stand before a place than there are
shapes_before : (parts : List Part) (i : ℕ) → length (filter is_shape (take i parts)) ≤ length (filter is_shape parts)
shapes_before [] zero = omega arith
shapes_before [] (suc i) = omega arith
shapes_before (x ∷ xs) zero = omega arith
shapes_before (x ∷ xs) (suc i) = go (is_shape x) (shapes_before xs i)
  where
    go : (b : Bool) → length (filter is_shape (take i xs)) ≤ length (filter is_shape xs) →
        length (if b then x ∷ filter is_shape (take i xs) else filter is_shape (take i xs)) ≤ length (if b then x ∷ filter is_shape xs else filter is_shape xs)
    go true le = omega arith
    go false le = le

pub shapes_next : (parts : List Part) (i v n : ℕ) (x : Part) → IsAt parts i x → v ≡ length (filter is_shape (take i parts)) → n ≡ one_if (is_shape x) →
    length (filter is_shape parts) ≤ 4096 → (v + n ≡ length (filter is_shape (take (i + 1) parts))) × (v + n ≤ 4096)
shapes_next parts i v n x at is one few =
    let step = filter_step is_shape parts i x at in
    let low = shapes_before parts (i + 1) in
    let e : v + n ≡ length (filter is_shape (take (i + 1) parts)) = omega arith in
    (e, omega arith)

-- ---- numbers of members

-- ---- entries

-- the entries at the first places are made, and the parts at the others are still there
pub record AreEntered (parts : List Part) (number : ℕ → ExprId) (entries : List ℕ) (rest : List Part) (exprs : List Expr) (i : ℕ) : Type 0 where
  pub size : length rest ≡ length parts
  pub left : (j q : ℕ) → i ≤ j → slice_get entries j ≡ Some q → slice_get rest q ≡ slice_get parts q
  pub made : (terms : List Term) → AllZip (IsEntryAt terms parts number) (take i entries) exprs

module _ (parts : List Part) (number : ℕ → ExprId) (entries : List ℕ) where
  pub entered_none : (rest : List Part) (exprs : List Expr) → rest ≡ parts → exprs ≡ [] → AreEntered parts number entries rest exprs 0
  entered_none rest exprs same none = record {
    size = ap length same;
    left = λ j q le at. ap (λ us. slice_get us q) same;
    made = λ terms. subst (λ es. AllZip (IsEntryAt terms parts number) [] es) (sym none) tt;
  }

  -- the part that is taken out at the next place is that of the documents
  pub taken : (rest : List Part) (exprs : List Expr) (i p : ℕ) (x : Part) → AreEntered parts number entries rest exprs i → slice_get entries i ≡ Some p → slice_get rest p ≡ Some x → IsAt parts p x
  taken rest exprs i p x before here at = sym (before.left i p (omega arith) here) ∙ at

  pub entered_more : AreDistinct entries → (rest after : List Part) (exprs more_exprs : List Expr) (i p : ℕ) (x : Part) (made : Expr) →
      AreEntered parts number entries rest exprs i → i < length entries → p ≡ get_or entries i 0 →
      IsAt parts p x → length after ≡ length rest → ((q : ℕ) → (q ≡ p → ⊥) → slice_get after q ≡ slice_get rest q) →
      ((terms : List Term) → IsEntryOf terms parts number p x made) → more_exprs ≡ exprs ++ made ∷ [] →
      AreEntered parts number entries after more_exprs (i + 1)
  entered_more distinct rest after exprs more_exprs i p x made before lt read at size others entry pushed = record {
    size = size ∙ before.size;
    left = λ j q le there. others q (λ same. (let one = distinct j i q there (item_at entries i q lt (same ∙ read)) in omega arith)) ∙ before.left j q (omega arith) there;
    made = λ terms.
        subst (λ es. AllZip (IsEntryAt terms parts number) (take (i + 1) entries) es) (sym pushed)
        (subst (λ ps. AllZip (IsEntryAt terms parts number) ps (exprs ++ made ∷ [])) (ap (λ z. take i entries ++ z ∷ []) read ∙ sym (take_more entries i 0 lt))
        (zip_push (IsEntryAt terms parts number) (take i entries) exprs p made (before.made terms) (x, at, entry terms)));
  }

  pub entered_all : (rest : List Part) (exprs : List Expr) (i : ℕ) → length entries ≤ i → AreEntered parts number entries rest exprs i → (terms : List Term) →
      AllZip (IsEntryAt terms parts number) entries exprs
  entered_all rest exprs i le before terms = subst (λ ps. AllZip (IsEntryAt terms parts number) ps exprs) (take_all entries i le) (before.made terms)
    where
      take_all : (xs : List ℕ) (n : ℕ) → length xs ≤ n → take n xs ≡ xs
      take_all [] zero h = refl
      take_all [] (suc n) h = refl
      take_all (x ∷ xs) zero h = absurd (omega arith)
      take_all (x ∷ xs) (suc n) h = ap (λ us. x ∷ us) (take_all xs n (omega arith))

-- an entry stands at each place of the order
pub entry_at : (parts : List Part) (entries : List ℕ) (i p : ℕ) (x : Part) → AreEntries parts entries → slice_get entries i ≡ Some p → IsAt parts p x → is_entry x ≡ true
entry_at parts entries i p x are here at = let (y, there, is) = are i p here in subst (λ z. is_entry z ≡ true) (one_at parts p y x there at) is

pub names_inside : (parts : List Part) (p n : ℕ) (x : Part) → AreWhole parts → n ≡ length parts → IsAt parts p x → (q : ℕ) → Names x q → q < n
names_inside parts p n x whole size at q named = let (y, there, is) = whole.members p q x at named in let w = slice_get_within parts q y there in omega arith
