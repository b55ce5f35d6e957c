-- A schema of Shapes without occurrences is loaded where each entry was seen to refer to smaller ones.
use Rattle.std.proofs.Common.{◌≡◌, ℕ, ◌+◌, ◌<◌, ◌≤◌, inl, inr, List, [], ◌∷◌, length, take, get_or, refl, sym, ◌∙◌, ap, subst, arith}
use Rattle.std.proofs.lemmas.List.{take_more, take_all}
use Rattle.std.proofs.lemmas.List.Elements.{Contains-append_cases}
use Rattle.std.proofs.lemmas.Bool.{cases_eq, false≢true}
use Rattle.std.proofs.lemmas.Option.{get_or_from_slice_get, slice_get_within}
use Rattle.std.specs.Prelude.{false, is_some, Contains, slice_get, Option, Some, None}
use Rattle.schema_tree.specs.declared.schema.Schema.{Schema}
use Rattle.schema_tree.specs.declared.schema.Shape.{Shape}
use Rattle.schema_tree.specs.declared.schema.ExprId.{ExprId}
use Rattle.schema_tree.specs.declared.schema.Expr.{Expr}
use Rattle.schema_documents.specs.declared.label.Label.{Label}
use Rattle.schema_tree.specs.Entries.{entry}
use Rattle.schema_tree.specs.Labels.{labels_of}
use Rattle.schema_tree.specs.Loaded.{BodyOk, IsEntryIfAny, IsLoaded, IsShapeLoaded, RefersBelow}
use Rattle.lists.specs.Distinct.{AreDistinct}
use Rattle.lists.proofs.Members.{got_in, in_rest, not_in_none}

-- what holds of the first items holds of one more
pub more_hold :
    {X : Type 0} (P : X → Type 0) (xs : List X) (i : ℕ) (d : X) → i < length xs → ((x : X) → Contains (take i xs) x → P x) → P (get_or xs i d) →
    (x : X) → Contains (take (i + 1) xs) x → P x
more_hold P xs i d within before new x c =
    elim (Contains-append_cases (take i xs) (get_or xs i d ∷ []) x (subst (λ ys. Contains ys x) (take_more xs i d within) c)) [
      | inl earlier ↦ before x earlier
      | inr last ↦ elim (in_rest (get_or xs i d) [] x last) [
        | inl e ↦ subst P e new
        | inr none ↦ absurd (not_in_none x none)
      ]
    ]

-- and of all at the end
pub all_hold :
    {X : Type 0} (P : X → Type 0) (xs : List X) (i : ℕ) → length xs ≤ i → ((x : X) → Contains (take i xs) x → P x) → (x : X) → Contains xs x → P x
all_hold P xs i past before x c = before x (subst (λ ys. Contains ys x) (sym (take_all i xs past)) c)

-- the entries below one number refer below, and that of the number too
pub next_refers :
    (s : Schema) (xs : List Expr) → xs ≡ s.exprs → (i : ℕ) (y : Expr) → y ≡ get_or xs i y →
    ((e : ExprId) (x : Expr) → e.0 < i → entry s e ≡ Some x → RefersBelow s e.0 x) → RefersBelow s i y →
    (e : ExprId) (x : Expr) → e.0 < i + 1 → entry s e ≡ Some x → RefersBelow s e.0 x
next_refers s xs same i y is before new e x below at = elim (cases_eq i e.0) [
  | inl number ↦
      let there : slice_get xs i ≡ Some x = subst (λ k. slice_get xs k ≡ Some x) (sym number) (ap (λ l. slice_get l e.0) same ∙ at) in
      subst (λ k. RefersBelow s k x) number
      (subst (λ z. RefersBelow s i z) (is ∙ get_or_from_slice_get xs i x y there) new)
  | inr other ↦ before e x (omega arith) at
]

-- an entry has a number below how many there are
pub entry_within : (s : Schema) (xs : List Expr) → xs ≡ s.exprs → (k : ℕ) → length xs ≤ k → (e : ExprId) (x : Expr) → entry s e ≡ Some x → e.0 < k
entry_within s xs same k past e x at =
    let within : e.0 < length s.exprs = slice_get_within s.exprs e.0 x at in
    let long : length xs ≡ length s.exprs = ap length same in
    omega arith

no_labels : (ls : List (Label × ExprId)) → ls ≡ [] → (l : Label) (e : ExprId) → ¬ Contains ls (l, e)
no_labels ls none l e c = not_in_none (l, e) (subst (λ ms. Contains ms (l, e)) none c)

distinct_none : (ls : List (Label × ExprId)) → ls ≡ [] → AreDistinct (labels_of ls)
distinct_none ls none = subst (λ ms. AreDistinct (labels_of ms)) (sym none) (λ i j l at also. absurd (not_in_none l (got_in [] i l at)))

bare_loaded : (s : Schema) (sh : Shape) → sh.occs ≡ [] → sh.body ≡ None → IsShapeLoaded s sh
bare_loaded s sh none bodiless = record {
  body = subst (λ b. BodyOk sh.occs b) (sym bodiless) (ap length none);
  values = λ o c. absurd (not_in_none o (subst (λ os. Contains os o) none c));
  few = rw (ap length none) (omega arith);
}

pub seen_loaded :
    (s : Schema) → s.labels ≡ [] → s.start ≡ None → length s.shapes ≤ 4096 →
    ((sh : Shape) → Contains s.shapes sh → (sh.occs ≡ []) × (sh.body ≡ None)) →
    ((e : ExprId) (x : Expr) → entry s e ≡ Some x → RefersBelow s e.0 x) → IsLoaded s
seen_loaded s unlabelled startless few bare refers = record {
  refers = refers;
  labels = λ l e c. absurd (no_labels s.labels unlabelled l e c);
  once = distinct_none s.labels unlabelled;
  start = subst (λ o. IsEntryIfAny s o) (sym startless) tt;
  shapes = λ i sh at. bare_loaded s sh (bare sh (got_in s.shapes i.0 sh at)).0 (bare sh (got_in s.shapes i.0 sh at)).1;
  few = few;
}

pub none_there : {X : Type 0} (o : Option X) → false ≡ is_some o → o ≡ None
none_there None e = refl
none_there (Some x) e = absurd (false≢true e)
