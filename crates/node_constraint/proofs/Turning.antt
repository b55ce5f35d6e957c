-- Loops over facets and patterns, an item at a time.
use Rattle.std.proofs.Common.{◌≡◌, ℕ, ◌+◌, ◌<◌, List, [], ◌∷◌, ◌++◌, length, take, drop, get_or, refl, ap, sym, subst, ◌∙◌, true≢false, false, true, IsTrue, ◌↔◌, Err}
use Rattle.std.proofs.lemmas.Grind.{flat_map-append}
use Rattle.std.proofs.lemmas.List.{append-nil, drop_more, take-append-drop, take_more}
use Rattle.std.proofs.lemmas.List.Recursion.{and_at}
use Rattle.std.specs.List.{AllByRecursion}
use Rattle.xs_pattern.specs.declared.pattern.Pattern.{Pattern}
use Rattle.node_constraint.specs.declared.facet.Facet.{Facet}
use Rattle.node_constraint.specs.declared.facet.Facet.TheVariants as Facets
use Rattle.node_constraint.specs.declared.make_error.MakeError.{MakeError}
use Rattle.node_constraint.specs.Held.{AreReadFrom, IsReadFrom, Reads, StopsAt, are_comparable, is_comparable}
use Rattle.node_constraint.specs.Making.{PatternText, pattern_in, patterns_in}
use Rattle.node_constraint.proofs.Refusing.{read_more, stop_at}

-- all items that are left hold where the next one and those behind it do
all_left : {X : Type 0} (P : X → Type 0) (xs : List X) (i : ℕ) (x : X) → i < length xs → x ≡ get_or xs i x →
    AllByRecursion P (drop i xs) ↔ (P x × AllByRecursion P (drop (i + 1) xs))
all_left P xs i x within is =
    let next : drop i xs ≡ x ∷ drop (i + 1) xs = drop_more xs i x within ∙ ap (λ z. z ∷ drop (i + 1) xs) (sym is) in
    subst (λ ys. AllByRecursion P ys ↔ (P x × AllByRecursion P (drop (i + 1) xs))) (sym next) ((λ h. h), λ h. h)

-- a turn of a loop that goes on where the item holds
pub goes_on : {X : Type 0} (P : X → Type 0) (xs : List X) (i : ℕ) (x : X) → i < length xs → x ≡ get_or xs i x → P x →
    (A : Type 0) → A ↔ AllByRecursion P (drop i xs) → A ↔ AllByRecursion P (drop (i + 1) xs)
goes_on P xs i x within is p A all =
    let left = all_left P xs i x within is in
    (λ a. (left.0 (all.0 a)).1, λ h. all.1 (left.1 (p, h)))

-- and that ends where it does not
pub ends_here : {X : Type 0} (P : X → Type 0) (xs : List X) (i : ℕ) (x : X) → i < length xs → x ≡ get_or xs i x → (¬ P x) →
    (A : Type 0) → A ↔ AllByRecursion P (drop i xs) → IsTrue false ↔ A
ends_here P xs i x within is none A all =
    let left = all_left P xs i x within is in
    (λ h. absurd (true≢false (sym h)), λ a. absurd (none (left.0 (all.0 a)).0))

-- the patterns of one facet more
patterns_more : (fs : List Facet) (i : ℕ) (f : Facet) → i < length fs → f ≡ get_or fs i f → patterns_in (take (i + 1) fs) ≡ patterns_in (take i fs) ++ pattern_in f
patterns_more fs i f within is =
    ap patterns_in (take_more fs i f within ∙ ap (λ z. take i fs ++ z ∷ []) (sym is))
    ∙ flat_map-append pattern_in (take i fs) (f ∷ [])
    ∙ ap (λ z. patterns_in (take i fs) ++ z) (append-nil (pattern_in f))

-- the patterns of all facets, cut at one of them
patterns_around : (fs : List Facet) (i : ℕ) (f : Facet) → i < length fs → f ≡ get_or fs i f →
    patterns_in fs ≡ patterns_in (take i fs) ++ (pattern_in f ++ patterns_in (drop (i + 1) fs))
patterns_around fs i f within is =
    ap patterns_in (sym (take-append-drop i fs) ∙ ap (λ z. take i fs ++ z) (drop_more fs i f within ∙ ap (λ z. z ∷ drop (i + 1) fs) (sym is)))
    ∙ flat_map-append pattern_in (take i fs) (f ∷ drop (i + 1) fs)

-- a facet that is no pattern has none
pub none_in : (f : Facet) → ((pattern flags : List ℕ) → f ≡ Facets.Pattern pattern flags → ⊥) → pattern_in f ≡ []
none_in (Facets.Length n) h = refl
none_in (Facets.MinLength n) h = refl
none_in (Facets.MaxLength n) h = refl
none_in (Facets.MinInclusive b) h = refl
none_in (Facets.MinExclusive b) h = refl
none_in (Facets.MaxInclusive b) h = refl
none_in (Facets.MaxExclusive b) h = refl
none_in (Facets.TotalDigits n) h = refl
none_in (Facets.FractionDigits n) h = refl
none_in (Facets.Pattern pattern flags) h = absurd (h pattern flags refl)

module _ (fs : List Facet) (ps : List Pattern) (i : ℕ) (f : Facet) (within : i < length fs) (is : f ≡ get_or fs i f) (read : AreReadFrom (patterns_in (take i fs)) ps) where
  -- a facet without a pattern leaves what was read
  pub none_read : pattern_in f ≡ [] → AreReadFrom (patterns_in (take (i + 1) fs)) ps
  none_read none =
      subst (λ ts. AreReadFrom ts ps) (sym (patterns_more fs i f within is ∙ ap (λ z. patterns_in (take i fs) ++ z) none ∙ append-nil (patterns_in (take i fs)))) read

  -- one with a pattern adds it
  pub one_read : (t : PatternText) (p : Pattern) → pattern_in f ≡ t ∷ [] → IsReadFrom t p → AreReadFrom (patterns_in (take (i + 1) fs)) (ps ++ p ∷ [])
  one_read t p one new =
      subst (λ ts. AreReadFrom ts (ps ++ p ∷ [])) (sym (patterns_more fs i f within is ∙ ap (λ z. patterns_in (take i fs) ++ z) one))
      (read_more (patterns_in (take i fs)) ps t p read new)

  -- and one whose pattern is not read ends the reading
  pub one_stops : (t : PatternText) (e : MakeError) → pattern_in f ≡ t ∷ [] → Reads t (Err e) → StopsAt (patterns_in fs) e
  one_stops t e one refused =
      subst (λ ts. StopsAt ts e) (sym (patterns_around fs i f within is ∙ ap (λ z. patterns_in (take i fs) ++ (z ++ patterns_in (drop (i + 1) fs))) one))
      (stop_at e (patterns_in (take i fs)) ps t (patterns_in (drop (i + 1) fs)) read refused)

-- each range value is a decimal where all are
pub comparable_at : (fs : List Facet) (i : ℕ) (f : Facet) → i < length fs → f ≡ get_or fs i f → are_comparable fs ≡ true → is_comparable f ≡ true
comparable_at fs i f within is all =
    ap is_comparable is ∙ and_at are_comparable is_comparable refl (λ _ _. refl) fs i f within all
