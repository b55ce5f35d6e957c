-- Where each triple has one place alone, these are the least places.
use Rattle.std.proofs.Common.{◌≡◌, ◌∙◌, ◌+◌, ◌*◌, ◌≤◌, ◌++◌, ℕ, zero, suc, List, [], ◌∷◌, inr, refl, arith, ap, sym, subst, length, map, take, get_or, Bool}
use Rattle.std.proofs.lemmas.List.{length-map, map-append, take_more}
use Rattle.std.proofs.lemmas.Option.{get_or_from_slice_get, slice_get-map, slice_get_within}
use Rattle.std.specs.Prelude.{IsTrue, Option, Some, option_map, slice_get, slice_index, ◌↔◌}
use Rattle.lists.proofs.Members.{in_one, is_first}
use Rattle.rdf_terms.specs.declared.terms.TermId.{TermId}
use Rattle.rdf_terms.specs.declared.terms.Triple.{Triple}
use Rattle.schema_tree.specs.declared.schema.ExprId.{ExprId}
use Rattle.schema_tree.specs.declared.schema.Shape.{Shape}
use Rattle.schema_tree.specs.declared.verdicts.Place.{Place}
use Rattle.schema_tree.specs.Places.{AreAllowed, HaveCounts, IsAllowed, times}
use Rattle.schema_tree.specs.States.{no_counts}
use Rattle.schema_tree.proofs.ToPlaces.{counts_agree}
use Rattle.bag_match.specs.Least.{AreLeast, AreOffered, ArePlacesFor, IsNotBehind, sole}
use Rattle.bag_match.specs.Searches.{FinishesNever, HavePlaces}
use Rattle.bag_match.proofs.Stepping.{opening_at}

not_behind_itself : (ps : List Place) → IsNotBehind ps ps
not_behind_itself [] = tt
not_behind_itself (p ∷ ps) = inr (refl, not_behind_itself ps)

one_item : (list : List Place) (d : Place) → length list ≡ 1 → list ≡ sole (get_or list 0 d)
one_item [] d one = absurd (omega (arith, one))
one_item (x ∷ []) d one = refl
one_item (x ∷ y ∷ list) d one = absurd (omega (arith, one))

-- the place of one more list, which has it alone
pub sole_next : (places new : List Place) (lists : List (List Place)) (i : ℕ) (list : List Place) (d : Place) → map sole places ≡ take i lists → slice_get lists i ≡ Some list → length list ≡ 1 →
    new ≡ places ++ get_or list 0 d ∷ [] → map sole new ≡ take (i + 1) lists
sole_next places new lists i list d so_far at one is =
    ap (λ z. map sole z) is ∙ map-append sole places (get_or list 0 d ∷ []) ∙ ap (λ z. z ++ sole (get_or list 0 d) ∷ []) so_far
    ∙ ap (λ z. take i lists ++ z ∷ []) (sym (one_item list d one) ∙ sym (get_or_from_slice_get lists i list [] at))
    ∙ sym (take_more lists i [] (slice_get_within lists i list at))

module _ (hold fail : TermId → Option ExprId → Type 0) (sh : Shape) (n : TermId) where
  allowed_each : (ts : List Triple) (ps : List Place) → length ps ≡ length ts →
      ((j : ℕ) (t : Triple) (p : Place) → slice_get ts j ≡ Some t → slice_get ps j ≡ Some p → IsAllowed hold fail sh n t p) → AreAllowed hold fail sh n ts ps
  allowed_each [] [] count each = tt
  allowed_each [] (p ∷ ps) count each = absurd (omega (arith, count))
  allowed_each (t ∷ ts) [] count each = absurd (omega (arith, count))
  allowed_each (t ∷ ts) (p ∷ ps) count each = (each 0 t p refl refl, allowed_each ts ps (omega (arith, count)) (λ j u q at here. each (suc j) u q at here))

  only_each : (ts : List Triple) (ps qs : List Place) → length ps ≡ length ts →
      ((j : ℕ) (t : Triple) (p q : Place) → slice_get ts j ≡ Some t → slice_get ps j ≡ Some p → IsAllowed hold fail sh n t q → p ≡ q) →
      AreAllowed hold fail sh n ts qs → ps ≡ qs
  only_each [] [] [] count only allowed = refl
  only_each [] [] (q ∷ qs) count only allowed = absurd allowed
  only_each [] (p ∷ ps) qs count only allowed = absurd (omega (arith, count))
  only_each (t ∷ ts) [] qs count only allowed = absurd (omega (arith, count))
  only_each (t ∷ ts) (p ∷ ps) [] count only allowed = absurd allowed
  only_each (t ∷ ts) (p ∷ ps) (q ∷ qs) count only (here, behind) =
      ap (λ x. x ∷ ps) (only 0 t p q refl refl here) ∙ ap (λ xs. q ∷ xs) (only_each ts ps qs (omega (arith, count)) (λ j u x y at stands may. only (suc j) u x y at stands may) behind)

  -- where each triple has one place alone, these are the only ones that are allowed
  pub sole_only : (ts : List Triple) (ps : List Place) (lists : List (List Place)) → AreOffered hold fail sh n ts (length ts) lists → map sole ps ≡ lists →
      (qs : List Place) → AreAllowed hold fail sh n ts qs →
      ps ≡ qs
  sole_only ts ps lists offered is qs allowed =
      only_each ts ps qs (sym (length-map ps sole) ∙ ap length is ∙ offered.count_is)
      (λ j t p q at here may. in_one p q (((offered.each j t (sole p) at (subst (λ xs. slice_get xs j ≡ Some (sole p)) is (slice_get-map sole ps j
      ∙ ap (option_map sole) here))).same q).1 may)) allowed

  pub least_sole : (ts : List Triple) (ps : List Place) (lists : List (List Place)) → AreOffered hold fail sh n ts (length ts) lists → map sole ps ≡ lists → HaveCounts sh.body (times ps) →
      AreLeast hold fail sh n ts ps
  least_sole ts ps lists offered is spelled = record {
    allowed = allowed_each ts ps count (λ j t p at here. ((for j t p at here).same p).0 (is_first p []));
    spelled = spelled;
    least = λ qs allowed counts. subst (λ xs. IsNotBehind ps xs) (only_each ts ps qs count (λ j t p q at here may. in_one p q (((for j t p at here).same q).1 may)) allowed) (not_behind_itself ps);
  }
    where
      count : length ps ≡ length ts
      count = sym (length-map ps sole) ∙ ap length is ∙ offered.count_is

      for : (j : ℕ) (t : Triple) (p : Place) → slice_get ts j ≡ Some t → slice_get ps j ≡ Some p → ArePlacesFor hold fail sh n t (sole p)
      for j t p at here = offered.each j t (sole p) at (subst (λ xs. slice_get xs j ≡ Some (sole p)) is (slice_get-map sole ps j ∙ ap (option_map sole) here))

-- a tick for each triple is within the bound
pub most_sole : (start now len bound : ℕ) → now ≤ start + len → 1 ≤ bound → now ≤ start + (len + 1) * bound
most_sole start now len zero h k = absurd (omega (arith, k))
most_sole start now len (suc b) h k = let e : (len + 1) * suc b ≡ (len + 1) * b + (len + 1) = omega arith in omega (arith, h, e)

module _ (hold fail : TermId → Option ExprId → Type 0) (sh : Shape) (n : TermId) (ts : List Triple) where
  -- places are there exactly where the only ones have matching counts
  pub sole_have : (ps : List Place) (lists : List (List Place)) → AreOffered hold fail sh n ts (length ts) lists → map sole ps ≡ lists → (b : Bool) → (IsTrue b ↔ HaveCounts sh.body (times ps)) →
      IsTrue b ↔ HavePlaces hold fail sh n ts
  sole_have ps lists offered is b told = (
    (λ so. let least = least_sole hold fail sh n ts ps lists offered is (told.0 so) in (ps, least.allowed, least.spelled)),
    λ (qs, allowed, spelled). told.1 (subst (λ z. HaveCounts sh.body (times z)) (sym (sole_only hold fail sh n ts ps lists offered is qs allowed)) spelled),
  )

  -- nothing finishes from the opening counts, so there are none
  pub never_none : FinishesNever hold fail sh n ts 0 (no_counts sh.occs) → ¬ HavePlaces hold fail sh n ts
  never_none never (ps, allowed, spelled) =
      never ps (allowed, counts_agree sh.body (times ps) (λ i. slice_index (no_counts sh.occs) i + times ps i) (λ i. let z = opening_at sh i in omega (arith, z)) spelled)
