-- The lines for idle selectors, as selectors are noted one after the other.
use Rattle.std.proofs.Common.{◌≡◌, ◌∙◌, ◌≤◌, ◌<◌, ◌+◌, ◌⊎◌, ℕ, List, [], ◌∷◌, ◌++◌, ap, append_assoc, get_or, inl, inr, length, map, subst, sym, take}
use Rattle.std.proofs.lemmas.List.{map-append, take_all, take_more}
use Rattle.std.proofs.lemmas.List.Elements.{Contains-append_cases}
use Rattle.std.specs.Prelude.{Contains}
use Rattle.lists.specs.Additions.{Adds, AddsAll, none, more}
use Rattle.lists.proofs.Additions.{all_held, one_more}
use Rattle.lists.proofs.Members.{from_map, in_map, in_one, in_rest, is_first, is_later, not_in_none}
use Rattle.rdf_terms.specs.declared.terms.Term.{Term}
use Rattle.rdf_terms.specs.declared.terms.Triple.{Triple}
use Rattle.shape_map.specs.declared.items.Item.{Item}
use Rattle.shape_map.specs.declared.items.Selector.{Selector}
use Rattle.idle_selectors.specs.Idle.{AreIdle, AreIdleLines, Finds, IsIdle, empty, idle, busy}
use Rattle.idle_selectors.specs.Laws.{AreOfIdle, HaveLines}
use Rattle.idle_selectors.specs.Noting.{Notes}
use Rattle.idle_selectors.specs.Texts.{selector_line}

-- three pieces are appended
pub chained : (old a b new w x y : List ℕ) → a ≡ old ++ w → b ≡ a ++ x → new ≡ b ++ y → new ≡ old ++ (w ++ (x ++ y))
chained old a b new w x y p q r = r ∙ ap (λ l. l ++ y) (q ∙ ap (λ l. l ++ x) p) ∙ append_assoc (old ++ w) x y ∙ append_assoc old w (x ++ y)

-- what is held was held or added
adds_from : {X : Type 0} (old new : List X) (x n : X) → Adds old x new → Contains new n → Contains old n ⊎ (x ≡ n)
adds_from old new x n (inl (held, e)) c = inl (subst (λ v. Contains v n) e c)
adds_from old new x n (inr (fresh, e)) c = elim (Contains-append_cases old (x ∷ []) n (subst (λ v. Contains v n) e c)) [
  | inl h ↦ inl h
  | inr h ↦ inr (in_one x n h)
]

all_from : {X : Type 0} (old new xs : List X) (n : X) → AddsAll old xs new → Contains new n → Contains old n ⊎ Contains xs n
all_from old new xs n none c = inl c
all_from old new xs n (more {mid = mid} {xs = ys} {x = x} a rest) c = elim (all_from mid new ys n rest c) [
  | inl h ↦ elim (adds_from old mid x n a h) [
    | inl before ↦ inl before
    | inr is ↦ inr (subst (λ z. Contains (x ∷ ys) z) is (is_first x ys))
  ]
  | inr h ↦ inr (is_later x ys n h)
]

module _ (terms : List Term) (g : List Triple) where
  -- an item behind the others
  idle_more : (is : List Item) (xs : List Selector) (i : Item) → AreIdle terms g is xs → IsIdle terms g i.selector → AreIdle terms g (is ++ i ∷ []) (xs ++ i.selector ∷ [])
  idle_more is xs i empty own = idle own empty
  idle_more is xs i (idle {is = js} {xs = ys} h rest) own = idle h (idle_more js ys i rest own)
  idle_more is xs i (busy {is = js} {xs = ys} h rest) own = busy h (idle_more js ys i rest own)

  busy_more : (is : List Item) (xs : List Selector) (i : Item) → AreIdle terms g is xs → Finds terms g i.selector → AreIdle terms g (is ++ i ∷ []) xs
  busy_more is xs i empty own = busy own empty
  busy_more is xs i (idle {is = js} {xs = ys} h rest) own = idle h (busy_more js ys i rest own)
  busy_more is xs i (busy {is = js} {xs = ys} h rest) own = busy h (busy_more js ys i rest own)

  noted : (is : List Item) (i : Item) (old new : List (List ℕ)) → AreIdleLines terms g is old → Notes terms g i.selector old new → AreIdleLines terms g (is ++ i ∷ []) new
  noted is i old new a (inl (own, adds)) = record {
    selectors = a.selectors ++ i.selector ∷ [];
    are_idle = idle_more is a.selectors i a.are_idle own;
    lines_are = subst (λ (ls : List (List ℕ)). AddsAll [] ls new) (sym (map-append selector_line a.selectors (i.selector ∷ [])))
        (one_more [] old new (map selector_line a.selectors) (selector_line i.selector) a.lines_are adds);
  }
  noted is i old new a (inr (found, same)) = record {
    selectors = a.selectors;
    are_idle = busy_more is a.selectors i a.are_idle found;
    lines_are = subst (λ (ls : List (List ℕ)). AddsAll [] (map selector_line a.selectors) ls) (sym same) a.lines_are;
  }

  pub none_noted : (items : List Item) (lines : List (List ℕ)) → lines ≡ [] → AreIdleLines terms g (take 0 items) lines
  none_noted items lines e = record { selectors = []; are_idle = empty; lines_are = subst (λ (ls : List (List ℕ)). AddsAll [] [] ls) (sym e) none }

  pub noted_on : (items : List Item) (k : ℕ) (i : Item) (old new : List (List ℕ)) → k < length items → i ≡ get_or items k i →
      AreIdleLines terms g (take k items) old → Notes terms g i.selector old new →
      AreIdleLines terms g (take (k + 1) items) new
  noted_on items k i old new lt is a n =
      let next : take (k + 1) items ≡ take k items ++ i ∷ [] = take_more items k i lt ∙ ap (λ (z : Item). take k items ++ z ∷ []) (sym is) in
      subst (λ (v : List Item). AreIdleLines terms g v new) (sym next) (noted (take k items) i old new a n)

  pub all_noted : (items : List Item) (k : ℕ) (lines : List (List ℕ)) → length items ≤ k → AreIdleLines terms g (take k items) lines → AreIdleLines terms g items lines
  all_noted items k lines le a = subst (λ (v : List Item). AreIdleLines terms g v lines) (take_all k items le) a

  -- an idle selector is listed
  idle_in : (items : List Item) (xs : List Selector) → AreIdle terms g items xs → (i : Item) → Contains items i → IsIdle terms g i.selector → Contains xs i.selector
  idle_in items xs empty i held own = absurd (not_in_none i held)
  idle_in items xs (idle {i = j} {is = js} {xs = ys} h rest) i held own = elim (in_rest j js i held) [
    | inl e ↦ subst (λ (z : Item). Contains (j.selector ∷ ys) z.selector) e (is_first j.selector ys)
    | inr later ↦ is_later j.selector ys i.selector (idle_in js ys rest i later own)
  ]
  idle_in items xs (busy {i = j} {is = js} {xs = ys} h rest) i held own = elim (in_rest j js i held) [
    | inl e ↦ absurd (own (subst (λ (z : Item). Finds terms g z.selector) e h))
    | inr later ↦ idle_in js ys rest i later own
  ]

  -- the selector is an idle one of the items
  abbrev IsOf : List Item → Selector → Type 0
  IsOf items x = (i : Item) × Contains items i × IsIdle terms g i.selector × (i.selector ≡ x)

  -- and each that is listed is one
  from_idle : (items : List Item) (xs : List Selector) → AreIdle terms g items xs → (x : Selector) → Contains xs x → IsOf items x
  from_idle items xs empty x held = absurd (not_in_none x held)
  from_idle items xs (idle {i = j} {is = js} {xs = ys} h rest) x held = elim (in_rest j.selector ys x held) [
    | inl e ↦ (j, is_first j js, h, e)
    | inr later ↦ (let (i, at, own, e) = from_idle js ys rest x later in (i, is_later j js i at, own, e))
  ]
  from_idle items xs (busy {i = j} {is = js} {xs = ys} h rest) x held = let (i, at, own, e) = from_idle js ys rest x held in (i, is_later j js i at, own, e)

  pub exact : (items : List Item) (lines : List (List ℕ)) → AreIdleLines terms g items lines → HaveLines terms g items lines × AreOfIdle terms g items lines
  exact items lines a = (have, of)
    where
      have : HaveLines terms g items lines
      have i held own = all_held [] lines (map selector_line a.selectors)
          (selector_line i.selector) a.lines_are (in_map selector_line a.selectors i.selector (idle_in items a.selectors a.are_idle i held own))

      of : AreOfIdle terms g items lines
      of l held = elim (all_from [] lines (map selector_line a.selectors) l a.lines_are held) [
        | inl h ↦ absurd (not_in_none l h)
        | inr h ↦ (let (x, at, e) = from_map selector_line a.selectors l h in let (i, there, own, same) = from_idle items a.selectors a.are_idle x at in (i, there, own, ap selector_line same ∙ e))
      ]
