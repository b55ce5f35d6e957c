-- Witnesses in a map, and how many triples they have.
use Rattle.std.proofs.Common.{◌≡◌, ◌≢◌, ◌∙◌, ℕ, zero, suc, ◌+◌, ◌<◌, ◌⊎◌, inl, inr, List, [], ◌∷◌, ◌++◌, Bool, true, false, cond, refl, sym, ap, arith, length, get_or}
use Rattle.std.proofs.lemmas.Bool.{eqb-false, eqb-true}
use Rattle.std.proofs.lemmas.List.Quantifiers.{position-Some}
use Rattle.std.proofs.lemmas.List.Sums.{sum_by-append, sum_by-swap_remove}
use Rattle.std.specs.Global.{Box}
use Rattle.std.specs.List.{position, sum_by, swap_remove}
use Rattle.std.specs.Map.{keys_of, lookup}
use Rattle.std.specs.Option.{option_map_or}
use Rattle.std.specs.Prelude.{None, Option, Some, nat_eq}
use Rattle.indexmap.specs.IndexMap.{swap_remove_entry}
use Rattle.typing_refiner.specs.declared.witness.Witness.{Witness}
use Rattle.typing_refiner.specs.Holding.{Holds, triples_of}

-- ---- an entry is taken out

keys_length : {V : Type 0} (es : List (ℕ × V)) → length (keys_of es) ≡ length es
keys_length [] = refl
keys_length (e ∷ es) = ap suc (keys_length es)

-- the first entry whose key passes is the one that is found
found_at : {V : Type 0} (test : ℕ → Bool) (es : List (ℕ × V)) (i : ℕ) (d : ℕ × V) → i < length es → test (get_or (keys_of es) i d.0) ≡ true →
    ((k : ℕ) → k < i → test (get_or (keys_of es) k d.0) ≡ false) → lookup test es ≡ Some (get_or es i d).1
found_at test [] i d within hit miss = absurd (omega (arith, within))
found_at test (e ∷ es) zero d within hit miss = ap (λ b. cond b (Some e.1) (lookup test es)) hit
found_at test (e ∷ es) (suc i) d within hit miss =
    ap (λ b. cond b (Some e.1) (lookup test es)) (miss 0 (omega arith))
    ∙ found_at test es i d (omega (arith, within)) hit (λ k less. miss (suc k) (omega (arith, less)))

pub taken_sum : {V : Type 0} (f : ℕ × V → ℕ) (g : V → ℕ) → ((e : ℕ × V) → f e ≡ g e.1) → (test : ℕ → Bool) (es new : List (ℕ × V)) (v : V) →
    Some v ≡ lookup test es → new ≡ swap_remove_entry test es → length new + 1 ≡ length es → sum_by f new + g v ≡ sum_by f es
taken_sum f g by_value test [] new v found is len = absurd (omega (arith, len))
taken_sum f g by_value test (e ∷ es) new v found is len = by (position test (keys_of (e ∷ es))) refl
  where
    by : (r : Option ℕ) → position test (keys_of (e ∷ es)) ≡ r → sum_by f new + g v ≡ sum_by f (e ∷ es)
    by None at = absurd (let same = ap length (is ∙ ap (λ r. option_map_or (λ i. swap_remove (e ∷ es) i e) r (e ∷ es)) at) in omega (arith, same, len))
    by (Some i) at =
        let first = position-Some test (keys_of (e ∷ es)) i e.0 at in
        let keys = keys_length (e ∷ es) in
        let within : i < length (e ∷ es) = (let l = first.0 in omega (arith, keys, l)) in
        let both : Some v ≡ Some (get_or (e ∷ es) i e).1 = found ∙ found_at test (e ∷ es) i e within first.1 first.2 in
        let own : v ≡ (get_or (e ∷ es) i e).1 = cc in
        let size : g v ≡ f (get_or (e ∷ es) i e) = ap g own ∙ sym (by_value (get_or (e ∷ es) i e)) in
        let out = sum_by-swap_remove f (e ∷ es) i e within in
        let left : sum_by f new ≡ sum_by f (swap_remove (e ∷ es) i e) =
        ap (sum_by f) (is ∙ ap (λ r. option_map_or (λ j. swap_remove (e ∷ es) j e) r (e ∷ es)) at) in
        omega (arith, size, out, left)

-- ---- what is held

pub taken_triples : (held new : List (ℕ × Box Witness)) (at : ℕ) (b : Box Witness) → Some b ≡ lookup (nat_eq at) held →
    new ≡ swap_remove_entry (nat_eq at) held → length new + 1 ≡ length held → triples_of new + length b.value.triples ≡ triples_of held
taken_triples held new at b found is len =
    taken_sum (λ e. length e.1.value.triples) (λ c. length c.value.triples) (λ e. refl) (nat_eq at) held new b found is len

pub more_triples : (held new : List (ℕ × Box Witness)) (at : ℕ) (b : Box Witness) → new ≡ held ++ (at, b) ∷ [] → triples_of new ≡ triples_of held + length b.value.triples
more_triples held new at b is =
    let sum = sum_by-append (λ (e : ℕ × Box Witness). length e.1.value.triples) held ((at, b) ∷ []) in
    let same = ap triples_of is in
    omega (arith, sum, same)

pub left_out : (old new : List (ℕ × Box Witness)) (at : ℕ) → ((q : ℕ) → lookup (nat_eq q) new ≡ cond (nat_eq at q) None (lookup (nat_eq q) old)) →
    (i : ℕ) (w : Witness) → Holds new i w → (i ≢ at) × Holds old i w
left_out old new at step i w (b, there, same) = by (nat_eq at i) refl
  where
    by : (c : Bool) → nat_eq at i ≡ c → (i ≢ at) × Holds old i w
    by true e = absurd (let none : None ≡ Some b = sym (step i ∙ ap (λ c. cond c None (lookup (nat_eq i) old)) e) ∙ there in let bad : ⊥ = cc in bad)
    by false e = ((λ own. eqb-false at i e (sym own)), (b, sym (step i ∙ ap (λ c. cond c None (lookup (nat_eq i) old)) e) ∙ there, same))

pub put_there : (old new : List (ℕ × Box Witness)) (at : ℕ) (x : Box Witness) →
    ((q : ℕ) → lookup (nat_eq q) new ≡ cond (nat_eq at q) (Some x) (lookup (nat_eq q) old)) → (i : ℕ) (w : Witness) → Holds new i w → Holds old i w ⊎ ((i ≡ at) × (w ≡ x.value))
put_there old new at x step i w (b, there, same) = by (nat_eq at i) refl
  where
    by : (c : Bool) → nat_eq at i ≡ c → Holds old i w ⊎ ((i ≡ at) × (w ≡ x.value))
    by true e = inr (
      sym (eqb-true at i e),
      (let both : Some x ≡ Some b = sym (step i ∙ ap (λ c. cond c (Some x) (lookup (nat_eq i) old)) e) ∙ there in
          let own : x ≡ b = cc in sym same ∙ ap (λ c. c.value) (sym own)),
    )
    by false e = inl (b, sym (step i ∙ ap (λ c. cond c (Some x) (lookup (nat_eq i) old)) e) ∙ there, same)

-- nothing is held where there is nothing
pub none_held : (held : List (ℕ × Box Witness)) → held ≡ [] → (i : ℕ) (w : Witness) → ¬ Holds held i w
none_held held is i w (b, there, same) = let none : None ≡ Some b = sym (ap (λ es. lookup (nat_eq i) es) is) ∙ there in let bad : ⊥ = cc in bad

-- none is held at a number that was taken out
pub gone_from : (old new : List (ℕ × Box Witness)) (at : ℕ) → ((i : ℕ) (w : Witness) → Holds new i w → (i ≢ at) × Holds old i w) → lookup (nat_eq at) new ≡ None
gone_from old new at left = by (lookup (nat_eq at) new) refl
  where
    by : (r : Option (Box Witness)) → lookup (nat_eq at) new ≡ r → lookup (nat_eq at) new ≡ None
    by None e = e
    by (Some b) e = absurd ((left at b.value (b, e, refl)).0 refl)
