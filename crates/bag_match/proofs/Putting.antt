-- What a set of counts has, and after one more is put into it.
use Rattle.std.proofs.Common.{◌≡◌, ℕ, ◌⊎◌, inl, inr, List, [], ◌∷◌, map, refl, sym, subst, ◌∙◌, true, true≢false, ◌||◌}
use Rattle.std.proofs.lemmas.Map.Lookups.{exact_bytes}
use Rattle.std.specs.Prelude.{Contains, ◌↔◌}
use Rattle.std.specs.BTreeSet.{insert_key}
use Rattle.std.specs.Global.{Vec}
use Rattle.std.specs.Cmp.Lexicographic.{slice_cmp}
use Rattle.std.specs.List.{list_any}
use Rattle.std.specs.Ordering.{is_eq, match_ordering, nat_cmp}
use Rattle.std.specs.declared.cmp.Ordering.{Ordering}
use Rattle.std.specs.declared.cmp.Ordering.TheVariants.{Less, Equal, Greater}
use Rattle.lists.proofs.Members.{in_rest, is_first, is_later, not_in_none}

abbrev pub compare_items : Vec ℕ → Vec ℕ → Ordering
compare_items x y = slice_cmp nat_cmp x.items y.items

abbrev pub lists : List (Vec ℕ) → List (List ℕ)
lists ks = map (λ v. v.items) ks

abbrev Puts : List (List ℕ) → List (List ℕ) → List ℕ → List ℕ → Type 0
Puts new old k c = (Contains new c → Contains old c ⊎ (k ≡ c)) × (Contains old c ⊎ (k ≡ c) → Contains new c)

pub put_has : (ks : List (Vec ℕ)) (k : Vec ℕ) (c : List ℕ) → Puts (lists (insert_key compare_items ks k)) (lists ks) k.items c
put_has [] k c = (
  (λ h. elim (in_rest k.items [] c h) [ inl e ↦ inr e | inr none ↦ inl none ]),
  (λ h. elim h [ inl none ↦ absurd (not_in_none c none) | inr e ↦ subst (λ z. Contains (k.items ∷ []) z) e (is_first k.items []) ]),
)
put_has (x ∷ xs) k c = go (compare_items k x) refl (put_has xs k c)
  where
    go : (o : Ordering) → compare_items k x ≡ o → Puts (lists (insert_key compare_items xs k)) (lists xs) k.items c →
        Puts (lists (match_ordering o (k ∷ x ∷ xs) (x ∷ xs) (x ∷ insert_key compare_items xs k))) (lists (x ∷ xs)) k.items c
    go Less is deeper = (
      (λ h. elim (in_rest k.items (lists (x ∷ xs)) c h) [ inl e ↦ inr e | inr later ↦ inl later ]),
      (λ h. elim h [
        | inl held ↦ is_later k.items (lists (x ∷ xs)) c held
        | inr e ↦ subst (λ z. Contains (lists (k ∷ x ∷ xs)) z) e (is_first k.items (lists (x ∷ xs)))
      ]),
    )
    go Equal is deeper = (
      (λ h. inl h),
      (λ h. elim h [
        | inl held ↦ held
        | inr e ↦ subst (λ z. Contains (lists (x ∷ xs)) z) (sym (exact_bytes k.items x.items is) ∙ e) (is_first x.items (lists xs))
      ]),
    )
    go Greater is deeper = (
      (λ h. elim (in_rest x.items (lists (insert_key compare_items xs k)) c h) [
        | inl e ↦ inl (subst (λ z. Contains (lists (x ∷ xs)) z) e (is_first x.items (lists xs)))
        | inr later ↦ elim (deeper.0 later) [ inl held ↦ inl (is_later x.items (lists xs) c held) | inr e ↦ inr e ]
      ]),
      (λ h. elim h [
        | inl held ↦ elim (in_rest x.items (lists xs) c held) [
          | inl e ↦ subst (λ z. Contains (x.items ∷ lists (insert_key compare_items xs k)) z) e (is_first x.items (lists (insert_key compare_items xs k)))
          | inr later ↦ is_later x.items (lists (insert_key compare_items xs k)) c (deeper.1 (inl later))
        ]
        | inr e ↦ is_later x.items (lists (insert_key compare_items xs k)) c (deeper.1 (inr e))
      ]),
    )

pub put_keys : (ks new : List (Vec ℕ)) (k : Vec ℕ) → new ≡ insert_key compare_items ks k → (c : List ℕ) → Contains (lists new) c ↔ (Contains (lists ks) c ⊎ (k.items ≡ c))
put_keys ks new k is c = subst (λ z. Puts (lists z) (lists ks) k.items c) (sym is) (put_has ks k c)

-- what the test of the set finds
pub held_there : (ks : List (Vec ℕ)) (counts : List ℕ) → list_any (λ k. is_eq (slice_cmp nat_cmp counts k.items)) ks ≡ true → Contains (lists ks) counts
held_there [] counts none = absurd (true≢false (sym none))
held_there (k ∷ ks) counts some = go (slice_cmp nat_cmp counts k.items) refl some (held_there ks counts)
  where
    go : (o : Ordering) → slice_cmp nat_cmp counts k.items ≡ o → (is_eq o || list_any (λ k. is_eq (slice_cmp nat_cmp counts k.items)) ks) ≡ true →
        (list_any (λ k. is_eq (slice_cmp nat_cmp counts k.items)) ks ≡ true → Contains (lists ks) counts) → Contains (lists (k ∷ ks)) counts
    go Less is some later = is_later k.items (lists ks) counts (later some)
    go Equal is some later = subst (λ z. Contains (lists (k ∷ ks)) z) (sym (exact_bytes counts k.items is)) (is_first k.items (lists ks))
    go Greater is some later = is_later k.items (lists ks) counts (later some)

-- what the set has is there already
pub held_keys : (ks : List (Vec ℕ)) (counts : List ℕ) → list_any (λ k. is_eq (slice_cmp nat_cmp counts k.items)) ks ≡ true → (c : List ℕ) →
    Contains (lists ks) c ↔ (Contains (lists ks) c ⊎ (counts ≡ c))
held_keys ks counts has c = ((λ h. inl h), λ h. elim h [ inl held ↦ held | inr e ↦ subst (λ z. Contains (lists ks) z) e (held_there ks counts has) ])
