-- The nodes of triples, as they are taken up.
use Rattle.std.proofs.Common.{◌≡◌, ◌≤◌, ◌<◌, ◌+◌, ℕ, Bool, List, [], ◌∷◌, ◌++◌, ap, eq-eqb, get_or, inl, inr, length, subst, sym, take, ◌⊎◌}
use borrow.Author.Tests.{eqb-true}
use Rattle.std.specs.Bool.{Decides}
use Rattle.std.specs.Prelude.{◌↔◌, Contains}
use Rattle.std.proofs.lemmas.List.{take_all, take_more}
use Rattle.std.proofs.lemmas.List.Elements.{Contains-append_cases, Contains-append_left, Contains-append_right}
use Rattle.lists.specs.Additions.{Adds, AddsAll, none, more}
use Rattle.lists.proofs.Additions.{all_held, all_keep}
use Rattle.lists.proofs.Members.{in_one, in_rest, is_first, is_later, not_in_none}
use Rattle.std.specs.List.Sorted.{IsStrictlySortedBy}
use Rattle.rdf_terms.specs.Order.{compare_at}
use Rattle.rdf_terms.specs.declared.terms.Term.{Term}
use Rattle.rdf_terms.specs.declared.terms.TermId.{TermId}
use Rattle.rdf_terms.specs.declared.terms.Triple.{Triple}
use Rattle.rdf_terms.specs.contracts.terms.TermIdPartialEq.TheImpl.{ghosts}
use Rattle.label_extents.specs.Extents.{AreInOrder, IsEnd, IsNode}
use Rattle.label_extents.specs.Members.{ends_of}

abbrev pub same : TermId → TermId → Bool
same = ghosts.eq

pub same_decides : (a b : TermId) → Decides (same a b) (a ≡ b)
same_decides a b = (λ h. (let e : a.0 ≡ b.0 = eqb-true a.0 b.0 h in λ i. record { 0 = e i }), λ e. eq-eqb a.0 b.0 (ap (λ n. n.0) e))

-- what is held was held or added
adds_from : (old new : List TermId) (x n : TermId) → Adds old x new → Contains new n → Contains old n ⊎ (x ≡ n)
adds_from old new x n (inl (held, e)) c = inl (subst (λ v. Contains v n) e c)
adds_from old new x n (inr (fresh, e)) c = elim (Contains-append_cases old (x ∷ []) n (subst (λ v. Contains v n) e c)) [
  | inl h ↦ inl h
  | inr h ↦ inr (in_one x n h)
]

all_from : (old new xs : List TermId) (n : TermId) → AddsAll old xs new → Contains new n → Contains old n ⊎ Contains xs n
all_from old new xs n none c = inl c
all_from old new xs n (more {mid = mid} {xs = ys} {x = x} a rest) c = elim (all_from mid new ys n rest c) [
  | inl h ↦ elim (adds_from old mid x n a h) [
    | inl before ↦ inl before
    | inr is ↦ inr (subst (λ z. Contains (x ∷ ys) z) is (is_first x ys))
  ]
  | inr h ↦ inr (is_later x ys n h)
]

pub both_added : (old mid new : List TermId) (a b : TermId) → Adds old a mid → Adds mid b new → AddsAll old (a ∷ b ∷ []) new
both_added old mid new a b one other = more one (more other none)

end_in : (t : Triple) (n : TermId) → IsEnd t n → Contains (ends_of t) n
end_in t n (inl e) = subst (λ z. Contains (ends_of t) z) e (is_first t.s (t.o ∷ []))
end_in t n (inr e) = subst (λ z. Contains (ends_of t) z) e (is_later t.s (t.o ∷ []) t.o (is_first t.o []))

end_from : (t : Triple) (n : TermId) → Contains (ends_of t) n → IsEnd t n
end_from t n c = elim (in_rest t.s (t.o ∷ []) n c) [
  | inl e ↦ inl e
  | inr later ↦ inr (in_one t.o n later)
]

-- the nodes held are those of the triples
abbrev pub AreMet : List Triple → List TermId → Type 0
AreMet g nodes = (n : TermId) → Contains nodes n ↔ IsNode g n

pub none_met : (g : List Triple) (nodes : List TermId) → nodes ≡ [] → AreMet (take 0 g) nodes
none_met g nodes e n = (λ c. absurd (not_in_none n (subst (λ v. Contains v n) e c)), λ h. absurd (not_in_none h.0 h.1))

met_on : (g : List Triple) (i : ℕ) (t : Triple) (old new : List TermId) → take (i + 1) g ≡ take i g ++ t ∷ [] → AreMet (take i g) old → AddsAll old (ends_of t) new → AreMet (take (i + 1) g) new
met_on g i t old new next are all n = (there, back)
  where
    there : Contains new n → IsNode (take (i + 1) g) n
    there c = elim (all_from old new (ends_of t) n all c) [
      | inl h ↦ (let (u, held, end) = (are n).0 h in (u, subst (λ v. Contains v u) (sym next) (Contains-append_left (take i g) (t ∷ []) u held), end))
      | inr h ↦ (t, subst (λ v. Contains v t) (sym next) (Contains-append_right (take i g) (t ∷ []) t (is_first t [])), end_from t n h)
    ]

    by : (u : Triple) → IsEnd u n → Contains (take i g) u ⊎ Contains (t ∷ []) u → Contains new n
    by u end (inl held) = all_keep old new (ends_of t) n all ((are n).1 (u, held, end))
    by u end (inr one) = all_held old new (ends_of t) n all (end_in t n (subst (λ z. IsEnd z n) (sym (in_one t u one)) end))

    back : IsNode (take (i + 1) g) n → Contains new n
    back (u, held, end) = by u end (Contains-append_cases (take i g) (t ∷ []) u (subst (λ v. Contains v u) next held))

pub more_met : (g : List Triple) (i : ℕ) (d : Triple) (old new : List TermId) → i < length g → AreMet (take i g) old → AddsAll old (ends_of (get_or g i d)) new → AreMet (take (i + 1) g) new
more_met g i d old new lt are all = met_on g i (get_or g i d) old new (take_more g i d lt) are all

pub all_met : (g : List Triple) (i : ℕ) (nodes : List TermId) → length g ≤ i → AreMet (take i g) nodes → AreMet g nodes
all_met g i nodes le are = subst (λ v. AreMet v nodes) (take_all i g le) are

-- the nodes that are held, in order
pub in_order : (terms : List Term) (g triples : List Triple) (met list nodes : List TermId) → triples ≡ g → AreMet triples met → list ≡ met →
    IsStrictlySortedBy (compare_at terms) nodes → ((n : TermId) → Contains nodes n ↔ Contains list n) → AreInOrder terms (IsNode g) nodes
in_order terms g triples met list nodes of are same sorted put = record {
  sorted = sorted;
  exactly = λ n. (
    λ c. subst (λ ts. IsNode ts n) of ((are n).0 (subst (λ v. Contains v n) same ((put n).0 c))),
    λ h. (put n).1 (subst (λ v. Contains v n) (sym same) ((are n).1 (subst (λ ts. IsNode ts n) (sym of) h))),
  );
}
