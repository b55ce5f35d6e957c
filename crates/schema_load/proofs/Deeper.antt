-- The depths of parts, one after the other.
use Rattle.std.proofs.Common.{◌≡◌, ℕ, zero, suc, ◌+◌, ◌<◌, ◌≤◌, List, [], ◌∷◌, ◌++◌, refl, sym, ap, subst, arith, length, ◌∙◌, get_or, set, Some, inl, inr, ◌⊎◌, get_or-set_same, get_or-set_other, length-set, replicate}
use Rattle.std.specs.Prelude.{Contains, slice_get}
use Rattle.std.proofs.lemmas.Bool.{cases_eq}
use Rattle.std.proofs.lemmas.List.{length-replicate}
use Rattle.std.proofs.lemmas.List.Elements.{Contains-append_cases, Contains-append_left, Contains-append_right}
use Rattle.std.proofs.lemmas.Option.{slice_get-get_or, slice_get_within}
use Rattle.lists.proofs.Members.{in_one, is_first, not_in_none}
use Rattle.schema_load.specs.declared.part.Part.{Part}
use Rattle.schema_load.specs.declared.part.Part.TheVariants as Parts
use Rattle.schema_load.specs.Graph.{HasDepth, IsAsDeepAs, LeadsTo, alone, below, weight}
use Rattle.schema_load.specs.Parts.{IsAt}
use Rattle.schema_load.specs.Requirements.{HasOne, IsDeep, IsTwice, NoneIs}
use Rattle.schema_load.specs.Steps.{AreDepths, AreTargets, HasAll, IsGreatest, IsSorted, nexts}
use Rattle.schema_load.proofs.Depths.{depth_is}
use Rattle.schema_load.proofs.Leads.{leads_next, next_leads}
use Rattle.schema_load.proofs.Loadable.{index_of}

-- ---- the greatest

pub greatest_none : (depths : List ℕ) → IsGreatest depths [] 0
greatest_none depths = record { above = λ q c. absurd (not_in_none q c); held = inl refl }

pub greatest_more : (depths ps : List ℕ) (m p v : ℕ) → IsGreatest depths ps m → m ≤ v → get_or depths p 0 ≤ v → (v ≡ m) ⊎ (v ≡ get_or depths p 0) → IsGreatest depths (ps ++ p ∷ []) v
greatest_more depths ps m p v g over above one = record {
  above = λ q c. elim (Contains-append_cases ps (p ∷ []) q c) [
    | inl old ↦ (let h = g.above q old in omega arith)
    | inr new ↦ subst (λ z. get_or depths z 0 ≤ v) (in_one p q new) above
  ];
  held = elim one [
    | inl same ↦ elim g.held [
      | inl none ↦ inl (same ∙ none)
      | inr (q, c, e) ↦ inr (q, Contains-append_left ps (p ∷ []) q c, e ∙ sym same)
    ]
    | inr new ↦ inr (p, Contains-append_right ps (p ∷ []) p (is_first p []), sym new)
  ];
}

-- ---- depths so far

-- the parts at the first places of an order have their depths
pub record AreDeep (parts : List Part) (order depths : List ℕ) (i : ℕ) : Type 0 where
  pub size : length depths ≡ length parts
  pub deep : (j p : ℕ) → j < i → slice_get order j ≡ Some p → HasDepth parts p (get_or depths p 0)
  pub low : (q : ℕ) → get_or depths q 0 ≤ i

pub zeros_low : (n q : ℕ) → get_or (replicate n (let z : ℕ = 0 in z)) q 0 ≤ 0
zeros_low zero zero = omega arith
zeros_low zero (suc q) = omega arith
zeros_low (suc n) zero = omega arith
zeros_low (suc n) (suc q) = zeros_low n q

pub deep_none : (parts : List Part) (order depths : List ℕ) → depths ≡ replicate (length parts) (let z : ℕ = 0 in z) → AreDeep parts order depths 0
deep_none parts order depths e = record {
  size = ap length e ∙ length-replicate (length parts) (let z : ℕ = 0 in z);
  deep = λ j p lt at. absurd (omega arith);
  low = λ q. subst (λ ds. get_or ds q 0 ≤ 0) (sym e) (zeros_low (length parts) q);
}

-- an item of a list by its index
pub item_at : (xs : List ℕ) (i p : ℕ) → i < length xs → p ≡ get_or xs i 0 → slice_get xs i ≡ Some p
item_at xs i p lt e = slice_get-get_or xs i 0 lt ∙ ap Some (sym e)

pub weight_low : (u : Part) → weight u ≤ 1
weight_low (Parts.And ps) = omega arith
weight_low (Parts.Or ps) = omega arith
weight_low (Parts.Not q) = omega arith
weight_low (Parts.Node c) = omega arith
weight_low (Parts.Shape s) = omega arith
weight_low (Parts.Declares l) = omega arith
weight_low (Parts.Triple t) = omega arith
weight_low Parts.Start = omega arith
weight_low (Parts.Ref l) = omega arith

module _ (parts : List Part) (targets order : List ℕ) (are : AreTargets parts targets) (sorted : IsSorted parts targets order) where
  -- what is next to a place of the order stands before it
  pub earlier : (i p : ℕ) (x : Part) → slice_get order i ≡ Some p → IsAt parts p x → (q : ℕ) → Contains (nexts (get_or targets p 0) x) q → (j : ℕ) × (j < i) × (slice_get order j ≡ Some q)
  earlier i p x here at q c = sorted.behind i p q here (x, at, c)

  pub next_within : (i p : ℕ) (x : Part) → slice_get order i ≡ Some p → IsAt parts p x → (q : ℕ) → Contains (nexts (get_or targets p 0) x) q → q < length parts
  next_within i p x here at q c = let (j, lt, there) = earlier i p x here at q c in sorted.within j q there

  pub deep_more : NoneIs (HasOne (IsTwice parts)) → (depths : List ℕ) (i p m : ℕ) (x : Part) → slice_get order i ≡ Some p → IsAt parts p x →
      AreDeep parts order depths i → IsGreatest depths (nexts (get_or targets p 0) x) m →
      AreDeep parts order (set depths p (weight x + m)) (i + 1)
  deep_more once depths i p m x here at d g = record { size = length-set depths p (weight x + m) ∙ d.size; deep = deep; low = low }
    where
      known : (q : ℕ) → LeadsTo parts x q → (e : ℕ) × HasDepth parts q e × (e ≤ m)
      known q leads =
          let c = leads_next parts once x (get_or targets p 0) q (are.each p x at) leads in
          let (j, lt, there) = earlier i p x here at q c in
          (get_or depths q 0, d.deep j q lt there, g.above q c)

      some : (m ≡ 0) ⊎ ((q : ℕ) × LeadsTo parts x q × HasDepth parts q m)
      some = elim g.held [
        | inl none ↦ inl none
        | inr (q, c, e) ↦ (
            let (j, lt, there) = earlier i p x here at q c in
            inr (q, next_leads parts x (get_or targets p 0) q (are.each p x at) c, subst (λ z. HasDepth parts q z) e (d.deep j q lt there))
            )
      ]

      mine : HasDepth parts p (weight x + m)
      mine = depth_is parts p m x at known some

      inside : p < length depths
      inside = let w = sorted.within i p here in let s = d.size in omega arith

      value : (q : ℕ) → q ≡ p → get_or (set depths p (weight x + m)) q 0 ≡ weight x + m
      value q same = subst (λ z. get_or (set depths p (weight x + m)) z 0 ≡ weight x + m) (sym same) (get_or-set_same depths p (weight x + m) 0 inside)

      deep : (j q : ℕ) → j < i + 1 → slice_get order j ≡ Some q → HasDepth parts q (get_or (set depths p (weight x + m)) q 0)
      deep j q lt there = elim (cases_eq q p) [
        | inl same ↦ subst (λ z. HasDepth parts q z) (sym (value q same)) (subst (λ z. HasDepth parts z (weight x + m)) (sym same) mine)
        | inr apart ↦ (
            let before : j < i = elim (cases_eq j i) [
              | inl one ↦ absurd (apart (let both : Some q ≡ Some p = sym there ∙ (ap (slice_get order) one ∙ here) in cc))
              | inr other ↦ omega (arith, other)
            ] in
            subst (λ z. HasDepth parts q z) (sym (get_or-set_other depths p q (weight x + m) 0 apart)) (d.deep j q before there)
            )
      ]

      small : m ≤ i
      small = elim g.held [
        | inl none ↦ omega arith
        | inr (q, c, e) ↦ (let l = d.low q in omega arith)
      ]

      low : (q : ℕ) → get_or (set depths p (weight x + m)) q 0 ≤ i + 1
      low q = elim (cases_eq q p) [
        | inl same ↦ (let v = value q same in let l = weight_low x in let s = small in omega arith)
        | inr apart ↦ (let v = get_or-set_other depths p q (weight x + m) 0 apart in let l = d.low q in omega arith)
      ]

  pub deep_all : (depths : List ℕ) (i : ℕ) → HasAll parts order → length order ≤ i → AreDeep parts order depths i → AreDepths parts depths
  deep_all depths i all le d = record { size = d.size; each = λ p lt. (let (j, e) = index_of order p (all p lt) in d.deep j p (let w = slice_get_within order j p e in omega arith) e) }

-- ---- too deep

pub deep_so : (parts : List Part) (p d : ℕ) → HasDepth parts p d → 256 < d → IsDeep parts p
deep_so parts p d h lt = (d, h.so_deep, lt)

pub deep_not : (parts : List Part) (p d : ℕ) → HasDepth parts p d → d ≤ 256 → ¬ IsDeep parts p
deep_not parts p d h le (e, deep, lt) = let n = h.no_deeper e deep in absurd (omega arith)

as_within : (parts : List Part) (p d : ℕ) → IsAsDeepAs parts p d → p < length parts
as_within parts p _ (alone {x = x} at) = slice_get_within parts p x at
as_within parts p _ (below {x = x} at leads h) = slice_get_within parts p x at

pub deep_within : (parts : List Part) (p : ℕ) → IsDeep parts p → p < length parts
deep_within parts p (d, h, lt) = as_within parts p d h
