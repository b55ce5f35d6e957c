-- The places to which parts lead, as lists.
use Rattle.std.proofs.Common.{◌≡◌, ℕ, zero, suc, ◌+◌, ◌<◌, ◌≤◌, ◌∙◌, ap, List, [], ◌∷◌, refl, sym, subst, arith, length, get_or, Some, Option, None, ◌++◌, true, inl, inr}
use Rattle.std.specs.Prelude.{Contains, slice_get}
use Rattle.std.proofs.lemmas.Option.{slice_get_within}
use Rattle.std.proofs.lemmas.List.{get_or-append-add, get_or_append_left, length-append}
use Rattle.std.proofs.lemmas.Bool.{cases_eq}
use Rattle.schema_load.specs.Names.{MissesTarget}
use Rattle.schema_load.proofs.Firsts.{missing_of, truly}
use Rattle.lists.proofs.Members.{in_one, is_first}
use Rattle.schema_load.specs.declared.part.Part.{Part}
use Rattle.schema_load.specs.declared.part.Part.TheVariants as Parts
use Rattle.schema_load.specs.declared.part.TriplePart.{TriplePart}
use Rattle.schema_load.specs.declared.part.TripleForm.{TripleForm}
use Rattle.schema_load.specs.declared.part.TripleForm.TheVariants.{Arc, Each, Include, One}
use Rattle.schema_load.specs.Graph.{FormLeadsTo, LeadsTo, Reaches, at_once, through}
use Rattle.schema_load.specs.Parts.{AreWhole, IsAt, IsDeclared, IsExprAt, IsNamed}
use Rattle.schema_load.specs.Requirements.{HasOne, IsFirst, IsMissing, IsTwice, NoneIs}
use Rattle.schema_load.specs.Steps.{AreInside, AreTargets, FormHolds, HasAll, HaveBodies, HoldTriples, IsFirstFound, IsFormTarget, IsNext, IsSorted, IsTarget, IsTripleAt, form_nexts, nexts}
use Rattle.schema_load.proofs.Loadable.{index_of}
use Rattle.schema_load.proofs.One.{one_at}
use Rattle.schema_load.proofs.OneSchemaLaw.{one_named, one_target}
use Rattle.schema_load.proofs.Stuck.{Steps}

module _ (parts : List Part) where
  -- what is in the list is led to
  form_leads : (f : TripleForm) (t q : ℕ) → IsFormTarget parts f t → Contains (form_nexts t f) q → FormLeadsTo parts f q
  form_leads (Each ps) t q target c = c
  form_leads (One ps) t q target c = c
  form_leads (Arc a) t q target c = absurd (omega (arith, c.1))
  form_leads (Include l) t q target c = subst (λ z. IsNamed parts l z) (in_one t q c) target

  pub next_leads : (x : Part) (t q : ℕ) → IsTarget parts x t → Contains (nexts t x) q → LeadsTo parts x q
  next_leads (Parts.And ps) t q target c = c
  next_leads (Parts.Or ps) t q target c = c
  next_leads (Parts.Not p) t q target c = let same = in_one t q c in (let e : p ≡ q = cc in e)
  next_leads (Parts.Ref l) t q target c = subst (λ z. IsDeclared parts l z) (in_one t q c) target
  next_leads (Parts.Triple u) t q target c = form_leads u.form t q target c
  next_leads Parts.Start t q target c = absurd (omega (arith, c.1))
  next_leads (Parts.Declares l) t q target c = absurd (omega (arith, c.1))
  next_leads (Parts.Node k) t q target c = absurd (omega (arith, c.1))
  next_leads (Parts.Shape s) t q target c = absurd (omega (arith, c.1))

  -- what is led to is in the list
  module _ (once : NoneIs (HasOne (IsTwice parts))) where
    leads_form : (f : TripleForm) (t q : ℕ) → IsFormTarget parts f t → FormLeadsTo parts f q → Contains (form_nexts t f) q
    leads_form (Each ps) t q target c = c
    leads_form (One ps) t q target c = c
    leads_form (Arc a) t q target c = absurd c
    leads_form (Include l) t q target c = subst (λ z. Contains (t ∷ []) z) (one_named parts once l t q target c) (is_first t [])

    pub leads_next : (x : Part) (t q : ℕ) → IsTarget parts x t → LeadsTo parts x q → Contains (nexts t x) q
    leads_next (Parts.And ps) t q target c = c
    leads_next (Parts.Or ps) t q target c = c
    leads_next (Parts.Not p) t q target c = subst (λ z. Contains (t ∷ []) z) (let e : t ≡ q = cc in e) (is_first t [])
    leads_next (Parts.Ref l) t q target c = subst (λ z. Contains (t ∷ []) z) (one_target parts once l t q target c) (is_first t [])
    leads_next (Parts.Triple u) t q target c = leads_form u.form t q target c
    leads_next Parts.Start t q target c = absurd c
    leads_next (Parts.Declares l) t q target c = absurd c
    leads_next (Parts.Node k) t q target c = absurd c
    leads_next (Parts.Shape s) t q target c = absurd c

  module _ (targets : List ℕ) (are : AreTargets parts targets) where
    pub step_of : (p q : ℕ) → IsNext parts targets p q → Steps parts p q
    step_of p q (x, at, c) = (x, at, next_leads x (get_or targets p 0) q (are.each p x at) c)

    pub next_of : NoneIs (HasOne (IsTwice parts)) → (p q : ℕ) → Steps parts p q → IsNext parts targets p q
    next_of once p q (x, at, leads) = (x, at, leads_next once x (get_or targets p 0) q (are.each p x at) leads)

    -- in an order that has all places none leads to itself
    back : NoneIs (HasOne (IsTwice parts)) → (order : List ℕ) → IsSorted parts targets order → (p q : ℕ) → Reaches parts p q → (i : ℕ) →
        slice_get order i ≡ Some p → (j : ℕ) × (j < i) × (slice_get order j ≡ Some q)
    back once order sorted p q (at_once {x = x} at leads) i e = sorted.behind i p q e (next_of once p q (x, at, leads))
    back once order sorted p q (through {q = m} {x = x} at leads rest) i e = deeper (sorted.behind i p m e (next_of once p m (x, at, leads))) (λ j h. back once order sorted m q rest j h)
      where
        deeper : ((j : ℕ) × (j < i) × (slice_get order j ≡ Some m)) → ((j : ℕ) → slice_get order j ≡ Some m → (k : ℕ) × (k < j) ×
            (slice_get order k ≡ Some q)) → (k : ℕ) × (k < i) × (slice_get order k ≡ Some q)
        deeper (j, lt, h) more = let (k, less, g) = more j h in (k, omega arith, g)

    no_round : NoneIs (HasOne (IsTwice parts)) → (order : List ℕ) → IsSorted parts targets order → (p n i : ℕ) → i < n → slice_get order i ≡ Some p → ¬ Reaches parts p p
    no_round once order sorted p zero i lt e round = absurd (omega arith)
    no_round once order sorted p (suc n) i lt e round = let (j, less, h) = back once order sorted p p round i e in no_round once order sorted p n j (omega arith) h round

    reach_within : (p q : ℕ) → Reaches parts p q → p < length parts
    reach_within p q (at_once {x = x} at leads) = slice_get_within parts p x at
    reach_within p q (through {x = x} at leads rest) = slice_get_within parts p x at

    pub sorted_acyclic : NoneIs (HasOne (IsTwice parts)) → (order : List ℕ) → IsSorted parts targets order → HasAll parts order → (p : ℕ) → ¬ Reaches parts p p
    sorted_acyclic once order sorted all p round =
        let (i, e) = index_of order p (all p (reach_within p p round)) in
        no_round once order sorted p (suc i) i (omega arith) e round

-- each place to which a part of documents leads has a part
expr_within : (parts : List Part) (q : ℕ) → IsExprAt parts q → q < length parts
expr_within parts q (x, at, is) = slice_get_within parts q x at

triple_within : (parts : List Part) (q : ℕ) → IsTripleAt parts q → q < length parts
triple_within parts q (t, at) = slice_get_within parts q (Parts.Triple t) at

module _ (parts : List Part) (whole : AreWhole parts) (triples : HoldTriples parts) where
  form_inside : (p q : ℕ) (t : TriplePart) (f : TripleForm) → t.form ≡ f → IsAt parts p (Parts.Triple t) → FormLeadsTo parts f q → q < length parts
  form_inside p q t (Each ps) e at c = triple_within parts q (triples p q (Parts.Triple t) at (subst (λ z. FormHolds z q) (sym e) c))
  form_inside p q t (One ps) e at c = triple_within parts q (triples p q (Parts.Triple t) at (subst (λ z. FormHolds z q) (sym e) c))
  form_inside p q t (Arc a) e at c = absurd c
  form_inside p q t (Include l) e at (u, there, named) = slice_get_within parts q (Parts.Triple u) there

  pub leads_inside : (p q : ℕ) (x : Part) → IsAt parts p x → LeadsTo parts x q → q < length parts
  leads_inside p q (Parts.And ps) at c = expr_within parts q (whole.members p q (Parts.And ps) at c)
  leads_inside p q (Parts.Or ps) at c = expr_within parts q (whole.members p q (Parts.Or ps) at c)
  leads_inside p q (Parts.Not m) at c = expr_within parts q (whole.members p q (Parts.Not m) at c)
  leads_inside p q (Parts.Ref l) at (d, head, e) = subst (λ z. z < length parts) (sym e) (expr_within parts (d + 1) (whole.behind d (Parts.Declares l) head refl))
  leads_inside p q (Parts.Triple t) at c = form_inside p q t t.form refl at c
  leads_inside p q Parts.Start at c = absurd c
  leads_inside p q (Parts.Declares l) at c = absurd c
  leads_inside p q (Parts.Node k) at c = absurd c
  leads_inside p q (Parts.Shape s) at c = absurd c

pub are_inside : (parts : List Part) (targets : List ℕ) → AreWhole parts → HoldTriples parts → AreTargets parts targets → AreInside parts targets
are_inside parts targets whole triples are p q next = let (x, at, leads) = step_of parts targets are p q next in leads_inside parts whole triples p q x at leads

-- ---- the list of targets

abbrev pub IsTargetAt : List Part → ℕ → ℕ → Type 0
IsTargetAt parts q t = (x : Part) → IsAt parts q x → IsTarget parts x t

pushed_last : (ts : List ℕ) (k v : ℕ) → length ts ≡ k → get_or (ts ++ v ∷ []) k 0 ≡ v
pushed_last ts k v size = subst (λ z. get_or (ts ++ v ∷ []) z 0 ≡ v) (let e : length ts + 0 ≡ k = omega arith in e) (get_or-append-add ts (v ∷ []) 0 0)

-- what is so at each place of a list is so when one more is added
pub each_push : (R : ℕ → ℕ → Type 0) (ts : List ℕ) (k v : ℕ) → length ts ≡ k → ((q : ℕ) → q < k → R q (get_or ts q 0)) → R k v → (q : ℕ) → q < k + 1 → R q (get_or (ts ++ v ∷ []) q 0)
each_push R ts k v size each here q lt = elim (cases_eq q k) [
  | inl same ↦ subst (λ z. R z (get_or (ts ++ v ∷ []) z 0)) (sym same) (subst (R k) (sym (let e : get_or (ts ++ v ∷ []) k 0 ≡ v = pushed_last ts k v size in e)) here)
  | inr apart ↦ (let less : q < k = omega (arith, apart) in subst (R q) (sym (get_or_append_left ts (v ∷ []) 0 q (omega arith))) (each q less))
]

pub target_at : (parts : List Part) (p t : ℕ) (x : Part) → IsAt parts p x → IsTarget parts x t → IsTargetAt parts p t
target_at parts p t x at target y here = subst (λ z. IsTarget parts z t) (one_at parts p x y at here) target

-- the targets of the first parts
abbrev pub AreTargetsTo : List Part → List ℕ → ℕ → Type 0
AreTargetsTo parts ts k = (length ts ≡ k) × ((q : ℕ) → q < k → IsTargetAt parts q (get_or ts q 0))

pub targets_none : (parts : List Part) (ts : List ℕ) → ts ≡ [] → AreTargetsTo parts ts 0
targets_none parts ts e = (ap length e, λ q lt. absurd (omega arith))

pub targets_more : (parts : List Part) (ts after : List ℕ) (k v : ℕ) (x : Part) → IsAt parts k x → IsTarget parts x v → after ≡ ts ++ v ∷ [] →
    AreTargetsTo parts ts k → AreTargetsTo parts after (k + 1)
targets_more parts ts after k v x at target pushed (size, each) = (
  ap length pushed ∙ (let h = length-append ts (v ∷ []) in omega arith),
  λ q lt. subst (λ us. IsTargetAt parts q (get_or us q 0)) (sym pushed) (each_push (IsTargetAt parts) ts k v size each (target_at parts k v x at target) q lt),
)

pub targets_all : (parts : List Part) (ts : List ℕ) (k : ℕ) → k ≤ length parts → length parts ≤ k → AreTargetsTo parts ts k → AreTargets parts ts
targets_all parts ts k low le (size, each) = record {
  size = omega arith;
  each = λ p x at. each p (let w = slice_get_within parts p x at in omega arith) x at;
}

pub misses_none : (parts : List Part) (p : ℕ) (x : Part) → NoneIs (HasOne (IsMissing parts)) → IsAt parts p x → ¬ MissesTarget parts x
misses_none parts p x none at m = none p ((missing_of parts p x true at (truly m)).0 refl)

-- the expression of each declaration is there
pub have_bodies : (parts : List Part) → AreWhole parts → HaveBodies parts
have_bodies parts whole d l at = expr_within parts (d + 1) (whole.behind d (Parts.Declares l) at refl)

-- what is not found is nowhere
pub found_none : (P : ℕ → Type 0) (o : Option ℕ) → o ≡ None → IsFirstFound P o → NoneIs P
found_none P None e h = h
found_none P (Some p) e h = absurd (let bad : ⊥ = cc in bad)

pub found_some : (P : ℕ → Type 0) (o : Option ℕ) (p : ℕ) → o ≡ Some p → IsFirstFound P o → IsFirst P p
found_some P o p e h = subst (IsFirstFound P) e h
