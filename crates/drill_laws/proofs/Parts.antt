-- The parts of the schema of a drill meet what is required of documents, whatever the label, the predicates and the tags are.
use Rattle.std.proofs.Common.{◌≡◌, ◌∙◌, ℕ, zero, suc, ◌+◌, ◌<◌, ◌≤◌, List, [], ◌∷◌, Bool, true, false, Some, None, refl, sym, ap, subst, arith, length, get_or, inl, inr, ◌⊎◌}
use Rattle.std.specs.Prelude.{Option, Contains, filter}
use Rattle.node_constraint.specs.Constraint.{Constraint}
use Rattle.tally.specs.declared.Bound.TheVariants.{Free, Upto}
use Rattle.lists.proofs.Members.{in_rest, in_one, is_first}
use Rattle.schema_documents.specs.declared.label.Label.{Label}
use Rattle.schema_load.specs.declared.part.Part.{Part}
use Rattle.schema_load.specs.declared.part.Part.TheVariants as Parts
use Rattle.schema_load.specs.declared.part.TripleForm.{TripleForm}
use Rattle.schema_load.specs.declared.part.TripleForm.TheVariants.{Arc, Each, Include, One}
use Rattle.schema_load.specs.declared.part.TriplePart.{TriplePart}
use Rattle.schema_load.specs.Graph.{HasDepth, IsAsDeepAs, LeadsTo, Reaches, alone, at_once, below, through, weight}
use Rattle.schema_load.specs.Parts.{IsAt, IsDeclared, IsNamed, is_shape}
use Rattle.schema_load.specs.Requirements.{HasOccurrences, HasOne, HaveOccurrences, IsCircle, IsCrowded, IsDeep, IsIncludeCircle, IsMissing, IsTwice, MeetsRequirements, NoneIs, of_arc, of_each, of_include, of_more, of_none, of_one}
use Rattle.schema_load.proofs.One.{one_at}

-- the depths of the parts
abbrev pub item_depths : List ℕ
item_depths = 1 ∷ 1 ∷ 2 ∷ 1 ∷ 1 ∷ 1 ∷ 1 ∷ []

-- the label that a part gives to a triple expression, and whether it includes one
abbrev label_in : Part → Option Label
label_in (Parts.Triple t) = t.label
label_in _ = None

abbrev includes : TripleForm → Bool
includes (Include l) = true
includes _ = false

abbrev is_inclusion : Part → Bool
is_inclusion (Parts.Triple t) = includes t.form
is_inclusion _ = false

abbrev declares : Part → Bool
declares (Parts.Declares l) = true
declares _ = false

-- the members of a triple expression, and how many occurrences they have
abbrev members_of : TripleForm → List ℕ
members_of (Each ps) = ps
members_of (One ps) = ps
members_of (Arc a) = []
members_of (Include l) = []

abbrev members : Part → List ℕ
members (Parts.Triple t) = members_of t.form
members _ = []

abbrev most : List ℕ → ℕ
most [] = 0
most (p ∷ ps) = get_or item_depths p 0 + most ps

module _ (item : Label) (next tag : List ℕ) (tags : Constraint) where
  abbrev pub shape_part : Part
  shape_part = Parts.Shape (record { closed = false; extra = []; body = Some 2 })

  abbrev pub body_part : Part
  body_part = Parts.Triple (record { label = None; min = 1; max = Upto 1; form = Each (3 ∷ 5 ∷ []) })

  abbrev pub next_part : Part
  next_part = Parts.Triple (record { label = None; min = 0; max = Free; form = Arc (record { inverse = false; predicate = next; value = Some 4 }) })

  abbrev pub tag_part : Part
  tag_part = Parts.Triple (record { label = None; min = 1; max = Upto 1; form = Arc (record { inverse = false; predicate = tag; value = Some 6 }) })

  abbrev pub item_parts : List Part
  item_parts = Parts.Declares item ∷ shape_part ∷ body_part ∷ next_part ∷ Parts.Ref item ∷ tag_part ∷ Parts.Node tags ∷ []

  -- what holds of each part at its place
  pub each_part :
      (P : ℕ → Part → Type 0) → P 0 (Parts.Declares item) → P 1 shape_part → P 2 body_part → P 3 next_part → P 4 (Parts.Ref item) → P 5 tag_part → P 6 (Parts.Node tags) →
      (p : ℕ) (x : Part) → IsAt item_parts p x → P p x
  each_part P a b c d e f g zero x at = subst (P 0) (one_at item_parts 0 (Parts.Declares item) x refl at) a
  each_part P a b c d e f g (suc zero) x at = subst (P 1) (one_at item_parts 1 shape_part x refl at) b
  each_part P a b c d e f g (suc (suc zero)) x at = subst (P 2) (one_at item_parts 2 body_part x refl at) c
  each_part P a b c d e f g (suc (suc (suc zero))) x at = subst (P 3) (one_at item_parts 3 next_part x refl at) d
  each_part P a b c d e f g (suc (suc (suc (suc zero)))) x at = subst (P 4) (one_at item_parts 4 (Parts.Ref item) x refl at) e
  each_part P a b c d e f g (suc (suc (suc (suc (suc zero))))) x at = subst (P 5) (one_at item_parts 5 tag_part x refl at) f
  each_part P a b c d e f g (suc (suc (suc (suc (suc (suc zero)))))) x at = subst (P 6) (one_at item_parts 6 (Parts.Node tags) x refl at) g
  each_part P a b c d e f g (suc (suc (suc (suc (suc (suc (suc p))))))) x at = absurd (let bad : ⊥ = cc in bad)

  -- ---- what stands where

  no_label : (p : ℕ) (x : Part) → IsAt item_parts p x → label_in x ≡ None
  no_label p x at = each_part (λ q y. label_in y ≡ None) refl refl refl refl refl refl refl p x at

  no_inclusion : (p : ℕ) (x : Part) → IsAt item_parts p x → is_inclusion x ≡ false
  no_inclusion p x at = each_part (λ q y. is_inclusion y ≡ false) refl refl refl refl refl refl refl p x at

  abbrev IsHeadFirst : ℕ → Part → Type 0
  IsHeadFirst p x = declares x ≡ true → p ≡ 0

  declared_first : (p : ℕ) (l : Label) → IsAt item_parts p (Parts.Declares l) → p ≡ 0
  declared_first p l at = each_part IsHeadFirst (λ e. refl) (λ e. absurd (no e)) (λ e. absurd (no e)) (λ e. absurd (no e)) (λ e. absurd (no e))
      (λ e. absurd (no e)) (λ e. absurd (no e)) p (Parts.Declares l) at refl
    where
      no : false ≡ true → ⊥
      no e = cc

  abbrev IsReference : ℕ → Part → Type 0
  IsReference p x = (l : Label) → x ≡ Parts.Ref l → (p ≡ 4) × (l ≡ item)

  pub referred_there : (p : ℕ) (l : Label) → IsAt item_parts p (Parts.Ref l) → (p ≡ 4) × (l ≡ item)
  referred_there p l at = each_part IsReference
      (λ m e. absurd (let bad : ⊥ = cc in bad)) (λ m e. absurd (let bad : ⊥ = cc in bad)) (λ m e. absurd (let bad : ⊥ = cc in bad)) (λ m e. absurd (let bad : ⊥ = cc in bad))
      (λ m e. (refl, (let same : m ≡ item = cc in same)))
      (λ m e. absurd (let bad : ⊥ = cc in bad)) (λ m e. absurd (let bad : ⊥ = cc in bad)) p (Parts.Ref l) at l refl

  unnamed : (p : ℕ) (l : Label) → IsNamed item_parts l p → ⊥
  unnamed p l (t, at, e) = let n : t.label ≡ None = no_label p (Parts.Triple t) at in let both : Some l ≡ None = sym e ∙ n in cc

  once : NoneIs (HasOne (IsTwice item_parts))
  once p (l, inl d) = d.apart (declared_first p l d.here ∙ sym (declared_first d.other l d.there))
  once p (l, inr d) = unnamed p l d.here

  pub target : IsDeclared item_parts item 1
  target = (0, refl, refl)

  not_included : (p : ℕ) (t : TriplePart) (l : Label) → IsAt item_parts p (Parts.Triple t) → t.form ≡ Include l → ⊥
  not_included p t l at e =
      let n : includes t.form ≡ false = no_inclusion p (Parts.Triple t) at in
      let y : includes t.form ≡ true = ap includes e in
      let both : true ≡ false = sym y ∙ n in cc

  there : NoneIs (HasOne (IsMissing item_parts))
  there p (l, inl (at, none)) = none 1 (subst (λ m. IsDeclared item_parts m 1) (sym ((referred_there p l at).1)) target)
  there p (l, inr ((t, at, e), none)) = not_included p t l at e

  -- ---- depths

  leads_one : (q : ℕ) → IsDeclared item_parts item q → q ≡ 1
  leads_one q (d, at, e) = let z : d ≡ 0 = declared_first d item at in omega (arith, z, e)

  abbrev IsBelow : ℕ → Part → Type 0
  IsBelow p x = (weight x ≤ get_or item_depths p 0) × ((q : ℕ) → LeadsTo item_parts x q → weight x + get_or item_depths q 0 ≤ get_or item_depths p 0)

  body_below : (q : ℕ) → Contains (3 ∷ 5 ∷ []) q → 1 + get_or item_depths q 0 ≤ 2
  body_below q c = elim (in_rest 3 (5 ∷ []) q c) [
    | inl e ↦ subst (λ z. 1 + get_or item_depths z 0 ≤ 2) e (omega arith)
    | inr h ↦ subst (λ z. 1 + get_or item_depths z 0 ≤ 2) (in_one 5 q h) (omega arith)
  ]

  ref_below : (q : ℕ) → IsDeclared item_parts item q → 0 + get_or item_depths q 0 ≤ 1
  ref_below q d = subst (λ z. 0 + get_or item_depths z 0 ≤ 1) (sym (leads_one q d)) (omega arith)

  are_below : (p : ℕ) (x : Part) → IsAt item_parts p x → IsBelow p x
  are_below p x at = each_part IsBelow
      (omega arith, λ q h. absurd h) (omega arith, λ q h. absurd h) (omega arith, body_below) (omega arith, λ q h. absurd h) (omega arith, ref_below)
      (omega arith, λ q h. absurd h) (omega arith, λ q h. absurd h) p x at

  pub no_deeper : (p e : ℕ) → IsAsDeepAs item_parts p e → e ≤ get_or item_depths p 0
  no_deeper p _ (alone {x = x} at) = (are_below p x at).0
  no_deeper p _ (below {q = q} {d = d} {x = x} at leads h) =
      let one = (are_below p x at).1 q leads in
      let two = no_deeper q d h in
      omega (arith, one, two)

  low : (p : ℕ) → get_or item_depths p 0 ≤ 2
  low zero = omega arith
  low (suc zero) = omega arith
  low (suc (suc zero)) = omega arith
  low (suc (suc (suc zero))) = omega arith
  low (suc (suc (suc (suc zero)))) = omega arith
  low (suc (suc (suc (suc (suc zero))))) = omega arith
  low (suc (suc (suc (suc (suc (suc zero)))))) = omega arith
  low (suc (suc (suc (suc (suc (suc (suc p))))))) = omega arith

  not_deep : NoneIs (IsDeep item_parts)
  not_deep p (d, h, high) = let one = no_deeper p d h in let two = low p in omega (arith, one, two, high)

  leaf_deep : (p : ℕ) (x : Part) → IsAt item_parts p x → (n : ℕ) → weight x ≡ n → IsAsDeepAs item_parts p n
  leaf_deep p x at n e = subst (IsAsDeepAs item_parts p) e (alone at)

  deep_at : (p : ℕ) → p < length item_parts → IsAsDeepAs item_parts p (get_or item_depths p 0)
  deep_at zero l = leaf_deep 0 (Parts.Declares item) refl 1 refl
  deep_at (suc zero) l = leaf_deep 1 shape_part refl 1 refl
  deep_at (suc (suc zero)) l = below {q = 3} {d = 1} {x = body_part} refl (is_first 3 (5 ∷ [])) (leaf_deep 3 next_part refl 1 refl)
  deep_at (suc (suc (suc zero))) l = leaf_deep 3 next_part refl 1 refl
  deep_at (suc (suc (suc (suc zero)))) l = below {q = 1} {d = 1} {x = Parts.Ref item} refl target (leaf_deep 1 shape_part refl 1 refl)
  deep_at (suc (suc (suc (suc (suc zero))))) l = leaf_deep 5 tag_part refl 1 refl
  deep_at (suc (suc (suc (suc (suc (suc zero)))))) l = leaf_deep 6 (Parts.Node tags) refl 1 refl
  deep_at (suc (suc (suc (suc (suc (suc (suc p))))))) l = absurd (omega (arith, l))

  pub depth_at : (p : ℕ) → p < length item_parts → HasDepth item_parts p (get_or item_depths p 0)
  depth_at p l = record { so_deep = deep_at p l; no_deeper = no_deeper p }

  -- ---- circles

  abbrev IsStuck : ℕ → Part → Type 0
  IsStuck p x = p ≡ 1 → (q : ℕ) → LeadsTo item_parts x q → ⊥

  apart_one : (p : ℕ) → p ≡ 0 ⊎ 2 ≤ p → p ≡ 1 → ⊥
  apart_one p (inl e) f = omega (arith, e, f)
  apart_one p (inr e) f = omega (arith, e, f)

  stuck : (p : ℕ) (x : Part) → IsAt item_parts p x → IsStuck p x
  stuck p x at = each_part IsStuck
      (λ e q h. h) (λ e q h. h) (λ e q h. apart_one 2 (inr (omega arith)) e) (λ e q h. h) (λ e q h. apart_one 4 (inr (omega arith)) e) (λ e q h. h) (λ e q h. h) p x at

  goes_nowhere : (p q : ℕ) → p ≡ 1 → Reaches item_parts p q → ⊥
  goes_nowhere p q e (at_once {x = x} at leads) = stuck p x at e q leads
  goes_nowhere p q e (through {q = r} {x = x} at leads more) = stuck p x at e r leads

  no_circle : NoneIs (HasOne (IsCircle item_parts))
  no_circle p (l, (at, round)) = goes_nowhere (p + 1) (p + 1) (let z = declared_first p l at in omega (arith, z)) round

  no_include_circle : NoneIs (HasOne (IsIncludeCircle item_parts))
  no_include_circle p (l, (named, round)) = unnamed p l named

  -- ---- limits

  abbrev AreRoomy : ℕ → Part → Type 0
  AreRoomy p x = (1 ≤ get_or item_depths p 0) × (most (members x) ≤ get_or item_depths p 0)

  are_roomy : (p : ℕ) (x : Part) → IsAt item_parts p x → AreRoomy p x
  are_roomy p x at = each_part AreRoomy
      (omega arith, omega arith) (omega arith, omega arith) (omega arith, omega arith) (omega arith, omega arith) (omega arith, omega arith)
      (omega arith, omega arith) (omega arith, omega arith) p x at

  mutual
    has_few : (p n : ℕ) → HasOccurrences item_parts p n → n ≤ get_or item_depths p 0
    has_few p _ (of_arc {t = t} at e) = (are_roomy p (Parts.Triple t) at).0
    has_few p n (of_each {t = t} {ps = ps} at e all) =
        let sum = have_few ps n all in
        let room : most (members_of t.form) ≤ get_or item_depths p 0 = (are_roomy p (Parts.Triple t) at).1 in
        let same : most (members_of t.form) ≡ most ps = ap (λ f. most (members_of f)) e in
        omega (arith, sum, room, same)
    has_few p n (of_one {t = t} {ps = ps} at e all) =
        let sum = have_few ps n all in
        let room : most (members_of t.form) ≤ get_or item_depths p 0 = (are_roomy p (Parts.Triple t) at).1 in
        let same : most (members_of t.form) ≡ most ps = ap (λ f. most (members_of f)) e in
        omega (arith, sum, room, same)
    has_few p n (of_include {t = t} {l = l} at e named h) = absurd (not_included p t l at e)

    have_few : (ps : List ℕ) (n : ℕ) → HaveOccurrences item_parts ps n → n ≤ most ps
    have_few [] _ of_none = omega arith
    have_few (p ∷ ps) _ (of_more {m = a} {n = b} first rest) = let one = has_few p a first in let more = have_few ps b rest in omega (arith, one, more)

  not_crowded : NoneIs (IsCrowded item_parts)
  not_crowded p c =
      let few = has_few c.body c.number c.occurrences in
      let two = low c.body in
      let many = c.many in
      omega (arith, few, two, many)

  few : length (filter is_shape item_parts) ≤ 4096
  few = omega arith

  pub met : MeetsRequirements item_parts
  met = record {
    labels_once = once;
    targets_there = there;
    no_circle = no_circle;
    no_include_circle = no_include_circle;
    not_deep = not_deep;
    not_crowded = not_crowded;
    few_shapes = few;
  }
