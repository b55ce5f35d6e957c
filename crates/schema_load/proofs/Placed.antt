-- The last places of labels.
use Rattle.std.proofs.Common.{◌≡◌, ℕ, ◌+◌, ◌<◌, ◌≤◌, List, refl, sym, ap, subst, arith, length, ◌∙◌, Option, Some, None, Bool, true, false, inl, inr, cond, true≢false}
use Rattle.std.specs.Prelude.{IsTrue, ◌↔◌}
use Rattle.std.proofs.lemmas.Bool.{cases_eq, cases_lt}
use Rattle.std.proofs.lemmas.Option.{slice_get_within}
use Rattle.indexmap.specs.IndexMap.{get}
use Rattle.schema_documents.specs.declared.label.Label.{Label}
use Rattle.schema_tree.proofs.SameLabels.{label_decides}
use Rattle.schema_load.specs.declared.given.Names.{Names}
use Rattle.schema_load.specs.declared.part.Part.{Part}
use Rattle.schema_load.specs.declared.part.Part.TheVariants as Parts
use Rattle.schema_load.specs.declared.part.TriplePart.{TriplePart}
use Rattle.schema_load.specs.Given.{AreLast, AreNames, IsAgain, IsElsewhere, IsGivenAgain, Notes, declared_label, named_label, same_label}
use Rattle.schema_load.specs.Parts.{IsAt, IsDeclared, IsNamed}
use Rattle.schema_load.specs.Requirements.{HasOne, IsFirst, IsTwice, NoneIs}
use Rattle.schema_load.proofs.Firsts.{not_so, twice_within}
use Rattle.schema_load.proofs.One.{one_at}

module _ (given : Part → Option Label) (parts : List Part) where
  pub last_none : (last : Label → Option ℕ) → ((l : Label) → last l ≡ None) → AreLast given parts 0 last
  last_none last none = record {
    there = λ l q e. (let both : None ≡ Some q = sym (none l) ∙ e in absurd (let bad : ⊥ = cc in bad));
    all = λ l p x lt at is. absurd (omega arith);
  }

  -- where the next part gives no label
  same_next : (i : ℕ) (x : Part) (old new : Label → Option ℕ) → IsAt parts i x → given x ≡ None → AreLast given parts i old → ((m : Label) → new m ≡ old m) → AreLast given parts (i + 1) new
  same_next i x old new at none before same = record {
    there = λ l q e. (let (y, here, is, lt) = before.there l q (sym (same l) ∙ e) in (y, here, is, omega arith));
    all = λ l p y lt here is. elim (cases_eq p i) [
      | inl one ↦ (
          let part : y ≡ x = one_at parts p y x here (subst (λ n. IsAt parts n x) (sym one) at) in
          let both : Some l ≡ None = sym is ∙ (ap given part ∙ none) in
          absurd (let bad : ⊥ = cc in bad)
          )
      | inr apart ↦ (let (q, e, le) = before.all l p y (omega (arith, apart)) here is in (q, same l ∙ e, le))
    ];
  }

  -- where it gives one
  noted_next : (i : ℕ) (x : Part) (l : Label) (old new : Label → Option ℕ) → IsAt parts i x → given x ≡ Some l → AreLast given parts i old →
      ((m : Label) → new m ≡ cond (same_label l m) (Some i) (old m)) → AreLast given parts (i + 1) new
  noted_next i x l old new at gives before noted = record { there = there; all = all }
    where
      here : (m : Label) → l ≡ m → new m ≡ Some i
      here m e = noted m ∙ ap (λ b. cond b (Some i) (old m)) ((label_decides l m).1 e)

      there : (m : Label) (q : ℕ) → new m ≡ Some q → (y : Part) × IsAt parts q y × (given y ≡ Some m) × (q < i + 1)
      there m q e = go (same_label l m) refl (sym (noted m) ∙ e)
        where
          go : (b : Bool) → same_label l m ≡ b → cond b (Some i) (old m) ≡ Some q → (y : Part) × IsAt parts q y × (given y ≡ Some m) × (q < i + 1)
          go true is f =
              let one : i ≡ q = cc in
              let label : l ≡ m = (label_decides l m).0 is in
              (x, subst (λ n. IsAt parts n x) one at, gives ∙ ap Some label, omega arith)
          go false is f = let (y, at_q, is_m, lt) = before.there m q f in (y, at_q, is_m, omega arith)

      all : (m : Label) (p : ℕ) (y : Part) → p < i + 1 → IsAt parts p y → given y ≡ Some m → (q : ℕ) × (new m ≡ Some q) × (p ≤ q)
      all m p y lt at_p is_m = go (same_label l m) refl
        where
          go : (b : Bool) → same_label l m ≡ b → (q : ℕ) × (new m ≡ Some q) × (p ≤ q)
          go true is = (i, here m ((label_decides l m).0 is), omega arith)
          go false is = elim (cases_eq p i) [
            | inl one ↦ (
                let part : y ≡ x = one_at parts p y x at_p (subst (λ n. IsAt parts n x) (sym one) at) in
                let both : Some m ≡ Some l = sym is_m ∙ (ap given part ∙ gives) in
                let same : l ≡ m = cc in
                absurd (true≢false (sym ((label_decides l m).1 same) ∙ is))
                )
            | inr apart ↦ (let (q, e, le) = before.all m p y (omega (arith, apart)) at_p is_m in (q, noted m ∙ (ap (λ b. cond b (Some i) (old m)) is ∙ e), le))
          ]

  pub last_next : (i : ℕ) (x : Part) (old new : Label → Option ℕ) → IsAt parts i x → AreLast given parts i old → Notes (given x) i old new → AreLast given parts (i + 1) new
  last_next i x old new at before notes = go (given x) refl notes
    where
      go : (g : Option Label) → given x ≡ g → Notes g i old new → AreLast given parts (i + 1) new
      go None is n = same_next i x old new at is before n
      go (Some l) is n = noted_next i x l old new at is before n

  pub last_all : (i : ℕ) (last : Label → Option ℕ) → i ≤ length parts → length parts ≤ i → AreLast given parts i last → AreLast given parts (length parts) last
  last_all i last low le before = subst (λ n. AreLast given parts n last) (let e : i ≡ length parts = omega arith in e) before

  -- a label that is given twice is given again behind the first of two places
  again : (last : Label → Option ℕ) (l : Label) (p q : ℕ) (x y : Part) → AreLast given parts (length parts) last → IsAt parts p x → given x ≡ Some l →
      IsAt parts q y → given y ≡ Some l → p < q → IsElsewhere (last l) p
  again last l p q x y are here gives there too lt =
      let (r, e, le) = are.all l q y (slice_get_within parts q y there) there too in
      subst (λ o. IsElsewhere o p) (sym e) (λ same. omega arith)

  -- where another place is noted, the label is given there
  pub other_place : (last : Label → Option ℕ) (l : Label) (p : ℕ) → AreLast given parts (length parts) last → IsElsewhere (last l) p → (q : ℕ) × (y : Part) ×
      IsAt parts q y × (given y ≡ Some l) × (p ≡ q → ⊥)
  other_place last l p are elsewhere = go (last l) refl elsewhere
    where
      go : (o : Option ℕ) → last l ≡ o → IsElsewhere o p → (q : ℕ) × (y : Part) × IsAt parts q y × (given y ≡ Some l) × (p ≡ q → ⊥)
      go None e h = absurd h
      go (Some q) e h = let (y, at, is, lt) = are.there l q e in (q, y, at, is, λ same. h (sym same))

-- ---- what gives labels

gives_head : (x : Part) (l : Label) → declared_label x ≡ Some l → x ≡ Parts.Declares l
gives_head (Parts.Declares m) l e = let same : m ≡ l = cc in ap Parts.Declares same
gives_head Parts.Start l e = absurd (let bad : ⊥ = cc in bad)
gives_head (Parts.And ps) l e = absurd (let bad : ⊥ = cc in bad)
gives_head (Parts.Or ps) l e = absurd (let bad : ⊥ = cc in bad)
gives_head (Parts.Not q) l e = absurd (let bad : ⊥ = cc in bad)
gives_head (Parts.Node c) l e = absurd (let bad : ⊥ = cc in bad)
gives_head (Parts.Shape s) l e = absurd (let bad : ⊥ = cc in bad)
gives_head (Parts.Ref m) l e = absurd (let bad : ⊥ = cc in bad)
gives_head (Parts.Triple t) l e = absurd (let bad : ⊥ = cc in bad)

gives_name : (parts : List Part) (p : ℕ) (x : Part) (l : Label) → IsAt parts p x → named_label x ≡ Some l → IsNamed parts l p
gives_name parts p (Parts.Triple t) l at e = (t, at, e)
gives_name parts p (Parts.Declares m) l at e = absurd (let bad : ⊥ = cc in bad)
gives_name parts p Parts.Start l at e = absurd (let bad : ⊥ = cc in bad)
gives_name parts p (Parts.And ps) l at e = absurd (let bad : ⊥ = cc in bad)
gives_name parts p (Parts.Or ps) l at e = absurd (let bad : ⊥ = cc in bad)
gives_name parts p (Parts.Not q) l at e = absurd (let bad : ⊥ = cc in bad)
gives_name parts p (Parts.Node c) l at e = absurd (let bad : ⊥ = cc in bad)
gives_name parts p (Parts.Shape s) l at e = absurd (let bad : ⊥ = cc in bad)
gives_name parts p (Parts.Ref m) l at e = absurd (let bad : ⊥ = cc in bad)

module _ (parts : List Part) (names : Names) (are : AreNames parts names) where
  -- ---- labels that are given twice

  pub again_twice : (p : ℕ) (x : Part) → IsAt parts p x → IsGivenAgain names x p → HasOne (IsTwice parts) p
  again_twice p (Parts.Declares l) at h =
      let (q, y, there, is, apart) = other_place declared_label parts (get same_label names.declared) l p are.declared h in
      (l, inl (record { here = at; other = q; there = subst (λ z. IsAt parts q z) (gives_head y l is) there; apart = apart }))
  again_twice p (Parts.Triple t) at h = go t.label refl h
    where
      go : (g : Option Label) → t.label ≡ g → IsAgain (get same_label names.named) g p → HasOne (IsTwice parts) p
      go None e k = absurd k
      go (Some l) e k =
          let (q, y, there, is, apart) = other_place named_label parts (get same_label names.named) l p are.named k in
          (l, inr (record { here = (t, at, e); other = q; there = gives_name parts q y l there is; apart = apart }))
  again_twice p Parts.Start at h = absurd h
  again_twice p (Parts.And ps) at h = absurd h
  again_twice p (Parts.Or ps) at h = absurd h
  again_twice p (Parts.Not q) at h = absurd h
  again_twice p (Parts.Node c) at h = absurd h
  again_twice p (Parts.Shape s) at h = absurd h
  again_twice p (Parts.Ref l) at h = absurd h

  abbrev SomeAgain : ℕ → Type 0
  SomeAgain q = (r : ℕ) × (y : Part) × (r ≤ q) × IsAt parts r y × IsGivenAgain names y r

  head_again : (l : Label) (p q : ℕ) → IsAt parts p (Parts.Declares l) → IsAt parts q (Parts.Declares l) → p < q → IsGivenAgain names (Parts.Declares l) p
  head_again l p q here there lt = again declared_label parts (get same_label names.declared) l p q (Parts.Declares l) (Parts.Declares l) are.declared here refl there refl lt

  name_again : (l : Label) (p q : ℕ) (t u : TriplePart) → IsAt parts p (Parts.Triple t) → t.label ≡ Some l → IsAt parts q (Parts.Triple u) → u.label ≡ Some l →
      p < q → IsGivenAgain names (Parts.Triple t) p
  name_again l p q t u here e there f lt =
      subst (λ g. IsAgain (get same_label names.named) g p) (sym e) (again named_label parts (get same_label names.named) l p q (Parts.Triple t) (Parts.Triple u) are.named here e there f lt)

  pub twice_again : (q : ℕ) → HasOne (IsTwice parts) q → SomeAgain q
  twice_again q (l, inl t) = elim (cases_lt q t.other) [
    | inl lt ↦ (q, Parts.Declares l, (let h : q ≤ q = omega arith in h), t.here, head_again l q t.other t.here t.there lt)
    | inr le ↦ (t.other, Parts.Declares l, le, t.there, head_again l t.other q t.there t.here (let a : q ≡ t.other → ⊥ = t.apart in omega (arith, a)))
  ]
  twice_again q (l, inr t) =
      let (u, here, e) = t.here in
      let (v, there, f) = t.there in
      elim (cases_lt q t.other) [
        | inl lt ↦ (q, Parts.Triple u, (let h : q ≤ q = omega arith in h), here, name_again l q t.other u v here e there f lt)
        | inr le ↦ (t.other, Parts.Triple v, le, there, name_again l t.other q v u there f here e (let a : q ≡ t.other → ⊥ = t.apart in omega (arith, a)))
      ]

  -- ---- targets

  pub declared_there : (l : Label) (d : ℕ) → get same_label names.declared l ≡ Some d → IsAt parts d (Parts.Declares l)
  declared_there l d e = let (y, at, is, lt) = are.declared.there l d e in subst (λ z. IsAt parts d z) (gives_head y l is) at

  pub declared_nowhere : (l : Label) → get same_label names.declared l ≡ None → (q : ℕ) → ¬ IsDeclared parts l q
  declared_nowhere l none q (d, at, e) =
      let (r, is, le) = are.declared.all l d (Parts.Declares l) (slice_get_within parts d (Parts.Declares l) at) at refl in
      let both : None ≡ Some r = sym none ∙ is in
      (let bad : ⊥ = cc in bad)

  pub named_there : (l : Label) (q : ℕ) → get same_label names.named l ≡ Some q → IsNamed parts l q
  named_there l q e = let (y, at, is, lt) = are.named.there l q e in gives_name parts q y l at is

  pub named_nowhere : (l : Label) → get same_label names.named l ≡ None → (q : ℕ) → ¬ IsNamed parts l q
  named_nowhere l none q (t, at, e) =
      let (r, is, le) = are.named.all l q (Parts.Triple t) (slice_get_within parts q (Parts.Triple t) at) at e in
      let both : None ≡ Some r = sym none ∙ is in
      (let bad : ⊥ = cc in bad)

  -- ---- the first of them

  abbrev NoneBefore : ℕ → Type 0
  NoneBefore i = (q : ℕ) → q < i → (x : Part) → IsAt parts q x → ¬ IsGivenAgain names x q

  not_twice : (i : ℕ) → NoneBefore i → (q : ℕ) → q < i → ¬ HasOne (IsTwice parts) q
  not_twice i none q lt twice = let (r, y, le, at, again_at) = twice_again q twice in none r (omega arith) y at again_at

  pub first_twice : (i : ℕ) (x : Part) → IsAt parts i x → IsGivenAgain names x i → NoneBefore i → IsFirst (HasOne (IsTwice parts)) i
  first_twice i x at again_at none = record { here = again_twice i x at again_at; none_before = not_twice i none }

  pub not_again : (i : ℕ) (x : Part) (b : Bool) → IsAt parts i x → IsTrue b ↔ IsGivenAgain names x i → b ≡ false → NoneBefore i → NoneBefore (i + 1)
  not_again i x b at answer off none q lt y there h = elim (cases_eq q i) [
    | inl one ↦ not_so b answer off (subst (λ z. IsGivenAgain names z i) (one_at parts i y x (subst (λ n. IsAt parts n y) one there) at) (subst (λ n. IsGivenAgain names y n) one h))
    | inr apart ↦ none q (omega (arith, apart)) y there h
  ]

  pub no_twice : (i : ℕ) → length parts ≤ i → NoneBefore i → NoneIs (HasOne (IsTwice parts))
  no_twice i le none q twice = not_twice i none q (let w = twice_within parts q twice in omega arith) twice
