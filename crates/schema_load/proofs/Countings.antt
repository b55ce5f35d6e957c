-- The occurrences of triple expressions, one after the other.
use Rattle.std.proofs.Common.{◌≡◌, ℕ, ◌+◌, ◌<◌, ◌≤◌, List, [], ◌∷◌, ◌++◌, refl, sym, ap, subst, arith, length, ◌∙◌, get_or, set, Some, None, Bool, inl, inr, get_or-set_same, get_or-set_other, length-set, replicate}
use Rattle.std.specs.Prelude.{Contains, IsTrue, slice_get, ◌↔◌}
use Rattle.std.proofs.lemmas.Bool.{cases_eq, cases_lt}
use Rattle.std.proofs.lemmas.List.{length-replicate}
use Rattle.std.proofs.lemmas.Option.{slice_get_within}
use Rattle.lists.proofs.Members.{in_one}
use Rattle.schema_load.specs.declared.part.Part.{Part}
use Rattle.schema_load.specs.declared.part.Part.TheVariants as Parts
use Rattle.schema_load.specs.declared.part.ShapePart.{ShapePart}
use Rattle.schema_load.specs.declared.part.TriplePart.{TriplePart}
use Rattle.schema_load.specs.declared.part.TripleForm.{TripleForm}
use Rattle.schema_load.specs.declared.part.TripleForm.TheVariants.{Arc, Each, Include, One}
use Rattle.schema_load.specs.Parts.{IsAt, IsNamed}
use Rattle.schema_load.specs.Requirements.{HasOccurrences, HasOne, HaveOccurrences, IsCrowded, IsTwice, NoneIs, of_arc, of_each, of_include, of_more, of_none, of_one}
use Rattle.schema_load.specs.Steps.{AreCounts, FormHolds, HasAll, HasCount, HaveCount, HoldTriples, IsCapped, IsCountAt, IsFormTarget, IsTripleAt, form_nexts, nexts}
use Rattle.schema_load.proofs.Deeper.{zeros_low}
use Rattle.schema_load.proofs.Firsts.{carried}
use Rattle.schema_load.proofs.Loadable.{index_of}
use Rattle.schema_load.proofs.One.{one_at}
use Rattle.schema_load.proofs.OneSchemaLaw.{one_named}

module _ (parts : List Part) where
  -- ---- one more

  pub have_more : (ps : List ℕ) (q m n : ℕ) → HaveOccurrences parts ps m → HasOccurrences parts q n → HaveOccurrences parts (ps ++ q ∷ []) (m + n)
  have_more [] q _ n of_none h = subst (λ k. HaveOccurrences parts (q ∷ []) k) (let e : n + 0 ≡ 0 + n = omega arith in e) (of_more h of_none)
  have_more (p ∷ ps) q _ n (of_more {m = a} {n = b} first rest) h = subst (λ k. HaveOccurrences parts (p ∷ (ps ++ q ∷ [])) k)
      (let e : a + (b + n) ≡ (a + b) + n = omega arith in e) (of_more first (have_more ps q b n rest h))

  -- ---- a triple expression has one number of occurrences

  abbrev pub FormHas : TripleForm → ℕ → Type 0
  FormHas (Each ps) n = HaveOccurrences parts ps n
  FormHas (One ps) n = HaveOccurrences parts ps n
  FormHas (Arc a) n = n ≡ 1
  FormHas (Include l) n = (q : ℕ) × IsNamed parts l q × HasOccurrences parts q n

  same_form : (p : ℕ) (t u : TriplePart) → IsAt parts p (Parts.Triple t) → IsAt parts p (Parts.Triple u) → t.form ≡ u.form
  same_form p t u a b = let both : Parts.Triple t ≡ Parts.Triple u = one_at parts p (Parts.Triple t) (Parts.Triple u) a b in let one : t ≡ u = cc in ap (λ (z : TriplePart). z.form) one

  pub opened : (p n : ℕ) (t : TriplePart) → IsAt parts p (Parts.Triple t) → HasOccurrences parts p n → FormHas t.form n
  opened p _ t at (of_arc {t = u} {a = a} here e) = subst (λ z. FormHas z 1) (sym (same_form p t u at here ∙ e)) refl
  opened p n t at (of_each {t = u} {ps = ps} here e all) = subst (λ z. FormHas z n) (sym (same_form p t u at here ∙ e)) all
  opened p n t at (of_one {t = u} {ps = ps} here e all) = subst (λ z. FormHas z n) (sym (same_form p t u at here ∙ e)) all
  opened p n t at (of_include {q = q} {t = u} {l = l} here e named h) = subst (λ z. FormHas z n) (sym (same_form p t u at here ∙ e)) (q, named, h)

  pub have_first : (p n : ℕ) (ps : List ℕ) → HaveOccurrences parts (p ∷ ps) n → (a : ℕ) × (b : ℕ) × (n ≡ a + b) × HasOccurrences parts p a × HaveOccurrences parts ps b
  have_first p _ ps (of_more {m = a} {n = b} first rest) = (a, b, refl, first, rest)

  pub have_zero : (n : ℕ) → HaveOccurrences parts [] n → n ≡ 0
  have_zero _ of_none = refl

  module _ (once : NoneIs (HasOne (IsTwice parts))) where
    mutual
      pub one_count : (p m n : ℕ) → HasOccurrences parts p m → HasOccurrences parts p n → m ≡ n
      one_count p _ n (of_arc {t = t} {a = a} at e) other = let f : n ≡ 1 = subst (λ z. FormHas z n) e (opened p n t at other) in sym f
      one_count p m n (of_each {t = t} {ps = ps} at e all) other = one_sum ps m n all (subst (λ z. FormHas z n) e (opened p n t at other))
      one_count p m n (of_one {t = t} {ps = ps} at e all) other = one_sum ps m n all (subst (λ z. FormHas z n) e (opened p n t at other))
      one_count p m n (of_include {q = q} {t = t} {l = l} at e named h) other =
          let (r, there, g) = subst (λ z. FormHas z n) e (opened p n t at other) in
          one_count q m n h (subst (λ z. HasOccurrences parts z n) (one_named parts once l r q there named) g)

      one_sum : (ps : List ℕ) (m n : ℕ) → HaveOccurrences parts ps m → HaveOccurrences parts ps n → m ≡ n
      one_sum [] _ n of_none other = sym (have_zero n other)
      one_sum (p ∷ ps) _ n (of_more {m = a} {n = b} first rest) other =
          let (c, d, e, here, later) = have_first p n ps other in
          let x = one_count p a c first here in
          let y = one_sum ps b d rest later in
          omega arith

  -- ---- the number at a place

  form_count : (p v q : ℕ) (t : TriplePart) (f : TripleForm) → t.form ≡ f → IsAt parts p (Parts.Triple t) → IsFormTarget parts f q → ((a : _) → f ≡ Arc a → ⊥) →
      HaveCount parts (form_nexts q f) v → HasCount parts p v
  form_count p v q t (Each ps) e at target no_arc (n, all, cap) = (n, of_each at e all, cap)
  form_count p v q t (One ps) e at target no_arc (n, all, cap) = (n, of_one at e all, cap)
  form_count p v q t (Arc a) e at target no_arc (n, all, cap) = absurd (no_arc a refl)
  form_count p v q t (Include l) e at target no_arc (n, all, cap) =
      let (a, b, sum, here, later) = have_first q n [] all in
      let zero_more = have_zero b later in
      (n, of_include at e target (subst (λ k. HasOccurrences parts q k) (let s : a ≡ n = omega arith in s) here), cap)

  pub count_of : (p v q : ℕ) (t : TriplePart) → IsAt parts p (Parts.Triple t) → IsFormTarget parts t.form q → ((a : _) → t.form ≡ Arc a → ⊥) →
      HaveCount parts (form_nexts q t.form) v → HasCount parts p v
  count_of p v q t at target no_arc have = form_count p v q t t.form refl at target no_arc have

  pub count_arc : (p : ℕ) (t : TriplePart) (a : _) → IsAt parts p (Parts.Triple t) → t.form ≡ Arc a → HasCount parts p 1
  count_arc p t a at e = (1, of_arc at e, inl (refl, omega arith))

  -- what is next to a triple expression is one
  form_triple : (q r : ℕ) (f : TripleForm) → IsFormTarget parts f q → ((z : ℕ) → FormHolds f z → IsTripleAt parts z) → Contains (form_nexts q f) r → IsTripleAt parts r
  form_triple q r (Each ps) target holds c = holds r c
  form_triple q r (One ps) target holds c = holds r c
  form_triple q r (Arc a) target holds c = absurd (omega (arith, c.1))
  form_triple q r (Include l) (t, at, named) holds c = subst (λ z. IsTripleAt parts z) (in_one q r c) (t, at)

  pub next_triple : HoldTriples parts → (p q r : ℕ) (t : TriplePart) → IsAt parts p (Parts.Triple t) → IsFormTarget parts t.form q → Contains (form_nexts q t.form) r → IsTripleAt parts r
  next_triple triples p q r t at target c = form_triple q r t.form target (λ z h. triples p z (Parts.Triple t) at h) c

  -- the number at a place from those next to it
  pub sum_count : (p q v : ℕ) (t : TriplePart) (x : Part) (ps counts : List ℕ) → IsAt parts p (Parts.Triple t) → IsAt parts p x → ps ≡ nexts q x →
      IsFormTarget parts t.form q → HoldTriples parts → ((a : _) → t.form ≡ Arc a → ⊥) →
      ((r : ℕ) → Contains (nexts q (Parts.Triple t)) r → IsCountAt parts r (get_or counts r 0)) →
      (((r : ℕ) → Contains ps r → HasCount parts r (get_or counts r 0)) → HaveCount parts ps v) → HasCount parts p v
  sum_count p q v t x ps counts at again e target triples no_arc each sum =
      let same : ps ≡ form_nexts q t.form = e ∙ ap (nexts q) (one_at parts p x (Parts.Triple t) again at) in
      count_of p v q t at target no_arc
      (subst (λ us. HaveCount parts us v) same (sum (λ r c. (
      let held : Contains (form_nexts q t.form) r = subst (λ us. Contains us r) same c in
      each r held (next_triple triples p q r t at target held)
      ))))

  -- no triple expression stands where another part does
  pub no_triple : (p v : ℕ) (x : Part) → IsAt parts p x → ((t : TriplePart) → x ≡ Parts.Triple t → ⊥) → IsCountAt parts p v
  no_triple p v x at other (t, here) = absurd (other t (one_at parts p x (Parts.Triple t) at here))

  -- ---- counts so far

  pub record AreCounted (order counts : List ℕ) (i : ℕ) : Type 0 where
    pub size : length counts ≡ length parts
    pub count : (j p : ℕ) → j < i → slice_get order j ≡ Some p → IsCountAt parts p (get_or counts p 0)
    pub low : (q : ℕ) → get_or counts q 0 ≤ 257

  pub counted_none : (order counts : List ℕ) → counts ≡ replicate (length parts) (let z : ℕ = 0 in z) → AreCounted order counts 0
  counted_none order counts e = record {
    size = ap length e ∙ length-replicate (length parts) (let z : ℕ = 0 in z);
    count = λ j p lt at. absurd (omega arith);
    low = λ q. subst (λ ds. get_or ds q 0 ≤ 257) (sym e) (let h = zeros_low (length parts) q in omega arith);
  }

  pub counted_more : (order counts : List ℕ) (i p v : ℕ) → p < length parts → slice_get order i ≡ Some p → AreCounted order counts i → v ≤ 257 →
      IsCountAt parts p v → AreCounted order (set counts p v) (i + 1)
  counted_more order counts i p v within here d small mine = record { size = length-set counts p v ∙ d.size; count = count; low = low }
    where
      inside : p < length counts
      inside = let s = d.size in omega arith

      value : (q : ℕ) → q ≡ p → get_or (set counts p v) q 0 ≡ v
      value q same = subst (λ z. get_or (set counts p v) z 0 ≡ v) (sym same) (get_or-set_same counts p v 0 inside)

      count : (j q : ℕ) → j < i + 1 → slice_get order j ≡ Some q → IsCountAt parts q (get_or (set counts p v) q 0)
      count j q lt there = elim (cases_eq q p) [
        | inl same ↦ subst (λ z. IsCountAt parts q z) (sym (value q same)) (subst (λ z. IsCountAt parts z v) (sym same) mine)
        | inr apart ↦ (
            let before : j < i = elim (cases_eq j i) [
              | inl one ↦ absurd (apart (let both : Some q ≡ Some p = sym there ∙ (ap (slice_get order) one ∙ here) in cc))
              | inr other ↦ omega (arith, other)
            ] in
            subst (λ z. IsCountAt parts q z) (sym (get_or-set_other counts p q v 0 apart)) (d.count j q before there)
            )
      ]

      low : (q : ℕ) → get_or (set counts p v) q 0 ≤ 257
      low q = elim (cases_eq q p) [
        | inl same ↦ (let e = value q same in omega arith)
        | inr apart ↦ (let e = get_or-set_other counts p q v 0 apart in let l = d.low q in omega arith)
      ]

  pub counted_all : (order counts : List ℕ) (i : ℕ) → HasAll parts order → length order ≤ i → AreCounted order counts i → AreCounts parts counts
  counted_all order counts i all le d = record {
    size = d.size;
    each = λ p there. (
        let (j, e) = index_of order p (all p (slice_get_within parts p (Parts.Triple there.0) there.1)) in
        d.count j p (let w = slice_get_within order j p e in omega arith) e there
        );
  }

  -- ---- too many

  pub crowded_so : (p q v : ℕ) (s : ShapePart) → IsAt parts p (Parts.Shape s) → s.body ≡ Some q → HasCount parts q v → 256 < v → IsCrowded parts p
  crowded_so p q v s at e (n, has, cap) lt = record {
    head = s;
    here = at;
    body = q;
    has_body = e;
    number = n;
    occurrences = has;
    many = elim cap [
      | inl (same, small) ↦ omega arith
      | inr (top, many) ↦ many
    ];
  }

  pub crowded_not : NoneIs (HasOne (IsTwice parts)) → (p q v : ℕ) (s : ShapePart) → IsAt parts p (Parts.Shape s) → s.body ≡ Some q → HasCount parts q v → v ≤ 256 → ¬ IsCrowded parts p
  crowded_not once p q v s at e (n, has, cap) le bad =
      let both : Parts.Shape s ≡ Parts.Shape bad.head = one_at parts p (Parts.Shape s) (Parts.Shape bad.head) at bad.here in
      let one : s ≡ bad.head = cc in
      let bodies : Some q ≡ Some bad.body = sym e ∙ (ap (λ (z : ShapePart). z.body) one ∙ bad.has_body) in
      let body : bad.body ≡ q = cc in
      let number = one_count once q n bad.number has (subst (λ z. HasOccurrences parts z bad.number) body bad.occurrences) in
      let many = bad.many in
      elim cap [
        | inl (same, small) ↦ absurd (omega arith)
        | inr (top, more) ↦ absurd (omega arith)
      ]

  pub crowded_test : NoneIs (HasOne (IsTwice parts)) → (p q v : ℕ) (s : ShapePart) (b : Bool) → IsAt parts p (Parts.Shape s) → s.body ≡ Some q →
      HasCount parts q v → IsTrue b ↔ (256 < v) → IsTrue b ↔ IsCrowded parts p
  crowded_test once p q v s b at e has answer = carried b answer (λ lt. crowded_so p q v s at e has lt) (λ bad. elim (cases_lt 256 v) [
    | inl lt ↦ lt
    | inr le ↦ absurd (crowded_not once p q v s at e has (omega arith) bad)
  ])

  pub crowded_none : (p : ℕ) (s : ShapePart) → IsAt parts p (Parts.Shape s) → s.body ≡ None → ¬ IsCrowded parts p
  crowded_none p s at e bad =
      let both : Parts.Shape s ≡ Parts.Shape bad.head = one_at parts p (Parts.Shape s) (Parts.Shape bad.head) at bad.here in
      let one : s ≡ bad.head = cc in
      let bodies : None ≡ Some bad.body = sym e ∙ (ap (λ (z : ShapePart). z.body) one ∙ bad.has_body) in
      let no_way : ⊥ = cc in
      no_way

  pub crowded_other : (p : ℕ) (x : Part) → IsAt parts p x → ((s : ShapePart) → x ≡ Parts.Shape s → ⊥) → ¬ IsCrowded parts p
  crowded_other p x at other bad = other bad.head (one_at parts p x (Parts.Shape bad.head) at bad.here)

  pub crowded_within : (p : ℕ) → IsCrowded parts p → p < length parts
  crowded_within p c = slice_get_within parts p (Parts.Shape c.head) c.here

pub capped_top : (m n a b : ℕ) → IsCapped m a → IsCapped n b → 257 ≤ a + b → IsCapped (m + n) 257
capped_top m n a b (inl (e, le)) (inl (f, lf)) lt = inr (refl, omega arith)
capped_top m n a b (inl (e, le)) (inr (f, lf)) lt = inr (refl, omega arith)
capped_top m n a b (inr (e, le)) (inl (f, lf)) lt = inr (refl, omega arith)
capped_top m n a b (inr (e, le)) (inr (f, lf)) lt = inr (refl, omega arith)

pub have_count_none : (parts : List Part) → HaveCount parts [] 0
have_count_none parts = (0, of_none, inl (refl, omega arith))

pub have_count_more : (parts : List Part) (ps : List ℕ) (q a b v : ℕ) → HaveCount parts ps a → HasCount parts q b →
    ((m n : ℕ) → IsCapped m a → IsCapped n b → IsCapped (m + n) v) → HaveCount parts (ps ++ q ∷ []) v
have_count_more parts ps q a b v (m, all, x) (n, one, y) sum = (m + n, have_more parts ps q m n all one, sum m n x y)
