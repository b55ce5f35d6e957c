-- The places of a triple by its form are those of its class.
use Rattle.std.proofs.Common.{◌≡◌, ℕ, zero, suc, ◌+◌, ◌≤◌, inl, inr, length, List, [], ◌∷◌, ◌++◌, filter, not, refl, arith, ap, sym, subst, ◌∙◌, Bool, true, false, true≢false, cond}
use Rattle.std.proofs.lemmas.Bool.{eqb-true}
use Rattle.std.proofs.Common.{eq-eqb}
use Rattle.std.proofs.lemmas.List.{length-append}
use Rattle.std.proofs.lemmas.List.Sums.{length-filter}
use Rattle.std.proofs.lemmas.List.Elements.{Contains-append_left, Contains-append_right}
use Rattle.std.specs.Prelude.{Contains, Option, Some, None, slice_get, count_by, nat_eq, ◌&&◌, ◌||◌}
use Rattle.std.specs.Bool.{beq}
use Rattle.std.specs.List.{list_any}
use Rattle.rdf_terms.specs.declared.terms.TermId.{TermId}
use Rattle.rdf_terms.specs.declared.terms.Triple.{Triple}
use Rattle.rdf_terms.specs.Graphs.{is_loop, same_id}
use Rattle.schema_tree.specs.declared.schema.ExprId.{ExprId}
use Rattle.schema_tree.specs.declared.schema.Occurrence.{Occurrence}
use Rattle.schema_tree.specs.declared.schema.Shape.{Shape}
use Rattle.schema_tree.specs.declared.verdicts.Place.{Place}
use Rattle.schema_tree.specs.declared.verdicts.Place.TheVariants.{At, Rest}
use Rattle.schema_tree.specs.Matches.{fits, near_end}
use Rattle.schema_tree.specs.Places.{IsAllowed, MayStay, MayStayOut, MayTake}
use Rattle.schema_tree.specs.Relevant.{is_forward}
use Rattle.schema_tree.specs.Width.{is_open, places_for, same_class}
use Rattle.lists.proofs.Members.{in_rest, is_first, is_later, not_in_none}

-- the places of the occurrences that fit, the first of them having this number
abbrev pub fitting_from : TermId → Triple → ℕ → List Occurrence → List Place
fitting_from n t i [] = []
fitting_from n t i (o ∷ os) = cond (fits o n t) (At i ∷ fitting_from n t (suc i) os) (fitting_from n t (suc i) os)

-- the places that the triple has by its form
abbrev pub form_places : Shape → TermId → Triple → List Place
form_places sh n t = fitting_from n t 0 sh.occs ++ cond (is_open sh n t) (Rest ∷ []) []

fitting_long : (n : TermId) (t : Triple) (i : ℕ) (os : List Occurrence) → length (fitting_from n t i os) ≡ length (filter (λ o. fits o n t) os)
fitting_long n t i [] = refl
fitting_long n t i (o ∷ os) = go (fits o n t) (fitting_long n t (suc i) os)
  where
    go : (b : Bool) → length (fitting_from n t (suc i) os) ≡ length (filter (λ z. fits z n t) os) →
        length (cond b (At i ∷ fitting_from n t (suc i) os) (fitting_from n t (suc i) os)) ≡ length (cond b (o ∷ filter (λ z. fits z n t) os) (filter (λ z. fits z n t) os))
    go true e = ap suc e
    go false e = e

-- they are as many as are counted
pub form_many : (sh : Shape) (n : TermId) (t : Triple) → length (form_places sh n t) ≡ places_for sh n t
form_many sh n t =
    length-append (fitting_from n t 0 sh.occs) (cond (is_open sh n t) (Rest ∷ []) [])
    ∙ ap (λ k. k + length (cond (is_open sh n t) (Rest ∷ []) [])) (fitting_long n t 0 sh.occs ∙ length-filter (λ o. fits o n t) sh.occs)
    ∙ ap (λ k. count_by (λ o. fits o n t) sh.occs + k) (rest (is_open sh n t))
  where
    rest : (b : Bool) → length (cond b (Rest ∷ []) []) ≡ cond b 1 0
    rest true = refl
    rest false = refl

fitting_has : (n : TermId) (t : Triple) (i j : ℕ) (os : List Occurrence) (o : Occurrence) → slice_get os j ≡ Some o → fits o n t ≡ true → Contains (fitting_from n t i os) (At (i + j))
fitting_has n t i j [] o at fit = absurd (let bad : ⊥ = cc in bad)
fitting_has n t i zero (x ∷ os) o at fit =
    let same : x ≡ o = cc in
    let passes : fits x n t ≡ true = ap (λ z. fits z n t) same ∙ fit in
    subst (λ b. Contains (cond b (At i ∷ fitting_from n t (suc i) os) (fitting_from n t (suc i) os)) (At (i + 0))) (sym passes)
    (subst (λ k. Contains (At i ∷ fitting_from n t (suc i) os) (At k)) (let e : i ≡ i + 0 = omega arith in e) (is_first (At i) (fitting_from n t (suc i) os)))
fitting_has n t i (suc j) (x ∷ os) o at fit = go (fits x n t) (fitting_has n t (suc i) j os o at fit)
  where
    go : (b : Bool) → Contains (fitting_from n t (suc i) os) (At (suc i + j)) → Contains (cond b (At i ∷ fitting_from n t (suc i) os) (fitting_from n t (suc i) os)) (At (i + suc j))
    go true c = subst (λ k. Contains (At i ∷ fitting_from n t (suc i) os) (At k)) (let e : suc i + j ≡ i + suc j = omega arith in e) (is_later (At i) (fitting_from n t (suc i) os) (At (suc i + j)) c)
    go false c = subst (λ k. Contains (fitting_from n t (suc i) os) (At k)) (let e : suc i + j ≡ i + suc j = omega arith in e) c

-- a triple of the neighbourhood
abbrev pub IsNear : TermId → Triple → Type 0
IsNear n t = (same_id t.s n || same_id t.o n) ≡ true

pub both_true : (a b : Bool) → (a && b) ≡ true → (a ≡ true) × (b ≡ true)
both_true true true e = (refl, refl)
both_true true false e = absurd (true≢false (sym e))
both_true false b e = absurd (true≢false (sym e))

pub beq_true : (a b : Bool) → beq a b ≡ true → a ≡ b
beq_true true true e = refl
beq_true true false e = absurd (true≢false (sym e))
beq_true false true e = absurd (true≢false (sym e))
beq_true false false e = refl

-- a predicate that is one of these is found among them
pub in_extra : (t : Triple) (xs : List TermId) → Contains xs t.p → list_any (λ p. same_id p t.p) xs ≡ true
in_extra t [] c = absurd (not_in_none t.p c)
in_extra t (x ∷ xs) c = elim (in_rest x xs t.p c) [
  | inl e ↦ first_true (same_id x t.p) (list_any (λ p. same_id p t.p) xs) (ap (λ z. same_id z t.p) e ∙ eq-eqb t.p.0 t.p.0 refl)
  | inr later ↦ later_true (same_id x t.p) (list_any (λ p. same_id p t.p) xs) (in_extra t xs later)
]
  where
    first_true : (a b : Bool) → a ≡ true → (a || b) ≡ true
    first_true a b e = ap (λ z. z || b) e

    later_true : (a b : Bool) → b ≡ true → (a || b) ≡ true
    later_true true b e = refl
    later_true false b e = e

-- no loop has just one of its ends at the node
pub not_loop : (t : Triple) (n : TermId) → same_id t.s n ≡ false → same_id t.o n ≡ true → is_loop t ≡ true → ⊥
not_loop t n e f g = true≢false (sym (eq-eqb t.s.0 n.0 (eqb-true t.s.0 t.o.0 g ∙ eqb-true t.o.0 n.0 f)) ∙ e)

nat_eq_turn : (a b : ℕ) → nat_eq a b ≡ nat_eq b a
nat_eq_turn a b = go (nat_eq a b) refl (nat_eq b a) refl
  where
    go : (x : Bool) → nat_eq a b ≡ x → (y : Bool) → nat_eq b a ≡ y → nat_eq a b ≡ nat_eq b a
    go true e true f = e ∙ sym f
    go true e false f = absurd (true≢false (sym (eq-eqb b a (sym (eqb-true a b e))) ∙ f))
    go false e true f = absurd (true≢false (sym (eq-eqb a b (sym (eqb-true b a f))) ∙ e))
    go false e false f = e ∙ sym f

-- at a triple of the neighbourhood, whether its object is the node is told by whether its subject is, and whether it is a loop
pub end_is : (n : TermId) (t : Triple) → IsNear n t → same_id t.o n ≡ cond (same_id t.s n) (is_loop t) true
end_is n t near = go (same_id t.s n) refl near
  where
    go : (b : Bool) → same_id t.s n ≡ b → (b || same_id t.o n) ≡ true → same_id t.o n ≡ cond b (is_loop t) true
    go true e h = ap (λ k. nat_eq t.o.0 k) (sym (eqb-true t.s.0 n.0 e)) ∙ nat_eq_turn t.o.0 t.s.0
    go false e h = h

module _ (sh : Shape) (n : TermId) (r u : Triple) (near : IsNear n r) (near' : IsNear n u) (same : same_class n r u ≡ true) where
  pub parts : (same_id r.p u.p ≡ true) × (is_loop r ≡ is_loop u) × (same_id r.s n ≡ same_id u.s n)
  parts =
      let (ab, c) = both_true (same_id r.p u.p && beq (is_loop r) (is_loop u)) (beq (same_id r.s n) (same_id u.s n)) same in
      let (a, b) = both_true (same_id r.p u.p) (beq (is_loop r) (is_loop u)) ab in
      (a, beq_true (is_loop r) (is_loop u) b, beq_true (same_id r.s n) (same_id u.s n) c)

  pub same_p : r.p ≡ u.p
  same_p = ap (λ k. record { 0 = k }) (eqb-true r.p.0 u.p.0 parts.0)

  same_o : same_id r.o n ≡ same_id u.o n
  same_o = end_is n r near ∙ (λ i. cond (parts.2 i) (parts.1 i) true) ∙ sym (end_is n u near')

  pub same_fits : (o : Occurrence) → fits o n r ≡ fits o n u
  same_fits o = go o.inverse
    where
      go : (b : Bool) → (same_id o.predicate r.p && same_id (near_end b r) n) ≡ (same_id o.predicate u.p && same_id (near_end b u) n)
      go true = λ i. same_id o.predicate (same_p i) && same_o i
      go false = λ i. same_id o.predicate (same_p i) && parts.2 i

  same_fitting : (i : ℕ) (os : List Occurrence) → fitting_from n r i os ≡ fitting_from n u i os
  same_fitting i [] = refl
  same_fitting i (o ∷ os) = λ k. cond (same_fits o k) (At i ∷ same_fitting (suc i) os k) (same_fitting (suc i) os k)

  same_forward : list_any (is_forward n r) sh.occs ≡ list_any (is_forward n u) sh.occs
  same_forward = λ k. list_any (λ o. not o.inverse && same_fits o k) sh.occs

  pub same_open : is_open sh n r ≡ is_open sh n u
  same_open = λ k. (same_o k && not (parts.1 k)) || (parts.2 k && (list_any (λ p. same_id p (same_p k)) sh.extra || not (same_forward k)))

  -- triples of one class have the same places
  pub form_same : form_places sh n r ≡ form_places sh n u
  form_same = λ k. same_fitting 0 sh.occs k ++ cond (same_open k) (Rest ∷ []) []

module _ (hold fail : TermId → Option ExprId → Type 0) (sh : Shape) (n : TermId) (t : Triple) (near : IsNear n t) where
  -- a place that is allowed is one of those by form
  pub allowed_form : (p : Place) → IsAllowed hold fail sh n t p → Contains (form_places sh n t) p
  allowed_form (At i) h = go (slice_get sh.occs i) refl h
    where
      go : (x : Option Occurrence) → slice_get sh.occs i ≡ x → MayTake hold fail sh n t x → Contains (form_places sh n t) (At i)
      go None e take = absurd take
      go (Some o) e take =
          Contains-append_left (fitting_from n t 0 sh.occs) (cond (is_open sh n t) (Rest ∷ []) []) (At i)
          (subst (λ k. Contains (fitting_from n t 0 sh.occs) (At k)) (let z : 0 + i ≡ i = omega arith in z) (fitting_has n t 0 i sh.occs o e take.0))
  allowed_form Rest h =
      Contains-append_right (fitting_from n t 0 sh.occs) (cond (is_open sh n t) (Rest ∷ []) []) Rest
      (subst (λ b. Contains (cond b (Rest ∷ []) []) Rest) (sym opened) (is_first Rest []))
    where
      out : (f : Bool) → MayStayOut hold fail sh n t f → (list_any (λ p. same_id p t.p) sh.extra || not f) ≡ true
      out true h' = ap (λ z. z || false) (in_extra t sh.extra h'.0)
      out false h' = whole (list_any (λ p. same_id p t.p) sh.extra)
        where
          whole : (b : Bool) → (b || true) ≡ true
          whole true = refl
          whole false = refl

      go : (a : Bool) → same_id t.s n ≡ a → (o : Bool) → same_id t.o n ≡ o → (l : Bool) → is_loop t ≡ l → MayStay hold fail sh n t a → (a || o) ≡ true → o ≡ cond a l true →
          ((o && not l) || (a && (list_any (λ p. same_id p t.p) sh.extra || not (list_any (is_forward n t) sh.occs)))) ≡ true
      go true e o f l g stay h' tells = last (o && not l) (list_any (λ p. same_id p t.p) sh.extra || not (list_any (is_forward n t) sh.occs)) (out (list_any (is_forward n t) sh.occs) stay)
        where
          last : (a b : Bool) → b ≡ true → (a || b) ≡ true
          last true b z = refl
          last false b z = z
      go false e true f false g stay h' tells = refl
      go false e true f true g stay h' tells =
          absurd (not_loop t n e f g)
      go false e false f l g stay h' tells = absurd (true≢false (sym h'))

      opened : is_open sh n t ≡ true
      opened = go (same_id t.s n) refl (same_id t.o n) refl (is_loop t) refl h near (end_is n t near)

fitting_some : (n : TermId) (t : Triple) (i : ℕ) (os : List Occurrence) → list_any (λ o. fits o n t) os ≡ true → 1 ≤ length (fitting_from n t i os)
fitting_some n t i [] e = absurd (true≢false (sym e))
fitting_some n t i (o ∷ os) e = go (fits o n t) (λ h. fitting_some n t (suc i) os h) e
  where
    go : (b : Bool) → (list_any (λ z. fits z n t) os ≡ true → 1 ≤ length (fitting_from n t (suc i) os)) → (b || list_any (λ z. fits z n t) os) ≡ true →
        1 ≤ length (cond b (At i ∷ fitting_from n t (suc i) os) (fitting_from n t (suc i) os))
    go true deeper h = omega arith
    go false deeper h = deeper h

-- a relevant triple has a place
pub form_some : (sh : Shape) (n : TermId) (t : Triple) → list_any (λ o. fits o n t) sh.occs ≡ true → 1 ≤ length (form_places sh n t)
form_some sh n t e =
    let a = fitting_some n t 0 sh.occs e in
    let b = length-append (fitting_from n t 0 sh.occs) (cond (is_open sh n t) (Rest ∷ []) []) in
    omega (arith, a, b)
