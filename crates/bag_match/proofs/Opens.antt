-- The places that are open for a triple, and that those of one class have the same.
use Rattle.std.proofs.Common.{◌≡◌, ℕ, zero, suc, ◌+◌, ◌≤◌, length, List, [], ◌∷◌, ◌++◌, filter, not, max, refl, arith, ap, sym, subst, ◌∙◌, Bool, true, false, true≢false, cond}
use Rattle.std.proofs.lemmas.List.{length-append}
use Rattle.std.proofs.lemmas.List.Sums.{length-filter}
use Rattle.std.proofs.lemmas.List.Elements.{Contains-append_left, Contains-append_right}
use Rattle.std.specs.Prelude.{Contains, Option, Some, None, slice_get, count_by, ◌&&◌, ◌||◌}
use Rattle.std.specs.Bool.{beq}
use Rattle.std.specs.List.{AllByRecursion, list_all, list_any}
use Rattle.rdf_terms.specs.declared.terms.TermId.{TermId}
use Rattle.rdf_terms.specs.declared.terms.Triple.{Triple}
use Rattle.rdf_terms.specs.Graphs.{is_loop, same_id}
use Rattle.schema_tree.specs.declared.schema.ExprId.{ExprId}
use Rattle.schema_tree.specs.declared.schema.Occurrence.{Occurrence}
use Rattle.schema_tree.specs.declared.schema.Shape.{Shape}
use Rattle.schema_tree.specs.declared.verdicts.Place.{Place}
use Rattle.schema_tree.specs.declared.verdicts.Place.TheVariants.{At, Rest}
use Rattle.schema_tree.specs.declared.verdicts.Verdict.{Verdict}
use Rattle.schema_tree.specs.Matches.{other_end}
use Rattle.schema_tree.specs.Places.{IsAllowed, MayStay, MayStayOut, MayTake}
use Rattle.schema_tree.specs.Relevant.{is_forward}
use Rattle.schema_tree.specs.Width.{is_certain, is_open_at, is_open_rest, is_possible, is_taken_by, open_places_for, same_class, same_fine_class}
use Rattle.bag_match.proofs.Classes.{IsNear, beq_true, both_true, end_is, in_extra, not_loop}
use Rattle.lists.proofs.Members.{is_first, is_later}

-- the occurrences that pass, as places, the first of them having this number
abbrev pub passing : (Occurrence → Bool) → ℕ → List Occurrence → List Place
passing test i [] = []
passing test i (o ∷ os) = cond (test o) (At i ∷ passing test (suc i) os) (passing test (suc i) os)

passing_long : (test : Occurrence → Bool) (i : ℕ) (os : List Occurrence) → length (passing test i os) ≡ length (filter test os)
passing_long test i [] = refl
passing_long test i (o ∷ os) = go (test o) (passing_long test (suc i) os)
  where
    go : (b : Bool) → length (passing test (suc i) os) ≡ length (filter test os) →
        length (cond b (At i ∷ passing test (suc i) os) (passing test (suc i) os)) ≡ length (cond b (o ∷ filter test os) (filter test os))
    go true e = ap suc e
    go false e = e

passing_has : (test : Occurrence → Bool) (i j : ℕ) (os : List Occurrence) (o : Occurrence) → slice_get os j ≡ Some o → test o ≡ true → Contains (passing test i os) (At (i + j))
passing_has test i j [] o at passes = absurd (let bad : ⊥ = cc in bad)
passing_has test i zero (x ∷ os) o at passes =
    let same : x ≡ o = cc in
    subst (λ b. Contains (cond b (At i ∷ passing test (suc i) os) (passing test (suc i) os)) (At (i + 0))) (sym (ap test same ∙ passes))
    (subst (λ k. Contains (At i ∷ passing test (suc i) os) (At k)) (let e : i ≡ i + 0 = omega arith in e) (is_first (At i) (passing test (suc i) os)))
passing_has test i (suc j) (x ∷ os) o at passes = go (test x) (passing_has test (suc i) j os o at passes)
  where
    go : (b : Bool) → Contains (passing test (suc i) os) (At (suc i + j)) → Contains (cond b (At i ∷ passing test (suc i) os) (passing test (suc i) os)) (At (i + suc j))
    go true c = subst (λ k. Contains (At i ∷ passing test (suc i) os) (At k)) (let e : suc i + j ≡ i + suc j = omega arith in e) (is_later (At i) (passing test (suc i) os) (At (suc i + j)) c)
    go false c = subst (λ k. Contains (passing test (suc i) os) (At k)) (let e : suc i + j ≡ i + suc j = omega arith in e) c

passing_same : (p q : Occurrence → Bool) (i : ℕ) (os : List Occurrence) → list_all (λ o. beq (p o) (q o)) os ≡ true → passing p i os ≡ passing q i os
passing_same p q i [] e = refl
passing_same p q i (o ∷ os) e =
    let (here, later) = both_true (beq (p o) (q o)) (list_all (λ x. beq (p x) (q x)) os) e in
    (λ k. cond (beq_true (p o) (q o) here k) (At i ∷ passing_same p q (suc i) os later k) (passing_same p q (suc i) os later k))

-- the list, or the remainder alone where it is empty
abbrev pub one_at_least : List Place → List Place
one_at_least [] = Rest ∷ []
one_at_least (p ∷ ps) = p ∷ ps

at_least_long : (ps : List Place) → length (one_at_least ps) ≡ max 1 (length ps)
at_least_long [] = omega arith
at_least_long (p ∷ ps) = omega arith

at_least_some : (ps : List Place) → 1 ≤ length (one_at_least ps)
at_least_some [] = omega arith
at_least_some (p ∷ ps) = omega arith

at_least_has : (ps : List Place) (p : Place) → Contains ps p → Contains (one_at_least ps) p
at_least_has [] p c = absurd (omega (arith, c.1))
at_least_has (q ∷ ps) p c = c

none_all : {X : Type 0} (test : X → Bool) (xs : List X) → AllByRecursion (λ x. test x ≡ false) xs → list_any test xs ≡ false
none_all test [] all = refl
none_all test (x ∷ xs) all = ap (λ b. b || list_any test xs) all.0 ∙ none_all test xs all.1

module _ (plain : TermId → Option ExprId → Verdict) (sh : Shape) (n : TermId) where
  -- the places that are open for a triple
  abbrev pub open_places : Triple → List Place
  open_places t = passing (is_open_at plain n t) 0 sh.occs ++ cond (is_open_rest plain sh n t) (Rest ∷ []) []

  -- and the remainder where none is
  abbrev pub fine_places : Triple → List Place
  fine_places t = one_at_least (open_places t)

  pub fine_many : (t : Triple) → length (fine_places t) ≡ max 1 (open_places_for plain sh n t)
  fine_many t =
      at_least_long (open_places t)
      ∙ ap (λ k. max 1 k) (length-append (passing (is_open_at plain n t) 0 sh.occs) (cond (is_open_rest plain sh n t) (Rest ∷ []) [])
      ∙ ap (λ k. k + length (cond (is_open_rest plain sh n t) (Rest ∷ []) [])) (passing_long (is_open_at plain n t) 0 sh.occs ∙ length-filter (is_open_at plain n t) sh.occs)
      ∙ ap (λ k. count_by (is_open_at plain n t) sh.occs + k) (rest (is_open_rest plain sh n t)))
    where
      rest : (b : Bool) → length (cond b (Rest ∷ []) []) ≡ cond b 1 0
      rest true = refl
      rest false = refl

  pub fine_some : (t : Triple) → 1 ≤ length (fine_places t)
  fine_some t = at_least_some (open_places t)

  pub fine_parts : (a b : Triple) → same_fine_class plain sh n a b ≡ true →
      (same_class n a b ≡ true) × (list_all (λ o. beq (is_open_at plain n a o) (is_open_at plain n b o)) sh.occs ≡ true) × (is_open_rest plain sh n a ≡ is_open_rest plain sh n b)
  fine_parts a b same =
      let (x, yz) = both_true (same_class n a b) (list_all (λ o. beq (is_open_at plain n a o) (is_open_at plain n b o)) sh.occs && beq (is_open_rest plain sh n a) (is_open_rest plain sh n b)) same in
      let (y, z) = both_true (list_all (λ o. beq (is_open_at plain n a o) (is_open_at plain n b o)) sh.occs) (beq (is_open_rest plain sh n a) (is_open_rest plain sh n b)) yz in
      (x, y, beq_true (is_open_rest plain sh n a) (is_open_rest plain sh n b) z)

  -- triples of one class have the same places
  pub fine_same : (a b : Triple) → same_fine_class plain sh n a b ≡ true → fine_places a ≡ fine_places b
  fine_same a b same =
      let (x, y, z) = fine_parts a b same in
      (λ k. one_at_least (passing_same (is_open_at plain n a) (is_open_at plain n b) 0 sh.occs y k ++ cond (z k) (Rest ∷ []) []))

  alike_itself : (test : Occurrence → Bool) (os : List Occurrence) → list_all (λ o. beq (test o) (test o)) os ≡ true
  alike_itself test [] = refl
  alike_itself test (o ∷ os) = go (test o) (alike_itself test os)
    where
      go : (b : Bool) → list_all (λ x. beq (test x) (test x)) os ≡ true → (beq b b && list_all (λ x. beq (test x) (test x)) os) ≡ true
      go true e = e
      go false e = e

  beq_itself : (b : Bool) → beq b b ≡ true
  beq_itself true = refl
  beq_itself false = refl

  all_three : (a b c : Bool) → a ≡ true → b ≡ true → c ≡ true → (a && (b && c)) ≡ true
  all_three a b c x y z = λ i. x i && (y i && z i)

  alike_on : (p q r : Occurrence → Bool) (os : List Occurrence) → list_all (λ o. beq (p o) (q o)) os ≡ true → list_all (λ o. beq (q o) (r o)) os ≡ true →
      list_all (λ o. beq (p o) (r o)) os ≡ true
  alike_on p q r [] h k = refl
  alike_on p q r (o ∷ os) h k =
      let (a, b) = both_true (beq (p o) (q o)) (list_all (λ x. beq (p x) (q x)) os) h in
      let (c, d) = both_true (beq (q o) (r o)) (list_all (λ x. beq (q x) (r x)) os) k in
      (λ i. beq (beq_true (p o) (q o) a i) (r o) && alike_on p q r os b d i) ∙ (λ i. beq (beq_true (q o) (r o) c i) (r o) && true) ∙ (λ i. beq_itself (r o) i && true)

  pub fine_itself : (a : Triple) → same_class n a a ≡ true → same_fine_class plain sh n a a ≡ true
  fine_itself a same =
      all_three (same_class n a a) (list_all (λ o. beq (is_open_at plain n a o) (is_open_at plain n a o)) sh.occs) (beq (is_open_rest plain sh n a) (is_open_rest plain sh n a))
      same (alike_itself (is_open_at plain n a) sh.occs) (beq_itself (is_open_rest plain sh n a))

  pub fine_on : ((a b c : Triple) → same_class n a b ≡ true → same_class n b c ≡ true → same_class n a c ≡ true) →
      (a b c : Triple) → same_fine_class plain sh n a b ≡ true → same_fine_class plain sh n b c ≡ true → same_fine_class plain sh n a c ≡ true
  fine_on on a b c h k =
      let (x, y, z) = fine_parts a b h in
      let (u, v, w) = fine_parts b c k in
      all_three (same_class n a c) (list_all (λ o. beq (is_open_at plain n a o) (is_open_at plain n c o)) sh.occs) (beq (is_open_rest plain sh n a) (is_open_rest plain sh n c))
      (on a b c x u) (alike_on (is_open_at plain n a) (is_open_at plain n b) (is_open_at plain n c) sh.occs y v)
      ((λ i. beq ((z ∙ w) i) (is_open_rest plain sh n c)) ∙ beq_itself (is_open_rest plain sh n c))

  -- what may hold is not No without a look at Shapes, and what may fail is not Yes
  module _ (hold fail : TermId → Option ExprId → Type 0) (holds : (m : TermId) (v : Option ExprId) → hold m v → is_possible (plain m v) ≡ true)
      (fails : (m : TermId) (v : Option ExprId) → fail m v → is_certain (plain m v) ≡ false) (t : Triple) (near : IsNear n t) where
    none_takes : (os : List Occurrence) → AllByRecursion (λ o. fail t.o o.value) (filter (is_forward n t) os) → list_any (is_taken_by plain n t) os ≡ false
    none_takes [] all = refl
    none_takes (o ∷ os) all = go (is_forward n t o) (λ h. none_takes os h) all
      where
        go : (b : Bool) → (AllByRecursion (λ x. fail t.o x.value) (filter (is_forward n t) os) → list_any (is_taken_by plain n t) os ≡ false) →
            AllByRecursion (λ x. fail t.o x.value) (cond b (o ∷ filter (is_forward n t) os) (filter (is_forward n t) os)) →
            ((b && is_certain (plain t.o o.value)) || list_any (is_taken_by plain n t) os) ≡ false
        go true deeper h = (λ i. fails t.o o.value h.0 i || list_any (is_taken_by plain n t) os) ∙ deeper h.1
        go false deeper h = deeper h

    -- a place that is allowed is open
    pub allowed_open : (p : Place) → IsAllowed hold fail sh n t p → Contains (fine_places t) p
    allowed_open (At i) h = at_least_has (open_places t) (At i) (go (slice_get sh.occs i) refl h)
      where
        go : (x : Option Occurrence) → slice_get sh.occs i ≡ x → MayTake hold fail sh n t x → Contains (open_places t) (At i)
        go None e take = absurd take
        go (Some o) e take =
            Contains-append_left (passing (is_open_at plain n t) 0 sh.occs) (cond (is_open_rest plain sh n t) (Rest ∷ []) []) (At i)
            (subst (λ k. Contains (passing (is_open_at plain n t) 0 sh.occs) (At k)) (let z : 0 + i ≡ i = omega arith in z)
            (passing_has (is_open_at plain n t) 0 i sh.occs o e (λ k. take.0 k && holds (other_end o.inverse t) o.value take.1 k)))
    allowed_open Rest h =
        at_least_has (open_places t) Rest
        (Contains-append_right (passing (is_open_at plain n t) 0 sh.occs) (cond (is_open_rest plain sh n t) (Rest ∷ []) []) Rest
        (subst (λ b. Contains (cond b (Rest ∷ []) []) Rest) (sym opened) (is_first Rest [])))
      where
        taken : Bool
        taken = list_any (is_taken_by plain n t) sh.occs

        extra : Bool
        extra = list_any (λ p. same_id p t.p) sh.extra

        out : (f : Bool) → MayStayOut hold fail sh n t f → ((extra && not taken) || not f) ≡ true
        out true h' = λ k. (in_extra t sh.extra h'.0 k && not (none_takes sh.occs h'.1 k)) || false
        out false h' = last (extra && not taken)
          where
            last : (b : Bool) → (b || true) ≡ true
            last true = refl
            last false = refl

        go : (a : Bool) → same_id t.s n ≡ a → (o : Bool) → same_id t.o n ≡ o → (l : Bool) → is_loop t ≡ l → MayStay hold fail sh n t a → (a || o) ≡ true → o ≡ cond a l true →
            ((o && not l) || (a && ((extra && not taken) || not (list_any (is_forward n t) sh.occs)))) ≡ true
        go true e o f l g stay tells is = last (o && not l) ((extra && not taken) || not (list_any (is_forward n t) sh.occs)) (out (list_any (is_forward n t) sh.occs) stay)
          where
            last : (a b : Bool) → b ≡ true → (a || b) ≡ true
            last true b z = refl
            last false b z = z
        go false e true f false g stay tells is = refl
        go false e true f true g stay tells is = absurd (not_loop t n e f g)
        go false e false f l g stay tells is = absurd (true≢false (sym tells))

        opened : is_open_rest plain sh n t ≡ true
        opened = go (same_id t.s n) refl (same_id t.o n) refl (is_loop t) refl h near (end_is n t near)
