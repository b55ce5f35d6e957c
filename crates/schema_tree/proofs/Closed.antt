-- A closed list of states without a living one at the end leaves no placement.
use Rattle.std.proofs.Common.{◌≡◌, ℕ, zero, suc, ◌+◌, ◌<◌, ◌≤◌, ◌≢◌, inl, inr, List, [], ◌∷◌, refl, arith, sym, subst, ap, Bool, true, false, cond, length, drop, get_or, set, get_or-set_same, get_or-set_other}
use Rattle.std.proofs.lemmas.Bool.{eqb-true}
use Rattle.std.proofs.lemmas.Bool.Decides.{nat_tests}
use Rattle.std.proofs.lemmas.Option.{slice_get_within}
use Rattle.std.specs.Prelude.{Option, Some, None, slice_get, slice_index, nat_eq}
use Rattle.rdf_terms.specs.declared.terms.TermId.{TermId}
use Rattle.rdf_terms.specs.declared.terms.Triple.{Triple}
use Rattle.tally.specs.Plan.{Plan}
use Rattle.tally.specs.Span.{span}
use Rattle.tally.proofs.Exact.{copies_box}
use Rattle.schema_tree.specs.declared.schema.Occurrence.{Occurrence}
use Rattle.schema_tree.specs.declared.schema.Shape.{Shape}
use Rattle.schema_tree.specs.declared.schema.ExprId.{ExprId}
use Rattle.schema_tree.specs.declared.verdicts.State.{State}
use Rattle.schema_tree.specs.declared.verdicts.Place.{Place}
use Rattle.schema_tree.specs.declared.verdicts.Place.TheVariants.{At, Rest}
use Rattle.schema_tree.specs.Matches.{fits}
use Rattle.schema_tree.specs.Places.{HasPlaces, HaveCounts, MayTake, IsAllowed, AreAllowed, times}
use Rattle.schema_tree.proofs.Decide.{decide_span}
use Rattle.lists.proofs.Decided.{Decided, decide_not}
use Rattle.schema_tree.proofs.ToPlaces.{counts_agree}
use Rattle.schema_tree.specs.States.{AreClosed, IsCovered, IsDead, opening, no_counts, after, count_fits, fitting, IsDeadBody}

pub next_of :
    (d : ℕ) (ts : List Triple) (t : Triple) (rest : List Triple) → drop d ts ≡ t ∷ rest →
    (slice_get ts d ≡ Some t) × (drop (suc d) ts ≡ rest)
next_of zero [] t rest e = absurd (let bad : ⊥ = cc in bad)
next_of zero (u ∷ us) t rest e = (let same : u ≡ t = cc in ap (λ x. Some x) same, (let tails : us ≡ rest = cc in tails))
next_of (suc d) [] t rest e = absurd (let bad : ⊥ = cc in bad)
next_of (suc d) (u ∷ us) t rest e = next_of d us t rest e

pub end_of : (d : ℕ) (ts : List Triple) → d ≤ length ts → drop d ts ≡ [] → d ≡ length ts
end_of zero [] h e = refl
end_of zero (u ∷ us) h e = absurd (let bad : ⊥ = cc in bad)
end_of (suc d) [] h e = absurd (omega arith)
end_of (suc d) (u ∷ us) h e = ap suc (end_of d us (omega arith) e)

-- the opening state counts nothing
pub zeros : (occs : List Occurrence) (i : ℕ) → slice_index (no_counts occs) i ≡ 0
zeros [] i = refl
zeros (o ∷ os) zero = refl
zeros (o ∷ os) (suc i) = zeros os i

module _ (hold fail : TermId → Option ExprId → Type 0) (sh : Shape) (n : TermId) (ts : List Triple) where
  -- no occurrence gets more triples than it fits
  times_fit :
      (later : List Triple) (ps : List Place) → AreAllowed hold fail sh n later ps → (i : ℕ) →
      times ps i ≤ fitting n later (slice_get sh.occs i)
  times_fit [] [] a i = omega arith
  times_fit [] (p ∷ ps) a i = absurd a
  times_fit (t ∷ later) [] a i = absurd a
  times_fit (t ∷ later) (Rest ∷ ps) a i = more (slice_get sh.occs i) (times_fit later ps a.1 i)
    where
      bump : (b : Bool) (k m : ℕ) → k ≤ m → k ≤ cond b (suc m) m
      bump true k m h = omega arith
      bump false k m h = h

      more : (x : Option Occurrence) → times ps i ≤ fitting n later x → times ps i ≤ fitting n (t ∷ later) x
      more None h = h
      more (Some o) h = bump (fits o n t) (times ps i) (count_fits o n later) h
  times_fit (t ∷ later) (At j ∷ ps) a i = go (times_fit later ps a.1 i) (nat_eq i j) refl
    where
      bump : (b : Bool) (k m : ℕ) → k ≤ m → k ≤ cond b (suc m) m
      bump true k m h = omega arith
      bump false k m h = h

      same :
          (x : Option Occurrence) → MayTake hold fail sh n t x → times ps i ≤ fitting n later x → suc (times ps i) ≤ fitting n (t ∷ later) x
      same None take h = absurd take
      same (Some o) take h = rw take.0 (omega arith)

      other : (x : Option Occurrence) → times ps i ≤ fitting n later x → times ps i ≤ fitting n (t ∷ later) x
      other None h = h
      other (Some o) h = bump (fits o n t) (times ps i) (count_fits o n later) h

      go :
          times ps i ≤ fitting n later (slice_get sh.occs i) → (b : Bool) → nat_eq i j ≡ b →
          cond b (suc (times ps i)) (times ps i) ≤ fitting n (t ∷ later) (slice_get sh.occs i)
      go below true e = same (slice_get sh.occs i) (subst (λ k. MayTake hold fail sh n t (slice_get sh.occs k)) (sym (eqb-true i j e)) a.0) below
      go below false e = other (slice_get sh.occs i) below

  -- nothing comes of a dead state
  pub dead_ends :
      (x : State) (body : Option Plan) → IsDeadBody sh n (drop x.done ts) (slice_index x.counts) body →
      (ps : List Place) → AreAllowed hold fail sh n (drop x.done ts) ps → ¬ HaveCounts body (λ i. slice_index x.counts i + times ps i)
  dead_ends x None dead ps a spelled = dead
  dead_ends x (Some c) dead ps a spelled =
      dead (copies_box c (slice_index x.counts) (λ i. slice_index x.counts i + times ps i) (λ i. slice_index x.counts i + fitting n (drop x.done ts) (slice_get sh.occs i))
      (λ i. (let most = times_fit (drop x.done ts) ps a i in (omega arith, omega arith))) 1 spelled)

  -- a state is dead or it is not
  pub decide_dead : (x : State) (body : Option Plan) → Decided (IsDeadBody sh n (drop x.done ts) (slice_index x.counts) body)
  decide_dead x None = inr (λ dead. dead)
  decide_dead x (Some c) =
      decide_not (decide_span (span c (slice_index x.counts) (λ i. slice_index x.counts i + fitting n (drop x.done ts) (slice_get sh.occs i))) 1)

  -- the counts after a place
  pub count_after :
      (x : State) → length x.counts ≡ length sh.occs → (t : Triple) (p : Place) → IsAllowed hold fail sh n t p → (ps : List Place) (i : ℕ) →
      slice_index x.counts i + times (p ∷ ps) i ≡ slice_index ((after p x).counts) i + times ps i
  count_after x size t Rest a ps i = refl
  count_after x size t (At j) a ps i = go (nat_eq i j) refl
    where
      within : (y : Option Occurrence) → slice_get sh.occs j ≡ y → MayTake hold fail sh n t y → j < length sh.occs
      within None e take = absurd take
      within (Some o) e take = slice_get_within sh.occs j o e

      go : (b : Bool) → nat_eq i j ≡ b →
          slice_index x.counts i + cond b (suc (times ps i)) (times ps i) ≡ get_or (set x.counts j (suc (get_or x.counts j 0))) i 0 + times ps i
      go true e =
          let same : i ≡ j = eqb-true i j e in
          let inside : j < length x.counts = (let w = within (slice_get sh.occs j) refl a in omega arith) in
          let here : get_or (set x.counts j (suc (get_or x.counts j 0))) j 0 ≡ suc (get_or x.counts j 0) = get_or-set_same x.counts j (suc (get_or x.counts j 0)) 0 inside in
          let there : get_or (set x.counts j (suc (get_or x.counts j 0))) i 0 ≡ suc (get_or x.counts i 0) =
          subst (λ k. get_or (set x.counts j (suc (get_or x.counts j 0))) k 0 ≡ suc (get_or x.counts k 0)) (sym same) here in
          omega arith
      go false e =
          let apart : i ≢ j = (λ z. grind (arith, nat_tests)) in
          let there = get_or-set_other x.counts j i (suc (get_or x.counts j 0)) 0 apart in
          omega (arith, there)

  -- from a state that is listed or dead no allowed places for the triples that are left have matching counts
  pub leads_nowhere :
      (states : List State) → AreClosed hold fail sh n ts states → (rest : List Triple) (x : State) → IsCovered sh n ts states x →
      drop x.done ts ≡ rest →
      (ps : List Place) → AreAllowed hold fail sh n rest ps → ¬ HaveCounts sh.body (λ i. slice_index x.counts i + times ps i)
  leads_nowhere states closed rest x (inr dead) at ps a spelled = dead_ends x sh.body dead ps (subst (λ us. AreAllowed hold fail sh n us ps) (sym at) a) spelled
  leads_nowhere states closed [] x (inl held) at ps a spelled = go (decide_dead x sh.body)
    where
      go : Decided (IsDead sh n ts x) → ⊥
      go (inl dead) = dead_ends x sh.body dead ps (subst (λ us. AreAllowed hold fail sh n us ps) (sym at) a) spelled
      go (inr living) =
          let left : x.done < length ts = closed.unfinished x held living in
          let none : x.done ≡ length ts = end_of x.done ts (closed.shaped x held).1 at in
          absurd (omega arith)
  leads_nowhere states closed (t ∷ rest) x (inl held) at [] a spelled = absurd a
  leads_nowhere states closed (t ∷ rest) x (inl held) at (p ∷ ps) a spelled =
      go (λ covered. leads_nowhere states closed rest (after p x) covered (done_after p) ps a.1) (decide_dead x sh.body)
    where
      next : (slice_get ts x.done ≡ Some t) × (drop (suc x.done) ts ≡ rest)
      next = next_of x.done ts t rest at

      done_after : (q : Place) → drop ((after q x).done) ts ≡ rest
      done_after (At j) = next.1
      done_after Rest = next.1

      go :
          (IsCovered sh n ts states (after p x) → ¬ HaveCounts sh.body (λ i. slice_index ((after p x).counts) i + times ps i)) →
          Decided (IsDead sh n ts x) → ⊥
      go deeper (inl dead) = dead_ends x sh.body dead (p ∷ ps) (subst (λ us. AreAllowed hold fail sh n us (p ∷ ps)) (sym at) a) spelled
      go deeper (inr living) =
          deeper (closed.steps x held living t next.0 p a.0)
          (counts_agree sh.body (λ i. slice_index x.counts i + times (p ∷ ps) i) (λ i. slice_index ((after p x).counts) i + times ps i)
          (λ i. count_after x (closed.shaped x held).0 t p a.0 ps i) spelled)

  -- so a list that covers the opening state leaves no places at all
  pub states_refute :
      (g : List Triple) (states : List State) → AreClosed hold fail sh n ts states → IsCovered sh n ts states (opening sh) → ¬ HasPlaces hold fail g sh n ts
  states_refute g states closed covered h =
      leads_nowhere states closed ts (opening sh) covered refl h.places h.allowed
      (counts_agree sh.body (times h.places) (λ i. slice_index (no_counts sh.occs) i + times h.places i) (λ i. (let none = zeros sh.occs i in omega arith)) h.spelled)
