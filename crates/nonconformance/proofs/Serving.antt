-- How many of the places that triples take are at some constraints.
use Rattle.std.proofs.Common.{◌≡◌, ℕ, suc, ◌<◌, ◌≤◌, inl, inr, refl, arith, sym, subst, Bool, true, false, true≢false, cond, length, List, [], ◌∷◌}
use Rattle.std.proofs.lemmas.Bool.{cases_lt, eq-eqb, eqb-true}
use Rattle.std.proofs.lemmas.Option.{slice_get_past}
use Rattle.std.specs.Prelude.{Contains, Option, nat_eq, ◌||◌}
use Rattle.std.specs.List.{AllByRecursion}
use Rattle.lists.proofs.Members.{any_true, in_rest, is_first, is_later, not_in_none}
use Rattle.rdf_terms.specs.declared.terms.TermId.{TermId}
use Rattle.rdf_terms.specs.declared.terms.Triple.{Triple}
use Rattle.tally.specs.Plan.{Plan}
use Rattle.tally.specs.Symbols.{has_symbol}
use Rattle.schema_tree.specs.declared.schema.ExprId.{ExprId}
use Rattle.schema_tree.specs.declared.schema.Shape.{Shape}
use Rattle.schema_tree.specs.declared.verdicts.Place.{Place}
use Rattle.schema_tree.specs.declared.verdicts.Place.TheVariants.{At, Rest}
use Rattle.schema_tree.specs.Places.{AreAllowed, IsAllowed, MayTake}
use Rattle.nonconformance.specs.Bounds.{IsPlaceOf, is_among, is_at, served}
use Rattle.nonconformance.specs.Reasons.{IsOneOf, MayServe, MustServe}
use Rattle.nonconformance.specs.Those.{AreThose}

-- a number passes the test exactly where it is one of the list
pub among_has : (cs : List ℕ) (i : ℕ) → is_among cs i ≡ true → Contains cs i
among_has [] i h = absurd (true≢false (sym h))
among_has (c ∷ cs) i h = go (nat_eq i c) refl h (λ t. among_has cs i t)
  where
    go : (b : Bool) → nat_eq i c ≡ b → b || is_among cs i ≡ true → (is_among cs i ≡ true → Contains cs i) → Contains (c ∷ cs) i
    go true e t deeper = subst (λ z. Contains (c ∷ cs) z) (sym (eqb-true i c e)) (is_first c cs)
    go false e t deeper = is_later c cs i (deeper t)

pub has_among : (cs : List ℕ) (i : ℕ) → Contains cs i → is_among cs i ≡ true
has_among cs i h = any_true (nat_eq i) cs i h (eq-eqb i i refl)

pub at_one : (cs : List ℕ) (p : Place) → is_at cs p ≡ true → IsOneOf cs p
at_one cs (At i) h = among_has cs i h
at_one cs Rest h = absurd (true≢false (sym h))

pub one_at : (cs : List ℕ) (p : Place) → IsOneOf cs p → is_at cs p ≡ true
one_at cs (At i) h = has_among cs i h
one_at cs Rest h = absurd h

module _ (hold fail : TermId → Option ExprId → Type 0) (sh : Shape) (n : TermId) where
  -- each triple has an allowed place
  pub allowed_of : (ts : List Triple) (ps : List Place) (t : Triple) → AreAllowed hold fail sh n ts ps → Contains ts t → (p : Place) × IsAllowed hold fail sh n t p
  allowed_of [] ps t a c = absurd (not_in_none t c)
  allowed_of (u ∷ ts) [] t a c = absurd a
  allowed_of (u ∷ ts) (p ∷ ps) t a c = elim (in_rest u ts t c) [
    | inl e ↦ (p, subst (λ z. IsAllowed hold fail sh n z p) e a.0)
    | inr later ↦ allowed_of ts ps t a.1 later
  ]

  -- as many places at the constraints as triples that one of them may take, at most
  pub served_few :
      (cs : List ℕ) (ts : List Triple) (ps : List Place) (found : List Triple) → AreAllowed hold fail sh n ts ps →
      AreThose (MayServe hold fail sh n cs) ts found → served cs ps ≤ length found
  served_few cs [] [] found a those = omega arith
  served_few cs [] (p ∷ ps) found a those = absurd a
  served_few cs (t ∷ ts) [] found a those = absurd a
  served_few cs (t ∷ ts) (p ∷ ps) [] a those = go (is_at cs p) refl (served_few cs ts ps [] a.1 those.1)
    where
      go : (b : Bool) → is_at cs p ≡ b → served cs ps ≤ 0 → cond b (suc (served cs ps)) (served cs ps) ≤ 0
      go true e h = absurd (those.0 (p, at_one cs p e, a.0))
      go false e h = h
  served_few cs (t ∷ ts) (p ∷ ps) (u ∷ found) a (inl (same, may, those)) = go (is_at cs p) (served_few cs ts ps found a.1 those)
    where
      go : (b : Bool) → served cs ps ≤ length found → cond b (suc (served cs ps)) (served cs ps) ≤ suc (length found)
      go true h = omega arith
      go false h = omega arith
  served_few cs (t ∷ ts) (p ∷ ps) (u ∷ found) a (inr (none, those)) = go (is_at cs p) refl (served_few cs ts ps (u ∷ found) a.1 those)
    where
      go : (b : Bool) → is_at cs p ≡ b → served cs ps ≤ suc (length found) → cond b (suc (served cs ps)) (served cs ps) ≤ suc (length found)
      go true e h = absurd (none (p, at_one cs p e, a.0))
      go false e h = h

  -- and as many as triples that they alone may take, at least
  pub served_many :
      (cs : List ℕ) (ts : List Triple) (ps : List Place) (found : List Triple) → AreAllowed hold fail sh n ts ps →
      AreThose (MustServe hold fail sh n cs) ts found → length found ≤ served cs ps
  served_many cs [] [] found a those = subst (λ z. length z ≤ 0) (sym those) (omega arith)
  served_many cs [] (p ∷ ps) found a those = absurd a
  served_many cs (t ∷ ts) [] found a those = absurd a
  served_many cs (t ∷ ts) (p ∷ ps) [] a those = omega arith
  served_many cs (t ∷ ts) (p ∷ ps) (u ∷ found) a (inl (same, must, those)) = go (is_at cs p) (one_at cs p (must.1 p a.0)) (served_many cs ts ps found a.1 those)
    where
      go : (b : Bool) → b ≡ true → length found ≤ served cs ps → suc (length found) ≤ cond b (suc (served cs ps)) (served cs ps)
      go true e h = omega arith
      go false e h = absurd (true≢false (sym e))
  served_many cs (t ∷ ts) (p ∷ ps) (u ∷ found) a (inr (none, those)) = go (is_at cs p) (served_many cs ts ps (u ∷ found) a.1 those)
    where
      go : (b : Bool) → suc (length found) ≤ served cs ps → suc (length found) ≤ cond b (suc (served cs ps)) (served cs ps)
      go true h = omega arith
      go false h = h

  -- an allowed place is the remainder, or a constraint that stands in the expression
  allowed_stands : (c : Plan) → ((i : ℕ) → i < length sh.occs → has_symbol i c ≡ true) → (t : Triple) (p : Place) → IsAllowed hold fail sh n t p → IsPlaceOf c p
  allowed_stands c all t Rest h = tt
  allowed_stands c all t (At i) h = elim (cases_lt i (length sh.occs)) [
    | inl lt ↦ all i lt
    | inr ge ↦ absurd (subst (λ o. MayTake hold fail sh n t o) (slice_get_past sh.occs i ge) h)
  ]

  pub all_stand :
      (c : Plan) → ((i : ℕ) → i < length sh.occs → has_symbol i c ≡ true) → (ts : List Triple) (ps : List Place) → AreAllowed hold fail sh n ts ps →
      AllByRecursion (IsPlaceOf c) ps
  all_stand c all [] [] a = tt
  all_stand c all [] (p ∷ ps) a = absurd a
  all_stand c all (t ∷ ts) [] a = absurd a
  all_stand c all (t ∷ ts) (p ∷ ps) a = (allowed_stands c all t p a.0, all_stand c all ts ps a.1)
