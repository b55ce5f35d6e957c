-- Which pairs have a mark.
use Rattle.std.proofs.Common.{◌≡◌, ℕ, zero, suc, inl, inr, List, [], ◌∷◌, refl, sym, subst, ap, ◌∙◌, Bool, true, false, cond}
use Rattle.std.specs.Prelude.{Contains, Some, slice_get}
use Rattle.schema_tree.specs.declared.schema.Pair.{Pair}
use Rattle.schema_tree.specs.declared.verdicts.Verdict.{Verdict}
use Rattle.lists.proofs.Members.{got_in, in_rest, is_first, is_later, not_in_none}
use Rattle.removal_laws.specs.Marks.{marked, same_verdict}
use Rattle.removal_laws.proofs.Verdicts.{verdict_is, verdict_same}

-- the pair stands at a place where the mark is v
abbrev pub HasMark : List Pair → List Verdict → Verdict → Pair → Type 0
HasMark pairs marks v q = (i : ℕ) × (slice_get pairs i ≡ Some q) × (slice_get marks i ≡ Some v)

pub to_mark : (v : Verdict) (pairs : List Pair) (marks : List Verdict) (q : Pair) → Contains (marked v pairs marks) q → HasMark pairs marks v q
to_mark v [] marks q c = absurd (not_in_none q c)
to_mark v (p ∷ ps) [] q c = absurd (not_in_none q c)
to_mark v (p ∷ ps) (m ∷ ms) q c = go (same_verdict v m) refl (λ d. to_mark v ps ms q d) c
  where
    later : HasMark ps ms v q → HasMark (p ∷ ps) (m ∷ ms) v q
    later (i, a, b) = (suc i, a, b)

    go : (b : Bool) → same_verdict v m ≡ b → (Contains (marked v ps ms) q → HasMark ps ms v q) →
        Contains (cond b (p ∷ marked v ps ms) (marked v ps ms)) q → HasMark (p ∷ ps) (m ∷ ms) v q
    go true is deeper h = elim (in_rest p (marked v ps ms) q h) [
      | inl e ↦ (0, ap (λ z. Some z) e, ap (λ z. Some z) (sym (verdict_is v m is)))
      | inr l ↦ later (deeper l)
    ]
    go false is deeper h = later (deeper h)

some_is : {X : Type 0} (x y : X) → Some x ≡ Some y → x ≡ y
some_is x y e = cc

pub from_mark : (v : Verdict) (pairs : List Pair) (marks : List Verdict) (q : Pair) → HasMark pairs marks v q → Contains (marked v pairs marks) q
from_mark v [] marks q (i, a, b) = absurd (let c = got_in [] i q a in not_in_none q c)
from_mark v (p ∷ ps) [] q (i, a, b) = absurd (let c = got_in [] i v b in not_in_none v c)
from_mark v (p ∷ ps) (m ∷ ms) q (zero, a, b) =
    subst (λ d. Contains (cond d (p ∷ marked v ps ms) (marked v ps ms)) q) (sym (ap (λ z. same_verdict v z) (some_is m v b) ∙ verdict_same v))
    (subst (λ z. Contains (z ∷ marked v ps ms) q) (sym (some_is p q a)) (is_first q (marked v ps ms)))
from_mark v (p ∷ ps) (m ∷ ms) q (suc i, a, b) = go (same_verdict v m) (from_mark v ps ms q (i, a, b))
  where
    go : (d : Bool) → Contains (marked v ps ms) q → Contains (cond d (p ∷ marked v ps ms) (marked v ps ms)) q
    go true c = is_later p (marked v ps ms) q c
    go false c = c
