-- Tests, and what they tell.
use Rattle.std.proofs.Common.{◌≡◌, ℕ, Bool, true, false, true≢false, List, Option, Some, None, IsTrue, ◌↔◌, Ordering, Less, Equal, Greater, refl, sym, ◌∙◌, ap, subst, inl, inr, ◌⊎◌}
use Rattle.std.specs.Option.{IsSomeAnd}
use Rattle.std.specs.Ordering.{is_le, is_lt}
use Rattle.xs_text.specs.Decimal.{HasSameValue, IsBelow}
use Rattle.node_constraint.specs.declared.facet.Facet.{Facet}
use Rattle.node_constraint.specs.Facets.{IsAtMost}
use Rattle.node_constraint.specs.Held.{SatLength, SatNumber, SatPlain}
use Rattle.node_constraint.specs.Making.{IsNumeric, is_double}
use Rattle.node_constraint.proofs.Joining.{with_decimal, without_decimal}

not_true : {P : Type 0} → (¬ P) → IsTrue false ↔ P
not_true none = (λ h. absurd (true≢false (sym h)), λ p. absurd (none p))

-- of a range value, if there is one
pub double_told : (o : Option (List ℕ)) (v : List ℕ) (r : Bool) → Some v ≡ o → r ≡ is_double v → IsTrue r ↔ IsSomeAnd o (λ value. IsTrue (is_double value))
double_told o v r is told = subst (λ z. IsTrue r ↔ IsSomeAnd z (λ value. IsTrue (is_double value))) is (λ h. sym told ∙ h, λ h. told ∙ h)

pub no_double : (o : Option (List ℕ)) → None ≡ o → IsTrue false ↔ IsSomeAnd o (λ value. IsTrue (is_double value))
no_double o is = subst (λ z. IsTrue false ↔ IsSomeAnd z (λ value. IsTrue (is_double value))) is (not_true (λ h. h))

-- of an order of two decimals
pub below_told : (o : Ordering) (a b : List ℕ) (r : Bool) → r ≡ is_lt o → (o ≡ Less) ↔ IsBelow a b → IsTrue r ↔ IsBelow a b
below_told o a b r is less = (λ h. less.0 (by o (sym is ∙ h)), λ h. is ∙ ap is_lt (less.1 h))
  where
    by : (o : Ordering) → is_lt o ≡ true → o ≡ Less
    by Less e = refl
    by Equal e = absurd (true≢false (sym e))
    by Greater e = absurd (true≢false (sym e))

pub at_most_told : (o : Ordering) (a b : List ℕ) (r : Bool) → r ≡ is_le o → (o ≡ Less) ↔ IsBelow a b → (o ≡ Equal) ↔ HasSameValue a b → IsTrue r ↔ IsAtMost a b
at_most_told o a b r is less same = (
  λ h. elim (by o (sym is ∙ h)) [ inl e ↦ inl (less.0 e) | inr e ↦ inr (same.0 e) ],
  λ h. elim h [ inl l ↦ is ∙ ap is_le (less.1 l) | inr s ↦ is ∙ ap is_le (same.1 s) ],
)
  where
    by : (o : Ordering) → is_le o ≡ true → (o ≡ Less) ⊎ (o ≡ Equal)
    by Less e = inl refl
    by Equal e = inr refl
    by Greater e = absurd (true≢false (sym e))

-- of a facet beside a decimal text, and of one without
pub beside : (facet : Facet) (text d : List ℕ) (o : Option (List ℕ)) (r : Bool) → Some d ≡ o → IsTrue r ↔ (SatLength facet text × SatNumber facet d) → IsTrue r ↔ SatPlain facet text o
beside facet text d o r is told =
    let both = with_decimal facet text d in
    subst (λ z. IsTrue r ↔ SatPlain facet text z) is (λ h. both.0 (told.0 h), λ h. told.1 (both.1 h))

pub without : (facet : Facet) (text : List ℕ) (o : Option (List ℕ)) (r : Bool) → None ≡ o → IsTrue r ↔ (SatLength facet text × (¬ IsNumeric facet)) → IsTrue r ↔ SatPlain facet text o
without facet text o r is told =
    let both = without_decimal facet text in
    subst (λ z. IsTrue r ↔ SatPlain facet text z) is (λ h. both.0 (told.0 h), λ h. told.1 (both.1 h))
