-- Which facets are refused, and why.
use Rattle.std.proofs.Common.{◌≡◌, ℕ, zero, suc, ◌⊎◌, inl, inr, Bool, true, false, true≢false, ◌&&◌, List, [], ◌∷◌, ◌++◌, refl, sym, ◌∙◌, ap, subst, arith, Option, Some, None, IsTrue, ◌↔◌, Result, Ok, Err, MatchResult}
use Rattle.std.proofs.lemmas.Bool.{and_parts}
use Rattle.std.specs.List.{AllByRecursion, Any}
use Rattle.std.specs.Option.{IsSomeAnd}
use Rattle.xs_pattern.proofs.Answered.{one_under}
use Rattle.xs_pattern.specs.declared.pattern.Pattern.{Pattern}
use Rattle.xs_pattern.specs.declared.pattern_error.PatternError.{PatternError}
use Rattle.xs_pattern.specs.declared.pattern_error.PatternError.TheVariants as Refusals
use Rattle.xs_pattern.specs.Limits.{IsLarge}
use Rattle.xs_pattern.specs.Patterns.{regex}
use Rattle.node_constraint.specs.declared.facet.Facet.{Facet}
use Rattle.node_constraint.specs.declared.make_error.MakeError.{MakeError}
use Rattle.node_constraint.specs.declared.make_error.MakeError.TheVariants as Errors
use Rattle.node_constraint.specs.Held.{AreMisnumbered, ArePassed, AreReadFrom, IsOnFloats, IsReadFrom, IsTaken, Reads, StopsAt, are_comparable, is_comparable, is_decimal_if_any}
use Rattle.node_constraint.specs.Making.{Causes, HasFloatFacet, HasOtherNumber, IsDecimal, IsFloat, IsFloatFacet, IsFirstRefusal, IsReadable, IsRefused, IsSound, PatternText, patterns_in, range_value}

-- what holds of some item holds of it where it follows
pub any_along : {X : Type 0} (P Q : X → Type 0) → ((x : X) → P x → Q x) → (xs : List X) → Any P xs → Any Q xs
any_along P Q f xs (k, x, within, is, p) = (k, x, within, is, f x p)

later : {X : Type 0} (P : X → Type 0) (x : X) (xs : List X) → Any P xs → Any P (x ∷ xs)
later P x xs (k, y, within, is, p) = (suc k, y, omega arith, is, p)

-- an item of a list is the first or a later one
first_or_later : {X : Type 0} (P : X → Type 0) (x : X) (xs : List X) → Any P (x ∷ xs) → P x ⊎ Any P xs
first_or_later P x xs (zero, y, within, is, p) = inl (subst P (sym is) p)
first_or_later P x xs (suc k, y, within, is, p) = inr (k, y, omega arith, is, p)

other_value : (o : Option (List ℕ)) → is_decimal_if_any o ≡ false → IsSomeAnd o (λ v. ¬ IsDecimal v)
other_value None e = absurd (true≢false e)
other_value (Some v) e = λ h. true≢false (sym h ∙ e)

decimal_value : (o : Option (List ℕ)) → is_decimal_if_any o ≡ true → ¬ IsSomeAnd o (λ v. ¬ IsDecimal v)
decimal_value None e h = h
decimal_value (Some v) e h = h e

-- the test of range values tells whether one is no decimal
pub not_comparable : (facets : List Facet) → are_comparable facets ≡ false → HasOtherNumber facets
not_comparable [] e = absurd (true≢false e)
not_comparable (f ∷ fs) e = go (is_comparable f) refl e (not_comparable fs)
  where
    go : (b : Bool) → is_comparable f ≡ b → (b && are_comparable fs) ≡ false → (are_comparable fs ≡ false → HasOtherNumber fs) → HasOtherNumber (f ∷ fs)
    go true is e more = later (λ g. IsSomeAnd (range_value g) (λ v. ¬ IsDecimal v)) f fs (more e)
    go false is e more = (0, f, omega arith, refl, other_value (range_value f) is)

pub comparable : (facets : List Facet) → are_comparable facets ≡ true → ¬ HasOtherNumber facets
comparable [] e h = absurd (omega (arith, h.2))
comparable (f ∷ fs) e h =
    let both = and_parts (is_comparable f) (are_comparable fs) e in
    elim (first_or_later (λ g. IsSomeAnd (range_value g) (λ v. ¬ IsDecimal v)) f fs h) [
      | inl p ↦ decimal_value (range_value f) both.0 p
      | inr more ↦ comparable fs both.1 more
    ]

-- a pattern that is read is readable
readable : (t : PatternText) (p : Pattern) → IsReadFrom t p → IsReadable t
readable t p read = (read.known, (regex p, read.spelled, read.small))

pub all_readable : (ts : List PatternText) (ps : List Pattern) → AreReadFrom ts ps → AllByRecursion IsReadable ts
all_readable [] ps read = tt
all_readable (t ∷ ts) [] read = absurd read
all_readable (t ∷ ts) (p ∷ ps) read = (readable t p read.0, all_readable ts ps read.1)

-- one more pattern is read
pub read_more : (ts : List PatternText) (ps : List Pattern) (t : PatternText) (p : Pattern) → AreReadFrom ts ps → IsReadFrom t p → AreReadFrom (ts ++ t ∷ []) (ps ++ p ∷ [])
read_more [] [] t p read one = (one, tt)
read_more [] (q ∷ qs) t p read one = absurd read
read_more (s ∷ ts) [] t p read one = absurd read
read_more (s ∷ ts) (q ∷ qs) t p read one = (read.0, read_more ts qs t p read.1 one)

refused_first : (e : PatternError) (before : List PatternText) (ps : List Pattern) (t : PatternText) (after : List PatternText) →
    AreReadFrom before ps → IsRefused e t → IsFirstRefusal e (before ++ t ∷ after)
refused_first e [] ps t after read refused = inl refused
refused_first e (b ∷ bs) [] t after read refused = absurd read
refused_first e (b ∷ bs) (p ∷ ps) t after read refused = inr (readable b p read.0, refused_first e bs ps t after read.1 refused)

-- where one is not read after those before it, reading stops
pub stop_at : (e : MakeError) (before : List PatternText) (ps : List Pattern) (t : PatternText) (after : List PatternText) →
    AreReadFrom before ps → Reads t (Err e) → StopsAt (before ++ t ∷ after) e
stop_at Errors.FloatFacet before ps t after read refused = refused
stop_at Errors.FacetNumber before ps t after read refused = refused
stop_at (Errors.Pattern e) before ps t after read refused = refused_first e before ps t after read refused
stop_at Errors.Memory before ps t after read refused = tt

-- no pattern is readable and refused, and none is refused for two causes
not_both : (e : PatternError) (t : PatternText) → IsReadable t → ¬ IsRefused e t
not_both Refusals.Flag t ok refused = refused ok.0
not_both Refusals.Syntax t ok refused = refused.1 (ok.1.0, ok.1.1)
not_both Refusals.Large t ok refused = ok.1.2 (subst IsLarge (one_under t.flags t.pattern refused.1.0 ok.1.0 refused.1.1 ok.1.1) refused.1.2)
not_both Refusals.Memory t ok refused = refused

one_refusal : (d e : PatternError) (t : PatternText) → IsRefused d t → IsRefused e t → d ≡ e
one_refusal Refusals.Flag Refusals.Flag t r s = refl
one_refusal Refusals.Flag Refusals.Syntax t r s = absurd (r s.0)
one_refusal Refusals.Flag Refusals.Large t r s = absurd (r s.0)
one_refusal Refusals.Flag Refusals.Memory t r s = absurd s
one_refusal Refusals.Syntax Refusals.Flag t r s = absurd (s r.0)
one_refusal Refusals.Syntax Refusals.Syntax t r s = refl
one_refusal Refusals.Syntax Refusals.Large t r s = absurd (r.1 (s.1.0, s.1.1))
one_refusal Refusals.Syntax Refusals.Memory t r s = absurd s
one_refusal Refusals.Large Refusals.Flag t r s = absurd (s r.0)
one_refusal Refusals.Large Refusals.Syntax t r s = absurd (s.1 (r.1.0, r.1.1))
one_refusal Refusals.Large Refusals.Large t r s = refl
one_refusal Refusals.Large Refusals.Memory t r s = absurd s
one_refusal Refusals.Memory e t r s = absurd r

one_first : (d e : PatternError) (ts : List PatternText) → IsFirstRefusal d ts → IsFirstRefusal e ts → d ≡ e
one_first d e [] h k = absurd h
one_first d e (t ∷ ts) (inl r) (inl s) = one_refusal d e t r s
one_first d e (t ∷ ts) (inl r) (inr k) = absurd (not_both d t k.0 r)
one_first d e (t ∷ ts) (inr h) (inl s) = absurd (not_both e t h.0 s)
one_first d e (t ∷ ts) (inr h) (inr k) = one_first d e ts h.1 k.1

none_refused : (e : PatternError) (ts : List PatternText) → AllByRecursion IsReadable ts → ¬ IsFirstRefusal e ts
none_refused e [] ok h = h
none_refused e (t ∷ ts) ok (inl r) = not_both e t ok.0 r
none_refused e (t ∷ ts) ok (inr h) = none_refused e ts ok.1 h.1

-- what a cause leaves of the errors
pub float_cause : (datatype : Option (List ℕ)) (facets : List Facet) (e : MakeError) → Causes datatype facets e → HasFloatFacet datatype facets → e ≡ Errors.FloatFacet
float_cause datatype facets Errors.FloatFacet cause h = refl
float_cause datatype facets Errors.FacetNumber cause h = absurd (cause.0 h)
float_cause datatype facets (Errors.Pattern p) cause h = absurd (cause.0 h)
float_cause datatype facets Errors.Memory cause h = absurd (cause.0 h)

pub number_cause : (datatype : Option (List ℕ)) (facets : List Facet) (e : MakeError) → Causes datatype facets e → (¬ HasFloatFacet datatype facets) → HasOtherNumber facets → e ≡ Errors.FacetNumber
number_cause datatype facets Errors.FloatFacet cause none h = absurd (none cause)
number_cause datatype facets Errors.FacetNumber cause none h = refl
number_cause datatype facets (Errors.Pattern p) cause none h = absurd (cause.1.0 h)
number_cause datatype facets Errors.Memory cause none h = absurd (cause.1 h)

pub pattern_cause : (datatype : Option (List ℕ)) (facets : List Facet) (e : MakeError) → Causes datatype facets e → (¬ HasFloatFacet datatype facets) → (¬ HasOtherNumber facets) →
    (p : PatternError) → IsFirstRefusal p (patterns_in facets) → (e ≡ Errors.Pattern p) ⊎ (e ≡ Errors.Memory)
pattern_cause datatype facets Errors.FloatFacet cause none decimal p first = absurd (none cause)
pattern_cause datatype facets Errors.FacetNumber cause none decimal p first = absurd (decimal cause.1)
pattern_cause datatype facets (Errors.Pattern q) cause none decimal p first = inl (ap (λ z. Errors.Pattern z) (one_first q p (patterns_in facets) cause.1.1 first))
pattern_cause datatype facets Errors.Memory cause none decimal p first = inr refl

pub memory_cause : (datatype : Option (List ℕ)) (facets : List Facet) (e : MakeError) → Causes datatype facets e → IsSound datatype facets → e ≡ Errors.Memory
memory_cause datatype facets Errors.FloatFacet cause sound = absurd (sound.no_float cause)
memory_cause datatype facets Errors.FacetNumber cause sound = absurd (sound.decimal cause.1)
memory_cause datatype facets (Errors.Pattern q) cause sound = absurd (none_refused q (patterns_in facets) sound.readable cause.1.1)
memory_cause datatype facets Errors.Memory cause sound = refl

-- a sound constraint has no pattern that is refused
pub no_pattern : (datatype : Option (List ℕ)) (facets : List Facet) (p : PatternError) → IsSound datatype facets → ¬ IsFirstRefusal p (patterns_in facets)
no_pattern datatype facets p sound h = none_refused p (patterns_in facets) sound.readable h

-- the errors of each check are causes
pub numbered_cause : (datatype : Option (List ℕ)) (facets : List Facet) (e : MakeError) → AreMisnumbered datatype facets e → Causes datatype facets e
numbered_cause datatype facets Errors.FloatFacet h = h
numbered_cause datatype facets Errors.FacetNumber h = h
numbered_cause datatype facets (Errors.Pattern p) h = absurd h
numbered_cause datatype facets Errors.Memory h = absurd h

stop_cause : (datatype : Option (List ℕ)) (facets : List Facet) (e : MakeError) → ArePassed datatype facets → StopsAt (patterns_in facets) e → Causes datatype facets e
stop_cause datatype facets Errors.FloatFacet passed h = absurd h
stop_cause datatype facets Errors.FacetNumber passed h = absurd h
stop_cause datatype facets (Errors.Pattern p) passed h = (passed.0, (comparable facets passed.1, h))
stop_cause datatype facets Errors.Memory passed h = (passed.0, comparable facets passed.1)

taken : (datatype : Option (List ℕ)) (facets : List Facet) (ps : List Pattern) → ArePassed datatype facets → AreReadFrom (patterns_in facets) ps → IsTaken datatype facets ps
taken datatype facets ps passed read = record {
  sound = record { no_float = passed.0; decimal = comparable facets passed.1; readable = all_readable (patterns_in facets) ps read };
  comparable = passed.1;
  read = read;
}

-- what reading the patterns comes to after the other checks
pub checked : {T : Type 0} (items : T → List Pattern) (datatype : Option (List ℕ)) (facets : List Facet) (r : Result T MakeError) → ArePassed datatype facets →
    MatchResult r (λ v. AreReadFrom (patterns_in facets) (items v)) (StopsAt (patterns_in facets)) → MatchResult r (λ v. IsTaken datatype facets (items v)) (Causes datatype facets)
checked items datatype facets (Ok v) passed h = taken datatype facets (items v) passed h
checked items datatype facets (Err e) passed h = stop_cause datatype facets e passed h

-- facets on floating-point numbers, by whether the datatype is one of theirs
pub floats : (b : Bool) (datatype : Option (List ℕ)) (facets : List Facet) → IsTrue b ↔ IsFloat datatype → Any (IsOnFloats b) facets ↔ HasFloatFacet datatype facets
unfolding IsOnFloats
floats b datatype facets is = (
  any_along (IsOnFloats b) (IsFloatFacet datatype) (λ f h. elim h [ inl v ↦ inl v | inr p ↦ inr (is.0 p.0, p.1) ]) facets,
  any_along (IsFloatFacet datatype) (IsOnFloats b) (λ f h. elim h [ inl v ↦ inl v | inr p ↦ inr (is.1 p.0, p.1) ]) facets,
)

-- a cause of a refusal is one of an equal datatype and equal facets
pub cause_seen : (d datatype : Option (List ℕ)) (fs facets : List Facet) (e : MakeError) → d ≡ datatype → fs ≡ facets → Causes d fs e → Causes datatype facets e
cause_seen d datatype fs facets e is_datatype are_facets h =
    subst (λ z. Causes z facets e) is_datatype (subst (λ z. Causes d z e) are_facets h)

pub taken_seen : (d datatype : Option (List ℕ)) (fs facets : List Facet) (ps : List Pattern) → d ≡ datatype → fs ≡ facets → IsTaken d fs ps → IsTaken datatype facets ps
taken_seen d datatype fs facets ps is_datatype are_facets h =
    subst (λ z. IsTaken z facets ps) is_datatype (subst (λ z. IsTaken d z ps) are_facets h)
