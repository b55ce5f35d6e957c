-- Values by their kinds: how they are taken up, and what an index of them tells of a term.
use Rattle.std.proofs.Common.{◌≡◌, ◌≢◌, ◌<◌, ◌≤◌, ◌+◌, ◌⊎◌, ℕ, zero, suc, inl, inr, List, [], ◌∷◌, ◌++◌, Option, None, Some, Contains, ◌↔◌, ap, arith, get_or, length, refl, subst, sym, take, ◌∙◌}
use Rattle.std.proofs.lemmas.List.{length-take-le, take_all, take_more}
use Rattle.std.proofs.lemmas.List.Elements.{Contains-append_left, Contains-push, Contains-push_cases}
use Rattle.std.proofs.lemmas.Option.{get_or_from_slice_get, slice_get-get_or, slice_get_within}
use Rattle.std.specs.List.{Any}
use Rattle.std.specs.Option.{IsSomeAnd}
use Rattle.std.specs.Prelude.{slice_get}
use Rattle.lists.specs.Additions.{Adds}
use Rattle.lists.proofs.Additions.{holds_added, keeps_added}
use Rattle.rdf_terms.specs.declared.terms.Term.{Term}
use Rattle.rdf_terms.specs.declared.terms.Term.TheVariants as Terms
use Rattle.value_sets.specs.Indexed.{AreStemsFor, BeginsWithOne, HoldOthers, HoldsAt, IsByKind, IsIndexOf, IsOther, TakesUp}
use Rattle.value_sets.specs.StemIndex.{StandFor}
use Rattle.value_sets.specs.Stems.{HasPrefix}
use Rattle.value_sets.specs.Values.{HasValue, IsValue}
use Rattle.value_sets.specs.declared.index.ValueIndex.{ValueIndex}
use Rattle.value_sets.specs.declared.index.ValuesByKind.{ValuesByKind}
use Rattle.value_sets.specs.declared.value.Value.{Value}
use Rattle.value_sets.specs.declared.value.Value.TheVariants as Values

-- ---- one more value

-- the items are those of which there is such a value
module _ {X : Type 0} (made : X → Value) where
  abbrev pub AreOf : List X → List Value → Type 0
  AreOf xs values = (x : X) → Contains xs x ↔ Contains values (made x)

  -- a value of another kind changes nothing
  passed_by : (xs ys : List X) (values : List Value) (value : Value) → ys ≡ xs → ((x : X) → value ≢ made x) → AreOf xs values → AreOf ys (values ++ value ∷ [])
  passed_by xs ys values value same differs of x = (
    λ h. Contains-append_left values (value ∷ []) (made x) ((of x).0 (subst (λ v. Contains v x) same h)),
    λ h. subst (λ v. Contains v x) (sym same) (elim (Contains-push_cases values value (made x) h) [
      | inl there ↦ (of x).1 there
      | inr e ↦ absurd (differs x e)
    ]),
  )

  -- a value of the kind is taken up
  added_to : (old new : List X) (values : List Value) (value : Value) (x : X) → value ≡ made x → ((y z : X) → made y ≡ made z → y ≡ z) → Adds old x new →
      AreOf old values → AreOf new (values ++ value ∷ [])
  added_to old new values value x is one adds of y = (λ h. there (from adds h), λ h. back (Contains-push_cases values value (made y) h))
    where
      from : Adds old x new → Contains new y → Contains old y ⊎ (x ≡ y)
      from (inl (held, e)) c = inl (subst (λ v. Contains v y) e c)
      from (inr (fresh, e)) c = Contains-push_cases old x y (subst (λ v. Contains v y) e c)

      there : Contains old y ⊎ (x ≡ y) → Contains (values ++ value ∷ []) (made y)
      there (inl held) = Contains-append_left values (value ∷ []) (made y) ((of y).0 held)
      there (inr e) = subst (λ z. Contains (values ++ value ∷ []) z) (is ∙ ap made e) (Contains-push values value)

      back : Contains values (made y) ⊎ (value ≡ made y) → Contains new y
      back (inl held) = keeps_added old new x y adds ((of y).1 held)
      back (inr e) = subst (λ z. Contains new z) (one x y (sym is ∙ e)) (holds_added old new x adds)

  -- and put behind the items
  pushed_to : (old new : List X) (values : List Value) (value : Value) (x : X) → value ≡ made x → ((y z : X) → made y ≡ made z → y ≡ z) → new ≡ old ++ x ∷ [] →
      AreOf old values → AreOf new (values ++ value ∷ [])
  pushed_to old new values value x is one more of y = (
    λ h. elim (Contains-push_cases old x y (subst (λ v. Contains v y) more h)) [
      | inl held ↦ Contains-append_left values (value ∷ []) (made y) ((of y).0 held)
      | inr e ↦ subst (λ z. Contains (values ++ value ∷ []) z) (is ∙ ap made e) (Contains-push values value)
    ],
    λ h. subst (λ v. Contains v y) (sym more) (elim (Contains-push_cases values value (made y) h) [
      | inl held ↦ Contains-append_left old (x ∷ []) y ((of y).1 held)
      | inr e ↦ subst (λ z. Contains (old ++ x ∷ []) z) (one x y (sym is ∙ e)) (Contains-push old x)
    ]),
  )

-- what stands at a place stood there before or is the last
before_or_last : (xs : List Value) (y : Value) (i : ℕ) (x : Value) → slice_get (xs ++ y ∷ []) i ≡ Some x → (slice_get xs i ≡ Some x) ⊎ ((i ≡ length xs) × (y ≡ x))
before_or_last [] y zero x e = inr (refl, cc)
before_or_last [] y (suc i) x e = absurd cc
before_or_last (z ∷ zs) y zero x e = inl e
before_or_last (z ∷ zs) y (suc i) x e = elim (before_or_last zs y i x e) [
  | inl h ↦ inl h
  | inr (n, h) ↦ inr (omega (arith, n), h)
]

-- a value that is no other one changes nothing
no_other : (values : List Value) (value : Value) (old new : List ℕ) → ¬ IsOther value → new ≡ old → HoldOthers values old → HoldOthers (values ++ value ∷ []) new
no_other values value old new not same hold i v at other = subst (λ z. Contains z i) (sym same) (elim (before_or_last values value i v at) [
  | inl there ↦ hold i v there other
  | inr (n, e) ↦ absurd (not (subst IsOther (sym e) other))
])

-- the place of one that is
one_other : (values : List Value) (value : Value) (place : ℕ) (old new : List ℕ) → length values ≡ place → new ≡ old ++ place ∷ [] → HoldOthers values old → HoldOthers (values ++ value ∷ []) new
one_other values value place old new long more hold i v at other = subst (λ z. Contains z i) (sym more) (elim (before_or_last values value i v at) [
  | inl there ↦ Contains-append_left old (place ∷ []) i (hold i v there other)
  | inr (n, e) ↦ subst (λ k. Contains (old ++ place ∷ []) k) (sym long ∙ sym n) (Contains-push old place)
])

term_only : (t u : Term) → Values.Term t ≡ Values.Term u → t ≡ u
term_only t u e = cc

iri_only : (s t : List ℕ) → Values.IriStem s ≡ Values.IriStem t → s ≡ t
iri_only s t e = cc

lit_only : (s t : List ℕ) → Values.LitStem s ≡ Values.LitStem t → s ≡ t
lit_only s t e = cc

pub term_taken : (old new : ValuesByKind) (place : ℕ) (value : Value) (t : Term) → value ≡ Values.Term t → Adds old.terms.keys t new.terms.keys →
    new.iri_stems.items ≡ old.iri_stems.items → new.lit_stems.items ≡ old.lit_stems.items → new.others.items ≡ old.others.items → TakesUp old place value new
term_taken old new place value t is adds iris lits others values long kinds = record {
  terms = added_to Values.Term old.terms.keys new.terms.keys values value t is term_only adds kinds.terms;
  iri_stems = passed_by Values.IriStem old.iri_stems.items new.iri_stems.items values value iris (λ s e. let both : Values.Term t ≡ Values.IriStem s = sym is ∙ e in cc) kinds.iri_stems;
  lit_stems = passed_by Values.LitStem old.lit_stems.items new.lit_stems.items values value lits (λ s e. let both : Values.Term t ≡ Values.LitStem s = sym is ∙ e in cc) kinds.lit_stems;
  others = no_other values value old.others.items new.others.items (λ h. subst IsOther is h) others kinds.others;
}

pub iri_stem_taken : (old new : ValuesByKind) (place : ℕ) (value : Value) (s : List ℕ) → value ≡ Values.IriStem s → new.terms.keys ≡ old.terms.keys →
    new.iri_stems.items ≡ old.iri_stems.items ++ s ∷ [] → new.lit_stems.items ≡ old.lit_stems.items → new.others.items ≡ old.others.items → TakesUp old place value new
iri_stem_taken old new place value s is terms more lits others values long kinds = record {
  terms = passed_by Values.Term old.terms.keys new.terms.keys values value terms (λ t e. let both : Values.IriStem s ≡ Values.Term t = sym is ∙ e in cc) kinds.terms;
  iri_stems = pushed_to Values.IriStem old.iri_stems.items new.iri_stems.items values value s is iri_only more kinds.iri_stems;
  lit_stems = passed_by Values.LitStem old.lit_stems.items new.lit_stems.items values value lits (λ t e. let both : Values.IriStem s ≡ Values.LitStem t = sym is ∙ e in cc) kinds.lit_stems;
  others = no_other values value old.others.items new.others.items (λ h. subst IsOther is h) others kinds.others;
}

pub lit_stem_taken : (old new : ValuesByKind) (place : ℕ) (value : Value) (s : List ℕ) → value ≡ Values.LitStem s → new.terms.keys ≡ old.terms.keys →
    new.iri_stems.items ≡ old.iri_stems.items → new.lit_stems.items ≡ old.lit_stems.items ++ s ∷ [] → new.others.items ≡ old.others.items → TakesUp old place value new
lit_stem_taken old new place value s is terms iris more others values long kinds = record {
  terms = passed_by Values.Term old.terms.keys new.terms.keys values value terms (λ t e. let both : Values.LitStem s ≡ Values.Term t = sym is ∙ e in cc) kinds.terms;
  iri_stems = passed_by Values.IriStem old.iri_stems.items new.iri_stems.items values value iris (λ t e. let both : Values.LitStem s ≡ Values.IriStem t = sym is ∙ e in cc) kinds.iri_stems;
  lit_stems = pushed_to Values.LitStem old.lit_stems.items new.lit_stems.items values value s is lit_only more kinds.lit_stems;
  others = no_other values value old.others.items new.others.items (λ h. subst IsOther is h) others kinds.others;
}

pub is_other : (value : Value) → ((t : Term) → value ≢ Values.Term t) → ((s : List ℕ) → value ≢ Values.IriStem s) → ((s : List ℕ) → value ≢ Values.LitStem s) → IsOther value
is_other (Values.Term t) no_term no_iri no_lit = no_term t refl
is_other (Values.IriStem s) no_term no_iri no_lit = no_iri s refl
is_other (Values.LitStem s) no_term no_iri no_lit = no_lit s refl
is_other (Values.Lang tag) no_term no_iri no_lit = tt
is_other (Values.LangStem stem) no_term no_iri no_lit = tt
is_other (Values.IriRange stem es) no_term no_iri no_lit = tt
is_other (Values.LitRange stem es) no_term no_iri no_lit = tt
is_other (Values.LangRange stem es) no_term no_iri no_lit = tt

pub other_taken : (old new : ValuesByKind) (place : ℕ) (value : Value) → IsOther value → new.terms.keys ≡ old.terms.keys →
    new.iri_stems.items ≡ old.iri_stems.items → new.lit_stems.items ≡ old.lit_stems.items → new.others.items ≡ old.others.items ++ place ∷ [] → TakesUp old place value new
other_taken old new place value other terms iris lits more values long kinds = record {
  terms = passed_by Values.Term old.terms.keys new.terms.keys values value terms (λ t e. subst IsOther e other) kinds.terms;
  iri_stems = passed_by Values.IriStem old.iri_stems.items new.iri_stems.items values value iris (λ s e. subst IsOther e other) kinds.iri_stems;
  lit_stems = passed_by Values.LitStem old.lit_stems.items new.lit_stems.items values value lits (λ s e. subst IsOther e other) kinds.lit_stems;
  others = one_other values value place old.others.items new.others.items long more kinds.others;
}

-- the next value
pub next_by_kind : (values : List Value) (i : ℕ) (value : Value) (old new : ValuesByKind) → i < length values → value ≡ get_or values i value →
    TakesUp old i value new → IsByKind (take i values) old → IsByKind (take (i + 1) values) new
next_by_kind values i value old new inside is taken kinds =
    subst (λ vs. IsByKind vs new) (sym (take_more values i value inside ∙ ap (λ z. take i values ++ z ∷ []) (sym is)))
    (taken (take i values) (length-take-le i values (omega (arith, inside))) kinds)

-- all values
pub all_by_kind : (values : List Value) (i : ℕ) (kinds : ValuesByKind) → length values ≤ i → IsByKind (take i values) kinds → IsByKind values kinds
all_by_kind values i kinds all h = subst (λ vs. IsByKind vs kinds) (take_all i values all) h

-- ---- the index of values by their kinds

begins_with_one : (made : List ℕ → Value) (values : List Value) (stems kept : List (List ℕ)) (text : List ℕ) →
    ((s : List ℕ) → Contains stems s ↔ Contains values (made s)) → StandFor kept stems → Any (λ s. HasPrefix s text) kept ↔ BeginsWithOne made values text
begins_with_one made values stems kept text of for = (
  λ h. let (k, s, inside, is, begins) = (for text).0 h in (s, (of s).0 (k, inside, is), begins),
  λ (s, held, begins). let (k, inside, is) = (of s).1 held in (for text).1 (k, s, inside, is, begins),
)

pub indexed : (values : List Value) (kinds : ValuesByKind) (index : ValueIndex) → IsByKind values kinds → index.terms.keys ≡ kinds.terms.keys →
    StandFor index.iri_stems.stems.items kinds.iri_stems.items → StandFor index.lit_stems.stems.items kinds.lit_stems.items → index.others.items ≡ kinds.others.items → IsIndexOf values index
indexed values kinds index by terms iris lits others = record {
  terms = λ t. subst (λ v. Contains v t ↔ Contains values (Values.Term t)) (sym terms) (by.terms t);
  iri_stems = λ iri. begins_with_one Values.IriStem values kinds.iri_stems.items index.iri_stems.stems.items iri by.iri_stems iris;
  lit_stems = λ form. begins_with_one Values.LitStem values kinds.lit_stems.items index.lit_stems.stems.items form by.lit_stems lits;
  others = λ place value at other. subst (λ v. Contains v place) (sym others) (by.others place value at other);
}

-- ---- what it tells of a term

-- a term of the index is a value
pub found_term : (values : List Value) (index : ValueIndex) (term : Term) → IsIndexOf values index → Contains index.terms.keys term → HasValue values term
found_term values index term h held = let (k, inside, is) = (h.terms term).0 held in (k, Values.Term term, inside, is, refl)

-- a stem of the index stands for a value
pub found_stem : (values : List Value) (index : ValueIndex) (term : Term) → IsIndexOf values index → AreStemsFor index term → HasValue values term
found_stem values index (Terms.Iri iri) h for = let (s, (k, inside, is), begins) = (h.iri_stems iri).0 for in (k, Values.IriStem s, inside, is, begins)
found_stem values index (Terms.Lit literal) h for = let (s, (k, inside, is), begins) = (h.lit_stems literal.lex).0 for in (k, Values.LitStem s, inside, is, begins)
found_stem values index (Terms.Blank name) h for = absurd for

-- a value at a place is one of the values
pub found_place : (values : List Value) (places : List ℕ) (term : Term) → Any (HoldsAt values term) places → HasValue values term
found_place values places term (k, place, inside, is, holds) = by (slice_get values place) refl holds
  where
    by : (o : Option Value) → slice_get values place ≡ o → IsSomeAnd o (λ value. IsValue value term) → HasValue values term
    by (Some value) at fits = (place, value, slice_get_within values place value at, get_or_from_slice_get values place value value at, fits)
    by None at fits = absurd fits

-- a value that holds for the term is found in the index
abbrev pub Found : (values : List Value) (index : ValueIndex) (term : Term) → Type 0
Found values index term = Contains index.terms.keys term ⊎ (AreStemsFor index term ⊎ Any (HoldsAt values term) index.others.items)

at_place : (values : List Value) (index : ValueIndex) (term : Term) (k : ℕ) (value : Value) → IsIndexOf values index → k < length values →
    get_or values k value ≡ value → IsOther value → IsValue value term → Any (HoldsAt values term) index.others.items
at_place values index term k value h inside is other holds =
    let at : slice_get values k ≡ Some value = slice_get-get_or values k value inside ∙ ap (λ v. Some v) is in
    let (j, within, place) = h.others k value at other in
    (j, k, within, place, subst (λ o. IsSomeAnd o (λ v. IsValue v term)) (sym at) holds)

by_iri_stem : (values : List Value) (index : ValueIndex) (term : Term) (s : List ℕ) → IsIndexOf values index → Contains values (Values.IriStem s) →
    IsValue (Values.IriStem s) term → AreStemsFor index term
by_iri_stem values index (Terms.Iri iri) s h held begins = (h.iri_stems iri).1 (s, held, begins)
by_iri_stem values index (Terms.Lit literal) s h held begins = absurd begins
by_iri_stem values index (Terms.Blank name) s h held begins = absurd begins

by_lit_stem : (values : List Value) (index : ValueIndex) (term : Term) (s : List ℕ) → IsIndexOf values index → Contains values (Values.LitStem s) →
    IsValue (Values.LitStem s) term → AreStemsFor index term
by_lit_stem values index (Terms.Iri iri) s h held begins = absurd begins
by_lit_stem values index (Terms.Lit literal) s h held begins = (h.lit_stems literal.lex).1 (s, held, begins)
by_lit_stem values index (Terms.Blank name) s h held begins = absurd begins

pub found_somewhere : (values : List Value) (index : ValueIndex) (term : Term) → IsIndexOf values index → HasValue values term → Found values index term
found_somewhere values index term h (k, Values.Term t, inside, is, holds) = inl (subst (λ z. Contains index.terms.keys z) (sym holds) ((h.terms t).1 (k, inside, is)))
found_somewhere values index term h (k, Values.IriStem s, inside, is, holds) = inr (inl (by_iri_stem values index term s h (k, inside, is) holds))
found_somewhere values index term h (k, Values.LitStem s, inside, is, holds) = inr (inl (by_lit_stem values index term s h (k, inside, is) holds))
found_somewhere values index term h (k, Values.Lang tag, inside, is, holds) = inr (inr (at_place values index term k (Values.Lang tag) h inside is tt holds))
found_somewhere values index term h (k, Values.LangStem stem, inside, is, holds) = inr (inr (at_place values index term k (Values.LangStem stem) h inside is tt holds))
found_somewhere values index term h (k, Values.IriRange stem es, inside, is, holds) = inr (inr (at_place values index term k (Values.IriRange stem es) h inside is tt holds))
found_somewhere values index term h (k, Values.LitRange stem es, inside, is, holds) = inr (inr (at_place values index term k (Values.LitRange stem es) h inside is tt holds))
found_somewhere values index term h (k, Values.LangRange stem es, inside, is, holds) = inr (inr (at_place values index term k (Values.LangRange stem es) h inside is tt holds))
