-- Which facets may stand beside a datatype, and that all of them may.
use Rattle.std.proofs.Common.{◌≡◌, ◌≢◌, ◌⊎◌, inl, inr, ℕ, Bool, true, false, List, [], ◌∷◌, ◌++◌, Option, Result, Ok, Err, refl, sym, ap, ◌∙◌, subst, Any, zero, suc, arith}
use Rattle.std.proofs.lemmas.Grind.{flat_map-append}
use Rattle.std.specs.List.{AllByRecursion}
use Rattle.lists.proofs.Quantifiers.{all_append}
use Rattle.rdf_cursor.specs.Ahead.{Ahead}
use Rattle.rdf_cursor.specs.Phrases.{Is}
use Rattle.rdf_lex.specs.Tokens.{Spelled}
use Rattle.xs_pattern.specs.declared.pattern_error.PatternError.{PatternError}
use Rattle.xs_pattern.specs.declared.pattern_error.PatternError.TheVariants as refusal
use Rattle.xs_pattern.specs.Limits.{IsLarge}
use Rattle.xs_pattern.proofs.Answered.{one_under}
use Rattle.node_constraint.specs.declared.facet.Facet.{Facet}
use Rattle.node_constraint.specs.declared.facet.Facet.TheVariants as facets
use Rattle.node_constraint.specs.declared.make_error.MakeError.{MakeError}
use Rattle.node_constraint.specs.declared.make_error.MakeError.TheVariants as errors
use Rattle.node_constraint.specs.Making.{PatternText, pattern_in, patterns_in, IsReadable, IsRefused, IsFirstRefusal, IsSound, Causes}
use Rattle.node_constraint.proofs.Judging.{Judged, judged}
use Rattle.shexc_constraints.specs.declared.faults.Fault.{Fault}
use Rattle.shexc_constraints.specs.declared.faults.Fault.TheVariants as fault
use Rattle.shexc_constraints.specs.Facets.{IsPattern, IsAdmitted, fault_of, refused_pattern, refused_by, alone, judged_by, judged_facet, admitted}

ok_same : (x y : Facet) → Path (Result Facet Fault) (Ok x) (Ok y) → x ≡ y
ok_same x y e = cc

no_ok : (f : Fault) (y : Facet) → Path (Result Facet Fault) (Err f) (Ok y) → ⊥
no_ok f y e = cc

-- what is read within the limits is a pattern
readable_is : (b : Bool) (p : PatternText) → IsReadable p → IsPattern b p
readable_is true p h = h
readable_is false p (known, (e, s, small)) = (known, (e, s))

readables_are : (b : Bool) (ps : List PatternText) → AllByRecursion IsReadable ps → AllByRecursion (IsPattern b) ps
readables_are b [] h = tt
readables_are b (p ∷ ps) (h, k) = (readable_is b p h, readables_are b ps k)

-- the only pattern of a facet, if it is too large, is one
large_is : (f : Facet) → IsFirstRefusal refusal.Large (patterns_in (f ∷ [])) → AllByRecursion (IsPattern false) (patterns_in (f ∷ []))
large_is (facets.Pattern text flags) (inl (known, (e, s, large))) = ((known, (e, s)), tt)
large_is (facets.Pattern text flags) (inr (r, h)) = absurd h
large_is (facets.Length n) h = absurd h
large_is (facets.MinLength n) h = absurd h
large_is (facets.MaxLength n) h = absurd h
large_is (facets.MinInclusive n) h = absurd h
large_is (facets.MinExclusive n) h = absurd h
large_is (facets.MaxInclusive n) h = absurd h
large_is (facets.MaxExclusive n) h = absurd h
large_is (facets.TotalDigits n) h = absurd h
large_is (facets.FractionDigits n) h = absurd h

-- what is a pattern is refused as too large alone
not_refused_pattern : (e : PatternError) (p : PatternText) → IsPattern false p → IsRefused e p → e ≡ refusal.Large
not_refused_pattern refusal.Large p h k = refl
not_refused_pattern refusal.Flag p (known, s) h = absurd (h known)
not_refused_pattern refusal.Syntax p (known, s) h = absurd (h.1 s)
not_refused_pattern refusal.Memory p h k = absurd k

only_large : (e : PatternError) (ps : List PatternText) → AllByRecursion (IsPattern false) ps → IsFirstRefusal e ps → e ≡ refusal.Large
only_large e [] all h = absurd h
only_large e (p ∷ ps) (h, all) (inl k) = not_refused_pattern e p h k
only_large e (p ∷ ps) (h, all) (inr (r, k)) = only_large e ps all k

-- a pattern is read, or refused for one cause
not_both : (e : PatternError) (p : PatternText) → IsReadable p → IsRefused e p → ⊥
not_both refusal.Flag p (known, r) h = h known
not_both refusal.Syntax p (known, (e, s, small)) h = h.1 (e, s)
not_both refusal.Large p (known, (e, s, small)) (again, (d, t, large)) = small (subst IsLarge (one_under p.flags p.pattern d e t s) large)
not_both refusal.Memory p r h = h

one_refusal : (d e : PatternError) (p : PatternText) → IsRefused d p → IsRefused e p → d ≡ e
one_refusal refusal.Flag refusal.Flag p h k = refl
one_refusal refusal.Flag refusal.Syntax p h k = absurd (h k.0)
one_refusal refusal.Flag refusal.Large p h k = absurd (h k.0)
one_refusal refusal.Syntax refusal.Flag p h k = absurd (k h.0)
one_refusal refusal.Syntax refusal.Syntax p h k = refl
one_refusal refusal.Syntax refusal.Large p h (known, (e, s, l)) = absurd (h.1 (e, s))
one_refusal refusal.Large refusal.Flag p h k = absurd (k h.0)
one_refusal refusal.Large refusal.Syntax p (known, (e, s, l)) k = absurd (k.1 (e, s))
one_refusal refusal.Large refusal.Large p h k = refl
one_refusal refusal.Memory e p h k = absurd h
one_refusal d refusal.Memory p h k = absurd k

not_first : (e : PatternError) (ps : List PatternText) → AllByRecursion IsReadable ps → IsFirstRefusal e ps → ⊥
not_first e [] all h = h
not_first e (p ∷ ps) (r, all) (inl h) = not_both e p r h
not_first e (p ∷ ps) (r, all) (inr (s, h)) = not_first e ps all h

one_first : (d e : PatternError) (ps : List PatternText) → IsFirstRefusal d ps → IsFirstRefusal e ps → d ≡ e
one_first d e [] h k = absurd h
one_first d e (p ∷ ps) (inl h) (inl k) = one_refusal d e p h k
one_first d e (p ∷ ps) (inl h) (inr (r, k)) = absurd (not_both d p r h)
one_first d e (p ∷ ps) (inr (r, h)) (inl k) = absurd (not_both e p r k)
one_first d e (p ∷ ps) (inr (r, h)) (inr (s, k)) = one_first d e ps h k

-- a sound constraint is refused for no cause, and a refused one for one
not_refused : (datatype : Option (List ℕ)) (fs : List Facet) (e : MakeError) → IsSound datatype fs → Causes datatype fs e → (e ≢ errors.Memory) → ⊥
not_refused datatype fs errors.FloatFacet s h n = s.no_float h
not_refused datatype fs errors.FacetNumber s h n = s.decimal h.1
not_refused datatype fs (errors.Pattern e) s (a, (b, h)) n = not_first e (patterns_in fs) s.readable h
not_refused datatype fs errors.Memory s h n = n refl

one_cause : (datatype : Option (List ℕ)) (fs : List Facet) (d e : MakeError) → Causes datatype fs d → Causes datatype fs e → (d ≢ errors.Memory) → (e ≢ errors.Memory) → d ≡ e
one_cause datatype fs errors.FloatFacet errors.FloatFacet h k m n = refl
one_cause datatype fs errors.FloatFacet errors.FacetNumber h k m n = absurd (k.0 h)
one_cause datatype fs errors.FloatFacet (errors.Pattern e) h k m n = absurd (k.0 h)
one_cause datatype fs errors.FacetNumber errors.FloatFacet h k m n = absurd (h.0 k)
one_cause datatype fs errors.FacetNumber errors.FacetNumber h k m n = refl
one_cause datatype fs errors.FacetNumber (errors.Pattern e) h (a, (b, k)) m n = absurd (b h.1)
one_cause datatype fs (errors.Pattern d) errors.FloatFacet h k m n = absurd (h.0 k)
one_cause datatype fs (errors.Pattern d) errors.FacetNumber (a, (b, h)) k m n = absurd (b k.1)
one_cause datatype fs (errors.Pattern d) (errors.Pattern e) (a, (b, h)) (c, (f, k)) m n = ap errors.Pattern (one_first d e (patterns_in fs) h k)
one_cause datatype fs errors.Memory e h k m n = absurd (m refl)
one_cause datatype fs d errors.Memory h k m n = absurd (n refl)

-- what is judged is admitted
sound_pattern : (b : Bool) (datatype : Option (List ℕ)) (f g : Facet) (e : PatternError) → Causes datatype (f ∷ []) (errors.Pattern e) →
    refused_pattern b f e ≡ Ok g → (f ≡ g) × IsAdmitted b datatype f
sound_pattern true datatype f g e h is = absurd (no_ok (fault.Pattern e) g is)
sound_pattern false datatype f g refusal.Large h is = (ok_same f g is, record { no_float = h.0; decimal = h.1.0; patterns = large_is f h.1.1 })
sound_pattern false datatype f g refusal.Flag h is = absurd (no_ok (fault.Pattern refusal.Flag) g is)
sound_pattern false datatype f g refusal.Syntax h is = absurd (no_ok (fault.Pattern refusal.Syntax) g is)
sound_pattern false datatype f g refusal.Memory h is = absurd (no_ok (fault.Pattern refusal.Memory) g is)

sound_refused : (b : Bool) (datatype : Option (List ℕ)) (f g : Facet) (e : MakeError) → Causes datatype (f ∷ []) e → refused_by b f e ≡ Ok g → (f ≡ g) × IsAdmitted b datatype f
sound_refused b datatype f g errors.FloatFacet h is = absurd (no_ok fault.FloatFacet g is)
sound_refused b datatype f g errors.FacetNumber h is = absurd (no_ok fault.FacetNumber g is)
sound_refused b datatype f g (errors.Pattern e) h is = sound_pattern b datatype f g e h is
sound_refused b datatype f g errors.Memory h is = absurd (no_ok fault.Syntax g is)

sound_judged : (b : Bool) (datatype : Option (List ℕ)) (f g : Facet) (j : Judged (alone datatype f)) → judged_by b datatype f j ≡ Ok g → (f ≡ g) × IsAdmitted b datatype f
sound_judged b datatype f g (inl s) is = (ok_same f g is, record { no_float = s.no_float; decimal = s.decimal; patterns = readables_are b (patterns_in (f ∷ [])) s.readable })
sound_judged b datatype f g (inr (e, h, n)) is = sound_refused b datatype f g e h is

sound_admitted : (b : Bool) (datatype : Option (List ℕ)) (c : Result Facet Fault) (f : Facet) → admitted b datatype c ≡ Ok f → IsAdmitted b datatype f × (c ≡ Ok f)
unfolding judged_facet
sound_admitted b datatype (Ok g) f is = let a = sound_judged b datatype g f (judged (alone datatype g)) is in (subst (IsAdmitted b datatype) a.0 a.1, ap Ok a.0)
sound_admitted b datatype (Err e) f is = absurd (no_ok e f is)

pub admitted_is : (b : Bool) (datatype : Option (List ℕ)) (class : Spelled → Result Facet Fault) (f : Facet) (ts r : Ahead Spelled) →
    Is (λ t. admitted b datatype (class t)) f ts r → IsAdmitted b datatype f × Is class f ts r
admitted_is b datatype class f ts r (t, e, h) = let a = sound_admitted b datatype (class t) f h in (a.0, (t, e, a.1))

-- what is admitted is judged so
judged_pattern : (b : Bool) (datatype : Option (List ℕ)) (f : Facet) (e : PatternError) → IsAdmitted b datatype f → Causes datatype (f ∷ []) (errors.Pattern e) → refused_pattern b f e ≡ Ok f
judged_pattern true datatype f e a h = absurd (not_first e (patterns_in (f ∷ [])) a.patterns h.1.1)
judged_pattern false datatype f e a h = rw (only_large e (patterns_in (f ∷ [])) a.patterns h.1.1) refl

judged_refused : (b : Bool) (datatype : Option (List ℕ)) (f : Facet) (e : MakeError) → IsAdmitted b datatype f → Causes datatype (f ∷ []) e → (e ≢ errors.Memory) → refused_by b f e ≡ Ok f
judged_refused b datatype f errors.FloatFacet a h n = absurd (a.no_float h)
judged_refused b datatype f errors.FacetNumber a h n = absurd (a.decimal h.1)
judged_refused b datatype f (errors.Pattern e) a h n = judged_pattern b datatype f e a h
judged_refused b datatype f errors.Memory a h n = absurd (n refl)

judged_ok_by : (b : Bool) (datatype : Option (List ℕ)) (f : Facet) (j : Judged (alone datatype f)) → IsAdmitted b datatype f → judged_by b datatype f j ≡ Ok f
judged_ok_by b datatype f (inl s) a = refl
judged_ok_by b datatype f (inr (e, h, n)) a = judged_refused b datatype f e a h n

judged_ok : (b : Bool) (datatype : Option (List ℕ)) (f : Facet) → IsAdmitted b datatype f → judged_facet b datatype f ≡ Ok f
unfolding judged_facet
judged_ok b datatype f a = judged_ok_by b datatype f (judged (alone datatype f)) a

pub is_admitted : (b : Bool) (datatype : Option (List ℕ)) (class : Spelled → Result Facet Fault) (f : Facet) (ts r : Ahead Spelled) → IsAdmitted b datatype f →
    Is class f ts r → Is (λ t. admitted b datatype (class t)) f ts r
is_admitted b datatype class f ts r a (t, e, h) = (t, e, ap (admitted b datatype) h ∙ judged_ok b datatype f a)

-- the answers of the code for a single facet
pub sound_is_judged : (datatype : Option (List ℕ)) (f : Facet) → IsSound datatype (f ∷ []) → judged_facet true datatype f ≡ Ok f
sound_is_judged datatype f s = judged_ok true datatype f (record { no_float = s.no_float; decimal = s.decimal; patterns = readables_are true (patterns_in (f ∷ [])) s.readable })

refused_true : (f : Facet) (e : MakeError) → refused_by true f e ≡ Err (fault_of e)
refused_true f errors.FloatFacet = refl
refused_true f errors.FacetNumber = refl
refused_true f (errors.Pattern e) = refl
refused_true f errors.Memory = refl

refused_judged_by : (datatype : Option (List ℕ)) (f : Facet) (e : MakeError) (j : Judged (alone datatype f)) → Causes datatype (f ∷ []) e →
    (e ≢ errors.Memory) → judged_by true datatype f j ≡ Err (fault_of e)
refused_judged_by datatype f e (inl s) h n = absurd (not_refused datatype (f ∷ []) e s h n)
refused_judged_by datatype f e (inr (d, k, m)) h n = refused_true f d ∙ ap (λ (x : MakeError). Err (fault_of x)) (one_cause datatype (f ∷ []) d e k h m n)

pub refused_is_judged : (datatype : Option (List ℕ)) (f : Facet) (e : MakeError) → Causes datatype (f ∷ []) e → (e ≢ errors.Memory) → judged_facet true datatype f ≡ Err (fault_of e)
unfolding judged_facet
refused_is_judged datatype f e h n = refused_judged_by datatype f e (judged (alone datatype f)) h n

-- one more sound facet
first_or_later : {X : Type 0} (P : X → Type 0) (x : X) (xs : List X) → Any P (x ∷ xs) → P x ⊎ Any P xs
first_or_later P x xs (zero, y, within, is, p) = inl (subst P (sym is) p)
first_or_later P x xs (suc k, y, within, is, p) = inr (k, y, omega arith, is, p)

any_more : {X : Type 0} (P : X → Type 0) (xs : List X) (y : X) → Any P (xs ++ y ∷ []) → Any P xs ⊎ Any P (y ∷ [])
any_more P [] y h = inr h
any_more P (x ∷ xs) y h = elim (first_or_later P x (xs ++ y ∷ []) h) [
  | inl p ↦ inl (0, x, omega arith, refl, p)
  | inr later ↦ elim (any_more P xs y later) [ inl (k, z, within, is, p) ↦ inl (suc k, z, omega arith, is, p) | inr q ↦ inr q ]
]

none_more : {X : Type 0} (P : X → Type 0) (xs : List X) (y : X) → (¬ Any P xs) → (¬ Any P (y ∷ [])) → ¬ Any P (xs ++ y ∷ [])
none_more P xs y h k all = elim (any_more P xs y all) [ inl p ↦ h p | inr q ↦ k q ]

pub sound_more : (datatype : Option (List ℕ)) (fs : List Facet) (f : Facet) → IsSound datatype fs → IsSound datatype (f ∷ []) → IsSound datatype (fs ++ f ∷ [])
sound_more datatype fs f s t = record {
  no_float = none_more _ fs f s.no_float t.no_float;
  decimal = none_more _ fs f s.decimal t.decimal;
  readable = subst (AllByRecursion IsReadable) (sym (flat_map-append pattern_in fs (f ∷ []))) (all_append IsReadable (patterns_in fs) (patterns_in (f ∷ [])) s.readable t.readable);
}

pub sound_none : (datatype : Option (List ℕ)) → IsSound datatype []
sound_none datatype = record { no_float = λ h. absurd (omega (arith, h.2)); decimal = λ h. absurd (omega (arith, h.2)); readable = tt }
