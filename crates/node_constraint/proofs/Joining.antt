-- Facets hold where those that are no patterns hold and each pattern is found.
use Rattle.std.proofs.Common.{◌≡◌, ℕ, Bool, true, false, true≢false, List, [], ◌∷◌, Option, Some, None, IsTrue, ◌↔◌, subst, sym, inl, inr, refl, Result, Ok, Err, IfOk}
use Rattle.std.proofs.Math.Logic.{∥∥₁_elim, ∥∥₁_map}
use Rattle.std.proofs.Props.{props}
use Rattle.std.specs.List.{AllByRecursion}
use Rattle.std.specs.declared.alloc.AllocError.{AllocError}
use Rattle.lists.proofs.Decided.{Decided}
use Rattle.xs_pattern.proofs.Answered.{one_under}
use Rattle.xs_pattern.specs.declared.expression.Flags.{Flags}
use Rattle.xs_pattern.specs.declared.pattern.Pattern.{Pattern}
use Rattle.xs_pattern.specs.Flagged.{flags_named}
use Rattle.xs_pattern.specs.Language.{IsFound}
use Rattle.xs_pattern.specs.Patterns.{regex}
use Rattle.xs_pattern.specs.Regex.{Regex}
use Rattle.node_constraint.specs.declared.facet.Facet.{Facet}
use Rattle.node_constraint.specs.declared.facet.Facet.TheVariants as Facets
use Rattle.rdf_terms.specs.declared.terms.Term.{Term}
use Rattle.node_constraint.specs.Constraint.{Constraint}
use Rattle.node_constraint.specs.Datatypes.{decimal_of}
use Rattle.node_constraint.specs.Facets.{HasPattern, SatFacet, text_of}
use Rattle.node_constraint.specs.Held.{AreReadFrom, Fits, IsFoundIn, IsReadFrom, SatLength, SatNumber, SatPlain}
use Rattle.node_constraint.specs.Making.{IsNumeric, PatternText, patterns_in}
use Rattle.node_constraint.specs.SatNode.{SatNode}
use Rattle.node_constraint.proofs.Deciding.{decide_facets}

-- a pattern that is read is found where its text's is
pub same_pattern : (t : PatternText) (p : Pattern) (text : List ℕ) → IsReadFrom t p → IsFoundIn text p ↔ HasPattern t.pattern t.flags text
same_pattern t p text read = (
  λ h. (regex p, read.spelled, subst (λ (f : Flags). IsFound f text (regex p)) read.flags h),
  λ h. subst (λ (f : Flags). IsFound f text (regex p)) (sym read.flags)
      (subst (λ (e : Regex). IsFound (flags_named t.flags) text e) (one_under t.flags t.pattern h.0 (regex p) h.1 read.spelled) h.2),
)

kept : {P A B C : Type 0} → (A × B) ↔ C → ((P × A) × B) ↔ (P × C)
kept h = (λ t. (t.0.0, h.0 (t.0.1, t.1)), λ t. let r = h.1 t.1 in ((t.0, r.0), r.1))

added : {A B C F S : Type 0} → F ↔ S → (A × B) ↔ C → ((Unit {0} × A) × (F × B)) ↔ (S × C)
added f h = (λ t. (f.0 t.1.0, h.0 (t.0.1, t.1.1)), λ t. let r = h.1 t.1 in ((tt, r.0), (f.1 t.0, r.1)))

module _ (text : List ℕ) (decimal : Option (List ℕ)) where
  abbrev ArePlain : List Facet → Type 0
  ArePlain facets = AllByRecursion (λ facet. SatPlain facet text decimal) facets

  abbrev AreSat : List Facet → Type 0
  AreSat facets = AllByRecursion (λ facet. SatFacet facet text decimal) facets

  joined : (facets : List Facet) (ps : List Pattern) → AreReadFrom (patterns_in facets) ps → (ArePlain facets × AllByRecursion (IsFoundIn text) ps) ↔ AreSat facets
  joined [] [] read = (λ _. tt, λ _. (tt, tt))
  joined [] (p ∷ ps) read = absurd read
  joined (Facets.Length n ∷ fs) ps read = kept (joined fs ps read)
  joined (Facets.MinLength n ∷ fs) ps read = kept (joined fs ps read)
  joined (Facets.MaxLength n ∷ fs) ps read = kept (joined fs ps read)
  joined (Facets.MinInclusive b ∷ fs) ps read = kept (joined fs ps read)
  joined (Facets.MinExclusive b ∷ fs) ps read = kept (joined fs ps read)
  joined (Facets.MaxInclusive b ∷ fs) ps read = kept (joined fs ps read)
  joined (Facets.MaxExclusive b ∷ fs) ps read = kept (joined fs ps read)
  joined (Facets.TotalDigits n ∷ fs) ps read = kept (joined fs ps read)
  joined (Facets.FractionDigits n ∷ fs) ps read = kept (joined fs ps read)
  joined (Facets.Pattern pattern flags ∷ fs) [] read = absurd read
  joined (Facets.Pattern pattern flags ∷ fs) (p ∷ ps) read =
      added (same_pattern (record { pattern = pattern; flags = flags }) p text read.0) (joined fs ps read.1)

  -- where it is only known that the patterns are read so
  pub unsealed : {D : Type 0} (b : Bool) → Decided D → ∥ IsTrue b ↔ D ∥₁ → IsTrue b ↔ D
  unsealed b (inl d) sealed = (λ h. d, λ h. ∥∥₁_elim sealed (hlevel props) (λ both. both.1 d))
  unsealed b (inr none) sealed = (
    λ h. absurd (∥∥₁_elim sealed (hlevel props) (λ both. none (both.0 h))),
    λ d. absurd (none d),
  )

  pub all_joined : (facets : List Facet) (ps : List Pattern) (b : Bool) → ∥ AreReadFrom (patterns_in facets) ps ∥₁ → ArePlain facets →
      IsTrue b ↔ AllByRecursion (IsFoundIn text) ps → IsTrue b ↔ AreSat facets
  all_joined facets ps b sealed plain found =
      unsealed b (decide_facets facets text decimal) (∥∥₁_map sealed (λ read.
      let both = joined facets ps read in
      (λ h. both.0 (plain, found.0 h), λ h. found.1 (both.1 h).1)))

  -- a facet holds as one that is no pattern, too
  plain_of : (facets : List Facet) → AreSat facets → ArePlain facets
  plain_of [] h = tt
  plain_of (Facets.Length n ∷ fs) h = (h.0, plain_of fs h.1)
  plain_of (Facets.MinLength n ∷ fs) h = (h.0, plain_of fs h.1)
  plain_of (Facets.MaxLength n ∷ fs) h = (h.0, plain_of fs h.1)
  plain_of (Facets.MinInclusive b ∷ fs) h = (h.0, plain_of fs h.1)
  plain_of (Facets.MinExclusive b ∷ fs) h = (h.0, plain_of fs h.1)
  plain_of (Facets.MaxInclusive b ∷ fs) h = (h.0, plain_of fs h.1)
  plain_of (Facets.MaxExclusive b ∷ fs) h = (h.0, plain_of fs h.1)
  plain_of (Facets.TotalDigits n ∷ fs) h = (h.0, plain_of fs h.1)
  plain_of (Facets.FractionDigits n ∷ fs) h = (h.0, plain_of fs h.1)
  plain_of (Facets.Pattern pattern flags ∷ fs) h = (tt, plain_of fs h.1)

  pub not_plain : (facets : List Facet) → (¬ ArePlain facets) → ¬ AreSat facets
  not_plain facets none h = none (plain_of facets h)

-- with a decimal text, and without one
pub with_decimal : (facet : Facet) (text d : List ℕ) → (SatLength facet text × SatNumber facet d) ↔ SatPlain facet text (Some d)
with_decimal (Facets.Length n) text d = (λ p. p.0, λ h. (h, tt))
with_decimal (Facets.MinLength n) text d = (λ p. p.0, λ h. (h, tt))
with_decimal (Facets.MaxLength n) text d = (λ p. p.0, λ h. (h, tt))
with_decimal (Facets.MinInclusive b) text d = (λ p. p.1, λ h. (tt, h))
with_decimal (Facets.MinExclusive b) text d = (λ p. p.1, λ h. (tt, h))
with_decimal (Facets.MaxInclusive b) text d = (λ p. p.1, λ h. (tt, h))
with_decimal (Facets.MaxExclusive b) text d = (λ p. p.1, λ h. (tt, h))
with_decimal (Facets.TotalDigits n) text d = (λ p. p.1, λ h. (tt, h))
with_decimal (Facets.FractionDigits n) text d = (λ p. p.1, λ h. (tt, h))
with_decimal (Facets.Pattern pattern flags) text d = (λ p. tt, λ h. (tt, tt))

pub without_decimal : (facet : Facet) (text : List ℕ) → (SatLength facet text × (¬ IsNumeric facet)) ↔ SatPlain facet text None
without_decimal (Facets.Length n) text = (λ p. p.0, λ h. (h, λ x. x))
without_decimal (Facets.MinLength n) text = (λ p. p.0, λ h. (h, λ x. x))
without_decimal (Facets.MaxLength n) text = (λ p. p.0, λ h. (h, λ x. x))
without_decimal (Facets.MinInclusive b) text = (λ p. p.1 tt, λ h. absurd h)
without_decimal (Facets.MinExclusive b) text = (λ p. p.1 tt, λ h. absurd h)
without_decimal (Facets.MaxInclusive b) text = (λ p. p.1 tt, λ h. absurd h)
without_decimal (Facets.MaxExclusive b) text = (λ p. p.1 tt, λ h. absurd h)
without_decimal (Facets.TotalDigits n) text = (λ p. p.1 tt, λ h. absurd h)
without_decimal (Facets.FractionDigits n) text = (λ p. p.1 tt, λ h. absurd h)
without_decimal (Facets.Pattern pattern flags) text = (λ p. tt, λ h. (tt, λ x. x))

-- all of a constraint is its facets and the rest
pub all_of : (c : Constraint) (term : Term) (b : Bool) → Fits c term → IsTrue b ↔ AllByRecursion (λ facet. SatFacet facet (text_of term) (decimal_of term)) c.facets → IsTrue b ↔ SatNode c term
all_of c term b fits all = (
  λ h. record { kind = fits.0; datatype = fits.1.0; facets = all.0 h; values = fits.1.1 },
  λ s. all.1 s.facets,
)

pub none_of : (c : Constraint) (term : Term) → (¬ Fits c term) → IsTrue false ↔ SatNode c term
none_of c term none = (λ h. absurd (true≢false (sym h)), λ s. absurd (none (s.kind, (s.datatype, s.values))))

-- a result says whether all of a constraint holds, where the facets are those of the constraint
pub held : (c : Constraint) (fs : List Facet) (term : Term) (r : Result Bool AllocError) → fs ≡ c.facets → Fits c term →
    IfOk r (λ b. IsTrue b ↔ AllByRecursion (λ facet. SatFacet facet (text_of term) (decimal_of term)) fs) → IfOk r (λ b. IsTrue b ↔ SatNode c term)
held c fs term (Ok b) same fits all =
    all_of c term b fits (subst (λ gs. IsTrue b ↔ AllByRecursion (λ facet. SatFacet facet (text_of term) (decimal_of term)) gs) same all)
held c fs term (Err e) same fits all = tt

pub no_facets : (c : Constraint) (term : Term) → Fits c term → c.facets ≡ [] → IsTrue true ↔ SatNode c term
no_facets c term fits none =
    all_of c term true fits (subst (λ fs. IsTrue true ↔ AllByRecursion (λ facet. SatFacet facet (text_of term) (decimal_of term)) fs) (sym none) (λ _. tt, λ _. refl))

pub found_all : (text : List ℕ) (decimal : Option (List ℕ)) (facets : List Facet) (ps : List Pattern) (r : Result Bool AllocError) → ∥ AreReadFrom (patterns_in facets) ps ∥₁ →
    AllByRecursion (λ facet. SatPlain facet text decimal) facets → IfOk r (λ b. IsTrue b ↔ AllByRecursion (IsFoundIn text) ps) →
    IfOk r (λ b. IsTrue b ↔ AllByRecursion (λ facet. SatFacet facet text decimal) facets)
found_all text decimal facets ps (Ok b) sealed plain found = all_joined text decimal facets ps b sealed plain found
found_all text decimal facets ps (Err e) sealed plain found = tt

-- facets on a text and a decimal text that are those of the term
pub of_term : (facets : List Facet) (t text : List ℕ) (d decimal : Option (List ℕ)) (r : Result Bool AllocError) → t ≡ text → d ≡ decimal →
    IfOk r (λ b. IsTrue b ↔ AllByRecursion (λ facet. SatFacet facet t d) facets) → IfOk r (λ b. IsTrue b ↔ AllByRecursion (λ facet. SatFacet facet text decimal) facets)
of_term facets t text d decimal r is_text is_decimal h =
    subst (λ z. IfOk r (λ b. IsTrue b ↔ AllByRecursion (λ facet. SatFacet facet text z) facets)) is_decimal
    (subst (λ z. IfOk r (λ b. IsTrue b ↔ AllByRecursion (λ facet. SatFacet facet z d) facets)) is_text h)
