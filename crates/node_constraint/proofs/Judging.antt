-- A constraint is sound, or one cause refuses it.
use Rattle.std.proofs.Common.{◌≢◌, ℕ, ◌<◌, ◌≤◌, ◌⊎◌, inl, inr, Bool, true, false, true≢false, List, [], ◌∷◌, refl, sym, arith, Option, IsTrue}
use Rattle.std.specs.List.{AllByRecursion}
use Rattle.xs_text.specs.Decimal.{is_decimal}
use Rattle.std.specs.Prelude.{encode_utf8_all}
use Rattle.value_sets.proofs.Deciding.{decide_text}
use Rattle.lists.proofs.Decided.{Decided, decide_both, decide_either, decide_not, decide_some_and, decide_any}
use Rattle.xs_pattern.specs.declared.pattern_error.PatternError.{PatternError}
use Rattle.xs_pattern.specs.declared.pattern_error.PatternError.TheVariants as Refusals
use Rattle.xs_pattern.specs.Flagged.{AreFlags, IsSpelledUnder, SpellsUnder, are_flags}
use Rattle.xs_pattern.specs.Limits.{IsLarge, greatest, nesting, positions}
use Rattle.xs_pattern.specs.Regex.{Regex}
use Rattle.node_constraint.proofs.Spelled.{decide_spelling}
use Rattle.node_constraint.specs.Constraint.{Constraint}
use Rattle.rdf_terms.specs.Vocabulary.{xsd_double, xsd_float}
use Rattle.node_constraint.specs.Making.{range_value, IsNumeric, is_double, IsFloat, IsFloatFacet, HasFloatFacet, HasOtherNumber, PatternText, patterns_in, IsReadable, IsRefused, IsFirstRefusal, IsSound, Causes}
use Rattle.node_constraint.specs.declared.facet.Facet.{Facet}
use Rattle.node_constraint.specs.declared.facet.Facet.TheVariants as Facets
use Rattle.node_constraint.specs.declared.make_error.MakeError.{MakeError}
use Rattle.node_constraint.specs.declared.make_error.MakeError.TheVariants as Errors

decide_true : (b : Bool) → Decided (IsTrue b)
decide_true true = inl refl
decide_true false = inr (λ h. true≢false (sym h))

-- facets on floating-point numbers
decide_numeric : (f : Facet) → Decided (IsNumeric f)
decide_numeric (Facets.Length n) = inr (λ h. h)
decide_numeric (Facets.MinLength n) = inr (λ h. h)
decide_numeric (Facets.MaxLength n) = inr (λ h. h)
decide_numeric (Facets.Pattern p flags) = inr (λ h. h)
decide_numeric (Facets.MinInclusive x) = inl tt
decide_numeric (Facets.MinExclusive x) = inl tt
decide_numeric (Facets.MaxInclusive x) = inl tt
decide_numeric (Facets.MaxExclusive x) = inl tt
decide_numeric (Facets.TotalDigits n) = inl tt
decide_numeric (Facets.FractionDigits n) = inl tt

decide_float_type : (datatype : Option (List ℕ)) → Decided (IsFloat datatype)
decide_float_type datatype = decide_some_and datatype _ (λ iri. decide_either (decide_text iri xsd_float) (decide_text iri xsd_double))

decide_float_facet : (datatype : Option (List ℕ)) (f : Facet) → Decided (IsFloatFacet datatype f)
decide_float_facet datatype f = decide_either (decide_some_and (range_value f) _ (λ x. decide_true (is_double x))) (decide_both (decide_float_type datatype) (decide_numeric f))

decide_floats : (datatype : Option (List ℕ)) (fs : List Facet) → Decided (HasFloatFacet datatype fs)
decide_floats datatype fs = decide_any (IsFloatFacet datatype) (decide_float_facet datatype) fs

-- range values that are no decimals
decide_others : (fs : List Facet) → Decided (HasOtherNumber fs)
decide_others fs = decide_any _ (λ f. decide_some_and (range_value f) _ (λ x. decide_not (decide_true (is_decimal (encode_utf8_all x))))) fs

-- patterns
order : (a b : ℕ) → (a < b) ⊎ (b ≤ a)
order a b = grind arith

decide_large : (e : Regex) → Decided (IsLarge e)
decide_large e = by (order 4096 (greatest e)) (order 64 (nesting e)) (order 4096 (positions e))
  where
    by : (4096 < greatest e) ⊎ (greatest e ≤ 4096) → (64 < nesting e) ⊎ (nesting e ≤ 64) → (4096 < positions e) ⊎ (positions e ≤ 4096) → Decided (IsLarge e)
    by (inl a) b c = inl (inl a)
    by (inr a) (inl b) c = inl (inr (inl b))
    by (inr a) (inr b) (inl c) = inl (inr (inr c))
    by (inr a) (inr b) (inr c) = inr none
      where
        none : IsLarge e → ⊥
        none (inl h) = omega (arith, h, a)
        none (inr (inl h)) = omega (arith, h, b)
        none (inr (inr h)) = omega (arith, h, c)

abbrev Told : PatternText → Type 0
Told p = IsReadable p ⊎ ((e : PatternError) × IsRefused e p)

by_size : (p : PatternText) (e : Regex) → AreFlags p.flags → SpellsUnder p.flags e p.pattern → Decided (IsLarge e) → Told p
by_size p e known s (inl large) = inr (Refusals.Large, (known, (e, s, large)))
by_size p e known s (inr small) = inl (known, (e, s, small))

by_spelling : (p : PatternText) → AreFlags p.flags → IsSpelledUnder p.flags p.pattern ⊎ (¬ IsSpelledUnder p.flags p.pattern) → Told p
by_spelling p known (inl (e, s)) = by_size p e known s (decide_large e)
by_spelling p known (inr none) = inr (Refusals.Syntax, (known, none))

by_flags : (p : PatternText) → Decided (AreFlags p.flags) → Told p
by_flags p (inl known) = by_spelling p known (decide_spelling p.flags p.pattern)
by_flags p (inr unknown) = inr (Refusals.Flag, unknown)

told : (p : PatternText) → Told p
told p = by_flags p (decide_true (are_flags p.flags))

all_told : (ps : List PatternText) → AllByRecursion IsReadable ps ⊎ ((e : PatternError) × IsFirstRefusal e ps)
all_told [] = inl tt
all_told (p ∷ ps) = go (told p) (all_told ps)
  where
    go : Told p → AllByRecursion IsReadable ps ⊎ ((e : PatternError) × IsFirstRefusal e ps) → AllByRecursion IsReadable (p ∷ ps) ⊎ ((e : PatternError) × IsFirstRefusal e (p ∷ ps))
    go (inr (e, h)) rest = inr (e, inl h)
    go (inl h) (inr (e, k)) = inr (e, inr (h, k))
    go (inl h) (inl k) = inl (h, k)

-- sound, or refused for a cause that is no want of memory
abbrev pub Judged : Constraint → Type 0
Judged c = IsSound c.datatype c.facets ⊎ ((e : MakeError) × Causes c.datatype c.facets e × (e ≢ Errors.Memory))

by_patterns : (c : Constraint) → (¬ HasFloatFacet c.datatype c.facets) → (¬ HasOtherNumber c.facets)
    → AllByRecursion IsReadable (patterns_in c.facets) ⊎ ((e : PatternError) × IsFirstRefusal e (patterns_in c.facets)) → Judged c
by_patterns c no_float decimal (inl all) = inl (record { no_float = no_float; decimal = decimal; readable = all })
by_patterns c no_float decimal (inr (e, h)) = inr (Errors.Pattern e, (no_float, (decimal, h)), λ is. absurd cc)

by_numbers : (c : Constraint) → (¬ HasFloatFacet c.datatype c.facets) → Decided (HasOtherNumber c.facets) → Judged c
by_numbers c no_float (inl h) = inr (Errors.FacetNumber, (no_float, h), λ is. absurd cc)
by_numbers c no_float (inr decimal) = by_patterns c no_float decimal (all_told (patterns_in c.facets))

by_floats : (c : Constraint) → Decided (HasFloatFacet c.datatype c.facets) → Judged c
by_floats c (inl h) = inr (Errors.FloatFacet, h, λ is. absurd cc)
by_floats c (inr no_float) = by_numbers c no_float (decide_others c.facets)

pub judged : (c : Constraint) → Judged c
judged c = by_floats c (decide_floats c.datatype c.facets)
