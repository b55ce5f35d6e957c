-- Which facets may stand in a constraint (ShEx 2.1, section 5.4).
use Rattle.std.specs.Prelude.{ℕ, Bool, true, false, ◌&&◌, not, List, [], ◌∷◌, Option, None, Result, Ok, Err, if◌then◌else◌}
use Rattle.std.proofs.Common.{inl, inr}
use Rattle.std.specs.List.{list_any, AllByRecursion}
use Rattle.rdf_cursor.specs.Symbols.{symbol_of, same_symbol, is_among}
use Rattle.rdf_cursor.specs.declared.symbols.Symbol.{Symbol}
use Rattle.rdf_cursor.specs.declared.symbols.Symbol.TheVariants as symbol
use Rattle.rdf_lex.specs.Tokens.{Spelled}
use Rattle.xs_pattern.specs.declared.pattern_error.PatternError.{PatternError}
use Rattle.xs_pattern.specs.declared.pattern_error.PatternError.TheVariants as refusal
use Rattle.xs_pattern.specs.Flagged.{AreFlags, IsSpelledUnder}
use Rattle.node_constraint.specs.Constraint.{Constraint}
use Rattle.node_constraint.specs.Making.{HasFloatFacet, HasOtherNumber, PatternText, patterns_in, IsReadable}
use Rattle.node_constraint.specs.declared.facet.Facet.{Facet}
use Rattle.node_constraint.specs.declared.facet.Facet.TheVariants as facets
use Rattle.node_constraint.specs.declared.make_error.MakeError.{MakeError}
use Rattle.node_constraint.specs.declared.make_error.MakeError.TheVariants as errors
use Rattle.node_constraint.proofs.Judging.{Judged, judged}
use Rattle.shexc_constraints.specs.declared.faults.Fault.{Fault}
use Rattle.shexc_constraints.specs.declared.faults.Fault.TheVariants as fault
use Rattle.shexc_constraints.specs.Meanings.{facet_number_of, range_number_of}

-- the symbol that a facet begins with
abbrev pub facet_symbol : Facet → Symbol
facet_symbol (facets.Length n) = symbol.Length
facet_symbol (facets.MinLength n) = symbol.MinLength
facet_symbol (facets.MaxLength n) = symbol.MaxLength
facet_symbol (facets.MinInclusive x) = symbol.MinInclusive
facet_symbol (facets.MinExclusive x) = symbol.MinExclusive
facet_symbol (facets.MaxInclusive x) = symbol.MaxInclusive
facet_symbol (facets.MaxExclusive x) = symbol.MaxExclusive
facet_symbol (facets.TotalDigits n) = symbol.TotalDigits
facet_symbol (facets.FractionDigits n) = symbol.FractionDigits
facet_symbol (facets.Pattern text flags) = symbol.Pattern

-- one of the facets begins with it
abbrev pub is_given : Symbol → List Facet → Bool
is_given a fs = list_any (λ f. same_symbol (facet_symbol f) a) fs

-- one of these words, which no facet so far begins with
abbrev pub fresh_word : List Symbol → List Facet → Spelled → Result Symbol Fault
fresh_word words fs t = if is_among words t && not (is_given (symbol_of t.kind t.text) fs) then Ok (symbol_of t.kind t.text) else Err fault.Syntax

-- the facet that a word and a number make
abbrev pub counted_facet : Symbol → ℕ → Facet
counted_facet s n =
    if same_symbol s symbol.Length then facets.Length n else (if same_symbol s symbol.MinLength then facets.MinLength n else (if same_symbol s symbol.MaxLength then facets.MaxLength n
    else (if same_symbol s symbol.TotalDigits then facets.TotalDigits n else facets.FractionDigits n)))

abbrev pub range_facet : Symbol → List ℕ → Facet
range_facet s x =
    if same_symbol s symbol.MinInclusive then facets.MinInclusive x else (if same_symbol s symbol.MinExclusive then facets.MinExclusive x
    else (if same_symbol s symbol.MaxInclusive then facets.MaxInclusive x else facets.MaxExclusive x))

-- what is made of a number
abbrev pub made_by : {A : Type 0} → (A → Facet) → Result A Fault → Result Facet Fault
made_by make (Ok x) = Ok (make x)
made_by make (Err f) = Err f

-- the facet of a word and a token
abbrev pub counted_of : Symbol → Spelled → Result Facet Fault
counted_of s t = made_by (counted_facet s) (facet_number_of t)

abbrev pub ranged_of : Symbol → Spelled → Result Facet Fault
ranged_of s t = made_by (range_facet s) (range_number_of t)

-- a text is a pattern under its flags; with the flag it is within the limits of patterns
abbrev pub IsPattern : Bool → PatternText → Type 0
IsPattern true p = IsReadable p
IsPattern false p = AreFlags p.flags × IsSpelledUnder p.flags p.pattern

-- the facet may stand beside the datatype, if there is one: it asks nothing of floating-point numbers, a range value is a decimal, and a pattern is one
pub record IsAdmitted (bounded : Bool) (datatype : Option (List ℕ)) (f : Facet) : Type 0 where
  pub no_float : ¬ HasFloatFacet datatype (f ∷ [])
  pub decimal : ¬ HasOtherNumber (f ∷ [])
  pub patterns : AllByRecursion (IsPattern bounded) (patterns_in (f ∷ []))

-- the fault for a cause for which a facet is refused
abbrev pub fault_of : MakeError → Fault
fault_of errors.FloatFacet = fault.FloatFacet
fault_of errors.FacetNumber = fault.FacetNumber
fault_of (errors.Pattern e) = fault.Pattern e
fault_of errors.Memory = fault.Syntax

abbrev pub refused_pattern : Bool → Facet → PatternError → Result Facet Fault
refused_pattern true f e = Err (fault.Pattern e)
refused_pattern false f refusal.Large = Ok f
refused_pattern false f refusal.Flag = Err (fault.Pattern refusal.Flag)
refused_pattern false f refusal.Syntax = Err (fault.Pattern refusal.Syntax)
refused_pattern false f refusal.Memory = Err (fault.Pattern refusal.Memory)

abbrev pub refused_by : Bool → Facet → MakeError → Result Facet Fault
refused_by bounded f errors.FloatFacet = Err fault.FloatFacet
refused_by bounded f errors.FacetNumber = Err fault.FacetNumber
refused_by bounded f (errors.Pattern e) = refused_pattern bounded f e
refused_by bounded f errors.Memory = Err fault.Syntax

abbrev pub alone : Option (List ℕ) → Facet → Constraint
alone datatype f = record { kind = None; datatype = datatype; facets = f ∷ []; values = None }

abbrev pub judged_by : (bounded : Bool) (datatype : Option (List ℕ)) (f : Facet) → Judged (alone datatype f) → Result Facet Fault
judged_by bounded datatype f (inl sound) = Ok f
judged_by bounded datatype f (inr refused) = refused_by bounded f refused.0

unfoldable pub judged_facet : Bool → Option (List ℕ) → Facet → Result Facet Fault
judged_facet bounded datatype f = judged_by bounded datatype f (judged (alone datatype f))

abbrev pub admitted : Bool → Option (List ℕ) → Result Facet Fault → Result Facet Fault
admitted bounded datatype (Ok f) = judged_facet bounded datatype f
admitted bounded datatype (Err e) = Err e
