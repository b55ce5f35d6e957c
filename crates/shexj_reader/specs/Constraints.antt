-- Which JSON values stand for a node constraint (ShEx 2.1, appendix A, and section 5.4).
use Rattle.std.specs.Prelude.{ℕ, ◌^◌, ◌++◌, nat_lt, if◌then◌else◌, List, [], ◌∷◌, ◌≡◌, Option, Some, None, codes, option_map, option_and_then, unwrap_or}
use Rattle.std.specs.Fmt.{signed_decimal}
use Rattle.serde_json.specs.Data.{Data}
use Rattle.serde_json.specs.Find.{as_integer, as_number, as_u64, get}
use Rattle.node_constraint.specs.Constraint.{Constraint}
use Rattle.node_constraint.specs.Making.{IsSound}
use Rattle.node_constraint.specs.declared.Kind4.{Kind4}
use Rattle.node_constraint.specs.declared.Kind4.TheVariants as Kinds
use Rattle.node_constraint.specs.declared.facet.Facet.{Facet}
use Rattle.node_constraint.specs.declared.facet.Facet.TheVariants as Facets
use Rattle.shexj_reader.specs.Keys.{IsObject, IsPlain, text_if_any, word}
use Rattle.shexj_reader.specs.Values.{SpellsValueSet}

-- the word for a node kind
abbrev pub kind_word : Kind4 → List ℕ
kind_word Kinds.Iri = codes "iri"
kind_word Kinds.Bnode = codes "bnode"
kind_word Kinds.NonLiteral = codes "nonliteral"
kind_word Kinds.Literal = codes "literal"

-- what stands under `nodeKind`: the word, or nothing where no kind is asked for
abbrev pub IsKindWord : Option Kind4 → Option Data → Type 0
IsKindWord None o = o ≡ None
IsKindWord (Some kind) o = word o ≡ Some (kind_word kind)

-- ---- what the value of a facet's key stands for; the argument None is an absent key, the answer None a value that is not of its form

-- a number below 2^32
abbrev pub small : ℕ → Option ℕ
small n = if nat_lt n (2 ^ 32) then Some n else None

-- a whole number from 0 to 4,294,967,295, if the key is there
abbrev pub count : Option Data → Option (Option ℕ)
count None = Some None
count (Some d) = option_map Some (option_and_then small (option_and_then as_u64 (as_number d)))

-- the decimal digits of a whole number from -2^63 to 2^64 - 1, if the key is there
abbrev pub bound : Option Data → Option (Option (List ℕ))
bound None = Some None
bound (Some d) = option_map (λ z. Some (signed_decimal z)) (option_and_then as_integer (as_number d))

-- a pattern and its flags, which stand only beside a pattern; where no flags are named there are none
abbrev pub with_flags : Option (List ℕ) → Option (List ℕ) → Option (Option Facet)
with_flags None None = Some None
with_flags None (Some flags) = None
with_flags (Some pattern) flags = Some (Some (Facets.Pattern pattern (unwrap_or flags [])))

-- ---- the facet that an object has under a key, if it has one

abbrev pub counted : (ℕ → Facet) → List ℕ → Data → Option (Option Facet)
counted facet key d = option_map (option_map facet) (count (get key d))

abbrev pub bounded : (List ℕ → Facet) → List ℕ → Data → Option (Option Facet)
bounded facet key d = option_map (option_map facet) (bound (get key d))

abbrev pub patterned : Data → Option (Option Facet)
patterned d =
    option_and_then (λ pattern. option_and_then (with_flags pattern) (text_if_any (get (codes "flags") d)))
    (text_if_any (get (codes "pattern") d))

-- one facet, or none
abbrev pub listed : Option Facet → List Facet
listed None = []
listed (Some facet) = facet ∷ []

-- the facets that are there, in order
abbrev pub all_of : List (Option (Option Facet)) → Option (List Facet)
all_of [] = Some []
all_of (o ∷ os) = option_and_then (λ facet. option_map (λ facets. listed facet ++ facets) (all_of os)) o

-- what stands under each key of a facet: the facets of a constraint have this order, whatever that of the object's keys
abbrev pub facet_values : Data → List (Option (Option Facet))
facet_values d =
    counted Facets.Length (codes "length") d ∷
    counted Facets.MinLength (codes "minlength") d ∷
    counted Facets.MaxLength (codes "maxlength") d ∷
    patterned d ∷
    bounded Facets.MinInclusive (codes "mininclusive") d ∷
    bounded Facets.MinExclusive (codes "minexclusive") d ∷
    bounded Facets.MaxInclusive (codes "maxinclusive") d ∷
    bounded Facets.MaxExclusive (codes "maxexclusive") d ∷
    counted Facets.TotalDigits (codes "totaldigits") d ∷
    counted Facets.FractionDigits (codes "fractiondigits") d ∷ []

-- the facets of a constraint
unfoldable pub facets_of : Data → Option (List Facet)
facets_of d = all_of (facet_values d)

-- the facets of one sort, in that order: those on the length, on the range and on the digits of a value
unfoldable pub length_values : Data → List (Option (Option Facet))
length_values d =
    counted Facets.Length (codes "length") d ∷
    counted Facets.MinLength (codes "minlength") d ∷
    counted Facets.MaxLength (codes "maxlength") d ∷ []

unfoldable pub range_values : Data → List (Option (Option Facet))
range_values d =
    bounded Facets.MinInclusive (codes "mininclusive") d ∷
    bounded Facets.MinExclusive (codes "minexclusive") d ∷
    bounded Facets.MaxInclusive (codes "maxinclusive") d ∷
    bounded Facets.MaxExclusive (codes "maxexclusive") d ∷ []

unfoldable pub digit_values : Data → List (Option (Option Facet))
digit_values d =
    counted Facets.TotalDigits (codes "totaldigits") d ∷
    counted Facets.FractionDigits (codes "fractiondigits") d ∷ []

-- the facets that are there, behind others
unfoldable pub behind : List Facet → List (Option (Option Facet)) → Option (List Facet)
behind facets os = option_map (λ own. facets ++ own) (all_of os)

-- the keys of a node constraint
abbrev pub constraint_keys : List (List ℕ)
constraint_keys =
    codes "annotations" ∷ codes "datatype" ∷ codes "flags" ∷ codes "fractiondigits" ∷ codes "length" ∷
    codes "maxexclusive" ∷ codes "maxinclusive" ∷ codes "maxlength" ∷ codes "minexclusive" ∷ codes "mininclusive" ∷
    codes "minlength" ∷ codes "nodeKind" ∷ codes "pattern" ∷ codes "semActs" ∷ codes "totaldigits" ∷ codes "type" ∷
    codes "values" ∷ []

-- an object without other keys than these stands for the constraint, and nothing in it is refused
pub record IsConstraint (keys : List (List ℕ)) (c : Constraint) (d : Data) : Type 0 where
  pub object : IsObject (codes "NodeConstraint") keys d
  pub kind : IsKindWord c.kind (get (codes "nodeKind") d)
  pub datatype : text_if_any (get (codes "datatype") d) ≡ Some c.datatype
  pub facets : facets_of d ≡ Some c.facets
  pub values : SpellsValueSet c.values (get (codes "values") d)
  pub plain : IsPlain d
  pub sound : IsSound c.datatype c.facets

-- an object without other keys than these asks for this, a value set apart
pub record HasRestrictions (keys : List (List ℕ)) (c : Constraint) (d : Data) : Type 0 where
  pub object : IsObject (codes "NodeConstraint") keys d
  pub kind : IsKindWord c.kind (get (codes "nodeKind") d)
  pub datatype : text_if_any (get (codes "datatype") d) ≡ Some c.datatype
  pub facets : facets_of d ≡ Some c.facets
  pub sound : IsSound c.datatype c.facets
