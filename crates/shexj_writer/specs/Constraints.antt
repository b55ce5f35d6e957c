-- Node constraints as JSON (ShEx 2.1, appendix A, and section 5.4).
use Rattle.std.specs.Prelude.{ℕ, List, [], ◌∷◌, Option, Some, None, codes, encode_utf8_all, find, map, option_map, option_and_then}
use Rattle.std.specs.Str.{bytes_eq}
use Rattle.serde_json.specs.Data.{Data, Num, null, number, string, unsigned}
use Rattle.node_constraint.specs.Constraint.{Constraint}
use Rattle.node_constraint.specs.declared.Kind4.{Kind4}
use Rattle.node_constraint.specs.declared.facet.Facet.{Facet}
use Rattle.node_constraint.specs.declared.facet.Facet.TheVariants as Facets
use Rattle.value_sets.specs.Values.{ValueList}
use Rattle.shexj_reader.specs.Constraints.{kind_word}
use Rattle.shexj_writer.specs.Numbers.{whole_number}
use Rattle.shexj_writer.specs.Objects.{Field, object_of}
use Rattle.shexj_writer.specs.Texts.{text_data}
use Rattle.shexj_writer.specs.Values.{value_set_data}

-- the key of a facet
abbrev pub facet_key : Facet → List ℕ
facet_key (Facets.Length n) = codes "length"
facet_key (Facets.MinLength n) = codes "minlength"
facet_key (Facets.MaxLength n) = codes "maxlength"
facet_key (Facets.MinInclusive bound) = codes "mininclusive"
facet_key (Facets.MinExclusive bound) = codes "minexclusive"
facet_key (Facets.MaxInclusive bound) = codes "maxinclusive"
facet_key (Facets.MaxExclusive bound) = codes "maxexclusive"
facet_key (Facets.TotalDigits n) = codes "totaldigits"
facet_key (Facets.FractionDigits n) = codes "fractiondigits"
facet_key (Facets.Pattern pattern flags) = codes "pattern"

-- the first facet with this key
abbrev pub facet_under : List ℕ → List Facet → Option Facet
facet_under key facets = find (λ facet. bytes_eq (facet_key facet) key) facets

-- a number, or null where there is none
abbrev pub number_or_null : Option Num → Data
number_or_null None = null
number_or_null (Some n) = number n

-- the number of a range facet; a text that is refused has none
abbrev pub bound_number : List ℕ → Data
bound_number bound = number_or_null (whole_number (encode_utf8_all bound))

-- what stands under the key of a facet
abbrev pub facet_data : Facet → Data
facet_data (Facets.Length n) = number (unsigned n)
facet_data (Facets.MinLength n) = number (unsigned n)
facet_data (Facets.MaxLength n) = number (unsigned n)
facet_data (Facets.MinInclusive bound) = bound_number bound
facet_data (Facets.MinExclusive bound) = bound_number bound
facet_data (Facets.MaxInclusive bound) = bound_number bound
facet_data (Facets.MaxExclusive bound) = bound_number bound
facet_data (Facets.TotalDigits n) = number (unsigned n)
facet_data (Facets.FractionDigits n) = number (unsigned n)
facet_data (Facets.Pattern pattern flags) = text_data pattern

-- the bytes of a text that is not empty, or nothing
abbrev pub bytes_if_some : List ℕ → Option Data
bytes_if_some [] = None
bytes_if_some (b ∷ bs) = Some (string (b ∷ bs))

-- the flags of a pattern, where there are some
abbrev pub flags_data : Facet → Option Data
flags_data (Facets.Pattern pattern flags) = bytes_if_some (encode_utf8_all flags)
flags_data facet = None

-- what stands under a facet's key
abbrev pub under : List ℕ → List Facet → Option Data
under key facets = option_map facet_data (facet_under key facets)

-- a node constraint, with its label under `id` where it is declared
abbrev pub constraint_fields : Option Data → Constraint → List Field
constraint_fields id c =
    (codes "datatype", option_map text_data c.datatype) ∷
    (codes "flags", option_and_then flags_data (facet_under (codes "pattern") c.facets)) ∷
    (codes "fractiondigits", under (codes "fractiondigits") c.facets) ∷
    (codes "id", id) ∷
    (codes "length", under (codes "length") c.facets) ∷
    (codes "maxexclusive", under (codes "maxexclusive") c.facets) ∷
    (codes "maxinclusive", under (codes "maxinclusive") c.facets) ∷
    (codes "maxlength", under (codes "maxlength") c.facets) ∷
    (codes "minexclusive", under (codes "minexclusive") c.facets) ∷
    (codes "mininclusive", under (codes "mininclusive") c.facets) ∷
    (codes "minlength", under (codes "minlength") c.facets) ∷
    (codes "nodeKind", option_map (λ kind. string (kind_word kind)) c.kind) ∷
    (codes "pattern", under (codes "pattern") c.facets) ∷
    (codes "totaldigits", under (codes "totaldigits") c.facets) ∷
    (codes "type", Some (string (codes "NodeConstraint"))) ∷
    (codes "values", option_map value_set_data c.values) ∷ []

unfoldable pub constraint_data : Option Data → Constraint → Data
constraint_data id c = object_of (constraint_fields id c)

-- the last of these fields
abbrev pub last_fields : Option Kind4 → List Facet → Option ValueList → List Field
last_fields kind facets values =
    (codes "nodeKind", option_map (λ kind. string (kind_word kind)) kind) ∷
    (codes "pattern", under (codes "pattern") facets) ∷
    (codes "totaldigits", under (codes "totaldigits") facets) ∷
    (codes "type", Some (string (codes "NodeConstraint"))) ∷
    (codes "values", option_map value_set_data values) ∷ []

-- those before them that bound the length and the value
abbrev pub bound_keys : List (List ℕ)
bound_keys =
    codes "length" ∷ codes "maxexclusive" ∷ codes "maxinclusive" ∷ codes "maxlength" ∷ codes "minexclusive" ∷
    codes "mininclusive" ∷ codes "minlength" ∷ []

abbrev pub bound_fields : List Facet → List Field
bound_fields facets = map (λ key. (key, under key facets)) bound_keys
