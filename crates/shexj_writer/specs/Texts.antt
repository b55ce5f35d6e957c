-- Texts, labels and cardinalities as JSON (ShEx 2.1, appendix A). JSON has the bytes of a text in UTF-8.
use Rattle.std.specs.Prelude.{ℕ, zero, Bool, true, false, List, [], ◌∷◌, ◌++◌, if◌then◌else◌, Option, Some, None, codes, encode_utf8_all, negsuc}
use Rattle.serde_json.specs.Data.{Data, boolean, number, string, Items, no_items, item, unsigned, negative}
use Rattle.tally.specs.Plan.{is_once}
use Rattle.tally.specs.declared.Bound.{Bound}
use Rattle.tally.specs.declared.Bound.TheVariants.{Upto, Free}
use Rattle.schema_documents.specs.declared.label.Label.{Label}
use Rattle.schema_documents.specs.declared.label.Label.TheVariants as Labels
use Rattle.shexj_writer.specs.Objects.{list_if_any}

-- a text
abbrev pub text_data : List ℕ → Data
text_data t = string (encode_utf8_all t)

-- texts, in their order
abbrev pub texts_items : List (List ℕ) → Items
texts_items [] = no_items
texts_items (t ∷ ts) = item (text_data t) (texts_items ts)

-- a list of texts, or nothing where there are none
abbrev pub texts_data : List (List ℕ) → Option Data
texts_data ts = list_if_any (texts_items ts)

-- true, or nothing
abbrev pub flag_data : Bool → Option Data
flag_data true = Some (boolean true)
flag_data false = None

-- a label: an IRI as it is, a blank label behind `_:`
abbrev pub label_data : Label → Data
label_data (Labels.Iri iri) = text_data iri
label_data (Labels.Blank name) = string (codes "_:" ++ encode_utf8_all name)

-- an upper bound: -1 is no bound
abbrev pub bound_data : Bound → Data
bound_data (Upto n) = number (unsigned n)
bound_data Free = number (negative (negsuc zero))

-- a minimum and a maximum, where they are not both 1
abbrev pub min_data : ℕ → Bound → Option Data
min_data low high = if is_once low high then None else Some (number (unsigned low))

abbrev pub max_data : ℕ → Bound → Option Data
max_data low high = if is_once low high then None else Some (bound_data high)
