-- What is shown of a schema document for a label.
use Rattle.std.specs.Prelude.{ℕ, Bool, true, false, List, ◌≡◌, ◌++◌, codes, encode_utf8_all}
use Rattle.json_paths.specs.declared.steps.Step.{Step}
use Rattle.key_paths.specs.Labels.{LeadsToText}
use Rattle.key_paths.specs.declared.labels.LabelPlace.{LabelPlace}
use Rattle.key_paths.specs.declared.labels.LabelPlace.TheVariants as Places
use Rattle.label_tokens.specs.Places.{IsUseAt}
use Rattle.label_tokens.specs.declared.spots.Usage.{Usage}
use Rattle.label_tokens.specs.declared.spots.Usage.TheVariants.{Declared, Referred}
use Rattle.refusal_places.specs.Texts.{place_text}
use Rattle.schema_documents.specs.declared.label.Label.{Label}
use Rattle.schema_documents.specs.declared.label.Label.TheVariants as labels
use Rattle.schema_reader.specs.Formats.{format_of}
use Rattle.schema_reader.specs.declared.format.Format.{Format}
use Rattle.schema_reader.specs.declared.format.Format.TheVariants.{Compact, Json}
use Rattle.schema_causes.specs.Shown.{IfAny, path_line}

-- a label as ShExJ has it: an IRI, or `_:` and a blank node's label (ShEx 2.1, appendix A)
abbrev pub json_label : Label → List ℕ
json_label (labels.Iri iri) = encode_utf8_all iri
json_label (labels.Blank name) = codes "_:" ++ encode_utf8_all name

-- how a label is used at one of its places, and whether it is the second time
abbrev pub usage_of : LabelPlace → Usage
usage_of Places.Declared = Declared
usage_of Places.DeclaredAgain = Declared
usage_of Places.Referred = Referred

abbrev pub is_second : LabelPlace → Bool
is_second Places.Declared = false
is_second Places.DeclaredAgain = true
is_second Places.Referred = false

-- a token at the place spells the label by the base and the prefixes in force there, and so uses it
abbrev pub IsPlaceOf : LabelPlace → List ℕ → List ℕ → Label → ℕ → Type 0
IsPlaceOf place base bytes label at = IsUseAt (usage_of place) (is_second place) base bytes label at

-- the place in ShExC of a token that spells the label
abbrev pub ShowsToken : LabelPlace → List ℕ → List ℕ → Label → List ℕ → List ℕ → Type 0
ShowsToken place name base label bytes shown = (at : ℕ) × IsPlaceOf place base bytes label at × (shown ≡ place_text name bytes at)

-- the path of keys in ShExJ that leads to the label
abbrev pub ShowsKeys : List ℕ → Label → List ℕ → List ℕ → Type 0
ShowsKeys name label bytes shown = (steps : List Step) × LeadsToText (json_label label) bytes steps × (shown ≡ path_line name steps)

-- by the format of the document
abbrev pub ShowsLabelIn : Format → LabelPlace → List ℕ → List ℕ → Label → List ℕ → List ℕ → Type 0
ShowsLabelIn Compact place name base label bytes shown = ShowsToken place name base label bytes shown
ShowsLabelIn Json place name base label bytes shown = ShowsKeys name label bytes shown

-- what is shown of a document of this name and base for a label: one of its places, or nothing
abbrev pub ShowsLabel : LabelPlace → List ℕ → List ℕ → Label → List ℕ → List ℕ → Type 0
ShowsLabel place name base label bytes shown = IfAny shown (ShowsLabelIn (format_of name) place name base label bytes)
