-- The text of a label.
use Rattle.std.specs.Prelude.{ℕ, true, List, ◌++◌, ◌≡◌, codes, encode_utf8_all}
use Rattle.std.specs.Str.{all_scalars}
use Rattle.rdf_terms.specs.Written.{iri_text}
use Rattle.schema_documents.specs.declared.label.Label.{Label}
use Rattle.schema_documents.specs.declared.label.Label.TheVariants.{Iri, Blank}

-- an IRI in angle brackets, or _: and a blank node's label (ShapeMap Structure and Language, section 4)
abbrev pub label_text : Label → List ℕ
label_text (Iri iri) = iri_text iri
label_text (Blank name) = codes "_:" ++ encode_utf8_all name

-- the characters of a label are Unicode scalar values, as those of each text of a program are
abbrev pub IsTextLabel : Label → Type 0
IsTextLabel (Iri iri) = all_scalars iri ≡ true
IsTextLabel (Blank name) = all_scalars name ≡ true
