-- Where a label stands in a text in ShExC.
use Rattle.std.specs.Prelude.{ℕ, Bool, true, false, List, ◌∷◌, ◌++◌, Result, Ok, Err, String, ◌≡◌, ◌⊎◌, encode_utf8_all, string_bytes}
use Rattle.std.specs.declared.alloc.Global.{Global}
use Rattle.rdf_cursor.specs.Symbols.{symbol_of}
use Rattle.rdf_cursor.specs.declared.stops.Stop.{Stop}
use Rattle.rdf_lex.specs.declared.kinds.Mode.TheVariants.{Schema}
use Rattle.rdf_lex.specs.Tokens.{Between, IsFirst, Spelled}
use Rattle.schema_documents.specs.declared.label.Label.{Label}
use Rattle.schema_documents.specs.declared.label.Label.TheVariants as labels
use Rattle.term_tokens.specs.Scopes.{Scope}
use Rattle.term_tokens.specs.Terms.{at_name_of, iri_of, label_of}
use Rattle.label_tokens.specs.declared.spots.Usage.{Usage}
use Rattle.label_tokens.specs.Scenes.{Scene, first_scene, scene_behind}
use Rattle.label_tokens.specs.Spots.{is_used}

-- the token stands for an IRI of these bytes, with an `@` in front of its name or without
abbrev pub SpellsIri : Scope → List ℕ → Spelled → Type 0
SpellsIri v iri t = (at_name_of false v t ≡ Ok iri) ⊎ (iri_of false v t ≡ Ok iri)

-- the token stands for the label
abbrev pub SpellsLabel : Scope → Label → Spelled → Type 0
SpellsLabel v (labels.Iri iri) t = SpellsIri v (encode_utf8_all iri) t
SpellsLabel v (labels.Blank name) t = label_of false t ≡ Ok name

-- the token stands for the label by the base and the prefixes in force, and the label is so used where it stands
pub record IsUse (usage : Usage) (label : Label) (s : Scene) (t : Spelled) : Type 0 where
  pub spells : SpellsLabel s.scope label t
  pub used : is_used usage s.spot (symbol_of t.kind t.text) ≡ true

-- the label is so used among the tokens of a text with this base
pub record HasUse (usage : Usage) (base : List ℕ) (label : Label) (ts : List Spelled) : Type 0 where
  pub front : List Spelled
  pub t : Spelled
  pub more : List Spelled
  pub is : ts ≡ front ++ (t ∷ more)
  pub use_there : IsUse usage label (scene_behind (first_scene base) front) t

-- behind some tokens of the text with this base one stands at the place, which is such a use; with the flag, there is one among the tokens before it
pub record IsUseAt (usage : Usage) (again : Bool) (base source : List ℕ) (label : Label) (at : ℕ) : Type 0 where
  pub front : List Spelled
  pub from : ℕ
  pub t : Spelled
  pub passed : Between Schema source 0 front from
  pub first : IsFirst Schema source from t.kind t.text at
  pub use_there : IsUse usage label (scene_behind (first_scene base) front) t
  pub before : again ≡ true → HasUse usage base label front

-- a text was read, of these bytes
abbrev pub HasRead : Result (String Global) Stop → List ℕ → Type 0
HasRead (Ok found) text = string_bytes found ≡ text
HasRead (Err stop) text = ⊥
