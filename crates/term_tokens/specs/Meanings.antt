-- What a token stands for, as a function.
use Rattle.std.specs.Prelude.{◌≡◌, ℕ, ◌++◌, Bool, true, false, ◌&&◌, nat_le, List, Option, Some, None, codes, drop, if◌then◌else◌, refl}
use Rattle.std.specs.Fmt.{decimal}
use Rattle.std.specs.List.{list_all}
use Rattle.std.specs.Str.{chars, bytes_eq}
use Rattle.std.specs.Str.Parse.{digits_value}
use Rattle.rdf_terms.specs.Names.{written_label}
use Rattle.rdf_terms.specs.declared.terms.Name.{Name}
use Rattle.rdf_terms.specs.declared.terms.Name.TheVariants.{Label, Fresh}
use Rattle.rdf_lex.specs.declared.kinds.Mode.TheVariants.{Map}
use Rattle.rdf_lex.specs.declared.machine.State.TheVariants.{Start}
use Rattle.rdf_lex.specs.Escapes.{fits, inside_of, holds_text, IsSpelled, Means}
use Rattle.rdf_lex.specs.Tokens.{Spelled}
use Rattle.rdf_lex.proofs.Meanings.{has_meaning}
use Rattle.rdf_lex.proofs.Recognised.{kind_from, from_kind}
use Rattle.rdf_lex.proofs.Residuals.{is_kind, is_kind_some}

-- a token whose text spells its kind in some language stands for these characters, each of which may stand there (RDF 1.1 Turtle, section 6.4)
pub record IsText (t : Spelled) (text : List ℕ) : Type 0 where
  pub spelled : IsSpelled t.kind (chars t.text)
  pub means : Means t.kind (chars t.text) text
  pub fitting : list_all (fits (inside_of t.kind)) text ≡ true

-- the token's text spells its kind in the language of shape maps, which has all kinds that stand for characters
abbrev pub is_spelled : Spelled → Bool
is_spelled t = is_kind t.kind (kind_from Map Start (chars t.text))

abbrev pub all_fit : Spelled → List ℕ → Option (List ℕ)
all_fit t text = if list_all (fits (inside_of t.kind)) text then Some text else None

abbrev pub text_by : (t : Spelled) (b c : Bool) → is_spelled t ≡ b → holds_text t.kind ≡ c → Option (List ℕ)
text_by t true true e h = all_fit t (has_meaning t.kind (chars t.text) h (Map, from_kind Map t.kind (chars t.text) (is_kind_some t.kind (kind_from Map Start (chars t.text)) e))).0
text_by t true false e h = None
text_by t false c e h = None

-- the characters that a token stands for, if it stands for any
unfoldable pub text_of : Spelled → Option (List ℕ)
text_of t = text_by t (is_spelled t) (holds_text t.kind) refl refl

-- the number behind `anon`
abbrev pub anonymous_number : List ℕ → ℕ
anonymous_number text = digits_value 10 (drop 4 text)

abbrev pub is_anonymous : List ℕ → Bool
is_anonymous text = bytes_eq text (codes "anon" ++ decimal (anonymous_number text)) && (nat_le 1 (anonymous_number text) && nat_le (anonymous_number text) 4294967295)

-- the name of a blank node by its printed name
unfoldable pub name_of : List ℕ → Name
name_of text = if is_anonymous text then Fresh (anonymous_number text) else Label (written_label text)
