-- Laws of the texts of terms. Each is claimed by a function of `src/laws.rt`.
use Rattle.std.specs.Prelude.{ℕ, List, ◌≡◌, ◌≤◌, true, ⊤, Contains}
use Rattle.std.specs.Str.{chars, all_scalars}
use Rattle.lists.specs.Additions.{AddsAll}
use Rattle.rdf_terms.specs.Names.{IsNameOf}
use Rattle.rdf_terms.specs.OneLine.{HasOneLine}
use Rattle.rdf_terms.specs.Literals.{IsLiteral}
use Rattle.rdf_terms.specs.Written.{printed_name, term_text}
use Rattle.rdf_terms.specs.declared.terms.Name.{Name}
use Rattle.rdf_terms.specs.declared.terms.Name.TheVariants.{Label, Fresh}
use Rattle.rdf_terms.specs.declared.terms.Term.{Term}
use Rattle.rdf_terms.specs.declared.terms.Term.TheVariants.{Iri, Blank, Lit}

-- a label of Unicode scalar values, or the number of an anonymous node
abbrev pub IsName : Name → Type 0
IsName (Label label) = all_scalars label ≡ true
IsName (Fresh n) = (1 ≤ n) × (n ≤ 4294967295)

-- the number of an anonymous node has 32 bits
abbrev pub IsNumber : Name → Type 0
IsNumber (Label label) = ⊤
IsNumber (Fresh n) = n ≤ 4294967295

-- a printed name stands for its name
abbrev pub PrintedNamesAreRead : Type 0
PrintedNamesAreRead = (name : Name) → IsName name → IsNameOf (chars (printed_name name)) name

-- a text stands for one name
abbrev pub NamesAreOne : Type 0
NamesAreOne = (text : List ℕ) (a b : Name) → IsNameOf text a → IsNameOf text b → a ≡ b

-- no two nodes share a printed name
abbrev pub PrintedNamesAreDistinct : Type 0
PrintedNamesAreDistinct = (a b : Name) → IsNumber a → IsNumber b → printed_name a ≡ printed_name b → a ≡ b

-- the number of an anonymous node has 32 bits, and a literal a tag exactly where its datatype wants one
abbrev pub IsTerm : Term → Type 0
IsTerm (Iri iri) = ⊤
IsTerm (Blank name) = IsNumber name
IsTerm (Lit literal) = IsLiteral literal

-- distinct terms have distinct texts
abbrev pub TextsAreDistinct : Type 0
TextsAreDistinct = (a b : Term) → IsTerm a → IsTerm b → term_text a ≡ term_text b → a ≡ b

-- where each term of a table can stand on one line, each can when the table has taken up more such terms
abbrev pub AddingBringsLines : Type 0
AddingBringsLines = (old xs new : List Term) → AddsAll old xs new → ((t : Term) → Contains old t → HasOneLine t) → ((t : Term) → Contains xs t → HasOneLine t)
    → (t : Term) → Contains new t → HasOneLine t
