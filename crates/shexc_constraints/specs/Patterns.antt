-- What a pattern between slashes stands for, and its flags (ShEx 2.1, section 6, REGEXP; own).
use Rattle.std.specs.Prelude.{◌≡◌, ℕ, zero, suc, ◌+◌, ◌*◌, Bool, true, ◌&&◌, not, List, [], ◌∷◌, ◌++◌, length, drop, Option, Some, None, Result, Ok, Err, nat_eq, if◌then◌else◌}
use Rattle.std.specs.Str.{all_scalars, chars}
use Rattle.rdf_cursor.specs.Symbols.{is_symbol}
use Rattle.rdf_cursor.specs.declared.symbols.Symbol.TheVariants as symbol
use Rattle.rdf_lex.specs.Characters.{has, hexadecimal}
use Rattle.rdf_lex.specs.Escapes.{number_of, is_character}
use Rattle.rdf_lex.specs.Tokens.{Spelled}
use Rattle.node_constraint.specs.declared.facet.Facet.{Facet}
use Rattle.node_constraint.specs.declared.facet.Facet.TheVariants as facets
use Rattle.shexc_constraints.specs.declared.faults.Fault.{Fault}
use Rattle.shexc_constraints.specs.declared.faults.Fault.TheVariants.{Syntax}
use Rattle.shexc_constraints.specs.declared.patterns.Piece.{Piece}
use Rattle.shexc_constraints.specs.declared.patterns.Piece.TheVariants.{One, Kept}
use Rattle.shexc_constraints.specs.Facets.{is_given}

-- the characters that a piece stands for: one, or one with the backslash before it
abbrev pub written : Piece → List ℕ
written (One c) = c ∷ []
written (Kept c) = 92 ∷ c ∷ []

-- the number of four hexadecimal digits in front, and of eight, and what is behind them
abbrev pub are_digits : ℕ → ℕ → ℕ → ℕ → Bool
are_digits a b c d = has hexadecimal a && (has hexadecimal b && (has hexadecimal c && has hexadecimal d))

abbrev pub four_digits : List ℕ → Option (ℕ × List ℕ)
four_digits (a ∷ b ∷ c ∷ d ∷ cs) = if are_digits a b c d then Some (number_of (a ∷ b ∷ c ∷ d ∷ []), cs) else None
four_digits _ = None

abbrev pub low_digits : ℕ → Option (ℕ × List ℕ) → Option (ℕ × List ℕ)
low_digits high None = None
low_digits high (Some p) = Some (high * 65536 + p.0, p.1)

abbrev pub high_digits : Option (ℕ × List ℕ) → Option (ℕ × List ℕ)
high_digits None = None
high_digits (Some p) = low_digits p.0 (four_digits p.1)

abbrev pub eight_digits : List ℕ → Option (ℕ × List ℕ)
eight_digits cs = high_digits (four_digits cs)

-- a numeric escape behind its letter, if digits stand there; none where they are no number of a character
abbrev pub numeric : ℕ → List ℕ → Option (ℕ × List ℕ) → Option (Piece × List ℕ)
numeric c cs None = Some (Kept c, cs)
numeric c cs (Some p) = if is_character p.0 then Some (One p.0, p.1) else None

-- behind a backslash: a slash stands for itself, `u` and four digits or `U` and eight for their character, and all else is kept with its backslash
abbrev pub escape_at : List ℕ → Option (Piece × List ℕ)
escape_at [] = None
escape_at (c ∷ cs) =
    if nat_eq c 47 then Some (One 47, cs) else (if nat_eq c 117 then numeric c cs (four_digits cs) else (if nat_eq c 85 then numeric c cs (eight_digits cs) else Some (Kept c, cs)))

unfoldable pub piece_at : List ℕ → Option (Piece × List ℕ)
piece_at [] = None
piece_at (c ∷ cs) = if nat_eq c 92 then escape_at cs else Some (One c, cs)

-- the text up to the first slash that stands for none, and the flags behind it
abbrev pub Parts : Type 0
Parts = List ℕ × List ℕ

abbrev pub with_front : List ℕ → Option Parts → Option Parts
with_front text None = None
with_front text (Some p) = Some (text ++ p.0, p.1)

abbrev pub behind_piece : (List ℕ → Option Parts) → Option (Piece × List ℕ) → Option Parts
behind_piece go None = None
behind_piece go (Some p) = with_front (written p.0) (go p.1)

abbrev pub parts_within : ℕ → List ℕ → Option Parts
parts_within zero cs = None
parts_within (suc n) [] = None
parts_within (suc n) (c ∷ cs) = if nat_eq c 47 then Some ([], cs) else behind_piece (parts_within n) (piece_at (c ∷ cs))

-- a text has no more pieces than characters
unfoldable pub parts_of : List ℕ → Option Parts
parts_of cs = parts_within (length cs) cs

-- a slash ends the text, or the characters end
abbrev pub at_end : List ℕ → Bool
at_end [] = true
at_end (c ∷ cs) = nat_eq c 47

-- what is behind the slash that ends a text
abbrev pub flags_in : List ℕ → Option (List ℕ)
flags_in [] = None
flags_in (c ∷ cs) = if nat_eq c 47 then Some cs else None

-- what was read leads to the end of a text, or an escape stands for nothing
abbrev pub Leads : List ℕ → Option Parts → Type 0
Leads all None = parts_of all ≡ None
Leads all (Some p) = (parts_of all ≡ with_front p.0 (parts_of p.1)) × (all_scalars p.0 ≡ true) × (all_scalars p.1 ≡ true) × (at_end p.1 ≡ true)

abbrev pub pattern_by : Option Parts → Result Facet Fault
pattern_by None = Err Syntax
pattern_by (Some x) = Ok (facets.Pattern x.0 x.1)

-- the facet of a pattern, which none is yet
unfoldable pub pattern_of : List Facet → Spelled → Result Facet Fault
pattern_of fs t = if is_symbol symbol.Pattern t && not (is_given symbol.Pattern fs) then pattern_by (parts_of (drop 1 (chars t.text))) else Err Syntax
