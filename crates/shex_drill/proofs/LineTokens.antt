-- The tokens of the drill's data.
use Rattle.std.proofs.Common.{◌≡◌, ◌≤◌, ℕ, zero, suc, ◌+◌, Bool, true, List, [], ◌∷◌, ◌++◌, length, append_assoc, codes, Some, None, refl, sym, ap, subst, ◌∙◌, arith}
use Rattle.std.specs.Prelude.{◌&&◌}
use Rattle.std.proofs.Math.Nat.{add-zero}
use Rattle.std.proofs.lemmas.Bool.{and_parts}
use Rattle.std.specs.Char.{len_utf8}
use Rattle.std.specs.Fmt.{decimal, digits}
use Rattle.std.specs.List.{list_all}
use Rattle.std.specs.Str.Parse.{AllDigits}
use Rattle.rdf_cursor.specs.Ahead.{Ahead, token, prepend}
use Rattle.rdf_lex.specs.declared.kinds.Kind.TheVariants as kinds
use Rattle.rdf_lex.specs.declared.kinds.Mode.{Mode}
use Rattle.rdf_lex.specs.declared.kinds.Mode.TheVariants.{Turtle}
use Rattle.rdf_lex.specs.declared.machine.Lead.TheVariants as lead
use Rattle.rdf_lex.specs.declared.machine.NamePart.TheVariants as name
use Rattle.rdf_lex.specs.declared.machine.State.TheVariants.{Start, Name}
use Rattle.rdf_lex.specs.Characters.{has, digit, letter, letter_or_digit, hexadecimal, name_base, name_char, local_start, local_char, label_start, local_escaped, text_escaped, iri_char, short_char, long_char, line_end, turtle_mark, brace, schema_mark, pattern_start, pattern_char, flag, any_char}
use Rattle.rdf_lex.specs.Scan.{scan_from}
use Rattle.rdf_lex.specs.Tokens.{Spelled}
use Rattle.shex_drill.proofs.Digits.{AllPass, digits_pass}
use Rattle.shex_drill.proofs.Lexing.{IsLexed, token_lexed, is_ascii, is_plain}

-- ---- names that end with a number

-- a character of ASCII that goes on with a local name
abbrev pub is_local : ℕ → Bool
is_local c = has local_char c && is_ascii c

local_digits : AllPass is_local
unfolding local_char
local_digits = refl

ascii_digits : AllPass is_ascii
ascii_digits = refl

one_byte : (c : ℕ) → is_ascii c ≡ true → len_utf8 c ≡ 1
one_byte c e = rw e refl

counted : (n m k : ℕ) → m ≡ suc k → n + 1 + k ≡ n + m
counted n m k e = omega arith

local_passed : (m : Mode) (cs rest : List ℕ) (n : ℕ) → list_all is_local cs ≡ true
    → scan_from m (cs ++ 32 ∷ rest) (Name lead.Alone name.Local) (Some (kinds.PnameLn, n)) n ≡ Some (kinds.PnameLn, n + length cs)
unfolding local_char
local_passed m [] rest n e = ap (λ k. Some (kinds.PnameLn, k)) (sym (add-zero n))
local_passed m (c ∷ cs) rest n e =
    let both = and_parts (is_local c) (list_all is_local cs) e in
    let one = and_parts (has local_char c) (is_ascii c) both.0 in
    let size = one_byte c one.1 in
    let next : scan_from m (c ∷ cs ++ 32 ∷ rest) (Name lead.Alone name.Local) (Some (kinds.PnameLn, n)) n ≡ scan_from m (cs ++ 32 ∷ rest)
    (Name lead.Alone name.Local) (Some (kinds.PnameLn, n + 1)) (n + 1) = rw (one.0, size) refl in
    next ∙ local_passed m cs rest (n + 1) both.1 ∙ ap (λ k. Some (kinds.PnameLn, k)) (counted n (length (c ∷ cs)) (length cs) refl)

-- the name of an item, `:i` and its number
abbrev pub item_name : List ℕ → List ℕ
item_name ds = 58 ∷ 105 ∷ ds

name_passed : (m : Mode) (ds rest : List ℕ) → list_all is_local ds ≡ true → scan_from m (item_name ds ++ 32 ∷ rest) Start None 0 ≡ Some (kinds.PnameLn, length (item_name ds))
unfolding digit letter letter_or_digit hexadecimal name_base name_char local_start local_char label_start local_escaped text_escaped iri_char short_char long_char line_end turtle_mark brace schema_mark pattern_start pattern_char flag any_char
name_passed m ds rest e = let first : scan_from m (item_name ds ++ 32 ∷ rest) Start None 0 ≡ scan_from m (ds ++ 32 ∷ rest) (Name lead.Alone name.Local) (Some (kinds.PnameLn, 2)) 2 = refl in
    first ∙ local_passed m ds rest 2 e ∙ ap (λ k. Some (kinds.PnameLn, k)) (added (length ds))
  where
    added : (k : ℕ) → 2 + k ≡ suc (suc k)
    added k = omega arith

-- ---- a line

abbrev pub of_name : List ℕ → Spelled
of_name text = record { kind = kinds.PnameLn; text = text }

abbrev pub of_mark : List ℕ → Spelled
of_mark text = record { kind = kinds.Punct; text = text }

abbrev pub of_number : List ℕ → Spelled
of_number text = record { kind = kinds.Integer; text = text }

-- a line of these digits: of the item, of the next item, and of the tag
abbrev pub line_with : List ℕ → List ℕ → List ℕ → List ℕ
line_with x y z = codes ":i" ++ (x ++ (codes " :next :i" ++ (y ++ (codes " ; :tag " ++ (z ++ codes " .\n")))))

-- its tokens
abbrev pub tokens_with : List ℕ → List ℕ → List ℕ → List Spelled
tokens_with x y z = of_name (item_name x) ∷ of_name (codes ":next") ∷ of_name (item_name y) ∷ of_mark (codes ";") ∷ of_name (codes ":tag") ∷ of_number z ∷ of_mark (codes ".") ∷ []

line_parts : (x y z rest : List ℕ) → line_with x y z ++ rest ≡ codes ":i" ++ (x ++ (codes " :next :i" ++ (y ++ (codes " ; :tag " ++ (z ++ (codes " .\n" ++ rest))))))
line_parts x y z rest =
    rw (append_assoc x (codes " :next :i" ++ (y ++ (codes " ; :tag " ++ (z ++ codes " .\n")))) rest, append_assoc y (codes " ; :tag " ++ (z ++ codes " .\n")) rest, append_assoc z (codes " .\n") rest) refl

-- the digits of a number as part of a name
pub are_local : (ds : List ℕ) → AllDigits 10 ds → list_all is_local ds ≡ true
are_local ds all = digits_pass is_local ds local_digits all

pub plain_digits : (ds : List ℕ) → AllDigits 10 ds → is_plain ds ≡ true
plain_digits ds all = digits_pass is_ascii ds ascii_digits all

-- the number of a tag, whose text is one digit
abbrev pub IsTag : List ℕ → Type 0
IsTag z = (rest : List ℕ) (ahead : Ahead Spelled) → IsLexed Turtle (32 ∷ rest) ahead → IsLexed Turtle (32 ∷ (z ++ 32 ∷ rest)) (token (of_number z) ahead)

pub four_tags : (t : ℕ) → 1 ≤ t → t ≤ 4 → IsTag (decimal t)
unfolding digits digit letter letter_or_digit hexadecimal name_base name_char local_start local_char label_start local_escaped text_escaped iri_char short_char long_char line_end turtle_mark brace schema_mark pattern_start pattern_char flag any_char
four_tags zero low high = absurd (omega arith)
four_tags (suc zero) low high = λ rest ahead lexed. token_lexed Turtle (32 ∷ []) [] (32 ∷ rest) 49 kinds.Integer ahead refl refl refl refl lexed
four_tags (suc (suc zero)) low high = λ rest ahead lexed. token_lexed Turtle (32 ∷ []) [] (32 ∷ rest) 50 kinds.Integer ahead refl refl refl refl lexed
four_tags (suc (suc (suc zero))) low high = λ rest ahead lexed. token_lexed Turtle (32 ∷ []) [] (32 ∷ rest) 51 kinds.Integer ahead refl refl refl refl lexed
four_tags (suc (suc (suc (suc zero)))) low high = λ rest ahead lexed. token_lexed Turtle (32 ∷ []) [] (32 ∷ rest) 52 kinds.Integer ahead refl refl refl refl lexed
four_tags (suc (suc (suc (suc (suc t))))) low high = absurd (omega arith)

-- the line in front of a text, by its tokens from the last one on
module _ (x y z : List ℕ) (dx : AllDigits 10 x) (dy : AllDigits 10 y) (tag : IsTag z) (rest : List ℕ) (ahead : Ahead Spelled) (lexed : IsLexed Turtle (10 ∷ rest) ahead) where
  dot_lexed : IsLexed Turtle (codes " .\n" ++ rest) (token (of_mark (codes ".")) ahead)
  unfolding digit letter letter_or_digit hexadecimal name_base name_char local_start local_char label_start local_escaped text_escaped iri_char short_char long_char line_end turtle_mark brace schema_mark pattern_start pattern_char flag any_char
  dot_lexed = token_lexed Turtle (32 ∷ []) [] (10 ∷ rest) 46 kinds.Punct ahead refl refl refl refl lexed

  tag_lexed : IsLexed Turtle (32 ∷ (z ++ (codes " .\n" ++ rest))) (token (of_number z) (token (of_mark (codes ".")) ahead))
  tag_lexed = tag (codes ".\n" ++ rest) (token (of_mark (codes ".")) ahead) dot_lexed

  tagged_lexed : IsLexed Turtle (codes " ; :tag " ++ (z ++ (codes " .\n" ++ rest)))
      (token (of_mark (codes ";")) (token (of_name (codes ":tag")) (token (of_number z) (token (of_mark (codes ".")) ahead))))
  unfolding digit letter letter_or_digit hexadecimal name_base name_char local_start local_char label_start local_escaped text_escaped iri_char short_char long_char line_end turtle_mark brace schema_mark pattern_start pattern_char flag any_char
  tagged_lexed =
      let behind = z ++ (codes " .\n" ++ rest) in
      let tokens = token (of_number z) (token (of_mark (codes ".")) ahead) in
      let name : IsLexed Turtle (codes " :tag " ++ behind) (token (of_name (codes ":tag")) tokens) = token_lexed Turtle (32 ∷ []) (codes "tag")
      (32 ∷ behind) 58 kinds.PnameLn tokens refl refl refl refl tag_lexed in
      token_lexed Turtle (32 ∷ []) [] (codes " :tag " ++ behind) 59 kinds.Punct (token (of_name (codes ":tag")) tokens) refl refl refl refl name

  next_lexed : IsLexed Turtle (codes " :i" ++ (y ++ (codes " ; :tag " ++ (z ++ (codes " .\n" ++ rest)))))
      (token (of_name (item_name y)) (token (of_mark (codes ";")) (token (of_name (codes ":tag")) (token (of_number z) (token (of_mark (codes ".")) ahead)))))
  next_lexed =
      token_lexed Turtle (32 ∷ []) (105 ∷ y) (codes " ; :tag " ++ (z ++ (codes " .\n" ++ rest))) 58 kinds.PnameLn
      (token (of_mark (codes ";")) (token (of_name (codes ":tag")) (token (of_number z) (token (of_mark (codes ".")) ahead)))) refl (plain_digits y dy) refl
      (name_passed Turtle y (codes "; :tag " ++ (z ++ (codes " .\n" ++ rest))) (are_local y dy)) tagged_lexed

  leads_lexed : IsLexed Turtle (codes " :next :i" ++ (y ++ (codes " ; :tag " ++ (z ++ (codes " .\n" ++ rest)))))
      (token (of_name (codes ":next")) (token (of_name (item_name y)) (token (of_mark (codes ";")) (token (of_name (codes ":tag")) (token (of_number z) (token (of_mark (codes ".")) ahead))))))
  unfolding digit letter letter_or_digit hexadecimal name_base name_char local_start local_char label_start local_escaped text_escaped iri_char short_char long_char line_end turtle_mark brace schema_mark pattern_start pattern_char flag any_char
  leads_lexed =
      token_lexed Turtle (32 ∷ []) (codes "next") (codes " :i" ++ (y ++ (codes " ; :tag " ++ (z ++ (codes " .\n" ++ rest))))) 58 kinds.PnameLn
      (token (of_name (item_name y)) (token (of_mark (codes ";")) (token (of_name (codes ":tag")) (token (of_number z) (token (of_mark (codes ".")) ahead))))) refl refl refl refl next_lexed

  pub line_lexed : IsLexed Turtle (10 ∷ (line_with x y z ++ rest)) (prepend (tokens_with x y z) ahead)
  line_lexed =
      let parts = line_parts x y z rest in
      subst (λ v. IsLexed Turtle (10 ∷ v) (prepend (tokens_with x y z) ahead)) (sym parts)
      (token_lexed Turtle (10 ∷ []) (105 ∷ x) (codes " :next :i" ++ (y ++ (codes " ; :tag " ++ (z ++ (codes " .\n" ++ rest))))) 58 kinds.PnameLn
      (token (of_name (codes ":next")) (token (of_name (item_name y)) (token (of_mark (codes ";")) (token (of_name (codes ":tag")) (token (of_number z) (token (of_mark (codes ".")) ahead)))))) refl (plain_digits x dx) refl
      (name_passed Turtle x (codes ":next :i" ++ (y ++ (codes " ; :tag " ++ (z ++ (codes " .\n" ++ rest))))) (are_local x dx)) leads_lexed)
