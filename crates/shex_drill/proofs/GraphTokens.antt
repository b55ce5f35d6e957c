-- The tokens of the data, of any number of items.
use Rattle.std.proofs.Common.{◌≤◌, ℕ, zero, suc, ◌+◌, ◌%◌, Bool, true, false, ◌&&◌, cond, List, [], ◌∷◌, ◌++◌, codes, refl, arith}
use Rattle.std.specs.Prelude.{nat_eq, nat_lt}
use Rattle.std.specs.Fmt.{decimal}
use Rattle.std.specs.List.{flat_map, range_with_len}
use Rattle.std.specs.Str.{IsUtf8}
use Rattle.std.proofs.lemmas.Str.{IsUtf8-from_ascii}
use Rattle.rdf_cursor.specs.Ahead.{Ahead, finished, token, prepend}
use Rattle.rdf_cursor.proofs.Streams.{to_tokens}
use Rattle.rdf_lex.specs.declared.kinds.Kind.TheVariants as kinds
use Rattle.rdf_lex.specs.declared.kinds.Mode.TheVariants.{Turtle}
use Rattle.rdf_lex.specs.Characters.{digit, letter, letter_or_digit, hexadecimal, name_base, name_char, local_start, local_char, label_start, local_escaped, text_escaped, iri_char, short_char, long_char, line_end, turtle_mark, brace, schema_mark, pattern_start, pattern_char, flag, any_char}
use Rattle.rdf_lex.specs.Tokens.{Spelled, Tokens}
use Rattle.shex_drill.specs.Texts.{block_of, first_of, next_of, tag_of, line_of, graph_text}
use Rattle.shex_drill.proofs.Digits.{all_digits}
use Rattle.shex_drill.proofs.LineTokens.{of_mark, tokens_with, four_tags, line_lexed}
use Rattle.shex_drill.proofs.Lexing.{IsLexed, ascii, token_lexed, end_lexed}

-- the next item is at most one further on
pub next_below : (n i : ℕ) → next_of n i ≤ i + 1
next_below n i = by (nat_lt (i + 1) n && nat_eq (block_of (i + 1)) (block_of i))
  where
    by : (b : Bool) → cond b (i + 1) (first_of (block_of i)) ≤ i + 1
    by true = omega arith
    by false = omega arith

-- a tag is one of four
pub tag_within : (i : ℕ) → (1 ≤ tag_of i) × (tag_of i ≤ 4)
tag_within i = by (nat_eq i (first_of (block_of i)) && nat_eq (block_of i % 3) 0)
  where
    by : (b : Bool) → (1 ≤ cond b 4 (1 + i % 3)) × (cond b 4 (1 + i % 3) ≤ 4)
    by true = (omega arith, omega arith)
    by false = (omega arith, omega arith)

-- the tokens of an item's line
abbrev pub tokens_of : ℕ → ℕ → List Spelled
tokens_of n i = tokens_with (decimal i) (decimal (next_of n i)) (decimal (tag_of i))

-- the lines of k items, from item i on
lines_lexed : (n k i : ℕ) → i + k ≤ 100000 → IsLexed Turtle (10 ∷ flat_map (line_of n) (range_with_len i k)) (prepend (flat_map (tokens_of n) (range_with_len i k)) finished)
lines_lexed n zero i le = end_lexed Turtle (10 ∷ []) refl refl
lines_lexed n (suc k) i le =
    let below = next_below n i in
    let tag = tag_within i in
    line_lexed (decimal i) (decimal (next_of n i)) (decimal (tag_of i)) (all_digits i (omega arith)) (all_digits (next_of n i) (omega arith)) (four_tags (tag_of i) tag.0 tag.1)
    (flat_map (line_of n) (range_with_len (i + 1) k)) (prepend (flat_map (tokens_of n) (range_with_len (i + 1) k)) finished) (lines_lexed n k (i + 1) (omega arith))

-- the tokens of the first line
abbrev pub prefix_tokens : List Spelled
prefix_tokens =
    record { kind = kinds.LangTag; text = codes "@prefix" } ∷ record { kind = kinds.PnameNs; text = codes ":" } ∷ record { kind = kinds.IriRef; text = codes "<http://d.example/>" } ∷ of_mark (codes ".") ∷ []

abbrev pub graph_tokens : ℕ → List Spelled
graph_tokens n = prefix_tokens ++ flat_map (tokens_of n) (range_with_len 0 n)

prefix_lexed : (rest : List ℕ) (ahead : Ahead Spelled) → IsLexed Turtle (10 ∷ rest) ahead → IsLexed Turtle (codes "@prefix : <http://d.example/> .\n" ++ rest) (prepend prefix_tokens ahead)
unfolding digit letter letter_or_digit hexadecimal name_base name_char local_start local_char label_start local_escaped text_escaped iri_char short_char long_char line_end turtle_mark brace schema_mark pattern_start pattern_char flag any_char
prefix_lexed rest ahead lexed =
    let dot : IsLexed Turtle (codes " .\n" ++ rest) (token (of_mark (codes ".")) ahead) = token_lexed Turtle (32 ∷ []) [] (10 ∷ rest) 46 kinds.Punct ahead refl refl refl refl lexed in
    let iri : IsLexed Turtle (codes " <http://d.example/> .\n" ++ rest) (token (record { kind = kinds.IriRef; text = codes "<http://d.example/>" }) (token (of_mark (codes ".")) ahead)) =
    token_lexed Turtle (32 ∷ []) (codes "http://d.example/>") (codes " .\n" ++ rest) 60 kinds.IriRef (token (of_mark (codes ".")) ahead) refl refl refl refl dot in
    let name : IsLexed Turtle (codes " : <http://d.example/> .\n" ++ rest)
    (prepend (record { kind = kinds.PnameNs; text = codes ":" } ∷ record { kind = kinds.IriRef; text = codes "<http://d.example/>" } ∷ of_mark (codes ".") ∷ []) ahead) =
    token_lexed Turtle (32 ∷ []) [] (codes " <http://d.example/> .\n" ++ rest) 58 kinds.PnameNs (token (record { kind = kinds.IriRef; text = codes "<http://d.example/>" }) (token (of_mark (codes ".")) ahead)) refl refl refl refl iri in
    token_lexed Turtle [] (codes "prefix") (codes " : <http://d.example/> .\n" ++ rest) 64 kinds.LangTag
    (prepend (record { kind = kinds.PnameNs; text = codes ":" } ∷ record { kind = kinds.IriRef; text = codes "<http://d.example/>" } ∷ of_mark (codes ".") ∷ []) ahead) refl refl refl refl name

graph_lexed : (n : ℕ) → n ≤ 100000 → IsLexed Turtle (graph_text n) (prepend (graph_tokens n) finished)
graph_lexed n le = prefix_lexed (flat_map (line_of n) (range_with_len 0 n)) (prepend (flat_map (tokens_of n) (range_with_len 0 n)) finished) (lines_lexed n n 0 (omega arith))

-- the data are UTF-8, and these are their tokens
pub graph_utf8 : (n : ℕ) → n ≤ 100000 → IsUtf8 (graph_text n)
graph_utf8 n le = IsUtf8-from_ascii (graph_text n) (ascii (graph_text n) (graph_lexed n le).plain)

pub graph_is_tokens : (n : ℕ) → n ≤ 100000 → Tokens Turtle (graph_text n) (graph_tokens n)
graph_is_tokens n le = to_tokens Turtle (graph_text n) (graph_utf8 n le) (graph_tokens n) ((graph_lexed n le).ahead_is [] refl)
