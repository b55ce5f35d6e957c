-- The tokens of the schema.
use Rattle.std.proofs.Common.{ℕ, List, [], ◌∷◌, codes, refl}
use Rattle.std.specs.Str.{IsUtf8}
use Rattle.std.proofs.lemmas.Str.{IsUtf8-from_ascii}
use Rattle.rdf_cursor.specs.Ahead.{Ahead, finished, token}
use Rattle.rdf_cursor.proofs.Streams.{to_tokens}
use Rattle.rdf_lex.specs.declared.kinds.Kind.{Kind}
use Rattle.rdf_lex.specs.declared.kinds.Kind.TheVariants as kinds
use Rattle.rdf_lex.specs.declared.kinds.Mode.TheVariants.{Schema}
use Rattle.rdf_lex.specs.Characters.{digit, letter, letter_or_digit, hexadecimal, name_base, name_char, local_start, local_char, label_start, local_escaped, text_escaped, iri_char, short_char, long_char, line_end, turtle_mark, brace, schema_mark, pattern_start, pattern_char, flag, any_char}
use Rattle.rdf_lex.specs.Tokens.{Spelled, Tokens}
use Rattle.shex_drill.specs.Texts.{schema_text}
use Rattle.shex_drill.proofs.Lexing.{IsLexed, ascii, token_lexed, end_lexed}
use Rattle.shex_drill.proofs.LineTokens.{of_name, of_mark, of_number}

abbrev of_kind : Kind → List ℕ → Spelled
of_kind k text = record { kind = k; text = text }

-- what lies ahead from each token on, from the last one to the first
abbrev pub from_close_brace : Ahead Spelled
from_close_brace = token (of_mark (codes "}")) finished

abbrev pub from_close_bracket : Ahead Spelled
from_close_bracket = token (of_mark (codes "]")) from_close_brace

abbrev pub from_three : Ahead Spelled
from_three = token (of_number (codes "3")) from_close_bracket

abbrev pub from_two : Ahead Spelled
from_two = token (of_number (codes "2")) from_three

abbrev pub from_one : Ahead Spelled
from_one = token (of_number (codes "1")) from_two

abbrev pub from_open_bracket : Ahead Spelled
from_open_bracket = token (of_mark (codes "[")) from_one

abbrev pub from_tag_name : Ahead Spelled
from_tag_name = token (of_name (codes ":tag")) from_open_bracket

abbrev pub from_semicolon : Ahead Spelled
from_semicolon = token (of_mark (codes ";")) from_tag_name

abbrev pub from_star : Ahead Spelled
from_star = token (of_mark (codes "*")) from_semicolon

abbrev pub from_item_ref : Ahead Spelled
from_item_ref = token (of_kind kinds.AtName (codes "@:Item")) from_star

abbrev pub from_next_name : Ahead Spelled
from_next_name = token (of_name (codes ":next")) from_item_ref

abbrev pub from_open_brace : Ahead Spelled
from_open_brace = token (of_mark (codes "{")) from_next_name

abbrev pub from_item_name : Ahead Spelled
from_item_name = token (of_name (codes ":Item")) from_open_brace

abbrev pub from_home_ref : Ahead Spelled
from_home_ref = token (of_kind kinds.IriRef (codes "<http://d.example/>")) from_item_name

abbrev pub from_colon_name : Ahead Spelled
from_colon_name = token (of_kind kinds.PnameNs (codes ":")) from_home_ref

abbrev pub from_prefix_word : Ahead Spelled
from_prefix_word = token (of_kind kinds.Word (codes "PREFIX")) from_colon_name

abbrev pub schema_tokens : List Spelled
schema_tokens =
    of_kind kinds.Word (codes "PREFIX") ∷ of_kind kinds.PnameNs (codes ":") ∷ of_kind kinds.IriRef (codes "<http://d.example/>") ∷ of_name (codes ":Item") ∷ of_mark (codes "{") ∷ of_name (codes ":next") ∷ of_kind kinds.AtName (codes "@:Item") ∷ of_mark (codes "*") ∷ of_mark (codes ";") ∷ of_name (codes ":tag") ∷ of_mark (codes "[") ∷ of_number (codes "1") ∷ of_number (codes "2") ∷ of_number (codes "3") ∷ of_mark (codes "]") ∷ of_mark (codes "}") ∷ []

schema_lexed : IsLexed Schema schema_text from_prefix_word
unfolding digit letter letter_or_digit hexadecimal name_base name_char local_start local_char label_start local_escaped text_escaped iri_char short_char long_char line_end turtle_mark brace schema_mark pattern_start pattern_char flag any_char
schema_lexed =
    let end : IsLexed Schema (10 ∷ []) finished = end_lexed Schema (10 ∷ []) refl refl in
    let lexed_close_brace : IsLexed Schema (codes " }\n") from_close_brace = token_lexed Schema (32 ∷ []) [] (codes "\n") 125 kinds.Punct finished refl refl refl refl end in
    let lexed_close_bracket : IsLexed Schema (codes "] }\n") from_close_bracket = token_lexed Schema [] [] (codes " }\n") 93 kinds.Punct from_close_brace refl refl refl refl lexed_close_brace in
    let lexed_three : IsLexed Schema (codes " 3] }\n") from_three = token_lexed Schema (32 ∷ []) [] (codes "] }\n") 51 kinds.Integer from_close_bracket refl refl refl refl lexed_close_bracket in
    let lexed_two : IsLexed Schema (codes " 2 3] }\n") from_two = token_lexed Schema (32 ∷ []) [] (codes " 3] }\n") 50 kinds.Integer from_three refl refl refl refl lexed_three in
    let lexed_one : IsLexed Schema (codes "1 2 3] }\n") from_one = token_lexed Schema [] [] (codes " 2 3] }\n") 49 kinds.Integer from_two refl refl refl refl lexed_two in
    let lexed_open_bracket : IsLexed Schema (codes " [1 2 3] }\n") from_open_bracket = token_lexed Schema (32 ∷ []) [] (codes "1 2 3] }\n") 91 kinds.Punct from_one refl refl refl refl lexed_one in
    let lexed_tag_name : IsLexed Schema (codes " :tag [1 2 3] }\n") from_tag_name = token_lexed Schema (32 ∷ []) (codes "tag")
    (codes " [1 2 3] }\n") 58 kinds.PnameLn from_open_bracket refl refl refl refl lexed_open_bracket in
    let lexed_semicolon : IsLexed Schema (codes " ; :tag [1 2 3] }\n") from_semicolon =
    token_lexed Schema (32 ∷ []) [] (codes " :tag [1 2 3] }\n") 59 kinds.Punct from_tag_name refl refl refl refl lexed_tag_name in
    let lexed_star : IsLexed Schema (codes "* ; :tag [1 2 3] }\n") from_star =
    token_lexed Schema [] [] (codes " ; :tag [1 2 3] }\n") 42 kinds.Punct from_semicolon refl refl refl refl lexed_semicolon in
    let lexed_item_ref : IsLexed Schema (codes " @:Item* ; :tag [1 2 3] }\n") from_item_ref = token_lexed Schema (32 ∷ []) (codes ":Item")
    (codes "* ; :tag [1 2 3] }\n") 64 kinds.AtName from_star refl refl refl refl lexed_star in
    let lexed_next_name : IsLexed Schema (codes " :next @:Item* ; :tag [1 2 3] }\n") from_next_name = token_lexed Schema (32 ∷ []) (codes "next")
    (codes " @:Item* ; :tag [1 2 3] }\n") 58 kinds.PnameLn from_item_ref refl refl refl refl lexed_item_ref in
    let lexed_open_brace : IsLexed Schema (codes " { :next @:Item* ; :tag [1 2 3] }\n") from_open_brace =
    token_lexed Schema (32 ∷ []) [] (codes " :next @:Item* ; :tag [1 2 3] }\n") 123 kinds.Punct from_next_name refl refl refl refl lexed_next_name in
    let lexed_item_name : IsLexed Schema (codes "\n:Item { :next @:Item* ; :tag [1 2 3] }\n") from_item_name = token_lexed Schema (10 ∷ []) (codes "Item")
    (codes " { :next @:Item* ; :tag [1 2 3] }\n") 58 kinds.PnameLn from_open_brace refl refl refl refl lexed_open_brace in
    let lexed_home_ref : IsLexed Schema (codes " <http://d.example/>\n:Item { :next @:Item* ; :tag [1 2 3] }\n") from_home_ref = token_lexed Schema (32 ∷ [])
    (codes "http://d.example/>") (codes "\n:Item { :next @:Item* ; :tag [1 2 3] }\n") 60 kinds.IriRef from_item_name refl refl refl refl lexed_item_name in
    let lexed_colon_name : IsLexed Schema (codes " : <http://d.example/>\n:Item { :next @:Item* ; :tag [1 2 3] }\n") from_colon_name =
    token_lexed Schema (32 ∷ []) [] (codes " <http://d.example/>\n:Item { :next @:Item* ; :tag [1 2 3] }\n") 58 kinds.PnameNs from_home_ref refl refl refl refl lexed_home_ref in
    token_lexed Schema [] (codes "REFIX") (codes " : <http://d.example/>\n:Item { :next @:Item* ; :tag [1 2 3] }\n") 80 kinds.Word from_colon_name refl refl refl refl lexed_colon_name

pub schema_utf8 : IsUtf8 schema_text
schema_utf8 = IsUtf8-from_ascii schema_text (ascii schema_text refl)

pub schema_is_tokens : Tokens Schema schema_text schema_tokens
schema_is_tokens = to_tokens Schema schema_text schema_utf8 schema_tokens (schema_lexed.ahead_is [] refl)
