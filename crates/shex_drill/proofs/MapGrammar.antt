-- The map is of one item.
use Rattle.std.proofs.Common.{true, false, List, [], ◌∷◌, ◌++◌, codes, None, inl, inr, refl, ap}
use Rattle.std.specs.Str.{IsUtf8}
use Rattle.std.proofs.lemmas.Str.{IsUtf8-from_ascii}
use Rattle.rdf_cursor.specs.Ahead.{Ahead, finished, token, prepend}
use Rattle.rdf_cursor.specs.Phrases.{none}
use Rattle.rdf_cursor.specs.Symbols.{is_symbol}
use Rattle.rdf_cursor.specs.declared.symbols.Symbol.TheVariants as symbol
use Rattle.rdf_cursor.proofs.Streams.{to_tokens}
use Rattle.rdf_lex.specs.declared.kinds.Kind.TheVariants as kinds
use Rattle.rdf_lex.specs.declared.kinds.Mode.TheVariants.{Map}
use Rattle.rdf_lex.specs.Characters.{digit, letter, letter_or_digit, hexadecimal, name_base, name_char, local_start, local_char, label_start, local_escaped, text_escaped, iri_char, short_char, long_char, line_end, turtle_mark, brace, schema_mark, pattern_start, pattern_char, flag, any_char}
use Rattle.rdf_lex.specs.Tokens.{Spelled, Tokens}
use Rattle.schema_documents.specs.declared.label.Label.TheVariants as label
use Rattle.schema_tree.specs.declared.schema.Target.TheVariants as target
use Rattle.shape_map.specs.Maps.{IsMap}
use Rattle.shape_map.specs.Grammar.{Triples, OfSubjects, Item}
use Rattle.shape_map.specs.declared.items.Focus.TheVariants.{Subject}
use Rattle.shape_map.specs.declared.items.Selector.TheVariants as selector
use Rattle.shape_map.specs.declared.items.TriplePattern.{TriplePattern}
use Rattle.term_tokens.specs.Scopes.{Scope}
use Rattle.shex_drill.specs.Map.{map_item}
use Rattle.shex_drill.specs.Terms.{IsAtHome, home, named}
use Rattle.shex_drill.specs.Texts.{map_text}
use Rattle.shex_drill.proofs.Lexing.{IsLexed, ascii, token_lexed, end_lexed}
use Rattle.shex_drill.proofs.LineTokens.{of_name, of_mark}
use Rattle.shex_drill.proofs.Marks.{mark_is, chars_are, term_is}
use Rattle.shex_drill.proofs.Names.{tag_iri, shape_iri}

-- ---- the tokens

abbrev focus_word : Spelled
focus_word = record { kind = kinds.Word; text = codes "FOCUS" }

abbrev shape_name : Spelled
shape_name = record { kind = kinds.AtName; text = codes "@:Item" }

abbrev behind_tag : Ahead Spelled
behind_tag = token (of_mark (codes "_")) (token (of_mark (codes "}")) (token shape_name finished))

abbrev behind_brace : Ahead Spelled
behind_brace = token focus_word (token (of_name (codes ":tag")) behind_tag)

abbrev map_tokens : List Spelled
map_tokens = of_mark (codes "{") ∷ focus_word ∷ of_name (codes ":tag") ∷ of_mark (codes "_") ∷ of_mark (codes "}") ∷ shape_name ∷ []

map_lexed : IsLexed Map map_text (prepend map_tokens finished)
unfolding digit letter letter_or_digit hexadecimal name_base name_char local_start local_char label_start local_escaped text_escaped iri_char short_char long_char line_end turtle_mark brace schema_mark pattern_start pattern_char flag any_char
map_lexed =
    let end : IsLexed Map (10 ∷ []) finished = end_lexed Map (10 ∷ []) refl refl in
    let shape : IsLexed Map (codes "@:Item\n") (token shape_name finished) = token_lexed Map [] (codes ":Item") (10 ∷ []) 64 kinds.AtName finished refl refl refl refl end in
    let close : IsLexed Map (codes "}@:Item\n") (token (of_mark (codes "}")) (token shape_name finished)) =
    token_lexed Map [] [] (codes "@:Item\n") 125 kinds.Punct (token shape_name finished) refl refl refl refl shape in
    let any : IsLexed Map (codes " _}@:Item\n") behind_tag =
    token_lexed Map (32 ∷ []) [] (codes "}@:Item\n") 95 kinds.Punct (token (of_mark (codes "}")) (token shape_name finished)) refl refl refl refl close in
    let tag : IsLexed Map (codes " :tag _}@:Item\n") (token (of_name (codes ":tag")) behind_tag) = token_lexed Map (32 ∷ []) (codes "tag")
    (codes " _}@:Item\n") 58 kinds.PnameLn behind_tag refl refl refl refl any in
    let focus : IsLexed Map (codes "FOCUS :tag _}@:Item\n") behind_brace = token_lexed Map [] (codes "OCUS")
    (codes " :tag _}@:Item\n") 70 kinds.Word (token (of_name (codes ":tag")) behind_tag) refl refl refl refl tag in
    token_lexed Map [] [] (codes "FOCUS :tag _}@:Item\n") 123 kinds.Punct behind_brace refl refl refl refl focus

map_utf8 : IsUtf8 map_text
map_utf8 = IsUtf8-from_ascii map_text (ascii map_text refl)

map_is_tokens : Tokens Map map_text map_tokens
map_is_tokens = to_tokens Map map_text map_utf8 map_tokens (map_lexed.ahead_is [] refl)

-- ---- the grammar

abbrev pattern : TriplePattern
pattern = record { focus = Subject; predicate = named (codes "tag"); other = None }

module _ (nodes labels : Scope) (known : IsAtHome nodes) (declared : IsAtHome labels) where
  subjects : OfSubjects nodes pattern behind_brace (token (of_mark (codes "}")) (token shape_name finished))
  unfolding is_symbol
  subjects = (
    named (codes "tag"),
    None,
    refl,
    (
      token (of_name (codes ":tag")) behind_tag,
      mark_is symbol.Focus focus_word (token (of_name (codes ":tag")) behind_tag) refl,
      (
        behind_tag,
        inr (home ++ codes "tag", term_is (home ++ codes "tag") refl, (of_name (codes ":tag"), refl, tag_iri false nodes known)),
        mark_is symbol.Underscore (of_mark (codes "_")) (token (of_mark (codes "}")) (token shape_name finished)) refl,
      ),
    ),
  )

  triples : Triples nodes pattern (prepend map_tokens finished) (token shape_name finished)
  unfolding is_symbol
  triples = (
    behind_brace,
    mark_is symbol.OpenBrace (of_mark (codes "{")) behind_brace refl,
    (token (of_mark (codes "}")) (token shape_name finished), inl subjects, mark_is symbol.CloseBrace (of_mark (codes "}")) (token shape_name finished) refl),
  )

  item : Item nodes labels map_item (prepend map_tokens finished) finished
  item =
      let meant = ap (λ iri. target.Label (label.Iri iri)) (chars_are (home ++ codes "Item") refl) in (
        selector.Triples pattern,
        target.Label (label.Iri (home ++ codes "Item")),
        true,
        refl,
        (token shape_name finished, inr (pattern, refl, triples), inr (inl (home ++ codes "Item", meant, refl, (shape_name, refl, shape_iri false labels declared)))),
      )

pub map_of_item : (nodes labels : Scope) → IsAtHome nodes → IsAtHome labels → IsMap nodes labels map_text (map_item ∷ [])
map_of_item nodes labels known declared = (map_tokens, map_utf8, map_is_tokens, inr (map_item ∷ [], (finished, (map_item, refl, item nodes labels known declared), none)))
