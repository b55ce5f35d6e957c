-- The tokens of the data are a document.
use Rattle.std.proofs.Common.{◌≤◌, ℕ, zero, suc, ◌+◌, true, List, [], ◌∷◌, ◌++◌, length, append_assoc, codes, inl, inr, refl, sym, ap, subst, arith}
use Rattle.std.specs.Fmt.{decimal}
use Rattle.std.specs.List.{flat_map, range_with_len}
use Rattle.std.specs.Str.Parse.{AllDigits}
use Rattle.std.proofs.lemmas.List.{append-nil}
use Rattle.graph_index.specs.declared.loading.TermTriple.{TermTriple}
use Rattle.rdf_cursor.specs.Ahead.{Ahead, finished, token, prepend}
use Rattle.rdf_cursor.specs.Phrases.{Many, none, more}
use Rattle.rdf_cursor.specs.Symbols.{is_symbol}
use Rattle.rdf_cursor.specs.declared.symbols.Symbol.TheVariants as symbol
use Rattle.rdf_lex.specs.declared.kinds.Kind.TheVariants as kinds
use Rattle.rdf_lex.specs.Tokens.{Spelled}
use Rattle.rdf_terms.specs.Vocabulary.{xsd_integer}
use Rattle.rdf_terms.specs.declared.terms.Term.{Term}
use Rattle.term_tokens.specs.Terms.{typed}
use Rattle.turtle_reader.specs.Documents.{inner_depth, IsDocument}
use Rattle.turtle_reader.specs.Grammar.{Resource, Pair, Further, Predicates, Object, AboutSubject, Statement, Behind}
use Rattle.turtle_reader.specs.States.{DocumentScope, names_in, start}
use Rattle.shex_drill.specs.Graph.{triples_of, graph_triples, graph_scope}
use Rattle.shex_drill.specs.Terms.{IsAtHome, home, named}
use Rattle.shex_drill.specs.Texts.{next_of, tag_of, graph_text}
use Rattle.shex_drill.proofs.Digits.{all_digits, few_digits}
use Rattle.shex_drill.proofs.GraphTokens.{next_below, tag_within, tokens_of, prefix_tokens, graph_tokens, graph_utf8, graph_is_tokens}
use Rattle.shex_drill.proofs.LineTokens.{of_name, of_mark, of_number, item_name, tokens_with, plain_digits}
use Rattle.shex_drill.proofs.Lexing.{plain_append}
use Rattle.shex_drill.proofs.Marks.{mark_is, term_is}
use Rattle.shex_drill.proofs.Names.{item_iri, next_iri, tag_iri, home_iri, number_is}

-- one triple more
abbrev with_triple : Term → Term → Term → DocumentScope → DocumentScope
with_triple s p o v = record v { triples = v.triples ++ record { subject = s; predicate = p; object = o } ∷ [] }

-- ---- a line, of the digits of its item, of the next item and of the tag

module _ (base : List ℕ) (x y z : List ℕ) (dx : AllDigits 10 x) (dy : AllDigits 10 y) (dz : AllDigits 10 z) (sx : length x ≤ 20) (sy : length y ≤ 20) (sz : length z ≤ 20) (rest : Ahead Spelled) where
  abbrev v : DocumentScope
  v = graph_scope base

  abbrev item : List ℕ → Term
  item ds = named (codes "i" ++ ds)

  at_home : IsAtHome (names_in v)
  at_home = refl

  -- an item by its name
  resource : (w : DocumentScope) (ds : List ℕ) (r : Ahead Spelled) → IsAtHome (names_in w) → AllDigits 10 ds → length ds ≤ 20 → Resource true w (item ds) (token (of_name (item_name ds)) r) r
  resource w ds r known all short =
      inl (home ++ 105 ∷ ds, term_is (home ++ 105 ∷ ds) (plain_append home (105 ∷ ds) refl (plain_digits ds all)), (of_name (item_name ds), refl, item_iri true (names_in w) ds known all short))

  -- the scope behind each triple
  abbrev next_object : DocumentScope
  next_object = with_triple (item x) (named (codes "next")) (item y) v

  abbrev tag_object : DocumentScope
  tag_object = with_triple (item x) (named (codes "tag")) (typed z xsd_integer) next_object

  -- what lies ahead behind the subject, and behind the next item
  abbrev behind_next : Ahead Spelled
  behind_next = token (of_mark (codes ";")) (token (of_name (codes ":tag")) (token (of_number z) (token (of_mark (codes ".")) rest)))

  abbrev behind_subject : Ahead Spelled
  behind_subject = token (of_name (codes ":next")) (token (of_name (item_name y)) behind_next)

  abbrev at_end : Ahead Spelled
  at_end = token (of_mark (codes ".")) rest

  next_pair : Pair true (Object true 64) (item x) v next_object behind_subject behind_next
  unfolding Object
  next_pair =
      let put = ap (λ p. with_triple (item x) p (item y) v) (term_is (home ++ codes "next") refl) in (
        home ++ codes "next",
        (
          token (of_name (item_name y)) behind_next,
          inr (of_name (codes ":next"), refl, next_iri true (names_in v) at_home),
          (next_object, (behind_next, (item y, v, put, inl (refl, inr (inr (resource v y behind_next at_home dy sy)))), none)),
        ),
      )

  tag_pair : Pair true (Object true 64) (item x) next_object tag_object (token (of_name (codes ":tag")) (token (of_number z) at_end)) at_end
  unfolding Object
  tag_pair =
      let put = ap (λ p. with_triple (item x) p (typed z xsd_integer) next_object) (term_is (home ++ codes "tag") refl) in (
        home ++ codes "tag",
        (
          token (of_number z) at_end,
          inr (of_name (codes ":tag"), refl, tag_iri true (names_in next_object) at_home),
          (tag_object, (at_end, (typed z xsd_integer, next_object, put, inl (refl, inr (inl (of_number z, refl, number_is true z dz sz)))), none)),
        ),
      )

  further : Further true (Object true 64) (item x) next_object tag_object behind_next at_end
  unfolding is_symbol
  further = (token (of_name (codes ":tag")) (token (of_number z) at_end), mark_is symbol.Semicolon (of_mark (codes ";")) (token (of_name (codes ":tag")) (token (of_number z) at_end)) refl, inl tag_pair)

  predicates : Predicates true (Object true 64) (item x) v tag_object behind_subject at_end
  predicates = (next_object, (behind_next, next_pair, more further none))

  about : AboutSubject true inner_depth v tag_object (token (of_name (item_name x)) behind_subject) at_end
  about = (item x, v, (behind_subject, inl (refl, resource v x behind_subject at_home dx sx), predicates))

  statement : Statement true inner_depth v tag_object (prepend (tokens_with x y z) rest) rest
  unfolding is_symbol
  statement = inr (at_end, inl about, mark_is symbol.Dot (of_mark (codes ".")) rest refl)

  pub line_behind : (so_far : List TermTriple) → Behind true inner_depth (v, so_far)
      (v, so_far ++ record { subject = item x; predicate = named (codes "next"); object = item y } ∷ record { subject = item x; predicate = named (codes "tag"); object = typed z xsd_integer } ∷ [])
      (prepend (tokens_with x y z) rest) rest
  line_behind so_far = (tag_object, refl, refl, statement)

-- ---- all lines

item_behind : (base : List ℕ) (n i : ℕ) (so_far : List TermTriple) (rest : Ahead Spelled) → i ≤ 100000
    → Behind true inner_depth (graph_scope base, so_far) (graph_scope base, so_far ++ triples_of n i) (prepend (tokens_of n i) rest) rest
item_behind base n i so_far rest le =
    let below = next_below n i in
    let tag = tag_within i in
    let x = decimal i in
    let y = decimal (next_of n i) in
    let z = decimal (tag_of i) in
    line_behind base x y z (all_digits i (omega arith)) (all_digits (next_of n i) (omega arith)) (all_digits (tag_of i) (omega arith))
    (few_digits i (omega arith)) (few_digits (next_of n i) (omega arith))
    (few_digits (tag_of i) (omega arith)) rest so_far

-- the lines of k items, from item i on
lines : (base : List ℕ) (n k i : ℕ) (so_far : List TermTriple) → i + k ≤ 100000
    → Many (Behind true inner_depth) (graph_scope base, so_far) (graph_scope base, so_far ++ flat_map (triples_of n) (range_with_len i k))
    (prepend (flat_map (tokens_of n) (range_with_len i k)) finished) finished
lines base n zero i so_far le =
    subst (λ all. Many (Behind true inner_depth) (graph_scope base, so_far) (graph_scope base, all) finished finished) (sym (append-nil so_far)) none
lines base n (suc k) i so_far le =
    let tokens = prepend (flat_map (tokens_of n) (range_with_len (i + 1) k)) finished in
    let first = item_behind base n i so_far tokens (omega arith) in
    let others = lines base n k (i + 1) (so_far ++ triples_of n i) (omega arith) in
    subst (λ all. Many (Behind true inner_depth) (graph_scope base, so_far) (graph_scope base, all) (prepend (tokens_of n i) tokens) finished)
    (append_assoc so_far (triples_of n i) (flat_map (triples_of n) (range_with_len (i + 1) k))) (more first others)

-- ---- the document

prefix_behind : (base : List ℕ) (rest : Ahead Spelled) → Behind true inner_depth (start base, []) (graph_scope base, []) (prepend prefix_tokens rest) rest
unfolding is_symbol
prefix_behind base rest =
    let name : Spelled = record { kind = kinds.PnameNs; text = codes ":" } in
    let iri : Spelled = record { kind = kinds.IriRef; text = codes "<http://d.example/>" } in
    let dot = token (of_mark (codes ".")) rest in (
      graph_scope base,
      refl,
      refl,
      inl (inl (
        token name (token iri dot),
        mark_is symbol.AtPrefix (record { kind = kinds.LangTag; text = codes "@prefix" }) (token name (token iri dot)) refl,
        (dot, (name, home, refl, (token iri dot, (name, refl, refl), (iri, refl, home_iri true (names_in (start base))))), mark_is symbol.Dot (of_mark (codes ".")) rest refl),
      )),
    )

pub graph_document : (n : ℕ) → n ≤ 100000 → (base : List ℕ) → IsDocument base (graph_text n) (graph_scope base, graph_triples n)
graph_document n le base =
    (graph_tokens n, graph_utf8 n le, graph_is_tokens n le, more (prefix_behind base (prepend (flat_map (tokens_of n) (range_with_len 0 n)) finished)) (lines base n n 0 [] (omega arith)))
