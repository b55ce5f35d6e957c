-- The tokens of the schema are a document.
use Rattle.std.proofs.Common.{◌≡◌, ◌≤◌, ℕ, Bool, true, false, List, [], ◌∷◌, ◌++◌, codes, Some, None, Ok, Err, inl, inr, refl, sym, ap, ◌∙◌, arith}
use Rattle.std.specs.Fmt.{decimal, digits}
use Rattle.rdf_cursor.specs.Ahead.{Ahead, finished, token, next_is}
use Rattle.rdf_cursor.specs.Phrases.{Phrase, none, more}
use Rattle.rdf_cursor.specs.Symbols.{is_symbol, is_among}
use Rattle.rdf_cursor.specs.declared.symbols.Symbol.{Symbol}
use Rattle.rdf_cursor.specs.declared.symbols.Symbol.TheVariants as symbol
use Rattle.rdf_lex.specs.declared.kinds.Kind.TheVariants as kinds
use Rattle.rdf_lex.specs.Tokens.{Spelled}
use Rattle.schema_documents.specs.Tree.{ShapeExpr, TripleExpr, arc, each, node, one_expr, one_triple, refer, triple, triples}
use Rattle.schema_documents.specs.declared.label.Label.TheVariants as label
use Rattle.shexc_constraints.specs.Grammar.{OneValue, ValueSet}
use Rattle.shexc_constraints.specs.Meanings.{at_name_of, iri_of, iri_ref_of, shorthand_of}
use Rattle.shexc_constraints.specs.Stops.{raised}
use Rattle.shexc_constraints.specs.Symbols.{Mark, of_symbol}
use Rattle.shexc_constraints.specs.declared.faults.Fault.TheVariants.{Syntax}
use Rattle.shexc_reader.specs.Documents.{at_first, max_depth, IsDocument}
use Rattle.shexc_reader.specs.Grammar.{Inside, Level, Separated, Alternatives, Atom, Braces, Conjunction, Expression, Group, Negated, Unary, Statement, Whole}
use Rattle.shexc_reader.specs.States.{declared}
use Rattle.shexc_reader.specs.Symbols.{connectives}
use Rattle.tally.specs.declared.Bound.TheVariants.{Free, Upto}
use Rattle.term_tokens.specs.Scopes.{Scope}
use Rattle.term_tokens.specs.Terms as any
use Rattle.term_tokens.specs.Terms.{typed}
use Rattle.value_sets.specs.declared.value.Value.{Value}
use Rattle.value_sets.specs.declared.value.Value.TheVariants as values
use Rattle.shex_drill.specs.Schema.{item_label, next_arc, allowed_tags, tag_arc, item_shape, schema_state}
use Rattle.shex_drill.specs.Terms.{home, tag_term, IsAtHome}
use Rattle.shex_drill.specs.Texts.{schema_text}
use Rattle.shex_drill.proofs.Digits.{all_digits, few_digits}
use Rattle.shex_drill.proofs.LineTokens.{of_name, of_mark, of_number}
use Rattle.shex_drill.proofs.Marks.{chars_are}
use Rattle.shex_drill.proofs.Names.{next_iri, tag_iri, label_iri, shape_iri, home_iri, number_is}
use Rattle.shex_drill.proofs.SchemaTokens.{from_prefix_word, from_colon_name, from_home_ref, from_item_name, from_open_brace, from_next_name, from_item_ref, from_star, from_semicolon, from_tag_name, from_open_bracket, from_one, from_two, from_three, from_close_bracket, from_close_brace, schema_tokens, schema_utf8, schema_is_tokens}

-- ---- single tokens

mark_is : (a : Symbol) (t : Spelled) (rest : Ahead Spelled) → is_symbol a t ≡ true → Mark a (token t rest) rest
mark_is a t rest e = (t, (t, refl, rw e refl))

same_token : (t u : Spelled) (x y : Ahead Spelled) → token t x ≡ token u y → t ≡ u
same_token t u x y e = cc

apart : (t u : Spelled) → of_symbol symbol.Dot t ≡ Err Syntax → of_symbol symbol.Dot t ≡ Ok u → ⊥
apart t u e f = cc

-- a token that is no dot
no_dot : (t : Spelled) (rest m : Ahead Spelled) → is_symbol symbol.Dot t ≡ false → Mark symbol.Dot (token t rest) m → next_is (is_among connectives) m ≡ true
no_dot t rest m e (u, (w, same, is)) =
    let other : of_symbol symbol.Dot t ≡ Err Syntax = rw e refl in
    let found : of_symbol symbol.Dot t ≡ Ok u = ap (of_symbol symbol.Dot) (same_token t w rest m same) ∙ is in
    absurd (apart t u other found)

iri_is : (v : Scope) (t : Spelled) (iri : List ℕ) → any.iri_of false v t ≡ Ok iri → iri_of v t ≡ Ok iri
unfolding iri_of
iri_is v t iri e = ap raised e

-- the text of each tag
one_text : decimal 1 ≡ codes "1"
unfolding digits
one_text = refl

two_text : decimal 2 ≡ codes "2"
unfolding digits
two_text = refl

three_text : decimal 3 ≡ codes "3"
unfolding digits
three_text = refl

tag_is : (t : ℕ) (z : List ℕ) → t ≤ 3 → decimal t ≡ z → shorthand_of (of_number z) ≡ Ok (tag_term t)
unfolding shorthand_of
tag_is t z le e =
    let all = all_digits t (omega arith) in
    let read : any.shorthand_of false (of_number (decimal t)) ≡ Ok (tag_term t) = number_is false (decimal t) all (few_digits t (omega arith)) in
    ap (λ d. raised (any.shorthand_of false (of_number d))) (sym e) ∙ ap raised read

-- ---- lists of one

single : {A : Type 0} (a : Symbol) (One : A → Phrase Spelled) (x : A) (ts r : Ahead Spelled) → One x ts r → Separated a One (x ∷ []) ts r
single a One x ts r p = (x ∷ [], (r, (x, refl, p), none))

-- ---- the Shape

module _ (base : List ℕ) where
  abbrev v : Scope
  v = (declared [] home (at_first base)).scope

  at_home : IsAtHome v
  at_home = refl

  atom_alone : (n : ℕ) (inside : Inside) (whole : Bool) (e : ShapeExpr) (ts r : Ahead Spelled) → Atom true v n inside whole e ts r → Expression true v n inside whole e ts r
  atom_alone n inside whole e ts r p =
      (e ∷ [], refl, single symbol.Or (Conjunction true v n inside whole) e ts r (e ∷ [], refl, single symbol.And (Negated true v n inside whole) e ts r (inl p)))

  abbrev inner : Inside
  inner = Level true v 63

  -- an item leads to items alone
  next_value : Expression true v 63 inner false (refer item_label) from_item_ref from_star
  unfolding at_name_of
  next_value =
      let meant = ap label.Iri (chars_are (home ++ codes "Item") refl) in
      let name : Spelled = record { kind = kinds.AtName; text = codes "@:Item" } in
      atom_alone 63 inner false (refer item_label) from_item_ref from_star
      (inr (inr (inl (inl (inr (item_label, refl, inr (home ++ codes "Item", meant, (name, refl, ap raised (shape_iri false v at_home)))))))))

  next_unary : Unary true v 63 inner next_arc from_next_name from_semicolon
  unfolding is_symbol
  next_unary =
      let made = ap (λ p. triple None 0 Free (arc false p (one_expr (refer item_label)))) (chars_are (home ++ codes "next") refl) in
      let dotted : (m : Ahead Spelled) → Mark symbol.Dot from_item_ref m → next_is (is_among connectives) m ≡ true =
      λ m d. no_dot (record { kind = kinds.AtName; text = codes "@:Item" }) from_star m refl d in
      inl (
        None,
        (
          from_next_name,
          inl (refl, refl),
          inl (
            false,
            home ++ codes "next",
            one_expr (refer item_label),
            Some (0, Free),
            made,
            (
              from_next_name,
              inr (refl, refl),
              (
                from_item_ref,
                inr (of_name (codes ":next"), refl, iri_is v (of_name (codes ":next")) (home ++ codes "next") (next_iri false v at_home)),
                (from_star, inr (refer item_label, refl, dotted, next_value), (from_semicolon, inr ((0, Free), refl, inl (refl, mark_is symbol.Star (of_mark (codes "*")) from_semicolon refl)), none)),
              ),
            ),
          ),
        ),
      )

  -- the values of a tag
  one_value : (t : ℕ) (z : List ℕ) (rest : Ahead Spelled) → t ≤ 3 → decimal t ≡ z → OneValue v (values.Term (tag_term t)) (token (of_number z) rest) rest
  one_value t z rest le e = inl (tag_term t, refl, inr (inr (of_number z, refl, tag_is t z le e)))

  abbrev tags : List Value
  tags = values.Term (tag_term 1) ∷ values.Term (tag_term 2) ∷ values.Term (tag_term 3) ∷ []

  tag_set : ValueSet v tags from_open_bracket from_close_brace
  unfolding is_symbol
  tag_set = (
    from_one,
    mark_is symbol.OpenBracket (of_mark (codes "[")) from_one refl,
    (
      from_close_bracket,
      more (values.Term (tag_term 1), refl, one_value 1 (codes "1") from_two (omega arith) one_text)
          (more (values.Term (tag_term 2), refl, one_value 2 (codes "2") from_three (omega arith) two_text) (more (values.Term (tag_term 3), refl, one_value 3 (codes "3") from_close_bracket (omega arith) three_text) none)),
      mark_is symbol.CloseBracket (of_mark (codes "]")) from_close_brace refl,
    ),
  )

  tag_value : Expression true v 63 inner false (node allowed_tags) from_open_bracket from_close_brace
  tag_value = atom_alone 63 inner false (node allowed_tags) from_open_bracket from_close_brace (inr (inl (from_close_brace, inr (inr (inl (tags, [], refl, (from_close_brace, tag_set, none)))), refl)))

  tag_unary : Unary true v 63 inner tag_arc from_tag_name from_close_brace
  unfolding is_symbol
  tag_unary =
      let made = ap (λ p. triple None 1 (Upto 1) (arc false p (one_expr (node allowed_tags)))) (chars_are (home ++ codes "tag") refl) in
      let dotted : (m : Ahead Spelled) → Mark symbol.Dot from_open_bracket m → next_is (is_among connectives) m ≡ true = λ m d. no_dot (of_mark (codes "[")) from_one m refl d in
      inl (
        None,
        (
          from_tag_name,
          inl (refl, refl),
          inl (
            false,
            home ++ codes "tag",
            one_expr (node allowed_tags),
            None,
            made,
            (
              from_tag_name,
              inr (refl, refl),
              (
                from_open_bracket,
                inr (of_name (codes ":tag"), refl, iri_is v (of_name (codes ":tag")) (home ++ codes "tag") (tag_iri false v at_home)),
                (from_close_brace, inr (node allowed_tags, refl, dotted, tag_value), (from_close_brace, inl (refl, refl), none)),
              ),
            ),
          ),
        ),
      )

  -- both arcs
  abbrev both_arcs : TripleExpr
  both_arcs = triple None 1 (Upto 1) (each (triples (next_arc ∷ tag_arc ∷ [])))

  arcs : Alternatives true v 63 inner both_arcs from_next_name from_close_brace
  unfolding is_symbol
  arcs =
      let second = more (from_tag_name, mark_is symbol.Semicolon (of_mark (codes ";")) from_tag_name refl, (tag_arc, refl, tag_unary)) none in (
        both_arcs ∷ [],
        refl,
        single symbol.Bar (Group true v 63 inner) both_arcs from_next_name from_close_brace
            (next_arc ∷ tag_arc ∷ [], refl, (from_close_brace, (next_arc ∷ [], (from_semicolon, (next_arc, refl, next_unary), second)), inr refl)),
      )

  braces : Braces true v 64 (Level true v 64) (one_triple both_arcs) from_open_brace finished
  unfolding is_symbol Level
  braces = (
    from_next_name,
    (omega arith, mark_is symbol.OpenBrace (of_mark (codes "{")) from_next_name refl),
    (from_close_brace, inr (both_arcs, refl, arcs), mark_is symbol.CloseBrace (of_mark (codes "}")) finished refl),
  )

  shape_alone : Expression true v 64 (Level true v 64) true item_shape from_open_brace finished
  shape_alone =
      atom_alone 64 (Level true v 64) true item_shape from_open_brace finished (inr (inr (inl (inl (inl ((false, []), one_triple both_arcs, refl, (from_open_brace, none, (finished, braces, none))))))))

  whole : Whole true max_depth v item_shape from_open_brace finished
  unfolding Level
  whole = shape_alone

  -- ---- the statements

  prefix : Statement true max_depth (at_first base) (declared [] home (at_first base)) from_prefix_word from_item_name
  unfolding is_symbol iri_ref_of
  prefix =
      let name : Spelled = record { kind = kinds.PnameNs; text = codes ":" } in
      let iri : Spelled = record { kind = kinds.IriRef; text = codes "<http://d.example/>" } in
      inr (inl (
        name,
        home,
        refl,
        (
          from_colon_name,
          mark_is symbol.SparqlPrefix (record { kind = kinds.Word; text = codes "PREFIX" }) from_colon_name refl,
          (from_home_ref, (name, refl, refl), (iri, refl, ap raised (home_iri false (at_first base).scope))),
        ),
      ))

  item : Statement true max_depth (declared [] home (at_first base)) (schema_state base) from_item_name finished
  item =
      let meant = ap label.Iri (chars_are (home ++ codes "Item") refl) in
      inr (inr (inr (inr (
        item_label,
        item_shape,
        refl,
        (from_open_brace, inl (home ++ codes "Item", meant, (of_name (codes ":Item"), refl, iri_is v (of_name (codes ":Item")) (home ++ codes "Item") (label_iri false v at_home))), whole),
      ))))

pub schema_document : (base : List ℕ) → IsDocument base schema_text (schema_state base)
schema_document base = (schema_tokens, schema_utf8, schema_is_tokens, more (prefix base) (more (item base) none))
