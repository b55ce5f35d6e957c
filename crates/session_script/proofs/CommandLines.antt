-- The terms of a command can stand on one line, and its target has no line feed in its text, by the rules of the grammar.
use Rattle.std.proofs.Common.{◌≡◌, ℕ, nat_eq, Bool, true, false, List, codes, encode_utf8_all, Ok, refl, subst, inl, inr, arith}
use Rattle.std.specs.List.{after_first, AllByRecursion}
use Rattle.std.specs.Str.{chars}
use Rattle.std.proofs.lemmas.List.Elements.{All-contains, All-from_recursion}
use Rattle.iri_resolve.proofs.ResolvedLines.{clean_behind_first}
use Rattle.rdf_cursor.specs.Ahead.{Ahead, finished, prepend}
use Rattle.rdf_cursor.specs.Marks.{Mark}
use Rattle.rdf_cursor.specs.Symbols.{symbol_of, same_symbol, is_symbol}
use Rattle.rdf_cursor.specs.declared.stops.Fault.TheVariants.{Syntax}
use Rattle.rdf_cursor.specs.declared.symbols.Symbol.{Symbol}
use Rattle.rdf_cursor.specs.declared.symbols.Symbol.TheVariants as symbol
use Rattle.rdf_lex.specs.Tokens.{Spelled}
use Rattle.rdf_lex.specs.declared.kinds.Mode.TheVariants.{Map}
use Rattle.rdf_lex.proofs.TokenLines.{line_by}
use Rattle.rdf_terms.specs.declared.terms.Term.{Term}
use Rattle.rdf_terms.proofs.OneLine.{Plain, plain_append, plain_chars, plain_encodes, lacks_feed}
use Rattle.rdf_terms.proofs.TermLines.{PlainTerm, plain_written, plain_iri, untagged_string, has_line}
use Rattle.graph_index.specs.declared.loading.TermTriple.{TermTriple}
use Rattle.graph_index.specs.Loading.{HaveOneLine}
use Rattle.schema_tree.specs.Targets.{target_text}
use Rattle.schema_tree.specs.declared.schema.Target.{Target}
use Rattle.schema_tree.specs.declared.schema.Target.TheVariants as target
use Rattle.term_tokens.specs.Terms.{limited, label_of}
use Rattle.term_tokens.proofs.NameLines.{chosen, limited_is, absolute_clean, named_plain, absolute_typed_plain, tagged_plain}
use Rattle.term_tokens.proofs.TokenLines.{IsFine, AllFine, take_fine, fine_tokens}
use Rattle.nt_reader.specs.Grammar as nt
use Rattle.session_script.specs.Grammar as g
use Rattle.session_script.specs.Scripts.{IsCommand, AreLines, no_lines, empty_line, command_line, HasLines, AnyScriptsHaveLines, ScriptsHaveLines}
use Rattle.session_script.specs.declared.commands.Command.{Command}
use Rattle.session_script.specs.declared.commands.Command.TheVariants.{Add, Remove, Ask}
use Rattle.session_script.proofs.Complete.{node_tag_is}

marked : (a : Symbol) (ts r : Ahead Spelled) → Mark a ts r → AllFine ts → AllFine r
marked a ts r (t, (u, e, is)) h = (take_fine ts r u e h).1

label_plain : (k : Bool) (t : Spelled) (name : List ℕ) → IsFine t → label_of k t ≡ Ok name → Plain name
unfolding label_of is_symbol
label_plain k t name h e =
    let text = after_first (λ b. nat_eq b 58) t.text in
    let c = chosen (same_symbol (symbol_of t.kind t.text) symbol.BlankLabel) Syntax (limited k text (chars text)) name e in
    let d = clean_behind_first 58 t.text (omega arith) (h (line_by (λ k. same_symbol (symbol_of k t.text) symbol.BlankLabel) t.kind refl refl refl c.0)) in
    subst Plain (limited_is k text (chars text) name c.1) (plain_chars text d.0 d.1)

-- targets
abbrev PlainTarget : Target → Type 0
PlainTarget t = Plain (target_text t)

start_plain : PlainTarget target.Start
start_plain = plain_written (codes "START") refl

target_plain : (t : Target) (ts r : Ahead Spelled) → g.Target t ts r → AllFine ts → PlainTarget t
target_plain t ts r (inl (e, m)) h = subst PlainTarget e start_plain
target_plain t ts r (inr (inl (name, e, (u, f, is)))) h =
    subst PlainTarget e (plain_append (codes "_:") (encode_utf8_all name) (refl, (refl, tt)) (plain_encodes name (label_plain false u name (take_fine ts r u f h).0 is)))
target_plain t ts r (inr (inr (i, e, (u, f, is)))) h = let c = absolute_clean false u i is in subst PlainTarget e (plain_iri (chars i) (plain_chars i c.0 c.1))

asked_plain : (t : Target) (ts r : Ahead Spelled) → g.Asked t ts r → AllFine ts → PlainTarget t
asked_plain t ts r (inl (e, m)) h = subst PlainTarget e start_plain
asked_plain t ts r (inr (m, c, p)) h = target_plain t m r p (marked symbol.At ts m c h)

module _ (k : Bool) where
  named_plain_term : (x : Term) (ts r : Ahead Spelled) → nt.Predicate k x ts r → AllFine ts → PlainTerm x × AllFine r
  named_plain_term x ts r (i, f, (t, e, is)) h = let c = absolute_clean k t i is in (subst PlainTerm f (plain_chars i c.0 c.1), (take_fine ts r t e h).1)

  resource_plain : (x : Term) (ts r : Ahead Spelled) → g.Resource k x ts r → AllFine ts → PlainTerm x × AllFine r
  resource_plain x ts r (inl p) h = named_plain_term x ts r p h
  resource_plain x ts r (inr (name, f, (t, e, is))) h = let i = take_fine ts r t e h in (subst PlainTerm f (named_plain name (label_plain k t name i.0 is)), i.1)

  literal_plain : (x : Term) (ts r : Ahead Spelled) → nt.Literal k x ts r → AllFine ts → PlainTerm x × AllFine r
  literal_plain x ts r (lex, (m, (t, e, is), inl (f, n))) h = (subst PlainTerm f untagged_string, subst AllFine n (take_fine ts m t e h).1)
  literal_plain x ts r (lex, (m, (t, e, is), inr (inl (u, f, tag)))) h = let i = take_fine m r u f (take_fine ts m t e h).1 in (tagged_plain lex u x i.0 tag, i.1)
  literal_plain x ts r (lex, (m, (t, e, is), inr (inr (n, c, (u, f, d))))) h =
      let i = take_fine n r u f (marked symbol.Carets m n c (take_fine ts m t e h).1) in (absolute_typed_plain k lex u x d, i.1)

  object_plain : (x : Term) (ts r : Ahead Spelled) → g.Object k x ts r → AllFine ts → PlainTerm x × AllFine r
  object_plain x ts r (inl p) h = literal_plain x ts r p h
  object_plain x ts r (inr p) h = resource_plain x ts r p h

  node_plain : (x : Term) (ts r : Ahead Spelled) → g.Node k x ts r → AllFine ts → PlainTerm x × AllFine r
  node_plain x ts r (inl (lex, (m, s, inl p))) h = literal_plain x ts r (lex, (m, s, inl p)) h
  node_plain x ts r (inl (lex, (m, s, inr (inl p)))) h = literal_plain x ts r (lex, (m, s, inr (inl (node_tag_is lex x m r p)))) h
  node_plain x ts r (inl (lex, (m, s, inr (inr p)))) h = literal_plain x ts r (lex, (m, s, inr (inr p))) h
  node_plain x ts r (inr p) h = resource_plain x ts r p h

  edit_lines : (t : TermTriple) (ts r : Ahead Spelled) → g.Edit k t ts r → AllFine ts → HaveOneLine t
  edit_lines t ts r (a, s, (b, p, (c, o, d))) h =
      let i = resource_plain t.subject ts a s h in
      let j = named_plain_term t.predicate a b p i.1 in
      let l = object_plain t.object b c o j.1 in
      record { subject = has_line t.subject i.0; predicate = has_line t.predicate j.0; object = has_line t.object l.0 }

  body_lines : (x : Command) (ts r : Ahead Spelled) → g.Body k x ts r → AllFine ts → HasLines x
  body_lines (Add t) ts r p h = edit_lines t ts r p h
  body_lines (Remove t) ts r p h = edit_lines t ts r p h
  body_lines (Ask x t) ts r (m, n, a) h = let i = node_plain x ts m n h in (has_line x i.0, lacks_feed (target_text t) (asked_plain t m r a i.1))

  command_lines : (x : Command) (line : List ℕ) → IsCommand k x line → HasLines x
  command_lines x line c = body_lines x (prepend c.tokens finished) finished c.spelled.1 (fine_tokens Map c.rest c.tokens c.utf8 c.lexed)

  all_lines : {xs : List Command} {lines : List (List ℕ)} → AreLines k xs lines → AllByRecursion HasLines xs
  all_lines no_lines = tt
  all_lines (empty_line a) = all_lines a
  all_lines (command_line {x = x} {line = line} c a) = (command_lines x line c, all_lines a)

pub any_scripts_have : AnyScriptsHaveLines
any_scripts_have source xs (u, a) x c = All-contains HasLines xs x (All-from_recursion HasLines xs (all_lines false a)) c

pub scripts_have : ScriptsHaveLines
scripts_have source xs (u, a) x c = All-contains HasLines xs x (All-from_recursion HasLines xs (all_lines true a)) c
