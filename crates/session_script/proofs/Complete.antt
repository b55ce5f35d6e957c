-- What is spelled is read.
use Rattle.std.proofs.Common.{◌≡◌, ℕ, Bool, true, false, cond, List, [], ◌∷◌, Result, Ok, Err, refl, subst, ◌∙◌, ◌⊎◌, inl, inr}
use Rattle.rdf_cursor.specs.Ahead.{Ahead, finished, next_is}
use Rattle.rdf_cursor.specs.Phrases.{Is}
use Rattle.rdf_cursor.specs.Readers.{Answer}
use Rattle.rdf_cursor.specs.Symbols.{is_symbol, is_among, of_symbol}
use Rattle.rdf_cursor.specs.declared.stops.Fault.{Fault}
use Rattle.rdf_cursor.specs.declared.stops.Fault.TheVariants.{Syntax}
use Rattle.rdf_cursor.specs.declared.symbols.Symbol.{Symbol}
use Rattle.rdf_cursor.specs.declared.symbols.Symbol.TheVariants as symbol
use Rattle.rdf_cursor.proofs.Completeness.{one_read, took}
use Rattle.rdf_lex.specs.Tokens.{Spelled}
use Rattle.rdf_terms.specs.declared.terms.Term.{Term}
use Rattle.graph_index.specs.declared.loading.TermTriple.{TermTriple}
use Rattle.schema_tree.specs.declared.schema.Target as goal
use Rattle.term_tokens.specs.Literals as literals
use Rattle.term_tokens.specs.Terms.{absolute_of, label_of, short_string_of, absolute_typed_of, tagged_of, tags}
use Rattle.term_tokens.proofs.Literals.{short_string_begins, absolute_begins, tagged_begins}
use Rattle.term_tokens.proofs.Nexts.{Next, nexts, no_next, no_symbol, begins, first, single, guarded, guarded_one}
use Rattle.nt_reader.specs.Grammar as nt
use Rattle.shape_map.specs.Meanings.{node_tags, node_tagged_of}
use Rattle.session_script.specs.Grammar as g
use Rattle.session_script.specs.Reading as r
use Rattle.session_script.specs.Scripts.{sign_of}
use Rattle.session_script.specs.declared.commands.Command.{Command}
use Rattle.session_script.specs.declared.commands.Command.TheVariants as commands
use Rattle.session_script.specs.declared.signs.Sign.{Sign}

-- what an IRI or a blank node begins with
abbrev resources : List Symbol
resources = symbol.BlankLabel ∷ symbol.IriRef ∷ []

label_begins : (k : Bool) (name : List ℕ) (ts rest : Ahead Spelled) → Is (label_of k) name ts rest → Next (symbol.BlankLabel ∷ []) ts
unfolding label_of
label_begins k name ts rest h = guarded_one symbol.BlankLabel (label_of k) _ (λ t. refl) name ts rest h

-- targets
target_read : (t : goal.Target) (ts rest : Ahead Spelled) → g.Target t ts rest → r.target ts ≡ Ok (t, rest)
unfolding r.target
target_read t ts rest (inl (e, (w, h))) = rw (begins symbol.Start w ts rest h, took symbol.Start w ts rest h, e) refl
target_read t ts rest (inr (inl (name, e, h))) =
    let n = label_begins false name ts rest h in
    rw (no_symbol (symbol.BlankLabel ∷ []) symbol.Start ts refl n, single symbol.BlankLabel ts ∙ n, one_read Syntax (label_of false) name ts rest h, e) refl
target_read t ts rest (inr (inr (i, e, h))) =
    let n = absolute_begins false i ts rest h in
    rw (no_symbol (symbol.IriRef ∷ []) symbol.Start ts refl n, no_symbol (symbol.IriRef ∷ []) symbol.BlankLabel ts refl n, one_read Syntax (absolute_of false) i ts rest h, e) refl

asked_read : (t : goal.Target) (ts rest : Ahead Spelled) → g.Asked t ts rest → r.asked ts ≡ Ok (t, rest)
unfolding r.asked
asked_read t ts rest (inl (e, (w, h))) = rw (begins symbol.AtStart w ts rest h, took symbol.AtStart w ts rest h, e) refl
asked_read t ts rest (inr (m, (w, h), k)) = rw (no_symbol (symbol.At ∷ []) symbol.AtStart ts refl (first symbol.At w ts m h), took symbol.At w ts m h, target_read t m rest k) refl

-- what a target begins with
abbrev Follows : Ahead Spelled → Type 0
Follows ts = (next_is (is_symbol symbol.AtStart) ts ≡ true) ⊎ Next (symbol.At ∷ []) ts

asked_follows : (t : goal.Target) (ts rest : Ahead Spelled) → g.Asked t ts rest → Follows ts
asked_follows t ts rest (inl (e, (w, h))) = inl (begins symbol.AtStart w ts rest h)
asked_follows t ts rest (inr (m, (w, h), k)) = inr (first symbol.At w ts m h)

-- language tags
tested : {A : Type 0} (b : Bool) (c : Result A Fault) (x : A) → cond b c (Err Syntax) ≡ Ok x → c ≡ Ok x
tested true c x e = e
tested false c x e = absurd cc

node_tag_begins : (lex : List ℕ) (x : Term) (ts rest : Ahead Spelled) → Is (node_tagged_of lex) x ts rest → Next node_tags ts
unfolding node_tagged_of
node_tag_begins lex x ts rest h = guarded node_tags (node_tagged_of lex) (tagged_of lex) (λ t. refl) x ts rest h

pub node_tag_is : (lex : List ℕ) (x : Term) (ts rest : Ahead Spelled) → Is (node_tagged_of lex) x ts rest → Is (tagged_of lex) x ts rest
unfolding node_tagged_of
node_tag_is lex x ts rest (t, e, is) = (t, e, tested (is_among node_tags t) (tagged_of lex t) x is)

module _ (k : Bool) where
  named_read : (x : Term) (ts rest : Ahead Spelled) → nt.Predicate k x ts rest → r.named k ts ≡ Ok (x, rest)
  unfolding r.named
  named_read x ts rest (i, e, h) = rw (one_read Syntax (absolute_of k) i ts rest h, e) refl

  resource_read : (x : Term) (ts rest : Ahead Spelled) → g.Resource k x ts rest → r.resource k ts ≡ Ok (x, rest)
  unfolding r.resource r.blank
  resource_read x ts rest (inl (i, e, h)) = rw (no_symbol (symbol.IriRef ∷ []) symbol.BlankLabel ts refl (absolute_begins k i ts rest h)) (named_read x ts rest (i, e, h))
  resource_read x ts rest (inr (name, e, h)) = rw (single symbol.BlankLabel ts ∙ label_begins k name ts rest h, one_read Syntax (label_of k) name ts rest h, e) refl

  resource_begins : (x : Term) (ts rest : Ahead Spelled) → g.Resource k x ts rest → Next resources ts
  resource_begins x ts rest (inl (i, e, h)) = nexts (symbol.IriRef ∷ []) resources ts refl (absolute_begins k i ts rest h)
  resource_begins x ts rest (inr (name, e, h)) = nexts (symbol.BlankLabel ∷ []) resources ts refl (label_begins k name ts rest h)

  literal_read : (x : Term) (ts rest : Ahead Spelled) → nt.Literal k x ts rest → Next (symbol.Dot ∷ []) rest → r.literal k ts ≡ Ok (x, rest)
  unfolding r.literal r.suffixed
  literal_read x ts rest (lex, (m, s, inl (e, n))) f =
      rw (one_read Syntax (short_string_of k) lex ts m s, n, no_next (symbol.Dot ∷ []) tags rest refl f, no_symbol (symbol.Dot ∷ []) symbol.Carets rest refl f, e) refl
  literal_read x ts rest (lex, (m, s, inr (inl h))) f = rw (one_read Syntax (short_string_of k) lex ts m s, tagged_begins lex x m rest h, one_read Syntax (tagged_of lex) x m rest h) refl
  literal_read x ts rest (lex, (m, s, inr (inr (n, (w, c), h)))) f =
      rw (
        one_read Syntax (short_string_of k) lex ts m s,
        no_next (symbol.Carets ∷ []) tags m refl (first symbol.Carets w m n c),
        begins symbol.Carets w m n c,
        one_read Syntax (of_symbol symbol.Carets) w m n c,
        one_read Syntax (absolute_typed_of k lex) x n rest h,
      ) refl

  object_read : (x : Term) (ts rest : Ahead Spelled) → g.Object k x ts rest → Next (symbol.Dot ∷ []) rest → r.object k ts ≡ Ok (x, rest)
  unfolding r.object
  object_read x ts rest (inl (lex, (m, s, h))) f = rw (single symbol.Str ts ∙ short_string_begins k lex ts m s) (literal_read x ts rest (lex, (m, s, h)) f)
  object_read x ts rest (inr h) f = rw (no_symbol resources symbol.Str ts refl (resource_begins x ts rest h)) (resource_read x ts rest h)

  edit_read : (x : TermTriple) (ts rest : Ahead Spelled) → g.Edit k x ts rest → r.edit k ts ≡ Ok (x, rest)
  unfolding r.edit
  edit_read x ts rest (m, a, (n, b, (l, c, (w, d)))) =
      rw (resource_read x.subject ts m a, named_read x.predicate m n b, object_read x.object n l c (first symbol.Dot w l rest d), took symbol.Dot w l rest d) refl

  node_literal_read : (x : Term) (ts rest : Ahead Spelled) → literals.Literal (short_string_of k) node_tagged_of (absolute_typed_of k) x ts rest → Follows rest → r.node_literal k ts ≡ Ok (x, rest)
  unfolding r.node_literal r.suffixed
  node_literal_read x ts rest (lex, (m, s, inl (e, n))) (inl f) = rw (one_read Syntax (short_string_of k) lex ts m s, n, f, e) refl
  node_literal_read x ts rest (lex, (m, s, inl (e, n))) (inr f) =
      rw (
        one_read Syntax (short_string_of k) lex ts m s,
        n,
        no_symbol (symbol.At ∷ []) symbol.AtStart rest refl f,
        no_next (symbol.At ∷ []) tags rest refl f,
        no_symbol (symbol.At ∷ []) symbol.Carets rest refl f,
        e,
      ) refl
  node_literal_read x ts rest (lex, (m, s, inr (inl h))) f =
      let i = node_tag_is lex x m rest h in
      rw (
        one_read Syntax (short_string_of k) lex ts m s,
        no_symbol node_tags symbol.AtStart m refl (node_tag_begins lex x m rest h),
        tagged_begins lex x m rest i,
        one_read Syntax (tagged_of lex) x m rest i,
      ) refl
  node_literal_read x ts rest (lex, (m, s, inr (inr (n, (w, c), h)))) f =
      rw (
        one_read Syntax (short_string_of k) lex ts m s,
        no_symbol (symbol.Carets ∷ []) symbol.AtStart m refl (first symbol.Carets w m n c),
        no_next (symbol.Carets ∷ []) tags m refl (first symbol.Carets w m n c),
        begins symbol.Carets w m n c,
        one_read Syntax (of_symbol symbol.Carets) w m n c,
        one_read Syntax (absolute_typed_of k lex) x n rest h,
      ) refl

  node_read : (x : Term) (ts rest : Ahead Spelled) → g.Node k x ts rest → Follows rest → r.node k ts ≡ Ok (x, rest)
  unfolding r.node
  node_read x ts rest (inl (lex, (m, s, h))) f = rw (single symbol.Str ts ∙ short_string_begins k lex ts m s) (node_literal_read x ts rest (lex, (m, s, h)) f)
  node_read x ts rest (inr h) f = rw (no_symbol resources symbol.Str ts refl (resource_begins x ts rest h)) (resource_read x ts rest h)

  body_read : (x : Command) (ts rest : Ahead Spelled) → g.Body k x ts rest → r.body k (sign_of x) ts ≡ Ok (x, rest)
  unfolding r.body r.question
  body_read (commands.Add t) ts rest h = rw (edit_read t ts rest h) refl
  body_read (commands.Remove t) ts rest h = rw (edit_read t ts rest h) refl
  body_read (commands.Ask x t) ts rest (m, h, a) = rw (node_read x ts m h (asked_follows t m rest a), asked_read t m rest a) refl

  own_read : (x : Command) (ts : Ahead Spelled) → g.Body k x ts finished → r.command k (sign_of x) ts ≡ Ok (x, finished)
  unfolding r.command
  own_read x ts h = rw (body_read x ts finished h) refl

  pub command_read : (s : Sign) (x : Command) (ts : Ahead Spelled) → (sign_of x ≡ s) × g.Body k x ts finished → r.command k s ts ≡ Ok (x, finished)
  command_read s x ts (e, h) = subst (λ (v : Sign). Path (Answer Spelled Fault Command) (r.command k v ts) (Ok (x, finished))) e (own_read x ts h)
