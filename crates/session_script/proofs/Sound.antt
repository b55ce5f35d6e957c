-- What is read is spelled so.
use Rattle.std.proofs.Common.{◌≡◌, ℕ, Bool, true, false, cond, List, Some, Result, Ok, Err, map, refl, subst, inl, inr, ◌⊎◌, ◌||◌}
use Rattle.std.specs.Char.{to_ascii_lowercase}
use Rattle.std.specs.List.{after_first}
use Rattle.std.specs.Str.{chars}
use Rattle.rdf_cursor.specs.Ahead.{Ahead, finished, token, next_is}
use Rattle.rdf_cursor.specs.Marks.{Mark}
use Rattle.rdf_cursor.specs.Phrases.{Phrase, Is, Nothing, ◌⨾◌}
use Rattle.rdf_cursor.specs.Readers.{Reader, either}
use Rattle.rdf_cursor.specs.Symbols.{symbol_of, same_symbol, is_symbol, is_among}
use Rattle.rdf_cursor.specs.declared.stops.Fault.{Fault}
use Rattle.rdf_cursor.specs.declared.stops.Fault.TheVariants.{Syntax}
use Rattle.rdf_cursor.specs.declared.symbols.Symbol.TheVariants as symbol
use Rattle.rdf_cursor.proofs.Soundness.{Meets, meets_give, meets_one, meets_bind, meets_either, meets_finish, meets_rule}
use Rattle.rdf_lex.specs.Tokens.{Spelled}
use Rattle.rdf_terms.specs.Vocabulary.{rdf_lang_string, xsd_string}
use Rattle.rdf_terms.specs.declared.terms.Term.{Term}
use Rattle.rdf_terms.specs.declared.terms.Term.TheVariants.{Lit}
use Rattle.term_tokens.specs.Literals as any
use Rattle.term_tokens.specs.Terms.{typed, is_at, absolute_typed_of, short_string_of, tagged_of}
use Rattle.nt_reader.specs.Grammar as nt
use Rattle.shape_map.specs.Meanings.{node_tagged_of}
use Rattle.session_script.specs.Grammar as g
use Rattle.session_script.specs.Reading as r
use Rattle.session_script.specs.Scripts.{sign_of}
use Rattle.session_script.specs.declared.signs.Sign.{Sign}
use Rattle.session_script.specs.declared.signs.Sign.TheVariants.{Plus, Minus, Question}

-- a choice, by what is next
chosen_meets : {T F A : Type 0} (b : Bool) (p q : Reader T F A) (R : A → Ahead T → Type 0) (ts : Ahead T) → (b ≡ true → Meets p R ts) → (b ≡ false → Meets q R ts)
    → (y : A × Ahead T) → cond b (p ts) (q ts) ≡ Ok y → R y.0 y.1
chosen_meets true p q R ts a b y e = (a refl).holds y e
chosen_meets false p q R ts a b y e = (b refl).holds y e

meets_choice : {T F A : Type 0} {class : T → Bool} {p q : Reader T F A} {R : A → Ahead T → Type 0} {ts : Ahead T} → (next_is class ts ≡ true → Meets p R ts) → (next_is class ts ≡ false → Meets q R ts)
    → Meets (either class p q) R ts
meets_choice {class = class} {p = p} {q = q} {R = R} {ts = ts} a b = record { holds = λ y e. chosen_meets (next_is class ts) p q R ts a b y e }

-- a language tag that is not `@START`
other_tag : {A : Type 0} (a b c d : Bool) (good : Result A Fault) (x : A) → d ≡ false → cond (a || (b || (c || (d || false)))) good (Err Syntax) ≡ Ok x
    → cond (a || (b || (c || false))) (cond (a || (b || (c || (d || false)))) good (Err Syntax)) (Err Syntax) ≡ Ok x
other_tag true b c d good x n e = e
other_tag false true c d good x n e = e
other_tag false false true d good x n e = e
other_tag false false false true good x n e = absurd cc
other_tag false false false false good x n e = absurd cc

node_tag : (lex : List ℕ) (t : Spelled) (x : Term) → is_symbol symbol.AtStart t ≡ false → tagged_of lex t ≡ Ok x → node_tagged_of lex t ≡ Ok x
unfolding node_tagged_of tagged_of is_among is_symbol
node_tag lex t x n e =
    let s = symbol_of t.kind t.text in
    let literal = Lit (record { lex = lex; datatype = rdf_lang_string; lang = Some (map to_ascii_lowercase (chars (after_first is_at t.text))) }) in
    other_tag (same_symbol s symbol.LangTag) (same_symbol s symbol.AtPrefix) (same_symbol s symbol.AtBase) (same_symbol s symbol.AtStart) (Ok literal) x n e

no_start : (t : Spelled) (m r : Ahead Spelled) → m ≡ token t r → next_is (is_symbol symbol.AtStart) m ≡ false → is_symbol symbol.AtStart t ≡ false
no_start t m r e n = subst (λ (v : Ahead Spelled). next_is (is_symbol symbol.AtStart) v ≡ false) e n

-- targets
target_meets : (ts : Ahead Spelled) → Meets r.target (λ t rest. g.Target t ts rest) ts
unfolding r.target
target_meets ts = meets_either (meets_bind (meets_one (λ w rest h. meets_give (inl (refl, (w, h))))))
    (meets_either (meets_bind (meets_one (λ name rest h. meets_give (inr (inl (name, refl, h)))))) (meets_bind (meets_one (λ i rest h. meets_give (inr (inr (i, refl, h)))))))

asked_meets : (ts : Ahead Spelled) → Meets r.asked (λ t rest. g.Asked t ts rest) ts
unfolding r.asked
asked_meets ts = meets_either (meets_bind (meets_one (λ w rest h. meets_give (inl (refl, (w, h))))))
    (meets_bind (meets_one (λ w m h. meets_rule (target_meets m) (λ t rest k. inr (m, (w, h), k)))))

module _ (k : Bool) where
  -- what stands behind a string
  abbrev Suffix : (List ℕ → Spelled → Result Term Fault) → List ℕ → Term → Phrase Spelled
  Suffix tagged lex x m q = ((typed lex xsd_string ≡ x) × Nothing m q) ⊎ (Is (tagged lex) x m q ⊎ (Mark symbol.Carets ⨾ Is (absolute_typed_of k lex) x) m q)

  named_meets : (ts : Ahead Spelled) → Meets (r.named k) (λ x rest. nt.Predicate k x ts rest) ts
  unfolding r.named
  named_meets ts = meets_bind (meets_one (λ i rest h. meets_give (i, refl, h)))

  resource_meets : (ts : Ahead Spelled) → Meets (r.resource k) (λ x rest. g.Resource k x ts rest) ts
  unfolding r.resource r.blank
  resource_meets ts = meets_either (meets_bind (meets_one (λ name rest h. meets_give (inr (name, refl, h))))) (meets_rule (named_meets ts) (λ x rest h. inl h))

  suffix_meets : (lex : List ℕ) (ts : Ahead Spelled) → Meets (r.suffixed k lex) (λ x rest. Suffix tagged_of lex x ts rest) ts
  unfolding r.suffixed
  suffix_meets lex ts = meets_either (meets_one (λ x rest h. inr (inl h)))
      (meets_either (meets_bind (meets_one (λ w n c. meets_one (λ x rest h. inr (inr (n, (w, c), h)))))) (meets_give (inl (refl, refl))))

  literal_meets : (ts : Ahead Spelled) → Meets (r.literal k) (λ x rest. nt.Literal k x ts rest) ts
  unfolding r.literal
  literal_meets ts = meets_bind (meets_one (λ lex m s. meets_rule (suffix_meets lex m) (λ x rest h. (lex, (m, s, h)))))

  object_meets : (ts : Ahead Spelled) → Meets (r.object k) (λ x rest. g.Object k x ts rest) ts
  unfolding r.object
  object_meets ts = meets_either (meets_rule (literal_meets ts) (λ x rest h. inl h)) (meets_rule (resource_meets ts) (λ x rest h. inr h))

  edit_meets : (ts : Ahead Spelled) → Meets (r.edit k) (λ t rest. g.Edit k t ts rest) ts
  unfolding r.edit
  edit_meets ts = meets_bind (meets_rule (resource_meets ts) (λ s m a. meets_bind (meets_rule (named_meets m) (λ p n b. meets_bind (meets_rule (object_meets n) (λ o l c.
      meets_bind (meets_one (λ w rest d. meets_give (m, a, (n, b, (l, c, (w, d))))))))))))

  -- a suffix that does not begin with `@START`
  node_suffix : (lex : List ℕ) (x : Term) (m rest : Ahead Spelled) → next_is (is_symbol symbol.AtStart) m ≡ false → Suffix tagged_of lex x m rest → Suffix node_tagged_of lex x m rest
  node_suffix lex x m rest n (inl h) = inl h
  node_suffix lex x m rest n (inr (inl (t, e, is))) = inr (inl (t, e, node_tag lex t x (no_start t m rest e n) is))
  node_suffix lex x m rest n (inr (inr h)) = inr (inr h)

  node_literal_meets : (ts : Ahead Spelled) → Meets (r.node_literal k) (λ x rest. any.Literal (short_string_of k) node_tagged_of (absolute_typed_of k) x ts rest) ts
  unfolding r.node_literal
  node_literal_meets ts =
      meets_bind (meets_one (λ lex m s. meets_choice (λ _. meets_give (lex, (m, s, inl (refl, refl)))) (λ n. meets_rule (suffix_meets lex m) (λ x rest h. (lex, (m, s, node_suffix lex x m rest n h))))))

  node_meets : (ts : Ahead Spelled) → Meets (r.node k) (λ x rest. g.Node k x ts rest) ts
  unfolding r.node
  node_meets ts = meets_either (meets_rule (node_literal_meets ts) (λ x rest h. inl h)) (meets_rule (resource_meets ts) (λ x rest h. inr h))

  body_meets : (s : Sign) (ts : Ahead Spelled) → Meets (r.body k s) (λ x rest. (sign_of x ≡ s) × g.Body k x ts rest) ts
  unfolding r.body r.question
  body_meets Plus ts = meets_bind (meets_rule (edit_meets ts) (λ t rest h. meets_give (refl, h)))
  body_meets Minus ts = meets_bind (meets_rule (edit_meets ts) (λ t rest h. meets_give (refl, h)))
  body_meets Question ts = meets_bind (meets_rule (node_meets ts) (λ x m h. meets_bind (meets_rule (asked_meets m) (λ t rest a. meets_give (refl, (m, h, a))))))

  pub command_meets : (s : Sign) (ts : Ahead Spelled) → Meets (r.command k s) (λ x rest. (sign_of x ≡ s) × g.Body k x ts finished) ts
  unfolding r.command
  command_meets s ts = meets_bind (meets_rule (body_meets s ts) (λ x rest h. meets_finish (λ e. (h.0, subst (λ (v : Ahead Spelled). g.Body k x ts v) e h.1))))
