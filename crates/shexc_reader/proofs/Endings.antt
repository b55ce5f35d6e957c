-- What the answer of the reader on lists says of the bytes.
use Rattle.std.proofs.Common.{◌≡◌, ◌⊎◌, inl, inr, ℕ, ◌+◌, ◌<◌, Bool, true, false, cond, List, [], ◌∷◌, ◌++◌, length, Ok, Err, refl, sym, ap, subst, ◌∙◌, arith}
use Rattle.std.specs.Prelude.{codes}
use Rattle.std.specs.Str.{IsUtf8, chars}
use Rattle.rdf_cursor.specs.Ahead.{Ahead, finished, broken, token, prepend, count, next_is, SameNext}
use Rattle.rdf_cursor.specs.Cursors.{Source}
use Rattle.rdf_cursor.specs.Lent.{Stands}
use Rattle.rdf_cursor.specs.Places as place
use Rattle.rdf_cursor.specs.Places.{IsFaultPlace}
use Rattle.rdf_cursor.specs.Streams.{stream_from}
use Rattle.rdf_cursor.specs.Symbols.{is_symbol, is_among}
use Rattle.rdf_cursor.specs.declared.symbols.Symbol.{Symbol}
use Rattle.rdf_cursor.specs.declared.symbols.Symbol.TheVariants as symbol
use Rattle.rdf_cursor.proofs.Answers.{apart, ok_is, err_is}
use Rattle.rdf_cursor.proofs.Blocking.{blocked}
use Rattle.rdf_cursor.proofs.Locality.{prepend-append}
use Rattle.rdf_cursor.proofs.Fronts.{front_ok}
use Rattle.rdf_cursor.proofs.Places.{fault_place, first_at}
use Rattle.rdf_cursor.proofs.Streams.{first_next, stream_next, stream_between, cut_behind, start, to_tokens, from_tokens}
use Rattle.rdf_lex.specs.declared.kinds.Mode.TheVariants.{Schema}
use Rattle.rdf_cursor.specs.Properties.{IsLocalAt}
use Rattle.rdf_cursor.specs.Readers.{Answer}
use Rattle.rdf_lex.specs.Scan.{at_token}
use Rattle.rdf_lex.specs.Tokens.{Spelled, Between, IsFirst}
use Rattle.schema_documents.specs.declared.error.SchemaError.{SchemaError}
use Rattle.schema_documents.specs.declared.label.Label.{Label}
use Rattle.schema_documents.specs.declared.label.Label.TheVariants.{Blank}
use Rattle.schema_documents.specs.declared.error.SchemaError.TheVariants as errors
use Rattle.xs_pattern.specs.declared.pattern_error.PatternError.TheVariants as refusal
use Rattle.shexc_constraints.specs.declared.faults.Fault.{Fault}
use Rattle.shexc_constraints.specs.declared.faults.Fault.TheVariants as fault
use Rattle.shexc_constraints.specs.declared.faults.Stop.{Stop}
use Rattle.shexc_constraints.specs.declared.faults.Stop.TheVariants as stop
use Rattle.shexc_constraints.specs.Grammar.{AnyLabel}
use Rattle.shexc_constraints.specs.Limits.{is_limit}
use Rattle.shexc_constraints.specs.Meanings.{iri_label}
use Rattle.shexc_constraints.specs.Stops.{StopsAs}
use Rattle.shexc_reader.specs.declared.state.Parsed.{Parsed}
use Rattle.shexc_reader.specs.Documents.{max_depth, at_first, Spells, SpellsAny, SpellsWithin, IsDocument, IsParsedOf, IsRead, ReadsAs, DocumentsAreOne}
use Rattle.rdf_cursor.specs.Phrases.{Many}
use Rattle.shexc_reader.specs.Grammar.{ShExC, Statement}
use Rattle.shexc_reader.specs.Reading.{document}
use Rattle.shexc_reader.specs.Refusals.{refusal_at, error_of, IsErrorOf, StandsAt, named, IsLabelled, HasCause, HasNoToken, IsSymbol, IsLeftOut, Explains}
use Rattle.shexc_reader.specs.States.{State}
use Rattle.shexc_reader.proofs.CompleteLevels.{document_read, external_stops}
use Rattle.shexc_reader.proofs.Causes.{Stopped, stopped}
use Rattle.shexc_reader.proofs.Limits.{AnyShExC, blocked_any, blocked_within}
use Rattle.shexc_reader.proofs.Places.{local_document}
use Rattle.shexc_reader.proofs.SoundLevels.{document_meets}

-- numbers of tokens
count_behind : (front : List Spelled) (rest : Ahead Spelled) → count (prepend front rest) ≡ length front + count rest
count_behind [] rest = omega arith
count_behind (t ∷ front) rest = let h = count_behind front rest in omega arith

token_parts : (t v : Spelled) (x y : Ahead Spelled) → token t x ≡ token v y → (t ≡ v) × (x ≡ y)
token_parts t v x y e = (cc, cc)

longer : (f : List Spelled) (t : Spelled) (front : List Spelled) → length front < count (prepend (f ++ t ∷ front) finished)
longer [] t front = let c = count_behind front finished in omega arith
longer (v ∷ f) t front = let h = longer f t front in omega arith

-- the tokens before what lies ahead
same_front : (f g : List Spelled) (x : Ahead Spelled) → prepend f x ≡ prepend g x → f ≡ g
same_front [] [] x e = refl
same_front [] (v ∷ g) x e = let c = count_behind (v ∷ g) x in let n : count x ≡ count (prepend (v ∷ g) x) = ap count e in absurd (omega (arith, c, n))
same_front (t ∷ f) [] x e = let c = count_behind (t ∷ f) x in let n : count (prepend (t ∷ f) x) ≡ count x = ap count e in absurd (omega (arith, c, n))
same_front (t ∷ f) (v ∷ g) x e = let p = token_parts t v (prepend f x) (prepend g x) e in ap (λ (s : Spelled). s ∷ f) p.0 ∙ ap (λ (us : List Spelled). v ∷ us) (same_front f g x p.1)

abbrev is_syntax : Answer Spelled Fault State → Type 0
is_syntax (Err (fault.Syntax, x)) = Unit {0}
is_syntax _ = ⊥

other_fault : (x y : Ahead Spelled) → Path (Answer Spelled Fault State) (Err (fault.Syntax, x)) (Err (fault.External, y)) → ⊥
other_fault x y e = subst is_syntax e tt

abbrev IsLonger : List Spelled → Unit {0} → Ahead Spelled → Type 0
IsLonger front x ts = length front < count ts

none_behind : (rest other : Ahead Spelled) → count rest ≡ 0 → SameNext rest other → count other ≡ 0
none_behind finished finished e h = refl
none_behind finished broken e h = refl
none_behind finished (token t ts) e h = absurd h
none_behind broken finished e h = refl
none_behind broken broken e h = refl
none_behind broken (token t ts) e h = absurd h
none_behind (token t ts) other e h = absurd (omega arith)

-- none of the symbols that have a refusal of their own
none_named : (rest : Ahead Spelled) → next_is (is_symbol symbol.Percent) rest ≡ false → next_is (is_symbol symbol.Abstract) rest ≡ false →
    next_is (is_symbol symbol.Extends) rest ≡ false → next_is (is_symbol symbol.Restricts) rest ≡ false
    → next_is (is_among named) rest ≡ false
unfolding is_symbol is_among
none_named finished p q r w = refl
none_named broken p q r w = refl
none_named (token t ts) p q r w = rw (p, q, r, w) refl

module _ (base source : List ℕ) (u : IsUtf8 source) where
  abbrev ahead : Ahead Spelled
  ahead = stream_from Schema source 0

  abbrev a : State
  a = at_first base

  found : (x : State) → ShExC true max_depth a x ahead → IsDocument base source x
  found x h =
      let f = front_ok (document true max_depth a) ahead (document true max_depth a ahead) x finished (document_read true max_depth a x ahead h) (local_document true max_depth a ahead) in
      (f.0, u, to_tokens Schema source u f.0 f.1, subst (λ (ts : Ahead Spelled). ShExC true max_depth a x ts) f.1 h)

  document_ahead : (x : State) → IsDocument base source x → ShExC true max_depth a x ahead
  document_ahead x (ts, utf8, tokens, h) = subst (λ (ts : Ahead Spelled). ShExC true max_depth a x ts) (sym (from_tokens Schema source u ts tokens)) h

  is_read : (x : State) → IsDocument base source x → document true max_depth a ahead ≡ Ok (x, finished)
  is_read x h = document_read true max_depth a x ahead (document_ahead x h)

  any_place : (f : Fault) (rest : Ahead Spelled) (at : ℕ) → is_limit true f ≡ false → document true max_depth a ahead ≡ Err (f, rest) →
      Stands Schema source rest at → IsFaultPlace (SpellsAny base) Schema source at
  any_place f rest at c e s = fault_place Schema source u (AnyShExC a) rest at (blocked_any a ahead f rest c e) s

  limit_place : (f : Fault) (rest : Ahead Spelled) (at : ℕ) → document true max_depth a ahead ≡ Err (f, rest) → Stands Schema source rest at → IsFaultPlace (Spells base) Schema source at
  limit_place f rest at e s =
      fault_place Schema source u (ShExC true max_depth a) rest at
      (blocked (document true max_depth a) (ShExC true max_depth a) (local_document true max_depth a) (document_read true max_depth a) ahead f rest e) s

  depth_place : (rest : Ahead Spelled) (at : ℕ) → document true max_depth a ahead ≡ Err (fault.Deep, rest) → Stands Schema source rest at → IsFaultPlace (SpellsWithin base) Schema source at
  depth_place rest at e s = fault_place Schema source u (ShExC false max_depth a) rest at (blocked_within a ahead fault.Deep rest refl e) s

  same_state : (x z : State) (rest : Ahead Spelled) → document true max_depth a ahead ≡ Ok (x, rest) → IsDocument base source z → x ≡ z
  same_state x z rest is doc = ap (λ (w : State × Ahead Spelled). w.0) (ok_is (x, rest) (z, finished) (sym is ∙ is_read z doc))

  -- the token at the place, behind the statements that were read
  stands : (Thing : State → List Spelled → Spelled →
      Type 0) (f : Fault) (rest : Ahead Spelled) (at : ℕ) (h : Stopped max_depth a ahead f rest) (t : Spelled) (more : Ahead Spelled) → rest ≡ token t more →
      Thing h.state h.inside t → Stands Schema source rest at
      → StandsAt base source Thing at
  stands Thing f rest at h t more is thing s =
      let inner : h.mid ≡ prepend h.inside (token t more) = h.parts ∙ ap (prepend h.inside) is in
      let whole : ahead ≡ prepend (h.front ++ h.inside) (token t more) = h.passed ∙ ap (prepend h.front) inner ∙ sym (prepend-append h.front h.inside (token t more)) in
      let to = first_at Schema source u t more at (h.front ++ h.inside) whole (subst (λ (v : Ahead Spelled). Stands Schema source v at) is s) in
      record {
        front = h.front ++ h.inside;
        from = to.0;
        t = t;
        state = h.state;
        inside = h.inside;
        behind = more;
        passed = to.1;
        first = to.2;
        statements = subst (λ (m : Ahead Spelled). Many (Statement true max_depth) a h.state m (prepend h.inside (token t more))) whole
            (subst (λ (m : Ahead Spelled). Many (Statement true max_depth) a h.state ahead m) inner h.statements);
        thing = thing;
      }

  caused : (f : Fault) (rest : Ahead Spelled) (at : ℕ) → (f ≡ fault.Syntax → ⊥) → document true max_depth a ahead ≡ Err (f, rest) → Stands Schema source rest at → StandsAt base source (HasCause f) at
  caused f rest at other e s =
      let h = stopped max_depth a ahead f rest e in
      elim h.cause [
        | inl is ↦ absurd (other is)
        | inr (t, more, is, c) ↦ stands (HasCause f) f rest at h t more is c s
      ]

  symbol_stands : (k : Symbol) (Thing : State → List Spelled → Spelled → Type 0) →
      ((x : State) (us : List Spelled) (t : Spelled) → is_symbol k t ≡ true → Thing x us t) → (rest : Ahead Spelled) (at : ℕ) → next_is (is_symbol k) rest ≡ true
      → document true max_depth a ahead ≡ Err (fault.Syntax, rest) → Stands Schema source rest at → StandsAt base source Thing at
  symbol_stands k Thing is (token t more) at n e s = let h = stopped max_depth a ahead fault.Syntax (token t more) e in
      stands Thing fault.Syntax (token t more) at h t more refl (is h.state h.inside t n) s
  symbol_stands k Thing is finished at n e s = absurd cc
  symbol_stands k Thing is broken at n e s = absurd cc

  -- where no token lies ahead none stands at the place
  ends_there : (rest : Ahead Spelled) (at : ℕ) (front : List Spelled) → ahead ≡ prepend front rest →
      ((other : Ahead Spelled) → SameNext rest other → count other ≡ 0) → Stands Schema source rest at → HasNoToken source at
  ends_there rest at front parts none s =
      by (fault_place Schema source u (IsLonger front) rest at (record { front = front; parts = parts; none = λ x other same more. (let n = none other same in let c = count_behind front other in omega (arith, n, c, more)) }) s)
    where
      by : IsFaultPlace (λ (x : Unit {0}) ts. IsLonger front x (prepend ts finished)) Schema source at → HasNoToken source at
      by (place.at_token f from t passed first never) = absurd (never tt front (longer f t front))
      by (place.at_characters f from passed skipped inside begins) = inr begins
      by (place.at_end ts tokens is never) = inl is

  -- a token without a refusal of its own stands there, or none
  unnamed : (rest : Ahead Spelled) (at : ℕ) → next_is (is_among named) rest ≡ false → document true max_depth a ahead ≡ Err (fault.Syntax, rest) →
      Stands Schema source rest at → HasNoToken source at ⊎ StandsAt base source (HasCause fault.Syntax) at
  unnamed rest at n e s = by (stopped max_depth a ahead fault.Syntax rest e) rest refl
    where
      front_of : (h : Stopped max_depth a ahead fault.Syntax rest) → ahead ≡ prepend (h.front ++ h.inside) rest
      front_of h = h.passed ∙ ap (prepend h.front) h.parts ∙ sym (prepend-append h.front h.inside rest)

      by : Stopped max_depth a ahead fault.Syntax rest → (r : Ahead Spelled) → rest ≡ r → HasNoToken source at ⊎ StandsAt base source (HasCause fault.Syntax) at
      by h (token t more) is = inr (stands (HasCause fault.Syntax) fault.Syntax rest at h t more is (subst (λ (q : Ahead Spelled). next_is (is_among named) q ≡ false) is n) s)
      by h finished is = inl (ends_there rest at (h.front ++ h.inside) (front_of h) (λ other same. none_behind finished other refl (subst (λ (q : Ahead Spelled). SameNext q other) is same)) s)
      by h broken is = inl (ends_there rest at (h.front ++ h.inside) (front_of h) (λ other same. none_behind broken other refl (subst (λ (q : Ahead Spelled). SameNext q other) is same)) s)

  -- where the reader finds a fault of syntax, EXTERNAL does not stand in the place of an expression
  ahead_of_token : (front : List Spelled) (from at : ℕ) (t : Spelled) → Between Schema source 0 front from → IsFirst Schema source from t.kind t.text at →
      ahead ≡ prepend front (token t (stream_from Schema source (at + length t.text)))
  ahead_of_token front from at t passed first =
      let b = start Schema source u in
      let cut = cut_behind Schema source u 0 from front b passed in
      stream_between Schema source u 0 from front b passed ∙ ap (prepend front)
      (stream_next Schema source u from (at_token t.kind t.text at) cut (first_next Schema source from t.kind t.text at u cut first))

  -- EXTERNAL stands in no expression's place behind other tokens either
  external_anyhow : (front : List Spelled) (t : Spelled) (behind other : Ahead Spelled) →
      document true max_depth a (prepend front (token t behind)) ≡ Err (fault.External, token t behind) →
      document true max_depth a (prepend front (token t other)) ≡ Err (fault.External, token t other)
  external_anyhow front t behind other e = by (document true max_depth a (prepend front (token t behind))) e (local_document true max_depth a (prepend front (token t behind)))
    where
      by : (y : Answer Spelled Fault State) → y ≡ Err (fault.External, token t behind) →
          IsLocalAt (document true max_depth a) (prepend front (token t behind)) y → document true max_depth a (prepend front (token t other)) ≡ Err (fault.External, token t other)
      by (Ok x) is l = absurd (apart x (fault.External, token t behind) is)
      by (Err x) is (f, parts, moved) =
          let same = err_is x (fault.External, token t behind) is in
          let fronts = same_front front f (token t behind) (subst (λ (w : Fault × Ahead Spelled). prepend front (token t behind) ≡ prepend f w.1) same parts) in
          subst (λ (g : List Spelled). document true max_depth a (prepend g (token t other)) ≡ Err (fault.External, token t other)) (sym fronts)
          (moved (token t other) (subst (λ (w : Fault × Ahead Spelled). SameNext w.1 (token t other)) (sym same) refl) ∙ ap (λ (w : Fault × Ahead Spelled). Err (w.0, token t other)) same)

  no_external : (rest : Ahead Spelled) (at : ℕ) → document true max_depth a ahead ≡ Err (fault.Syntax, rest) → ¬ StandsAt base source (HasCause fault.External) at
  no_external rest at e x = by x.thing.1
    where
      stops : (l : Label) → AnyLabel x.state.scope l (prepend x.inside (token x.t x.behind)) (token x.t x.behind) → ⊥
      stops l h =
          let there = external_stops true max_depth a x.state l (prepend x.front (token x.t x.behind)) (prepend x.inside (token x.t x.behind)) (token x.t x.behind) x.statements h x.thing.0 in
          let behind = stream_from Schema source (at + length x.t.text) in
          let here = subst (λ (ts : Ahead Spelled). document true max_depth a ts ≡ Err (fault.External, token x.t behind))
          (sym (ahead_of_token x.front x.from at x.t x.passed x.first)) (external_anyhow x.front x.t x.behind behind there) in
          other_fault rest (token x.t behind) (sym e ∙ here)

      by : IsLabelled x.state.scope x.inside → ⊥
      by (w, is, inl (i, h)) = stops (iri_label i) (inl (i, refl, (w, ap (λ (us : List Spelled). prepend us (token x.t x.behind)) is, h)))
      by (w, is, inr (name, h)) = stops (Blank name) (inr (name, refl, (w, ap (λ (us : List Spelled). prepend us (token x.t x.behind)) is, h)))

  -- what is said of a fault of syntax: an action, a word that is left out, or a place alone
  by_symbols : (b c d f : Bool) (rest : Ahead Spelled) (at : ℕ) → next_is (is_symbol symbol.Percent) rest ≡ b → next_is (is_symbol symbol.Abstract) rest ≡ c →
      next_is (is_symbol symbol.Extends) rest ≡ d → next_is (is_symbol symbol.Restricts) rest ≡ f
      → document true max_depth a ahead ≡ Err (fault.Syntax, rest) → Stands Schema source rest at
      → Explains base (cond b errors.Action (cond c (errors.Form (chars (codes "ABSTRACT"))) (cond d (errors.Form (chars (codes "EXTENDS"))) (cond f (errors.Form (chars (codes "RESTRICTS"))) (errors.Syntax at))))) source
  by_symbols true c d f rest at p q r w e s = (at, (any_place fault.Syntax rest at refl e s, symbol_stands symbol.Percent (IsSymbol symbol.Percent) (λ x us t h. h) rest at p e s))
  by_symbols false true d f rest at p q r w e s =
      (at, (any_place fault.Syntax rest at refl e s, symbol_stands symbol.Abstract (IsLeftOut (chars (codes "ABSTRACT"))) (λ x us t h. inl (refl, h)) rest at q e s))
  by_symbols false false true f rest at p q r w e s =
      (at, (any_place fault.Syntax rest at refl e s, symbol_stands symbol.Extends (IsLeftOut (chars (codes "EXTENDS"))) (λ x us t h. inr (inl (refl, h))) rest at r e s))
  by_symbols false false false true rest at p q r w e s =
      (at, (any_place fault.Syntax rest at refl e s, symbol_stands symbol.Restricts (IsLeftOut (chars (codes "RESTRICTS"))) (λ x us t h. inr (inr (refl, h))) rest at w e s))
  by_symbols false false false false rest at p q r w e s = (any_place fault.Syntax rest at refl e s, (unnamed rest at (none_named rest p q r w) e s, no_external rest at e))

  explains : (f : Fault) (at : ℕ) (rest : Ahead Spelled) → document true max_depth a ahead ≡ Err (f, rest) → Stands Schema source rest at → Explains base (error_of f rest at) source
  unfolding refusal_at
  explains fault.Syntax at rest e s = by_symbols _ _ _ _ rest at refl refl refl refl e s
  explains fault.External at rest e s = (at, (any_place fault.External rest at refl e s, caused fault.External rest at (λ is. absurd cc) e s))
  explains fault.Deep at rest e s = (at, depth_place rest at e s, caused fault.Deep rest at (λ is. absurd cc) e s)
  explains fault.Prefix at rest e s = (any_place fault.Prefix rest at refl e s, caused fault.Prefix rest at (λ is. absurd cc) e s)
  explains fault.FloatFacet at rest e s = (at, (any_place fault.FloatFacet rest at refl e s, caused fault.FloatFacet rest at (λ is. absurd cc) e s))
  explains fault.FacetNumber at rest e s = (at, (any_place fault.FacetNumber rest at refl e s, caused fault.FacetNumber rest at (λ is. absurd cc) e s))
  explains (fault.Pattern refusal.Large) at rest e s = (at, limit_place (fault.Pattern refusal.Large) rest at e s, caused (fault.Pattern refusal.Large) rest at (λ is. absurd cc) e s)
  explains (fault.Pattern refusal.Flag) at rest e s = (at, (any_place (fault.Pattern refusal.Flag) rest at refl e s, caused (fault.Pattern refusal.Flag) rest at (λ is. absurd cc) e s))
  explains (fault.Pattern refusal.Syntax) at rest e s = (at, (any_place (fault.Pattern refusal.Syntax) rest at refl e s, caused (fault.Pattern refusal.Syntax) rest at (λ is. absurd cc) e s))
  explains (fault.Pattern refusal.Memory) at rest e s = (at, (any_place (fault.Pattern refusal.Memory) rest at refl e s, caused (fault.Pattern refusal.Memory) rest at (λ is. absurd cc) e s))

  explained : (e : Stop) (x : SchemaError) (at : ℕ) (rest : Ahead Spelled) → StopsAs {Y = State} e rest (document true max_depth a ahead) →
      Stands Schema source rest at → IsErrorOf e rest at x → Explains base x source
  explained stop.Memory x at rest h s is = subst (λ (y : SchemaError). Explains base y source) (sym is) tt
  explained (stop.Fault f) x at rest h s (inl is) = subst (λ (y : SchemaError). Explains base y source) (sym is) tt
  explained (stop.Fault f) x at rest h s (inr is) = subst (λ (y : SchemaError). Explains base y source) (sym is) (explains f at rest h s)

  reads_err : (e : Stop) (x : SchemaError) (at : ℕ) (rest : Ahead Spelled) (z : State) → IsDocument base source z →
      StopsAs {Y = State} e rest (document true max_depth a ahead) → IsErrorOf e rest at x → ReadsAs (Err x) z
  reads_err stop.Memory x at rest z doc h is = is
  reads_err (stop.Fault f) x at rest z doc h (inl is) = is
  reads_err (stop.Fault f) x at rest z doc h (inr is) = absurd (apart (z, finished) (f, rest) (sym (is_read z doc) ∙ h))

-- from what lies ahead of the tokens at first, and the state before the first statement
module _ (base source : List ℕ) (u : IsUtf8 source) (first : Ahead Spelled) (begins : first ≡ stream_from Schema source 0) (b : State) (fresh : b ≡ at_first base) where
  moved : (P : State → Ahead Spelled → Type 0) → P b first → P (at_first base) (stream_from Schema source 0)
  moved P h = subst (λ (ts : Ahead Spelled). P (at_first base) ts) begins (subst (λ (q : State). P q first) fresh h)

  pub found_from : (x : State) (rest : Ahead Spelled) (p : Parsed) → document true max_depth b first ≡ Ok (x, rest) → IsParsedOf p x → IsRead base source p
  found_from x rest p is last =
      let e = moved (λ q ts. document true max_depth q ts ≡ Ok (x, rest)) is in
      (x, found base source u x ((document_meets true max_depth (at_first base) (stream_from Schema source 0)).holds (x, rest) e).0, last)

  pub ok_from : (x z : State) (rest : Ahead Spelled) (p : Parsed) → document true max_depth b first ≡ Ok (x, rest) → IsParsedOf p x → IsDocument base source z → ReadsAs (Ok p) z
  ok_from x z rest p is last doc = subst (IsParsedOf p) (same_state base source u x z rest (moved (λ q ts. document true max_depth q ts ≡ Ok (x, rest)) is) doc) last

  pub err_from : (z : State) (e : Stop) (x : SchemaError) (at : ℕ) (rest : Ahead Spelled) → IsDocument base source z →
      StopsAs {Y = State} e rest (document true max_depth b first) → IsErrorOf e rest at x → ReadsAs (Err x) z
  err_from z e x at rest doc h is = reads_err base source u e x at rest z doc (moved (λ q ts. StopsAs {Y = State} e rest (document true max_depth q ts)) h) is

  pub cause_from : (e : Stop) (x : SchemaError) (at : ℕ) (rest : Ahead Spelled) (text : Source) → StopsAs {Y = State} e rest (document true max_depth b first) →
      text ≡ record { mode = Schema; text = source }
      → Stands text.mode text.text rest at → IsErrorOf e rest at x → Explains base x source
  cause_from e x at rest text h same s is =
      explained base source u e x at rest (moved (λ q ts. StopsAs {Y = State} e rest (document true max_depth q ts)) h) (subst (λ (y : Source). Stands y.mode y.text rest at) same s) is

pub documents_one : DocumentsAreOne
documents_one base source x y h k = same_state base source h.1 x y finished (is_read base source h.1 x h) k
