-- What the answer of the reader on lists says of what stands behind a sign and a space.
use Rattle.std.proofs.Common.{◌≡◌, ℕ, suc, ◌+◌, ◌<◌, ◌≤◌, Bool, true, false, nat_lt, List, ◌∷◌, ◌++◌, length, Ok, Err, refl, sym, ap, subst, ◌∙◌, ◌⊎◌, inl, inr, arith}
use Rattle.std.proofs.lemmas.Bool.{ltb-true, lt-ltb}
use Rattle.std.proofs.Math.Logic.{∥∥₁_elim}
use Rattle.std.proofs.Props.{props}
use Rattle.std.specs.Str.{IsUtf8}
use Rattle.rdf_cursor.specs.Ahead.{Ahead, finished, token, prepend, SameNext}
use Rattle.rdf_cursor.specs.Cursors.{Source}
use Rattle.rdf_cursor.specs.Lent.{place_of, IsReached, Stands}
use Rattle.rdf_cursor.specs.Places.{IsFaultPlace}
use Rattle.rdf_cursor.specs.Properties.{AgreesAt}
use Rattle.rdf_cursor.specs.Readers.{Answer}
use Rattle.rdf_cursor.specs.Stops.{StopsAs}
use Rattle.rdf_cursor.specs.Streams.{stream_from}
use Rattle.rdf_cursor.specs.declared.stops.Fault.{Fault}
use Rattle.rdf_cursor.specs.declared.stops.Fault.TheVariants as faults
use Rattle.rdf_cursor.specs.declared.stops.Stop.{Stop}
use Rattle.rdf_cursor.specs.declared.stops.Stop.TheVariants as stop
use Rattle.rdf_cursor.proofs.Answers.{apart}
use Rattle.rdf_cursor.proofs.Blocking.{blocked}
use Rattle.rdf_cursor.proofs.Fronts.{front_ok}
use Rattle.rdf_cursor.proofs.Locality.{prepend-append}
use Rattle.rdf_cursor.proofs.Places.{fault_place, first_at}
use Rattle.rdf_cursor.proofs.Streams.{cut_behind, start, to_tokens, from_tokens}
use Rattle.rdf_lex.specs.declared.kinds.Mode.TheVariants.{Map}
use Rattle.rdf_lex.specs.declared.lexed.Lexed.{Lexed}
use Rattle.rdf_lex.specs.declared.lexed.Lexed.TheVariants as lexed
use Rattle.rdf_lex.specs.Scan.{at_token, at_bad}
use Rattle.rdf_lex.specs.Tokens.{Spelled, Tokens}
use Rattle.rdf_lex.proofs.Nexts.{is_next}
use Rattle.session_script.specs.Grammar.{Body}
use Rattle.session_script.specs.Reading.{command}
use Rattle.session_script.specs.Scripts.{character, sign_of, Spells, IsCommand, IsLongAt}
use Rattle.session_script.specs.Steps.{IsScriptFault, IsScriptStop, error_of, IsBehind, HasNone, RefusesRest}
use Rattle.session_script.specs.declared.commands.Command.{Command}
use Rattle.session_script.specs.declared.error.ScriptError.{ScriptError}
use Rattle.session_script.specs.declared.signs.Sign.{Sign}
use Rattle.session_script.specs.declared.signs.Sign.TheVariants.{Plus, Minus, Question}
use Rattle.session_script.proofs.Complete.{command_read}
use Rattle.session_script.proofs.Limits.{Common, LongNext, same_command}
use Rattle.session_script.proofs.Places.{local_command}
use Rattle.session_script.proofs.Sound.{command_meets}

-- a character is that of one sign
pub one_sign : (a b : Sign) → character a ≡ character b → a ≡ b
one_sign Plus Plus e = refl
one_sign Minus Minus e = refl
one_sign Question Question e = refl
one_sign Plus Minus e = absurd (omega (arith, e))
one_sign Plus Question e = absurd (omega (arith, e))
one_sign Minus Plus e = absurd (omega (arith, e))
one_sign Minus Question e = absurd (omega (arith, e))
one_sign Question Plus e = absurd (omega (arith, e))
one_sign Question Minus e = absurd (omega (arith, e))

same_parts : (a b c d : ℕ) (xs ys : List ℕ) → a ∷ c ∷ xs ≡ b ∷ d ∷ ys → (a ≡ b) × (xs ≡ ys)
same_parts a b c d xs ys e = (cc, cc)

both_flags : (P : Bool → Type 0) → P true → P false → (k : Bool) → P k
both_flags P a b true = a
both_flags P a b false = b

module _ (s : Sign) (rest : List ℕ) (u : IsUtf8 rest) where
  abbrev ahead : Ahead Spelled
  ahead = stream_from Map rest 0

  abbrev line : List ℕ
  line = character s ∷ 32 ∷ rest

  found_command : (x : Command) (left : Ahead Spelled) → command true s ahead ≡ Ok (x, left) → IsCommand true x line
  found_command x left e =
      let h = (command_meets true s ahead).holds (x, left) e in
      let f = front_ok (command true s) ahead (command true s ahead) x finished (command_read true s x ahead h) (local_command true s ahead) in
      record {
        sign = s;
        rest = rest;
        parts = refl;
        utf8 = u;
        tokens = f.0;
        lexed = to_tokens Map rest u f.0 f.1;
        spelled = (h.0, subst (λ (v : Ahead Spelled). Body true x v finished) f.1 h.1);
      }

  spelled_ahead : (k : Bool) (x : Command) → IsCommand k x line → (sign_of x ≡ s) × Body k x ahead finished
  spelled_ahead k x c =
      let p = same_parts (character s) (character c.sign) 32 32 rest c.rest c.parts in
      let lexed : Tokens Map rest c.tokens = subst (λ (v : List ℕ). Tokens Map v c.tokens) (sym p.1) c.lexed in
      (c.spelled.0 ∙ sym (one_sign s c.sign p.0), subst (λ (v : Ahead Spelled). Body k x v finished) (sym (from_tokens Map rest u c.tokens lexed)) c.spelled.1)

  pub is_read : (k : Bool) (x : Command) → IsCommand k x line → command k s ahead ≡ Ok (x, finished)
  is_read k x c = command_read k s x ahead (spelled_ahead k x c)

  none_of : (k : Bool) (f : Fault) (left : Ahead Spelled) → command k s ahead ≡ Err (f, left) → HasNone k line
  none_of k f left e x c = apart (x, finished) (f, left) (sym (is_read k x c) ∙ e)

  agreed : (f : Fault) (left : Ahead Spelled) → command true s ahead ≡ Err (f, left) → (Common f × (command false s ahead ≡ Err (f, left))) ⊎ LongNext f left
  agreed f left e = subst (λ (a : Answer Spelled Fault Command). AgreesAt Common LongNext a (command false s ahead)) e (same_command s ahead)

  not_long : faults.Syntax ≡ faults.Long → ⊥
  not_long e = cc

  not_syntax : faults.Long ≡ faults.Syntax → ⊥
  not_syntax e = cc

  script_fault : (f : Fault) (left : Ahead Spelled) → command true s ahead ≡ Err (f, left) → IsScriptFault f
  script_fault f left e = by (agreed f left e)
    where
      by : (Common f × (command false s ahead ≡ Err (f, left))) ⊎ LongNext f left → IsScriptFault f
      by (inl (c, g)) = subst IsScriptFault (sym c) tt
      by (inr (c, l)) = subst IsScriptFault (sym c) tt

  syntax_place : (left : Ahead Spelled) (at begun : ℕ) → command true s ahead ≡ Err (faults.Syntax, left) → Stands Map rest left at
      → IsBehind (IsFaultPlace (Spells false s) Map rest) begun (begun + at) × ((k : Bool) → HasNone k line)
  syntax_place left at begun e stands = by (agreed faults.Syntax left e)
    where
      by : (Common faults.Syntax × (command false s ahead ≡ Err (faults.Syntax, left))) ⊎ LongNext faults.Syntax left
          → IsBehind (IsFaultPlace (Spells false s) Map rest) begun (begun + at) × ((k : Bool) → HasNone k line)
      by (inl (c, f)) = (
        record {
          within = at;
          placed = refl;
          is_so = fault_place Map rest u (λ x ts. (sign_of x ≡ s) × Body false x ts finished) left at
              (blocked (command false s) (λ x ts. (sign_of x ≡ s) × Body false x ts finished) (local_command false s) (command_read false s) ahead faults.Syntax left f) stands;
        },
        both_flags (λ k. HasNone k line) (none_of true faults.Syntax left e) (none_of false faults.Syntax left f),
      )
      by (inr (f, l)) = absurd (not_long f)

  same_left : (left behind : Ahead Spelled) (t : Spelled) (more : Ahead Spelled) → left ≡ token t behind → SameNext left (token t more)
  same_left left behind t more e = subst (λ (v : Ahead Spelled). SameNext v (token t more)) (sym e) refl

  onward : (x : Command) (front : List Spelled) (t : Spelled) (more : List Spelled) → Spells true s x (front ++ t ∷ more) → (sign_of x ≡ s) ×
      Body true x (prepend front (token t (prepend more finished))) finished
  onward x front t more (e, h) = (e, subst (λ (v : Ahead Spelled). Body true x v finished) (prepend-append front (t ∷ more) finished) h)

  long_place : (left : Ahead Spelled) (at begun : ℕ) → command true s ahead ≡ Err (faults.Long, left) → Stands Map rest left at → IsBehind (IsLongAt s rest) begun (begun + at) × HasNone true line
  long_place left at begun e stands = by (agreed faults.Long left e)
    where
      by : (Common faults.Long × (command false s ahead ≡ Err (faults.Long, left))) ⊎ LongNext faults.Long left → IsBehind (IsLongAt s rest) begun (begun + at) × HasNone true line
      by (inl (c, f)) = absurd (not_syntax c)
      by (inr (f, (t, behind, is, l))) =
          let b = blocked (command true s) (λ x ts. (sign_of x ≡ s) × Body true x ts finished) (local_command true s) (command_read true s) ahead faults.Long left e in
          let first = first_at Map rest u t behind at b.front (b.parts ∙ ap (prepend b.front) is) (subst (λ (v : Ahead Spelled). Stands Map rest v at) is stands) in (
            record {
              within = at;
              placed = refl;
              is_so = record {
                front = b.front;
                from = first.0;
                t = t;
                passed = first.1;
                first = first.2;
                long = l;
                none = λ x more h. b.none x (token t (prepend more finished)) (same_left left behind t (prepend more finished) is) (onward x b.front t more h);
              };
            },
            none_of true faults.Long left e,
          )

  explains : (e : Stop) (at begun : ℕ) (left : Ahead Spelled) → StopsAs {Y = Command} e left (command true s ahead) → Stands Map rest left at → RefusesRest (error_of e (begun + at)) s rest begun
  explains stop.Memory at begun left h stands = tt
  explains (stop.Fault faults.Syntax) at begun left h stands = syntax_place left at begun h stands
  explains (stop.Fault faults.Long) at begun left h stands = long_place left at begun h stands
  explains (stop.Fault faults.Prefix) at begun left h stands = absurd (script_fault faults.Prefix left h)
  explains (stop.Fault faults.Deep) at begun left h stands = absurd (script_fault faults.Deep left h)
  explains (stop.Fault faults.Full) at begun left h stands = absurd (script_fault faults.Full left h)

  -- what comes next stands within what is read
  next_within : (next : Lexed) → IsReached Map rest next → place_of rest next < suc (length rest)
  next_within (lexed.Token t) r =
      let cut = cut_behind Map rest u 0 r.from r.front (start Map rest u) r.passed in
      let first = is_next Map rest r.from (at_token t.kind t.text.now t.at) u cut r.sought in
      let le : t.at ≤ length rest = first.skipped.cut.0 in
      omega arith
  next_within lexed.End r = omega arith
  next_within (lexed.Bad p) r =
      let cut = cut_behind Map rest u 0 r.from r.front (start Map rest u) r.passed in
      let n = is_next Map rest r.from (at_bad p) u cut r.sought in
      let lt : p < length rest = n.1 in
      omega arith

  place_within : (left : Ahead Spelled) (at : ℕ) → Stands Map rest left at → at ≤ length rest
  place_within left at stands =
      let t : nat_lt (place_of rest stands.next) (suc (length rest)) ≡ true = ∥∥₁_elim stands.reached (hlevel props)
      (λ r. lt-ltb (place_of rest stands.next) (suc (length rest)) (next_within stands.next r)) in
      let lt = ltb-true (place_of rest stands.next) (suc (length rest)) t in
      let is = stands.placed in
      omega (arith, lt, is)

-- from what lies ahead of the tokens at first, and from the text that a cursor keeps
module _ (s : Sign) (rest : List ℕ) (u : IsUtf8 rest) (first : Ahead Spelled) (begins : first ≡ stream_from Map rest 0) where
  pub found_from : (x : Command) (left : Ahead Spelled) → command true s first ≡ Ok (x, left) → IsCommand true x (character s ∷ 32 ∷ rest)
  found_from x left h = found_command s rest u x left (ap (command true s) (sym begins) ∙ h)

  moved : (e : Stop) (left : Ahead Spelled) → StopsAs {Y = Command} e left (command true s first) → StopsAs {Y = Command} e left (command true s (stream_from Map rest 0))
  moved e left h = subst (λ (ts : Ahead Spelled). StopsAs {Y = Command} e left (command true s ts)) begins h

  stop_by : (e : Stop) (left : Ahead Spelled) → StopsAs {Y = Command} e left (command true s (stream_from Map rest 0)) → IsScriptStop e
  stop_by stop.Memory left h = tt
  stop_by (stop.Fault f) left h = script_fault s rest u f left h

  pub stop_from : (e : Stop) (left : Ahead Spelled) → StopsAs {Y = Command} e left (command true s first) → IsScriptStop e
  stop_from e left h = stop_by e left (moved e left h)

  pub within_from : (left : Ahead Spelled) (at : ℕ) (text : Source) → text ≡ record { mode = Map; text = rest } → Stands text.mode text.text left at → at ≤ length rest
  within_from left at text same stands = place_within s rest u left at (subst (λ (y : Source). Stands y.mode y.text left at) same stands)

  pub cause_from : (e : Stop) (x : ScriptError) (at begun : ℕ) (left : Ahead Spelled) (text : Source) → StopsAs {Y = Command} e left (command true s first) → text ≡ record { mode = Map; text = rest }
      → Stands text.mode text.text left at → x ≡ error_of e (begun + at) → RefusesRest x s rest begun
  cause_from e x at begun left text h same stands is =
      subst (λ (y : ScriptError). RefusesRest y s rest begun) (sym is) (explains s rest u e at begun left (moved e left h) (subst (λ (y : Source). Stands y.mode y.text left at) same stands))
