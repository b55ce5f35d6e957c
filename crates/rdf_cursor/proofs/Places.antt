-- The place of a fault, by what a cursor keeps.
use Rattle.std.proofs.Common.{◌≡◌, ℕ, ◌+◌, ◌<◌, List, [], ◌∷◌, ◌++◌, length, drop, refl, sym, ap, subst, ◌∙◌, arith}
use Rattle.std.proofs.Math.Logic.{∥∥₁_elim}
use Rattle.std.proofs.Props.{props}
use Rattle.std.specs.Str.{IsUtf8, IsCharBoundary, chars}
use Rattle.rdf_cursor.specs.Ahead.{Ahead, finished, token, prepend, count, SameNext}
use Rattle.rdf_cursor.specs.Properties.{Blocked}
use Rattle.rdf_cursor.proofs.Locality.{prepend-append}
use Rattle.rdf_lex.specs.declared.kinds.Mode.{Mode}
use Rattle.rdf_lex.specs.declared.lexed.Lexed.{Lexed}
use Rattle.rdf_lex.specs.declared.lexed.Lexed.TheVariants as lexed
use Rattle.rdf_lex.specs.Scan.{Next, at_end, at_bad, at_token, next_of, seen}
use Rattle.rdf_lex.specs.Tokens.{Spelled, IsFirst, IsSkipped, BeginsNone, Between}
use Rattle.rdf_lex.proofs.Nexts.{is_next}
use Rattle.rdf_cursor.specs.Streams.{stream_on, stream_from}
use Rattle.rdf_cursor.specs.Lent.{ahead_of, place_of, IsReached, Stands}
use Rattle.rdf_cursor.specs.Places as fault
use Rattle.rdf_cursor.specs.Places.{StandsAt}
use Rattle.rdf_cursor.proofs.Streams.{stream_step, stream_lexed, stream_between, cut_behind, found, start, to_tokens, one_between}

-- fronts that leave the same of one list are the same
count_prepend_is : (f : List Spelled) (x : Ahead Spelled) → count (prepend f x) ≡ length f + count x
count_prepend_is [] x = omega arith
count_prepend_is (t ∷ f) x = let h = count_prepend_is f x in omega arith

token_parts : (t v : Spelled) (x y : Ahead Spelled) → token t x ≡ token v y → (t ≡ v) × (x ≡ y)
token_parts t v x y e = (cc, cc)

front_by_length : (f g : List Spelled) (x y : Ahead Spelled) → length f ≡ length g → prepend f x ≡ prepend g y → f ≡ g
front_by_length [] [] x y n e = refl
front_by_length [] (v ∷ g) x y n e = absurd (omega arith)
front_by_length (t ∷ f) [] x y n e = absurd (omega arith)
front_by_length (t ∷ f) (v ∷ g) x y n e =
    let p = token_parts t v (prepend f x) (prepend g y) e in
    let l : length f ≡ length g = omega arith in
    ap (λ (s : Spelled). s ∷ f) p.0 ∙ ap (λ (ss : List Spelled). v ∷ ss) (front_by_length f g x y l p.1)

same_front : (f g : List Spelled) (x : Ahead Spelled) → prepend f x ≡ prepend g x → f ≡ g
same_front f g x e =
    let a = count_prepend_is f x in
    let b = count_prepend_is g x in
    let c : count (prepend f x) ≡ count (prepend g x) = ap count e in
    let l : length f ≡ length g = omega arith in
    front_by_length f g x x l e

module _ (m : Mode) (source : List ℕ) (u : IsUtf8 source) where
  -- the place of what comes next, as a scan sees it
  abbrev place_in : Next → ℕ
  place_in (at_token k text p) = p
  place_in at_end = length source
  place_in (at_bad p) = p

  seen_place : (r : Lexed) → place_in (seen r) ≡ place_of source r
  seen_place (lexed.Token t) = refl
  seen_place lexed.End = refl
  seen_place (lexed.Bad p) = refl

  reached_place : (front : List Spelled) (from : ℕ) (next : Lexed) → Between m source 0 front from → stream_from m source 0 ≡ prepend front (ahead_of m source next) → IsReached m source next
      → place_in (next_of m source from) ≡ place_of source next
  reached_place front from next passed parts r =
      let b = start m source u in
      let cut = cut_behind m source u 0 r.from r.front b r.passed in
      let there = stream_between m source u 0 r.from r.front b r.passed in
      let left = stream_lexed m source u r.from next cut r.sought in
      let fronts = same_front front r.front (ahead_of m source next) (sym parts ∙ there ∙ ap (prepend r.front) left) in
      let places = one_between m source u 0 from r.from r.front (subst (λ (f : List Spelled). Between m source 0 f from) fronts passed) r.passed in
      ap (λ (i : ℕ). place_in (next_of m source i)) places ∙ ap place_in (sym r.sought) ∙ seen_place next

  -- behind a front this lies ahead, and what comes next stands at this place
  pub record FoundAt (rest : Ahead Spelled) (place : ℕ) (front : List Spelled) : Type 0 where
    pub from : ℕ
    pub cut : IsCharBoundary source from
    pub passed : Between m source 0 front from
    pub next : stream_on (stream_from m source) (next_of m source from) ≡ rest
    pub placed : place_in (next_of m source from) ≡ place

  pub found_at : (rest : Ahead Spelled) (place : ℕ) (front : List Spelled) → stream_from m source 0 ≡ prepend front rest → Stands m source rest place → FoundAt rest place front
  found_at rest place front parts s =
      let b = start m source u in
      let f = found m source u 0 front rest b parts in
      let cut = cut_behind m source u 0 f.to front b f.passed in
      let there : stream_from m source 0 ≡ prepend front (ahead_of m source s.next) = parts ∙ ap (prepend front) s.lent in
      record {
        from = f.to;
        cut = cut;
        passed = f.passed;
        next = sym (stream_step m source u f.to cut) ∙ f.left;
        placed = ∥∥₁_elim s.reached (hlevel props) (λ r. reached_place front f.to s.next f.passed there r) ∙ sym s.placed;
      }

  stands_by : (place from : ℕ) (x : Next) → IsCharBoundary source from → x ≡ next_of m source from → place_in x ≡ place → StandsAt m source from (stream_on (stream_from m source) x) place
  stands_by place from (at_token k text p) b e at = subst (λ (i : ℕ). IsFirst m source from k text i) at (is_next m source from (at_token k text p) u b e)
  stands_by place from at_end b e at = (subst (λ (i : ℕ). IsSkipped m source from i) at (is_next m source from at_end u b e), sym at)
  stands_by place from (at_bad p) b e at = subst (λ (i : ℕ). IsSkipped m source from i × (i < length source) × BeginsNone m (chars (drop i source))) at (is_next m source from (at_bad p) u b e)

  -- what lies ahead of some tokens stands at the place
  pub stands_at : (rest : Ahead Spelled) (place : ℕ) (front : List Spelled) → stream_from m source 0 ≡ prepend front rest → Stands m source rest place
      → (from : ℕ) × Between m source 0 front from × StandsAt m source from rest place
  stands_at rest place front parts s =
      let f = found_at rest place front parts s in
      (f.from, f.passed, subst (λ (r : Ahead Spelled). StandsAt m source f.from r place) f.next (stands_by place f.from (next_of m source f.from) f.cut refl f.placed))

  -- the token that is next stands at the place
  pub first_at : (t : Spelled) (rest : Ahead Spelled) (place : ℕ) (front : List Spelled) → stream_from m source 0 ≡ prepend front (token t rest) → Stands m source (token t rest) place
      → (from : ℕ) × Between m source 0 front from × IsFirst m source from t.kind t.text place
  first_at t rest place front parts s = stands_at (token t rest) place front parts s

  module _ {A : Type 0} (Spells : A → Ahead Spelled → Type 0) where
    abbrev Stops : ℕ → Type 0
    Stops at = fault.IsFaultPlace {A = A} (λ x ts. Spells x (prepend ts finished)) m source at

    begun : (front : List Spelled) (t : Spelled) (rest : Ahead Spelled) (x : A) (more : List Spelled) → ((other : Ahead Spelled) → SameNext rest other → ¬ Spells x (prepend front other))
        → SameNext rest (token t (prepend more finished)) → ¬ Spells x (prepend (front ++ t ∷ more) finished)
    begun front t rest x more none same s = none (token t (prepend more finished)) same (subst (Spells x) (prepend-append front (t ∷ more) finished) s)

    stops_on : (front : List Spelled) (from : ℕ) (rest : Ahead Spelled) (x : Next) → IsCharBoundary source from → Between m source 0 front from → x ≡ next_of m source from
        → stream_from m source 0 ≡ prepend front rest → stream_on (stream_from m source) x ≡ rest →
        ((y : A) (other : Ahead Spelled) → SameNext rest other → ¬ Spells y (prepend front other)) → Stops (place_in x)
    stops_on front from rest (at_token k text p) b passed e parts is none =
        let t : Spelled = record { kind = k; text = text } in
        fault.at_token front from t passed (is_next m source from (at_token k text p) u b e)
        (λ y more. begun front t rest y more (none y) (subst (λ (r : Ahead Spelled). SameNext r (token t (prepend more finished))) is refl))
    stops_on front from rest at_end b passed e parts is none =
        fault.at_end front (to_tokens m source u front (parts ∙ ap (prepend front) (sym is))) refl (λ y s. none y finished (subst (λ (r : Ahead Spelled). SameNext r finished) is tt) s)
    stops_on front from rest (at_bad p) b passed e parts is none =
        let n = is_next m source from (at_bad p) u b e in fault.at_characters front from passed n.0 n.1 n.2

    -- where no document goes on as the text does, the cursor stands at the place of the fault
    pub fault_place : (rest : Ahead Spelled) (place : ℕ) → Blocked Spells (stream_from m source 0) rest → Stands m source rest place → Stops place
    fault_place rest place b s =
        let f = found_at rest place b.front b.parts s in
        subst Stops f.placed (stops_on b.front f.from rest (next_of m source f.from) f.cut f.passed refl b.parts f.next b.none)
