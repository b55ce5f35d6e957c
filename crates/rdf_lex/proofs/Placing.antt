-- A spelled text that nothing can make longer is the first token where it stands.
use Rattle.std.proofs.Common.{◌≡◌, ℕ, ◌+◌, ◌≤◌, ◌<◌, Bool, true, false, ◌&&◌, List, [], ◌∷◌, ◌++◌, length, take, drop, length-append, length-drop, encode_utf8_all, Option, Some, None, refl, sym, ap, subst, ◌∙◌, arith, ◌⊎◌, inl, inr}
use Rattle.std.specs.Prelude.{nat_eq, is_none}
use Rattle.std.specs.Str.{chars, IsUtf8, IsCharBoundary}
use Rattle.std.proofs.lemmas.List.{drop-drop}
use Rattle.std.proofs.lemmas.Str.{IsUtf8-drop, IsCharBoundary-from_drop}
use Rattle.rdf_lex.specs.declared.kinds.Kind.{Kind}
use Rattle.rdf_lex.specs.declared.kinds.Kind.TheVariants as kinds
use Rattle.rdf_lex.specs.declared.kinds.Mode.{Mode}
use Rattle.rdf_lex.specs.declared.kinds.Mode.TheVariants.{NTriples, Turtle, Map, Schema}
use Rattle.rdf_lex.specs.declared.machine.State.{State}
use Rattle.rdf_lex.specs.declared.machine.MarkPart.TheVariants as mark
use Rattle.rdf_lex.specs.declared.machine.State.TheVariants.{Start, Mark}
use Rattle.rdf_lex.specs.Characters.{digit, letter, letter_or_digit, hexadecimal, name_base, name_char, local_start, local_char, label_start, local_escaped, text_escaped, iri_char, short_char, long_char, line_end, turtle_mark, brace, schema_mark, pattern_start, pattern_char, flag, any_char}
use Rattle.rdf_lex.specs.Machine.{step_of, label_of}
use Rattle.rdf_lex.specs.Phrases.{Spells}
use Rattle.rdf_lex.specs.Spelling.{Spelling}
use Rattle.rdf_lex.specs.Tokens.{Blanks, stops, is_white, IsLongest, IsFirst}
use Rattle.rdf_lex.proofs.Cuts.{cut_at, size-length}
use Rattle.rdf_lex.proofs.Languages.{heads, and_true}
use Rattle.rdf_lex.proofs.Nexts.{no_comment}
use Rattle.rdf_lex.proofs.Recognised.{kind_from, then_from, to_kind, from_kind}
use Rattle.rdf_lex.proofs.Residuals.{every_state, every_state_is, is_kind, some_is_kind}
use Rattle.rdf_lex.proofs.Theorem.{size}

-- no token that begins with the front is longer
abbrev pub IsOver : Mode → List ℕ → List ℕ → Type 0
IsOver m front rest = (j : Kind) (piece behind : List ℕ) → front ++ rest ≡ piece ++ behind → Spells (Spelling m j) piece → length piece ≤ length front

pub over_nil : (m : Mode) (front : List ℕ) → IsOver m front []
over_nil m front = λ j piece behind e h. by piece behind (ap length e)
  where
    by : (piece behind : List ℕ) → length (front ++ []) ≡ length (piece ++ behind) → length piece ≤ length front
    by piece behind e = let l = length-append front [] in let r = length-append piece behind in omega arith

-- the state behind a text
abbrev then_on : Option State → (State → Option State) → Option State
then_on None f = None
then_on (Some s) f = f s

abbrev pub state_after : State → List ℕ → Option State
state_after s [] = Some s
state_after s (c ∷ cs) = then_on (step_of s c) (λ t. state_after t cs)

reached_on : (m : Mode) (k : Kind) (cs : List ℕ) (o : Option State) → ((s : State) → kind_from m s cs ≡ Some k → (t : State) × (state_after s cs ≡ Some t) × (label_of m t ≡ Some k))
    → then_from o (λ t. kind_from m t cs) ≡ Some k → (t : State) × (then_on o (λ t. state_after t cs) ≡ Some t) × (label_of m t ≡ Some k)
reached_on m k cs None ih h = absurd cc
reached_on m k cs (Some s) ih h = ih s h

reached : (m : Mode) (k : Kind) (cs : List ℕ) (s : State) → kind_from m s cs ≡ Some k → (t : State) × (state_after s cs ≡ Some t) × (label_of m t ≡ Some k)
reached m k [] s h = (s, refl, h)
reached m k (c ∷ cs) s h = reached_on m k cs (step_of s c) (λ t g. reached m k cs t g) h

kind_behind_on : (m : Mode) (xs ys : List ℕ) (o : Option State) → ((s : State) → kind_from m s (xs ++ ys) ≡ then_from (state_after s xs) (λ t. kind_from m t ys))
    → then_from o (λ t. kind_from m t (xs ++ ys)) ≡ then_from (then_on o (λ t. state_after t xs)) (λ t. kind_from m t ys)
kind_behind_on m xs ys None ih = refl
kind_behind_on m xs ys (Some s) ih = ih s

kind_behind : (m : Mode) (xs ys : List ℕ) (s : State) → kind_from m s (xs ++ ys) ≡ then_from (state_after s xs) (λ t. kind_from m t ys)
kind_behind m [] ys s = refl
kind_behind m (x ∷ xs) ys s = kind_behind_on m xs ys (step_of s x) (λ t. kind_behind m xs ys t)

-- a longer piece goes on behind the front
goes_on : (front piece behind : List ℕ) (c : ℕ) (rest : List ℕ) → front ++ c ∷ rest ≡ piece ++ behind → length front < length piece → (more : List ℕ) × (piece ≡ front ++ c ∷ more)
goes_on front [] behind c rest e lt = absurd (omega arith)
goes_on [] (p ∷ ps) behind c rest e lt = let h = heads c p rest (ps ++ behind) e in (ps, ap (λ (x : ℕ). x ∷ ps) (sym h.0))
goes_on (f ∷ front) (p ∷ ps) behind c rest e lt =
    let h = heads f p (front ++ c ∷ rest) (ps ++ behind) e in
    let m = goes_on front ps behind c rest h.1 (omega arith) in
    (m.0, ap (λ (x : ℕ). x ∷ ps) (sym h.0) ∙ ap (λ (v : List ℕ). f ∷ v) m.1)

order : (a b : ℕ) → (a ≤ b) ⊎ (b < a)
order a b = grind arith

none_some : (o : Option Kind) (k : Kind) → o ≡ None → o ≡ Some k → ⊥
none_some o k e f = cc

over_stuck : (m : Mode) (front : List ℕ) (t : State) (c : ℕ) (rest : List ℕ) → state_after Start front ≡ Some t → step_of t c ≡ None → IsOver m front (c ∷ rest)
over_stuck m front t c rest at stuck = λ j piece behind e h. by j piece behind e h (order (length piece) (length front))
  where
    by : (j : Kind) (piece behind : List ℕ) → front ++ c ∷ rest ≡ piece ++ behind → Spells (Spelling m j) piece → (length piece ≤ length front) ⊎
        (length front < length piece) → length piece ≤ length front
    by j piece behind e h (inl le) = le
    by j piece behind e h (inr lt) =
        let more = goes_on front piece behind c rest e lt in
        let none : kind_from m Start piece ≡ None =
        ap (kind_from m Start) more.1 ∙ kind_behind m front (c ∷ more.0) Start ∙ ap (λ (o : Option State). then_from o (λ t. kind_from m t (c ∷ more.0))) at
        ∙ ap (λ (o : Option State). then_from o (λ t. kind_from m t more.0)) stuck in
        absurd (none_some (kind_from m Start piece) j none (to_kind m j piece h))

-- behind a string neither `@` nor `^` goes on
implies : Bool → Bool → Bool
implies true b = b
implies false b = true

abbrev stuck_behind : Mode → State → Bool
stuck_behind m s = implies (is_kind kinds.Str (label_of m s)) (is_none (step_of s 64) && is_none (step_of s 94))

stuck_ntriples : every_state (stuck_behind NTriples) ≡ true
unfolding digit letter letter_or_digit hexadecimal name_base name_char local_start local_char label_start local_escaped text_escaped iri_char short_char long_char line_end turtle_mark brace schema_mark pattern_start pattern_char flag any_char implies
stuck_ntriples = refl

stuck_turtle : every_state (stuck_behind Turtle) ≡ true
unfolding digit letter letter_or_digit hexadecimal name_base name_char local_start local_char label_start local_escaped text_escaped iri_char short_char long_char line_end turtle_mark brace schema_mark pattern_start pattern_char flag any_char implies
stuck_turtle = refl

stuck_map : every_state (stuck_behind Map) ≡ true
unfolding digit letter letter_or_digit hexadecimal name_base name_char local_start local_char label_start local_escaped text_escaped iri_char short_char long_char line_end turtle_mark brace schema_mark pattern_start pattern_char flag any_char implies
stuck_map = refl

stuck_schema : every_state (stuck_behind Schema) ≡ true
unfolding digit letter letter_or_digit hexadecimal name_base name_char local_start local_char label_start local_escaped text_escaped iri_char short_char long_char line_end turtle_mark brace schema_mark pattern_start pattern_char flag any_char implies
stuck_schema = refl

all_stuck : (m : Mode) (s : State) → stuck_behind m s ≡ true
all_stuck NTriples s = every_state_is (stuck_behind NTriples) stuck_ntriples s
all_stuck Turtle s = every_state_is (stuck_behind Turtle) stuck_turtle s
all_stuck Map s = every_state_is (stuck_behind Map) stuck_map s
all_stuck Schema s = every_state_is (stuck_behind Schema) stuck_schema s

implied : (a b : Bool) → a ≡ true → implies a b ≡ true → b ≡ true
unfolding implies
implied true b e f = f
implied false b e f = absurd cc

none_is : (o : Option State) → is_none o ≡ true → o ≡ None
none_is None e = refl
none_is (Some s) e = absurd cc

str_stuck : (m : Mode) (s : State) → label_of m s ≡ Some kinds.Str → (step_of s 64 ≡ None) × (step_of s 94 ≡ None)
str_stuck m s e =
    let b = implied (is_kind kinds.Str (label_of m s)) (is_none (step_of s 64) && is_none (step_of s 94)) (some_is_kind kinds.Str (label_of m s) e) (all_stuck m s) in
    let p = and_true (is_none (step_of s 64)) (is_none (step_of s 94)) b in
    (none_is (step_of s 64) p.0, none_is (step_of s 94) p.1)

pub str_over_at : (m : Mode) (front rest : List ℕ) → Spells (Spelling m kinds.Str) front → IsOver m front (64 ∷ rest)
str_over_at m front rest h = let t = reached m kinds.Str front Start (to_kind m kinds.Str front h) in over_stuck m front t.0 64 rest t.1 (str_stuck m t.0 t.2).0

pub str_over_caret : (m : Mode) (front rest : List ℕ) → Spells (Spelling m kinds.Str) front → IsOver m front (94 ∷ rest)
str_over_caret m front rest h = let t = reached m kinds.Str front Start (to_kind m kinds.Str front h) in over_stuck m front t.0 94 rest t.1 (str_stuck m t.0 t.2).1

-- `^^`
carets_kind : (m : Mode) → kind_from m Start (94 ∷ 94 ∷ []) ≡ Some kinds.Punct
unfolding digit letter letter_or_digit hexadecimal name_base name_char local_start local_char label_start local_escaped text_escaped iri_char short_char long_char line_end turtle_mark brace schema_mark pattern_start pattern_char flag any_char
carets_kind NTriples = refl
carets_kind Turtle = refl
carets_kind Map = refl
carets_kind Schema = refl

pub carets_spelled : (m : Mode) → Spells (Spelling m kinds.Punct) (94 ∷ 94 ∷ [])
carets_spelled m = from_kind m kinds.Punct (94 ∷ 94 ∷ []) (carets_kind m)

carets_stop : (rest : List ℕ) → (t : State) × (state_after Start (94 ∷ 94 ∷ []) ≡ Some t) × (step_of t 60 ≡ None)
unfolding digit letter letter_or_digit hexadecimal name_base name_char local_start local_char label_start local_escaped text_escaped iri_char short_char long_char line_end turtle_mark brace schema_mark pattern_start pattern_char flag any_char
carets_stop rest = (Mark mark.Carets, refl, refl)

pub carets_over : (m : Mode) (rest : List ℕ) → IsOver m (94 ∷ 94 ∷ []) (60 ∷ rest)
carets_over m rest = let t = carets_stop rest in over_stuck m (94 ∷ 94 ∷ []) t.0 60 rest t.1 t.2

-- the first token at a place
pub record StandsHere (m : Mode) (source : List ℕ) (place : ℕ) (k : Kind) (front rest : List ℕ) : Type 0 where
  pub first : IsFirst m source place k (encode_utf8_all front) place
  pub cut : IsCharBoundary source (place + length (encode_utf8_all front))
  pub behind : chars (drop (place + length (encode_utf8_all front)) source) ≡ rest

blanks_stop : (m : Mode) (cs : List ℕ) (c : ℕ) (ds : List ℕ) → cs ≡ c ∷ ds → is_white m c ≡ false → nat_eq c 35 ≡ false → nat_eq c 47 ≡ false → Blanks m cs cs
blanks_stop m cs c ds e f g h = subst (λ (v : List ℕ). Blanks m v v) (sym e) (stops f g (no_comment m c ds h))

pub stands_here : (m : Mode) (source : List ℕ) (place : ℕ) (k : Kind) (c : ℕ) (front rest : List ℕ) → IsUtf8 source → IsCharBoundary source place → chars (drop place source) ≡ (c ∷ front) ++ rest
    → is_white m c ≡ false → nat_eq c 35 ≡ false → nat_eq c 47 ≡ false → Spells (Spelling m k) (c ∷ front) → IsOver m (c ∷ front) rest → StandsHere m source place k (c ∷ front) rest
stands_here m source place k c front rest u b e f g slash h over =
    let all = c ∷ front in
    let cut = cut_at (drop place source) all rest (IsUtf8-drop source place u b) e in
    let n : size all ≡ length (encode_utf8_all all) = sym (size-length all) in
    let taken : take (length (encode_utf8_all all)) (drop place source) ≡ encode_utf8_all all = ap (λ (i : ℕ). take i (drop place source)) (sym n) ∙ cut.taken in
    let on : drop (size all) (drop place source) ≡ drop (place + length (encode_utf8_all all)) source = drop-drop (size all) place source ∙ ap (λ (i : ℕ). drop (place + i) source) n in
    let text : all ≡ chars (encode_utf8_all all) = sym cut.front_is ∙ ap chars cut.taken in
    let lengths = length-drop place source in
    let room = cut.room in
    let within : place ≤ length source = b.0 in
    let end = IsCharBoundary-from_drop source (place + length (encode_utf8_all all)) (omega arith) (subst IsUtf8 on cut.last_utf8) in
    record {
      first = record {
        skipped = record { onward = omega arith; cut = b; blanks = blanks_stop m (chars (drop place source)) c (front ++ rest) e f g slash };
        longest = subst (λ (v : List ℕ). IsLongest m (chars (drop place source)) k v) text
            (record { rest = rest; parts = e; spelled = h; longest = λ j piece behind p s. over j piece behind (sym e ∙ p) s });
        lent = sym taken;
        cut = end;
      };
      cut = end;
      behind = ap chars (sym on) ∙ cut.rest_is;
    }
