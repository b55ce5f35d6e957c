-- What is said of a text, line after line.
use Rattle.std.proofs.Common.{◌≡◌, ◌≢◌, ℕ, ◌+◌, ◌<◌, eqb, Bool, true, false, List, [], ◌∷◌, ◌++◌, length, Some, None, refl, sym, ap, subst, ◌∙◌, ◌⊎◌, inl, inr, arith, lit<, append_assoc}
use Rattle.std.specs.List.{position_or_len, sum_by}
use Rattle.std.specs.Str.{IsUtf8}
use Rattle.std.specs.Borrow.{Bor}
use Rattle.std.proofs.lemmas.Bool.{ne_eqb}
use Rattle.std.proofs.lemmas.Bool.Decides.{nat_tests}
use Rattle.std.proofs.lemmas.List.{length-append}
use Rattle.std.proofs.lemmas.List.Elements.{All-weaker}
use Rattle.std.proofs.lemmas.List.Splits.{slice_split_first, slice_split_none}
use Rattle.std.proofs.lemmas.List.Sums.{sum_by_push}
use Rattle.std.proofs.lemmas.Str.Pattern.{IsSplitOnceResult}
use Rattle.iri_resolve.specs.Text.{before, after}
use Rattle.iri_resolve.proofs.Places.{Lacks-has, before-append-after, split_once_some, split_once_none}
use Rattle.session_script.specs.Scripts.{character, IsCommand, lines_of, AreLines, no_lines, empty_line, command_line, IsScript, Explains, AnyScriptsAreOne, ScriptsAreOne, IsInLine, IsLineFault, IsBehindSign, IsLongAt, ScriptsAreNotRefused}
use Rattle.session_script.specs.Steps.{HasNone, Refuses}
use Rattle.session_script.specs.declared.commands.Command.{Command}
use Rattle.session_script.specs.declared.error.ScriptError.{ScriptError}
use Rattle.session_script.specs.declared.error.ScriptError.TheVariants as error
use Rattle.session_script.proofs.Lines.{one_command}

-- lines behind lines
are_append : {k : Bool} {xs ys : List Command} {ls ms : List (List ℕ)} → AreLines k xs ls → AreLines k ys ms → AreLines k (xs ++ ys) (ls ++ ms)
are_append no_lines b = b
are_append (empty_line a) b = empty_line (are_append a b)
are_append (command_line c a) b = command_line c (are_append a b)

-- a line among others is empty or a command's
tail_is : (a b : List ℕ) (ls ms : List (List ℕ)) → a ∷ ls ≡ b ∷ ms → (a ≡ b) × (ls ≡ ms)
tail_is a b ls ms e = (cc, cc)

nil_not : (front : List (List ℕ)) (line : List ℕ) (more : List (List ℕ)) → [] ≡ front ++ line ∷ more → ⊥
nil_not [] line more e = cc
nil_not (a ∷ front) line more e = cc

line_among : {k : Bool} {xs : List Command} {lines : List (List ℕ)} → AreLines k xs lines → (front : List (List ℕ)) (line : List ℕ) (more : List (List ℕ)) → lines ≡ front ++ line ∷ more
    → (line ≡ []) ⊎ ((x : Command) × IsCommand k x line)
line_among no_lines front line more e = absurd (nil_not front line more e)
line_among (empty_line {lines = lines} a) [] line more e = inl (sym (tail_is [] line lines more e).0)
line_among (empty_line {lines = lines} a) (b ∷ front) line more e = line_among a front line more (tail_is [] b lines (front ++ line ∷ more) e).1
line_among {k = k} (command_line {x = x} {line = own} {lines = lines} c a) [] line more e = inr (x, subst (IsCommand k x) (tail_is own line lines more e).0 c)
line_among (command_line {line = own} {lines = lines} c a) (b ∷ front) line more e = line_among a front line more (tail_is own b lines (front ++ line ∷ more) e).1

not_among : (k : Bool) (xs : List Command) (front : List (List ℕ)) (line : List ℕ) (more : List (List ℕ)) → line ≢ [] → HasNone k line → AreLines k xs (front ++ line ∷ more) → ⊥
not_among k xs front line more some none a = by (line_among a front line more refl)
  where
    by : (line ≡ []) ⊎ ((x : Command) × IsCommand k x line) → ⊥
    by (inl e) = some e
    by (inr (x, c)) = none x c

-- lines have one list of commands
no_command : (k : Bool) (x : Command) → IsCommand k x [] → ⊥
no_command k x c = by (character c.sign) (32 ∷ c.rest) c.parts
  where
    by : (a : ℕ) (more : List ℕ) → [] ≡ a ∷ more → ⊥
    by a more e = cc

lines_one : {k : Bool} {xs ys : List Command} {ls ms : List (List ℕ)} → AreLines k xs ls → AreLines k ys ms → ls ≡ ms → xs ≡ ys
lines_one no_lines no_lines e = refl
lines_one no_lines (empty_line b) e = absurd cc
lines_one no_lines (command_line d b) e = absurd cc
lines_one (empty_line a) no_lines e = absurd cc
lines_one (empty_line {lines = ls} a) (empty_line {lines = ms} b) e = lines_one a b (tail_is [] [] ls ms e).1
lines_one {k = k} (empty_line {lines = ls} a) (command_line {x = y} {line = other} {lines = ms} d b) e =
    absurd (no_command k y (subst (IsCommand k y) (sym (tail_is [] other ls ms e).0) d))
lines_one (command_line c a) no_lines e = absurd cc
lines_one {k = k} (command_line {x = x} {line = own} {lines = ls} c a) (empty_line {lines = ms} b) e =
    absurd (no_command k x (subst (IsCommand k x) (tail_is own [] ls ms e).0 c))
lines_one {k = k} (command_line {x = x} {line = own} {xs = xs} {lines = ls} c a) (command_line {x = y} {line = other} {xs = ys} {lines = ms} d b) e =
    let t = tail_is own other ls ms e in
    ap (λ (v : Command). v ∷ xs) (one_command k other x y (subst (IsCommand k x) t.0 c) d) ∙ ap (λ (v : List Command). y ∷ v) (lines_one a b t.1)

pub one_any_script : AnyScriptsAreOne
one_any_script source xs ys (u, a) (v, b) = lines_one a b refl

pub one_script : ScriptsAreOne
one_script source xs ys (u, a) (v, b) = lines_one a b refl

-- a text is cut at its first line feed
pub record IsCut (text line behind : List ℕ) : Type 0 where
  pub lines : lines_of text ≡ line ∷ lines_of behind
  pub size : length text ≡ length line + 1 + length behind

pub cut_some : (text : List ℕ) (x : Bor (List ℕ) × Bor (List ℕ)) → IsSplitOnceResult 10 text (Some x) → IsCut text x.0.now x.1.now
cut_some text x h =
    let s = split_once_some 10 text x h (lit< tt) in
    let has_feed = s.0 in
    let n : position_or_len (λ b. eqb b 10) text < length text = grind (arith, nat_tests) in
    let parts = ap length (before-append-after 10 text s.0) in
    let sizes = length-append (before 10 text) (10 ∷ after 10 text) in
    let first = ap length s.1 in
    let second = ap length s.2 in
    record {
      lines = slice_split_first (λ b. eqb b 10) text 0 n ∙ ap (λ (v : List ℕ). v ∷ lines_of (after 10 text)) (sym s.1) ∙ ap (λ (v : List ℕ). x.0.now ∷ lines_of v) (sym s.2);
      size = omega (arith, parts, sizes, first, second);
    }

pub cut_none : (text : List ℕ) → IsSplitOnceResult 10 text None → lines_of text ≡ text ∷ []
cut_none text h =
    slice_split_none (λ b. eqb b 10) text (All-weaker (λ b. b ≢ 10) (λ b. eqb b 10 ≡ false) (λ b ne. ne_eqb b 10 ne) text (Lacks-has 10 text (split_once_none 10 text h (lit< tt))))

-- these commands are those of the lines before what is left of the text
pub record Comes (text rest : List ℕ) (xs : List Command) : Type 0 where
  pub front : List (List ℕ)
  pub lines : lines_of text ≡ front ++ lines_of rest
  pub size : length text ≡ sum_by (λ l. length l + 1) front + length rest
  pub read : AreLines true xs front

pub begins : (text : List ℕ) (xs : List Command) → xs ≡ [] → Comes text text xs
begins text xs e = record { front = []; lines = refl; size = omega arith; read = subst (λ (v : List Command). AreLines true v []) (sym e) no_lines }

pub comes_on : (text rest line behind : List ℕ) (old new : List Command) → Comes text rest old → IsCut rest line behind →
    ((xs : List Command) × (new ≡ old ++ xs) × AreLines true xs (line ∷ [])) → Comes text behind new
comes_on text rest line behind old new c cut (xs, e, a) = record {
  front = c.front ++ line ∷ [];
  lines = c.lines ∙ ap (λ (v : List (List ℕ)). c.front ++ v) cut.lines ∙ sym (append_assoc c.front (line ∷ []) (lines_of behind));
  size =
      let s = sum_by_push (λ l. length l + 1) c.front line in
      let t = c.size in
      let r = cut.size in
      omega (arith, s, t, r);
  read = subst (λ (v : List Command). AreLines true v (c.front ++ line ∷ [])) (sym e) (are_append c.read a);
}

pub comes_to : (text rest : List ℕ) (old new : List Command) → IsUtf8 text → Comes text rest old → lines_of rest ≡ rest ∷ [] →
    ((xs : List Command) × (new ≡ old ++ xs) × AreLines true xs (rest ∷ [])) → IsScript text new
comes_to text rest old new u c last (xs, e, a) = (
  u,
  subst (λ (v : List (List ℕ)). AreLines true new v) (sym (c.lines
      ∙ ap (λ (v : List (List ℕ)). c.front ++ v) last)) (subst (λ (v : List Command). AreLines true v (c.front ++ rest ∷ [])) (sym e) (are_append c.read a)),
)

-- a line is refused
module _ (text rest line : List ℕ) (more : List (List ℕ)) (old : List Command) (c : Comes text rest old) (next : lines_of rest ≡ line ∷ more) where
  whole : lines_of text ≡ c.front ++ line ∷ more
  whole = c.lines ∙ ap (λ (v : List (List ℕ)). c.front ++ v) next

  begun : (start : ℕ) → start + length rest ≡ length text → start ≡ sum_by (λ l. length l + 1) c.front
  begun start e = let s = c.size in omega (arith, e, s)

  placed : (at start within : ℕ) → start + length rest ≡ length text → at ≡ start + within → at ≡ sum_by (λ l. length l + 1) c.front + within
  placed at start within e f = f ∙ ap (λ (v : ℕ). v + within) (begun start e)

  pub refuses : (e : ScriptError) (start : ℕ) → start + length rest ≡ length text → Refuses e line start → Explains e text
  refuses error.NotUtf8 start s h = absurd h
  refuses error.Memory start s h = tt
  refuses (error.Syntax at) start s (b, some, none) = (
    record { before = c.front; line = line; behind = more; lines = whole; passed = (old, c.read); not_empty = some; none = none true; within = b.within; placed = placed at start b.within s b.placed; is_so = b.is_so },
    λ xs h. not_among false xs c.front line more some (none false) (subst (λ (v : List (List ℕ)). AreLines false xs v) whole h.1),
  )
  refuses (error.Long at) start s (b, some, none) =
      record { before = c.front; line = line; behind = more; lines = whole; passed = (old, c.read); not_empty = some; none = none; within = b.within; placed = placed at start b.within s b.placed; is_so = b.is_so }

  pub only_memory : (e : ScriptError) (start : ℕ) (xs : List Command) → Refuses e line start → IsScript text xs → e ≡ error.Memory
  only_memory error.NotUtf8 start xs h k = absurd h
  only_memory error.Memory start xs h k = refl
  only_memory (error.Syntax at) start xs (b, some, none) k = absurd (not_among true xs c.front line more some (none true) (subst (λ (v : List (List ℕ)). AreLines true xs v) whole k.1))
  only_memory (error.Long at) start xs (b, some, none) k = absurd (not_among true xs c.front line more some none (subst (λ (v : List (List ℕ)). AreLines true xs v) whole k.1))

-- a script has no line that is refused
not_in_line : (IsSo : List ℕ → ℕ → Type 0) (source : List ℕ) (at : ℕ) (xs : List Command) → AreLines true xs (lines_of source) → IsInLine IsSo source at → ⊥
not_in_line IsSo source at xs a l = not_among true xs l.before l.line l.behind l.not_empty l.none (subst (λ (v : List (List ℕ)). AreLines true xs v) l.lines a)

pub not_refused : ScriptsAreNotRefused
not_refused source xs error.NotUtf8 (u, a) h = absurd (h u)
not_refused source xs error.Memory s h = refl
not_refused source xs (error.Syntax at) (u, a) (l, none) = absurd (not_in_line IsLineFault source at xs a l)
not_refused source xs (error.Long at) (u, a) l = absurd (not_in_line (IsBehindSign IsLongAt) source at xs a l)
