-- What is said of a line, by its sign, the space behind that, and what stands behind both.
use Rattle.std.proofs.Common.{◌≡◌, ◌≢◌, ℕ, ◌+◌, eqb, Bool, true, false, List, [], ◌∷◌, ◌++◌, length, Ok, refl, sym, ap, subst, ◌∙◌, arith}
use Rattle.std.proofs.lemmas.List.{append-nil}
use Rattle.rdf_cursor.specs.Ahead.{Ahead, finished}
use Rattle.rdf_cursor.proofs.Answers.{ok_is}
use Rattle.rdf_lex.specs.Tokens.{Spelled}
use Rattle.session_script.specs.Scripts.{character, IsCommand, AreLines, no_lines, empty_line, command_line, BeginAlike, at_sign, at_tokens}
use Rattle.session_script.specs.Steps.{HasNone, RefusesRest, Refuses, Adds}
use Rattle.session_script.specs.declared.commands.Command.{Command}
use Rattle.session_script.specs.declared.error.ScriptError.{ScriptError}
use Rattle.session_script.specs.declared.error.ScriptError.TheVariants as error
use Rattle.session_script.specs.declared.signs.Sign.{Sign}
use Rattle.session_script.specs.declared.signs.Sign.TheVariants.{Plus, Minus, Question}
use Rattle.session_script.proofs.Rests.{is_read}

same_tail : (a b : ℕ) (xs ys : List ℕ) → a ∷ xs ≡ b ∷ ys → xs ≡ ys
same_tail a b xs ys e = cc

not_nil : (a : ℕ) (xs : List ℕ) → a ∷ xs ≡ [] → ⊥
not_nil a xs e = cc

-- a line that is not empty
differ : true ≡ false → ⊥
differ e = cc

pub some_line : (line : List ℕ) (b : Bool) → b ≡ eqb (length line) 0 → b ≡ false → line ≢ []
some_line line b e f n = let t : b ≡ true = e ∙ ap (λ (v : List ℕ). eqb (length v) 0) n in differ (sym t ∙ f)

-- a line is that of one command at most
pub one_command : (k : Bool) (line : List ℕ) (x y : Command) → IsCommand k x line → IsCommand k y line → x ≡ y
one_command k line x y c d =
    let a = is_read c.sign c.rest c.utf8 k x (subst (IsCommand k x) c.parts c) in
    let b = is_read c.sign c.rest c.utf8 k y (subst (IsCommand k y) c.parts d) in
    ap (λ (v : Command × Ahead Spelled). v.0) (ok_is (x, finished) (y, finished) (sym a ∙ b))

pub empty_adds : (line : List ℕ) (start : ℕ) (old : List Command) → line ≡ [] → Adds (Ok tt) line start old old
empty_adds line start old e = ([], sym (append-nil old), subst (λ (v : List ℕ). AreLines true [] (v ∷ [])) (sym e) (empty_line no_lines))

pub command_adds : (line : List ℕ) (s : Sign) (rest : List ℕ) (start : ℕ) (x : Command) (old new : List Command) → line ≡ character s ∷ 32 ∷ rest →
    IsCommand true x (character s ∷ 32 ∷ rest) → new ≡ old ++ x ∷ []
    → Adds (Ok tt) line start old new
command_adds line s rest start x old new e c n = (x ∷ [], n, command_line (subst (IsCommand true x) (sym e) c) no_lines)

-- no sign begins the line
pub none_begins : (line : List ℕ) → ((behind : List ℕ) → line ≢ 43 ∷ behind) → ((behind : List ℕ) → line ≢ 45 ∷ behind) →
    ((behind : List ℕ) → line ≢ 63 ∷ behind) → (s : Sign) (behind : List ℕ) → line ≢ character s ∷ behind
none_begins line a b c Plus behind = a behind
none_begins line a b c Minus behind = b behind
none_begins line a b c Question behind = c behind

alike_sign : (line other behind : List ℕ) (s : Sign) → BeginAlike line other → other ≡ character s ∷ behind → (more : List ℕ) × (line ≡ character s ∷ more)
alike_sign line other behind s h e = by line (subst (BeginAlike line) e h)
  where
    by : (line : List ℕ) → BeginAlike line (character s ∷ behind) → (more : List ℕ) × (line ≡ character s ∷ more)
    by [] h = absurd h
    by (b ∷ bs) h = (bs, ap (λ (v : ℕ). v ∷ bs) h)

pub no_sign : (line : List ℕ) (start : ℕ) → line ≢ [] → ((s : Sign) (behind : List ℕ) → line ≢ character s ∷ behind) → Refuses (error.Syntax start) line start
no_sign line start some none = (
  record {
    within = 0;
    placed = omega arith;
    is_so = at_sign [] line refl refl (λ x other h c. let m = alike_sign line other (32 ∷ c.rest) c.sign h c.parts in none c.sign m.0 m.1);
  },
  some,
  λ k x c. none c.sign (32 ∷ c.rest) c.parts,
)

-- no space stands behind the sign
alike_space : (back other rest : List ℕ) → BeginAlike back other → other ≡ 32 ∷ rest → (more : List ℕ) × (back ≡ 32 ∷ more)
alike_space back other rest h e = by back (subst (BeginAlike back) e h)
  where
    by : (back : List ℕ) → BeginAlike back (32 ∷ rest) → (more : List ℕ) × (back ≡ 32 ∷ more)
    by [] h = absurd h
    by (b ∷ bs) h = (bs, ap (λ (v : ℕ). v ∷ bs) h)

pub no_space : (line behind : List ℕ) (s : Sign) (start : ℕ) → line ≡ character s ∷ behind → ((rest : List ℕ) → behind ≢ 32 ∷ rest) → Refuses (error.Syntax (start + 1)) line start
no_space line behind s start e none = (
  record {
    within = 1;
    placed = refl;
    is_so = at_sign (character s ∷ []) behind e refl
        (λ x other h c. let m = alike_space behind other c.rest h (same_tail (character s) (character c.sign) other (32 ∷ c.rest) c.parts) in none m.0 m.1);
  },
  λ f. not_nil (character s) behind (sym e ∙ f),
  λ k x c. none c.rest (same_tail (character s) (character c.sign) behind (32 ∷ c.rest) (sym e ∙ c.parts)),
)

-- what stands behind both is refused
moved_none : (k : Bool) (line other : List ℕ) → line ≡ other → HasNone k other → HasNone k line
moved_none k line other e h x c = h x (subst (IsCommand k x) e c)

placed_behind : (at start within : ℕ) → at ≡ start + 2 + within → at ≡ start + (2 + within)
placed_behind at start within e = omega (arith, e)

pub refused_rest : (e : ScriptError) (line : List ℕ) (s : Sign) (rest : List ℕ) (start : ℕ) → line ≡ character s ∷ 32 ∷ rest → RefusesRest e s rest (start + 2) → Refuses e line start
refused_rest error.NotUtf8 line s rest start is h = h
refused_rest error.Memory line s rest start is h = tt
refused_rest (error.Syntax at) line s rest start is (b, none) = (
  record {
    within = 2 + b.within;
    placed = placed_behind at start b.within b.placed;
    is_so = at_tokens (record { sign = s; rest = rest; parts = is; within = b.within; placed = refl; is_so = b.is_so });
  },
  λ f. not_nil (character s) (32 ∷ rest) (sym is ∙ f),
  λ k. moved_none k line (character s ∷ 32 ∷ rest) is (none k),
)
refused_rest (error.Long at) line s rest start is (b, none) = (
  record {
    within = 2 + b.within;
    placed = placed_behind at start b.within b.placed;
    is_so = record { sign = s; rest = rest; parts = is; within = b.within; placed = refl; is_so = b.is_so };
  },
  λ f. not_nil (character s) (32 ∷ rest) (sym is ∙ f),
  moved_none true line (character s ∷ 32 ∷ rest) is none,
)
