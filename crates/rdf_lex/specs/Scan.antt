-- The next token of a text as a function: what a scan finds that keeps the last place in which a token may end.
use Rattle.std.specs.Prelude.{ℕ, ◌+◌, Option, Some, None, List, [], ◌∷◌, take, drop, nat_eq, if◌then◌else◌, ◌&&◌}
use Rattle.std.specs.Char.{len_utf8}
use Rattle.std.specs.Str.{chars}
use Rattle.rdf_lex.specs.declared.kinds.Kind.{Kind}
use Rattle.rdf_lex.specs.declared.kinds.Mode.{Mode}
use Rattle.rdf_lex.specs.declared.machine.State.{State}
use Rattle.rdf_lex.specs.declared.machine.State.TheVariants.{Start}
use Rattle.rdf_lex.specs.declared.lexed.Blank.{Blank}
use Rattle.rdf_lex.specs.declared.lexed.Blank.TheVariants as blank
use Rattle.rdf_lex.specs.declared.lexed.Lexed.{Lexed}
use Rattle.rdf_lex.specs.declared.lexed.Lexed.TheVariants as lexed
use Rattle.rdf_lex.specs.Machine.{step_of, label_of}
use Rattle.rdf_lex.specs.Tokens.{is_white, ends_line, has_blocks}

-- the best so far, at this place
abbrev pub best_of : Option Kind → Option (Kind × ℕ) → ℕ → Option (Kind × ℕ)
best_of None best n = best
best_of (Some k) best n = Some (k, n)

-- what a scan finds that has come to a state with n bytes
abbrev pub scan_on : Mode → (State → Option (Kind × ℕ) → ℕ → Option (Kind × ℕ)) → Option State → Option (Kind × ℕ) → ℕ → Option (Kind × ℕ)
scan_on m go None best n = best
scan_on m go (Some s) best n = go s (best_of (label_of m s) best n) n

abbrev pub scan_from : Mode → List ℕ → State → Option (Kind × ℕ) → ℕ → Option (Kind × ℕ)
scan_from m [] s best n = best
scan_from m (c ∷ cs) s best n = scan_on m (scan_from m cs) (step_of s c) best (n + len_utf8 c)

-- between tokens with n bytes passed, what one more character makes; None where a token begins
abbrev pub between_step : Mode → ℕ → ℕ → Option Blank
between_step m n c = if is_white m c then Some blank.Between else (if nat_eq c 35 then Some blank.Line else (if has_blocks m && nat_eq c 47 then Some (blank.Slash n) else None))

abbrev pub blank_step : Mode → Blank → ℕ → ℕ → Option Blank
blank_step m blank.Between n c = between_step m n c
blank_step m blank.Line n c = if ends_line c then between_step m n c else Some blank.Line
blank_step m (blank.Slash k) n c = if nat_eq c 42 then Some (blank.Block k) else None
blank_step m (blank.Block k) n c = if nat_eq c 42 then Some (blank.Star k) else Some (blank.Block k)
blank_step m (blank.Star k) n c = if nat_eq c 47 then Some blank.Between else (if nat_eq c 42 then Some (blank.Star k) else Some (blank.Block k))

-- where white space and comments end if nothing more of them follows: a comment from `/*` that does not end is none
abbrev pub held : Blank → ℕ → ℕ
held blank.Between n = n
held blank.Line n = n
held (blank.Slash k) n = k
held (blank.Block k) n = k
held (blank.Star k) n = k

abbrev pub blank_on : (Blank → ℕ) → Option Blank → ℕ → ℕ
blank_on go None place = place
blank_on go (Some b) place = go b

-- how many bytes of white space and comments stand in front, n of them passed
abbrev pub blank_from : Mode → List ℕ → Blank → ℕ → ℕ
blank_from m [] b n = held b n
blank_from m (c ∷ cs) b n = blank_on (λ next. blank_from m cs next (n + len_utf8 c)) (blank_step m b n c) (held b n)

-- what comes next: the end, a place where no token begins, or a token's kind, bytes and place
pub data Next : Type 0 where
  at_end : Next
  at_bad : ℕ → Next
  at_token : Kind → List ℕ → ℕ → Next

abbrev pub next_in : List ℕ → ℕ → Option (Kind × ℕ) → Next
next_in [] start o = at_end
next_in (b ∷ bs) start None = at_bad start
next_in (b ∷ bs) start (Some x) = at_token x.0 (take x.1 (b ∷ bs)) start

abbrev pub token_at : Mode → List ℕ → ℕ → Next
token_at m source start = next_in (drop start source) start (scan_from m (chars (drop start source)) Start None 0)

unfoldable pub next_of : Mode → List ℕ → ℕ → Next
next_of m source at = token_at m source (at + blank_from m (chars (drop at source)) blank.Between 0)

abbrev pub seen : Lexed → Next
seen (lexed.Token t) = at_token t.kind t.text.now t.at
seen lexed.End = at_end
seen (lexed.Bad at) = at_bad at
