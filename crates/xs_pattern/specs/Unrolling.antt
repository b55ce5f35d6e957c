-- A pattern with each repetition written out.
use Rattle.std.specs.Prelude.{ℕ, zero, suc, ◌+◌, ◌-◌, Bool, true, false, ◌==◌, ◌||◌, ◌&&◌, nat_le, nat_lt, if◌then◌else◌, Option, Some, None, List, [], ◌∷◌, ◌++◌, length, map, replicate, slice_index, slice_index_or}
use Rattle.xs_pattern.specs.declared.expression.Flags.{Flags}
use Rattle.xs_pattern.specs.declared.walk.Edge.{Edge}
use Rattle.xs_pattern.specs.Regex.{Chars, Regex, start, finish, one, group, branch, choice, repeat, Regexes, none, more}
use Rattle.xs_pattern.specs.Tests.{char_test}
use Rattle.xs_pattern.specs.Way as Ways
use Rattle.xs_pattern.specs.Way.{Way, size, passes, ends, next}

abbrev pub is_nothing : Way → Bool
is_nothing Ways.nothing = true
is_nothing _ = false

abbrev pub is_never : Way → Bool
is_never Ways.never = true
is_never _ = false

-- ways put together, without those that stand for no character
abbrev pub then_way : Way → Way → Way
then_way a b = if is_nothing a then b else (if is_nothing b then a else Ways.then a b)

abbrev pub either_way : Way → Way → Way
either_way a b = if is_never a then b else (if is_nothing a && is_nothing b then a else Ways.either a b)

abbrev pub plus_way : Way → Way
plus_way a = if is_nothing a then a else Ways.plus a

-- so many copies
unfoldable pub copies : ℕ → Way → Way
copies zero w = Ways.nothing
copies (suc n) w = then_way w (copies n w)

-- at most so many copies
unfoldable pub at_most : ℕ → Way → Way
at_most zero w = Ways.nothing
at_most (suc n) w = either_way Ways.nothing (then_way w (at_most n w))

-- one or more copies behind some, or any number
abbrev pub without_end : ℕ → Way → Way
without_end zero w = either_way Ways.nothing (plus_way w)
without_end (suc n) w = then_way (copies n w) (plus_way w)

abbrev pub repeated : ℕ → Option ℕ → Way → Way
repeated least None w = without_end least w
repeated least (Some most) w =
    if nat_le least most then then_way (copies least w) (at_most (most - least) w) else Ways.never

-- nothing is kept of what is repeated 0 times
abbrev pub kept : Option ℕ → List Chars → List Chars
kept None ss = ss
kept (Some zero) ss = []
kept (Some (suc n)) ss = ss

abbrev mutual
  -- the sets of characters, from left to right
  pub sets : Regex → List Chars
  sets start = []
  sets finish = []
  sets (one s) = s ∷ []
  sets (group e) = sets e
  sets (branch es) = all_sets es
  sets (choice es) = all_sets es
  sets (repeat least most e) = kept most (sets e)

  pub all_sets : Regexes → List Chars
  all_sets none = []
  all_sets (more e es) = sets e ++ all_sets es

abbrev mutual
  -- the way of an expression whose sets have the numbers from k on
  pub unroll : ℕ → Regex → Way
  unroll k start = Ways.start
  unroll k finish = Ways.finish
  unroll k (one s) = Ways.one k
  unroll k (group e) = unroll k e
  unroll k (branch es) = unroll_all k Ways.nothing es
  unroll k (choice es) = unroll_some k Ways.never es
  unroll k (repeat least most e) = repeated least most (unroll k e)

  -- behind what is there already
  pub unroll_all : ℕ → Way → Regexes → Way
  unroll_all k done none = done
  unroll_all k done (more e es) = unroll_all (k + length (sets e)) (then_way done (unroll k e)) es

  -- beside what is there already
  pub unroll_some : ℕ → Way → Regexes → Way
  unroll_some k done none = done
  unroll_some k done (more e es) = unroll_some (k + length (sets e)) (either_way done (unroll k e)) es

-- where a place of the text stands
abbrev pub edge_at : List ℕ → ℕ → Edge
edge_at text i = record { start = i == 0; end = i == length text }

-- which sets have a character
abbrev pub having : Flags → List Chars → ℕ → List Bool
having f ss c = map (λ s. char_test f s c) ss

-- the set with this number has the character behind the place
abbrev pub has_at : Flags → List Chars → List ℕ → ℕ → ℕ → Bool
has_at f ss text i k = nat_lt i (length text) && slice_index_or (having f ss (slice_index text i)) k false

-- a part of the text ends at a place
abbrev pub exits : Edge → Way → List Bool → Bool
exits e w marks = ends e w marks || passes e w

-- the marks at a place, where the way is entered at each place before
unfoldable pub marks_at : Flags → List Chars → List ℕ → Way → ℕ → List Bool
marks_at f ss text w zero = replicate (size w) false
marks_at f ss text w (suc i) = next (edge_at text i) (has_at f ss text i) w true (marks_at f ss text w i)

-- some part of the text that is of the way ends at the place
abbrev pub exits_at : Flags → List Chars → List ℕ → Way → ℕ → Bool
exits_at f ss text w i = exits (edge_at text i) w (marks_at f ss text w i)
