-- Reading a pattern token by token, with the open groups on a stack.
use Rattle.std.specs.Prelude.{ℕ, ◌≡◌, ◌+◌, ◌-◌, Bool, true, false, ◌==◌, ◌&&◌, nat_lt, Option, Some, None, List, [], ◌∷◌, ◌++◌, option_to_list, option_map, map, reverse}
use Rattle.xs_pattern.specs.declared.parser.Token.{Token as TokenInCode}
use Rattle.xs_pattern.specs.declared.parser.Token.TheVariants as Codes
use Rattle.xs_pattern.specs.declared.parser.Frame.{Frame as FrameInCode}
use Rattle.xs_pattern.specs.Regex.{Regex, chars_of, regex_of, start, finish, one, group, branch, choice, repeat, row}
use Rattle.xs_pattern.specs.Tokens.{Token, open_bracket, close_bracket, bar, start_anchor, end_anchor, one_of, times, tokens, IsPattern}
use Rattle.std.specs.List.{list_any}
use Rattle.xs_pattern.specs.Limits.{greater, layers}

-- what was read of a pattern: whole branches, pieces of the next one, and an atom that a quantifier may follow
pub record Frame : Type 0 where
  pub branches : List Regex
  pub pieces : List Regex
  pub atom : Option Regex

abbrev pub blank : Frame
blank = record { branches = []; pieces = []; atom = None }

-- the pieces with the atom
abbrev pub all_pieces : Frame → List Regex
all_pieces f = f.pieces ++ option_to_list f.atom

-- with the atom among the pieces
abbrev pub settled : Frame → Frame
settled f = record { branches = f.branches; pieces = all_pieces f; atom = None }

-- a piece behind all, an atom behind all
abbrev pub with_piece : Frame → Regex → Frame
with_piece f e = record { branches = f.branches; pieces = all_pieces f ++ e ∷ []; atom = None }

abbrev pub with_atom : Frame → Regex → Frame
with_atom f e = record { branches = f.branches; pieces = all_pieces f; atom = Some e }

-- the next branch begins
abbrev pub with_bar : Frame → Frame
with_bar f = record { branches = f.branches ++ branch (row (all_pieces f)) ∷ []; pieces = []; atom = None }

-- the pattern that was read
abbrev pub whole : Frame → Regex
whole f = choice (row (f.branches ++ branch (row (all_pieces f)) ∷ []))

-- the atom with a quantifier
abbrev pub with_times : Frame → ℕ → Option ℕ → Regex → Frame
with_times f least most e = record { branches = f.branches; pieces = f.pieces ++ repeat least most e ∷ []; atom = None }

-- what is read behind a quantifier, if there is an atom before it
abbrev pub behind_times : (Frame → Option Regex) → Frame → ℕ → Option ℕ → Option Regex → Option Regex
behind_times go f least most None = None
behind_times go f least most (Some e) = go (with_times f least most e)

-- what is read behind a closing bracket, if a group is open
abbrev pub behind_close : (List Frame → Frame → Option Regex) → List Frame → Frame → Option Regex
behind_close go [] f = None
behind_close go (o ∷ os) f = go os (with_atom o (group (whole f)))

-- the pattern at the end, if no group is open
abbrev pub at_end : List Frame → Frame → Option Regex
at_end [] f = Some (whole f)
at_end (o ∷ os) f = None

-- the expression of the tokens behind what was read, with the groups that are open outside
abbrev pub parse : List Frame → Frame → List Token → Option Regex
parse os f [] = at_end os f
parse os f (open_bracket ∷ ts) = parse (f ∷ os) blank ts
parse os f (close_bracket ∷ ts) = behind_close (λ ps g. parse ps g ts) os f
parse os f (bar ∷ ts) = parse os (with_bar f) ts
parse os f (start_anchor ∷ ts) = parse os (with_piece f start) ts
parse os f (end_anchor ∷ ts) = parse os (with_piece f finish) ts
parse os f (one_of s ∷ ts) = parse os (with_atom f (one s)) ts
parse os f (times least most ∷ ts) = behind_times (λ g. parse os g ts) f least most f.atom

-- the tokens spell a pattern, where so many groups are open and an atom is there or not
abbrev pub is_spelled : ℕ → Bool → List Token → Bool
is_spelled n ready [] = n == 0
is_spelled n ready (open_bracket ∷ ts) = is_spelled (n + 1) false ts
is_spelled n ready (close_bracket ∷ ts) = nat_lt 0 n && is_spelled (n - 1) true ts
is_spelled n ready (bar ∷ ts) = is_spelled n false ts
is_spelled n ready (start_anchor ∷ ts) = is_spelled n false ts
is_spelled n ready (end_anchor ∷ ts) = is_spelled n false ts
is_spelled n ready (one_of s ∷ ts) = is_spelled n true ts
is_spelled n ready (times least most ∷ ts) = ready && is_spelled n false ts

-- a token with a plain set
abbrev pub token_of : TokenInCode → Token
token_of Codes.Open = open_bracket
token_of Codes.Close = close_bracket
token_of Codes.Bar = bar
token_of Codes.Start = start_anchor
token_of Codes.End = end_anchor
token_of (Codes.One s) = one_of (chars_of s)
token_of (Codes.Times least most) = times least most

abbrev pub tokens_of : List TokenInCode → List Token
tokens_of ts = map token_of ts

-- what was read, with plain trees
abbrev pub frame_of : FrameInCode → Frame
frame_of f = record {
  branches = map regex_of f.branches.items;
  pieces = map regex_of f.pieces.items;
  atom = option_map regex_of f.atom;
}

-- the open groups, the innermost first
abbrev pub stack_of : List FrameInCode → List Frame
stack_of fs = map frame_of (reverse fs)

-- the tokens are those of a pattern
abbrev pub IsSpelled : List Token → Type 0
IsSpelled ts = (e : Regex) × (tokens e ≡ ts) × IsPattern e

-- how many groups are open behind a token
abbrev pub open_behind : Token → ℕ → ℕ
open_behind open_bracket n = n + 1
open_behind close_bracket n = n - 1
open_behind _ n = n

-- how many classes of a token stand in one another
abbrev pub layers_of : Token → ℕ
layers_of (one_of s) = layers s
layers_of _ = 0

-- a token with a number over 4,096
abbrev pub large_token : Token → Bool
large_token (times least most) = nat_lt 4096 (greater least most)
large_token _ = false

-- some token has such a number
abbrev pub has_large : List Token → Bool
has_large ts = list_any large_token ts
