-- What the bytes of a script spell (own), and what the answers of the reader say of them.
use Rattle.std.specs.Prelude.{◌≡◌, ◌≢◌, ◌==◌, ◌+◌, ℕ, Bool, true, false, List, [], ◌∷◌, ◌++◌, length, Contains}
use Rattle.std.specs.List.{slice_split, sum_by}
use Rattle.std.specs.Str.{IsUtf8}
use Rattle.graph_index.specs.Loading.{HaveOneLine}
use Rattle.nt_reader.specs.Endings.{IsLong}
use Rattle.rdf_cursor.specs.Ahead.{finished, prepend}
use Rattle.rdf_cursor.specs.Places.{IsFaultPlace}
use Rattle.rdf_lex.specs.Tokens.{Spelled, Between, IsFirst, Tokens}
use Rattle.rdf_lex.specs.declared.kinds.Mode.TheVariants.{Map}
use Rattle.rdf_terms.specs.OneLine.{HasOneLine}
use Rattle.schema_tree.specs.Targets.{target_text}
use Rattle.session_script.specs.Grammar.{Body}
use Rattle.session_script.specs.declared.commands.Command.{Command}
use Rattle.session_script.specs.declared.commands.Command.TheVariants.{Add, Remove, Ask}
use Rattle.session_script.specs.declared.error.ScriptError.{ScriptError}
use Rattle.session_script.specs.declared.error.ScriptError.TheVariants as error
use Rattle.session_script.specs.declared.signs.Sign.{Sign}
use Rattle.session_script.specs.declared.signs.Sign.TheVariants.{Plus, Minus, Question}

-- the character of a sign: `+`, `-` or `?`
abbrev pub character : Sign → ℕ
character Plus = 43
character Minus = 45
character Question = 63

-- the sign of a command
abbrev pub sign_of : Command → Sign
sign_of (Add t) = Plus
sign_of (Remove t) = Minus
sign_of (Ask x t) = Question

-- Behind the sign these tokens spell the command. With the flag, the texts of its terms have a length within the limit.
abbrev pub Spells : Bool → Sign → Command → List Spelled → Type 0
Spells k s x ts = (sign_of x ≡ s) × Body k x (prepend ts finished) finished

-- the line is the command's: a sign, a space, and tokens of the language of shape maps that spell it
pub record IsCommand (k : Bool) (x : Command) (line : List ℕ) : Type 0 where
  pub sign : Sign
  pub rest : List ℕ
  pub parts : line ≡ character sign ∷ 32 ∷ rest
  pub utf8 : IsUtf8 rest
  pub tokens : List Spelled
  pub lexed : Tokens Map rest tokens
  pub spelled : Spells k sign x tokens

-- the lines of a text: what stands before its first line feed, between each two, and behind its last
abbrev pub lines_of : List ℕ → List (List ℕ)
lines_of text = slice_split (λ b. b == 10) text

-- lines with these commands, one a line; an empty line has none
pub data AreLines (k : Bool) : List Command → List (List ℕ) → Type 0 where
  no_lines : AreLines k [] []
  empty_line : {xs : List Command} {lines : List (List ℕ)} → AreLines k xs lines → AreLines k xs ([] ∷ lines)
  command_line : {x : Command} {line : List ℕ} {xs : List Command} {lines : List (List ℕ)} → IsCommand k x line → AreLines k xs lines → AreLines k (x ∷ xs) (line ∷ lines)

-- the bytes are UTF-8, and their lines have these commands, within the limit
abbrev pub IsScript : List ℕ → List Command → Type 0
IsScript source xs = IsUtf8 source × AreLines true xs (lines_of source)

-- the same with texts of any length
abbrev pub IsAnyScript : List ℕ → List Command → Type 0
IsAnyScript source xs = IsUtf8 source × AreLines false xs (lines_of source)

-- ---- refusals

-- both begin with the same byte, or both are at their end
abbrev pub BeginAlike : List ℕ → List ℕ → Type 0
BeginAlike [] [] = Unit {0}
BeginAlike (b ∷ bs) (c ∷ cs) = b ≡ c
BeginAlike [] (c ∷ cs) = ⊥
BeginAlike (b ∷ bs) [] = ⊥

-- this is so at a place of what stands behind the sign and the space of a line
pub record IsBehindSign (IsSo : Sign → List ℕ → ℕ → Type 0) (line : List ℕ) (at : ℕ) : Type 0 where
  pub sign : Sign
  pub rest : List ℕ
  pub parts : line ≡ character sign ∷ 32 ∷ rest
  pub within : ℕ
  pub placed : at ≡ 2 + within
  pub is_so : IsSo sign rest within

-- from the place on, no command's line goes on as this line does
pub data IsLineFault (line : List ℕ) (at : ℕ) : Type 0 where
  -- at the sign, or at the space behind it
  at_sign : (front back : List ℕ) → line ≡ front ++ back → at ≡ length front → ((x : Command) (other : List ℕ) → BeginAlike back other → ¬ IsCommand false x (front ++ other)) → IsLineFault line at
  -- at the tokens behind them
  at_tokens : IsBehindSign (λ s. IsFaultPlace (Spells false s) Map) line at → IsLineFault line at

-- behind other tokens one stands at the place that is too long, and within the limit no command's tokens begin with the tokens up to that one
pub record IsLongAt (s : Sign) (rest : List ℕ) (at : ℕ) : Type 0 where
  pub front : List Spelled
  pub from : ℕ
  pub t : Spelled
  pub passed : Between Map rest 0 front from
  pub first : IsFirst Map rest from t.kind t.text at
  pub long : IsLong t
  pub none : (x : Command) (more : List Spelled) → ¬ Spells true s x (front ++ t ∷ more)

-- This is so at a place of the first line that is neither empty nor a command's within the limit. Each line before it takes its length, and one byte for its
-- line feed.
pub record IsInLine (IsSo : List ℕ → ℕ → Type 0) (source : List ℕ) (at : ℕ) : Type 0 where
  pub before : List (List ℕ)
  pub line : List ℕ
  pub behind : List (List ℕ)
  pub lines : lines_of source ≡ before ++ line ∷ behind
  pub passed : (xs : List Command) × AreLines true xs before
  pub not_empty : line ≢ []
  pub none : (x : Command) → ¬ IsCommand true x line
  pub within : ℕ
  pub placed : at ≡ sum_by (λ l. length l + 1) before + within
  pub is_so : IsSo line within

-- what has to be there for each refusal
abbrev pub Explains : ScriptError → List ℕ → Type 0
Explains error.NotUtf8 source = ¬ IsUtf8 source
Explains (error.Syntax at) source = IsInLine IsLineFault source at × ((xs : List Command) → ¬ IsAnyScript source xs)
Explains (error.Long at) source = IsInLine (IsBehindSign IsLongAt) source at
Explains error.Memory source = Unit {0}

-- ---- laws

-- the bytes are a script of one list of commands at most
abbrev pub AnyScriptsAreOne : Type 0
AnyScriptsAreOne = (source : List ℕ) (xs ys : List Command) → IsAnyScript source xs → IsAnyScript source ys → xs ≡ ys

-- so within the limit
abbrev pub ScriptsAreOne : Type 0
ScriptsAreOne = (source : List ℕ) (xs ys : List Command) → IsScript source xs → IsScript source ys → xs ≡ ys

-- a script within the limit has no cause of a refusal but want of memory
abbrev pub ScriptsAreNotRefused : Type 0
ScriptsAreNotRefused = (source : List ℕ) (xs : List Command) (e : ScriptError) → IsScript source xs → Explains e source → e ≡ error.Memory

-- the terms of a command can stand on one line, and the text of its target has no line feed
abbrev pub HasLines : Command → Type 0
HasLines (Add t) = HaveOneLine t
HasLines (Remove t) = HaveOneLine t
HasLines (Ask x t) = HasOneLine x × ¬ Contains (target_text t) 10

-- so it is of each command of a script
abbrev pub AnyScriptsHaveLines : Type 0
AnyScriptsHaveLines = (source : List ℕ) (xs : List Command) → IsAnyScript source xs → (x : Command) → Contains xs x → HasLines x

-- so within the limit
abbrev pub ScriptsHaveLines : Type 0
ScriptsHaveLines = (source : List ℕ) (xs : List Command) → IsScript source xs → (x : Command) → Contains xs x → HasLines x
