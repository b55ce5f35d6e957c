-- Why the functions inside the crate stop, and what they give one another.
use Rattle.std.specs.Prelude.{◌≡◌, ◌≢◌, ◌+◌, ℕ, Bool, true, false, List, [], ◌∷◌, ◌++◌, Result, Ok, Err}
use Rattle.rdf_cursor.specs.Places.{IsFaultPlace}
use Rattle.rdf_cursor.specs.declared.stops.Fault.{Fault}
use Rattle.rdf_cursor.specs.declared.stops.Fault.TheVariants.{Syntax, Prefix, Deep, Long, Full}
use Rattle.rdf_cursor.specs.declared.stops.Stop.{Stop}
use Rattle.rdf_cursor.specs.declared.stops.Stop.TheVariants as stop
use Rattle.rdf_lex.specs.declared.kinds.Mode.TheVariants.{Map}
use Rattle.session_script.specs.Scripts.{character, Spells, IsCommand, AreLines, IsBehindSign, IsLineFault, IsLongAt}
use Rattle.session_script.specs.declared.commands.Command.{Command}
use Rattle.session_script.specs.declared.error.ScriptError.{ScriptError}
use Rattle.session_script.specs.declared.error.ScriptError.TheVariants as error
use Rattle.session_script.specs.declared.signs.Sign.{Sign}

-- of the limits only that of lengths is there, and no prefix
abbrev pub IsScriptFault : Fault → Type 0
IsScriptFault Syntax = Unit {0}
IsScriptFault Long = Unit {0}
IsScriptFault Prefix = ⊥
IsScriptFault Deep = ⊥
IsScriptFault Full = ⊥

abbrev pub IsScriptStop : Stop → Type 0
IsScriptStop stop.Memory = Unit {0}
IsScriptStop (stop.Fault f) = IsScriptFault f

-- the answer for a stop at a place
abbrev pub error_of : Stop → ℕ → ScriptError
error_of stop.Memory at = error.Memory
error_of (stop.Fault Syntax) at = error.Syntax at
error_of (stop.Fault Long) at = error.Long at
error_of (stop.Fault Prefix) at = error.Syntax at
error_of (stop.Fault Deep) at = error.Syntax at
error_of (stop.Fault Full) at = error.Syntax at

-- this is so at a place behind the start
pub record IsBehind (IsSo : ℕ → Type 0) (start at : ℕ) : Type 0 where
  pub within : ℕ
  pub placed : at ≡ start + within
  pub is_so : IsSo within

-- no command has the line, with the flag or without
abbrev pub HasNone : Bool → List ℕ → Type 0
HasNone k line = (x : Command) → ¬ IsCommand k x line

-- why what stands behind a sign and a space is refused
abbrev pub RefusesRest : ScriptError → Sign → List ℕ → ℕ → Type 0
RefusesRest error.NotUtf8 s rest start = ⊥
RefusesRest (error.Syntax at) s rest start = IsBehind (IsFaultPlace (Spells false s) Map rest) start at × ((k : Bool) → HasNone k (character s ∷ 32 ∷ rest))
RefusesRest (error.Long at) s rest start = IsBehind (IsLongAt s rest) start at × HasNone true (character s ∷ 32 ∷ rest)
RefusesRest error.Memory s rest start = Unit {0}

-- why a line is refused
abbrev pub Refuses : ScriptError → List ℕ → ℕ → Type 0
Refuses error.NotUtf8 line start = ⊥
Refuses (error.Syntax at) line start = IsBehind (IsLineFault line) start at × (line ≢ []) × ((k : Bool) → HasNone k line)
Refuses (error.Long at) line start = IsBehind (IsBehindSign IsLongAt line) start at × (line ≢ []) × HasNone true line
Refuses error.Memory line start = Unit {0}

-- one line goes behind others, or is refused
abbrev pub Adds : Result (Unit {0}) ScriptError → List ℕ → ℕ → List Command → List Command → Type 0
Adds (Ok u) line start old new = (xs : List Command) × (new ≡ old ++ xs) × AreLines true xs (line ∷ [])
Adds (Err e) line start old new = Refuses e line start
