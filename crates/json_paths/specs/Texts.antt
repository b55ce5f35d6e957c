-- The text of a path: names joined by points, and indices in square brackets.
use Rattle.std.specs.Prelude.{ℕ, Bool, true, false, not, ◌||◌, ◌&&◌, ◌==◌, List, [], ◌∷◌, ◌++◌, codes, decimal, length, string_bytes, if◌then◌else◌}
use Rattle.std.specs.Char.{is_ascii_alphanumeric}
use Rattle.std.specs.List.{list_all}
use Rattle.serde_json.specs.Data.{string}
use Rattle.serde_json.specs.Written.{compact_text}
use Rattle.json_paths.specs.declared.steps.Step.{Step}
use Rattle.json_paths.specs.declared.steps.Step.TheVariants.{Index, Key}

-- a letter of ASCII, a digit, or `_`
abbrev pub is_word_byte : ℕ → Bool
is_word_byte c = c == 95 || is_ascii_alphanumeric c

-- one of them or more
abbrev pub is_word : List ℕ → Bool
is_word name = not (length name == 0) && list_all is_word_byte name

-- a point where something stands before
abbrev pub point_after : Bool → List ℕ
point_after true = codes "."
point_after false = []

-- a name, in square brackets as a text of JSON where it is no word
abbrev pub key_text : Bool → List ℕ → List ℕ
key_text follows name = if is_word name then point_after follows ++ name else codes "[" ++ compact_text (string name) ++ codes "]"

-- a step, behind another or at the start
abbrev pub step_text : Bool → Step → List ℕ
step_text follows (Key name) = key_text follows (string_bytes name)
step_text follows (Index i) = codes "[" ++ decimal i ++ codes "]"

-- steps one after another
abbrev pub path_text : Bool → List Step → List ℕ
path_text follows [] = []
path_text follows (step ∷ path) = step_text follows step ++ path_text true path
