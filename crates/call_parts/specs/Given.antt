-- What the words and the files of a caller are.
use Rattle.std.specs.Prelude.{Contains, List, None, Option, Some, map, slice_get, take, ℕ, ◌≡◌, ◌≢◌, ◌⊎◌}
use Rattle.std.specs.Str.{IsUtf8}
use Rattle.call_parts.specs.declared.asked.GivenFile.{GivenFile}
use Rattle.call_parts.specs.declared.asked.GivenText.{GivenText}
use Rattle.call_parts.specs.declared.asked.Request.{Request}

-- the bytes of each word
abbrev pub bytes_of_words : List GivenText → List (List ℕ)
bytes_of_words words = map (λ word. word.bytes.now) words

-- each file is held under its name, and nothing else is held
pub record HoldsGiven (contents : List ℕ → Option (List ℕ)) (files : List GivenFile) : Type 0 where
  pub holds : (file : GivenFile) → Contains files file → contents file.name.bytes.now ≡ Some file.bytes.now
  pub nothing_else : (name : List ℕ) → ((file : GivenFile) → Contains files file → file.name.bytes.now ≢ name) → contents name ≡ None

-- no file has the name of one before it
abbrev pub HaveOwnNames : List GivenFile → Type 0
HaveOwnNames files =
    (i : ℕ) (file other : GivenFile) → slice_get files i ≡ Some file → Contains (take i files) other →
    other.name.bytes.now ≢ file.name.bytes.now

-- some word is not UTF-8
abbrev pub HasWrongWord : List GivenText → Type 0
HasWrongWord words = (word : GivenText) × Contains words word × ¬ IsUtf8 word.bytes.now

-- the name of some file is not UTF-8
abbrev pub HasWrongName : List GivenFile → Type 0
HasWrongName files = (file : GivenFile) × Contains files file × ¬ IsUtf8 file.name.bytes.now

-- a word, the name of a file, or that of the wanted file is not UTF-8
abbrev pub HasWrongText : Request → Type 0
HasWrongText request = (¬ IsUtf8 request.wanted.bytes.now) ⊎ (HasWrongWord request.words.now ⊎ HasWrongName request.files.now)
