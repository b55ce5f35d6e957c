-- What sinks get.
use Rattle.std.specs.Prelude.{ℕ, List, ◌≡◌, ◌++◌, Option, Some, None, ⊤}
use Rattle.shex_io.specs.Bytes.{IsPrefix}

-- what the sink got grew at its end by the bytes, if it is told
abbrev pub Gains : Option (List ℕ) → Option (List ℕ) → List ℕ → Type 0
Gains None None bytes = ⊤
Gains (Some old) (Some new) bytes = new ≡ old ++ bytes
Gains old new bytes = ⊥

-- what the sink got grew at its end by a prefix of the bytes, if it is told
abbrev pub GainsPrefix : Option (List ℕ) → Option (List ℕ) → List ℕ → Type 0
GainsPrefix old new whole = (bytes : List ℕ) × IsPrefix bytes whole × Gains old new bytes
