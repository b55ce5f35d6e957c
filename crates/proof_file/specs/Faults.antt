-- Why bytes are the text of no proof (own).
use Rattle.std.specs.Prelude.{ℕ, List, ⊤}
use Rattle.proof_file.specs.declared.read.ReadError.{ReadError}
use Rattle.proof_file.specs.declared.read.ReadError.TheVariants.{Syntax, Memory}
use Rattle.proof_file.specs.Text.{IsFault}

-- the place is where the bytes cease to be a proof text; want of memory says nothing of them
abbrev pub FaultsAs : List ℕ → ReadError → Type 0
FaultsAs bytes (Syntax at) = IsFault bytes at
FaultsAs bytes Memory = ⊤
