-- The bytes of files that have a limit, and how fetching them stops.
use Rattle.std.specs.Prelude.{ℕ, List, ◌≡◌, ◌≤◌, ◌<◌, length, Some}
use Rattle.shex_io.specs.Faults.{Rose}
use Rattle.shex_io.specs.Files.{Holds, Told}
use Rattle.shex_io.specs.declared.files.Act.{Act}
use Rattle.shex_io.specs.declared.files.Act.TheVariants.{Fetch}
use Rattle.shex_io.specs.declared.files.FetchError.{FetchError}
use Rattle.shex_io.specs.declared.files.FetchError.TheVariants as errors

-- how many bytes a file of the inputs has at most
abbrev pub max_file : ℕ
max_file = 67108864

-- the name holds these bytes, as far as is told, and they are within the limit
pub record IsFile (told : Told) (name bytes : List ℕ) : Type 0 where
  pub held : Holds told name (Some bytes)
  pub within : length bytes ≤ max_file

-- the name holds more bytes than the limit, as far as is told
pub record IsTooLong (told : Told) (name : List ℕ) : Type 0 where
  pub bytes : List ℕ
  pub held : Holds told name (Some bytes)
  pub above : max_file < length bytes

-- the count of faults rose, and this call is to blame for it: a fetch of the name
abbrev pub HasFailed : List ℕ → ℕ → ℕ → List ℕ → Act → Type 0
HasFailed name before after blame act = Rose before after × (before ≤ after) × (blame ≡ name) × (act ≡ Fetch)

-- a file is not fetched: a fault came, or it is too long, or memory ran out
abbrev pub FetchStops : Told → List ℕ → ℕ → ℕ → List ℕ → Act → FetchError → Type 0
FetchStops told name before after blame act errors.Failed = HasFailed name before after blame act
FetchStops told name before after blame act errors.Long = IsTooLong told name × (after ≡ before)
FetchStops told name before after blame act errors.Memory = after ≡ before
