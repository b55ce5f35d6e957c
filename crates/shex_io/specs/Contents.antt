-- Bytes in memory by name.
use Rattle.std.specs.Prelude.{ℕ, List, Option, option_map}
use Rattle.std.specs.BTreeMap.{get_by_text}
use Rattle.shex_io.specs.declared.contents.Contents.{Contents}

-- the bytes under a name
abbrev pub bytes_under : Contents → List ℕ → Option (List ℕ)
bytes_under contents name = option_map (λ bytes. bytes.items) (get_by_text contents.by_name name)
