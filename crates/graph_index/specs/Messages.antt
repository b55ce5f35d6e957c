-- What is printed of data that are refused.
use Rattle.std.specs.Prelude.{ℕ, List, ◌++◌, codes}
use Rattle.std.specs.Fmt.{decimal}
use Rattle.graph_index.specs.declared.read_error.ReadError.{ReadError}
use Rattle.graph_index.specs.declared.read_error.ReadError.TheVariants as ReadErrors

-- why data are refused; no file is refused for want of memory, which has its name here too
abbrev pub data_text : ReadError → List ℕ
data_text ReadErrors.NotUtf8 = codes "NotUtf8"
data_text (ReadErrors.Syntax at) = codes "Syntax(" ++ (decimal at ++ codes ")")
data_text (ReadErrors.Prefix at) = codes "Prefix(" ++ (decimal at ++ codes ")")
data_text ReadErrors.Deep = codes "Deep"
data_text (ReadErrors.Long at) = codes "Long(" ++ (decimal at ++ codes ")")
data_text ReadErrors.Full = codes "Full"
data_text ReadErrors.Memory = codes "Memory"
