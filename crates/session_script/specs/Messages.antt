-- What is printed of a script that is refused.
use Rattle.std.specs.Prelude.{ℕ, List, ◌++◌, codes}
use Rattle.std.specs.Fmt.{decimal}
use Rattle.session_script.specs.declared.error.ScriptError.{ScriptError}
use Rattle.session_script.specs.declared.error.ScriptError.TheVariants as errors

-- why a script is refused; no script is refused for want of memory, which has its name here too
abbrev pub script_text : ScriptError → List ℕ
script_text errors.NotUtf8 = codes "NotUtf8"
script_text (errors.Syntax at) = codes "Syntax(" ++ (decimal at ++ codes ")")
script_text (errors.Long at) = codes "Long(" ++ (decimal at ++ codes ")")
script_text errors.Memory = codes "Memory"
