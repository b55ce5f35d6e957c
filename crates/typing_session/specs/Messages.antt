-- What is printed where a question is not answered.
use Rattle.std.specs.Prelude.{ℕ, List, codes}
use Rattle.typing_session.specs.declared.error.AskError.{AskError}
use Rattle.typing_session.specs.declared.error.AskError.TheVariants as Errors

-- why there is no answer (own)
abbrev pub ask_text : AskError → List ℕ
ask_text Errors.Pairs = codes "Pairs"
ask_text Errors.Memory = codes "Memory"
