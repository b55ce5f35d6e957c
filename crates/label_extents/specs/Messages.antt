-- What is printed where extents are not given.
use Rattle.std.specs.Prelude.{ℕ, List, codes}
use Rattle.label_extents.specs.declared.error.ExtentsError.{ExtentsError}
use Rattle.label_extents.specs.declared.error.ExtentsError.TheVariants as Errors

-- why the extents are refused; no file is refused for want of memory, which has its name here too (own)
abbrev pub extents_text : ExtentsError → List ℕ
extents_text Errors.Pairs = codes "Pairs"
extents_text Errors.Memory = codes "Memory"
