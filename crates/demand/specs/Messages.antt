-- What is printed where pairs are not given.
use Rattle.std.specs.Prelude.{ℕ, List, codes}
use Rattle.demand.specs.declared.error.DemandError.{DemandError}
use Rattle.demand.specs.declared.error.DemandError.TheVariants as Errors

-- why the pairs are refused; no map is refused for want of memory, which has its name here too (own)
abbrev pub demand_text : DemandError → List ℕ
demand_text Errors.Pairs = codes "Pairs"
demand_text Errors.Memory = codes "Memory"
