-- How often a triple expression may come (ShEx 2.1, section 5.5, and appendix A).
use Rattle.std.specs.Prelude.{ℕ, zero, ◌≡◌, Option, Some, None, codes, option_map, option_and_then, negsuc}
use Rattle.serde_json.specs.Data.{Data, Num, unsigned, negative}
use Rattle.serde_json.specs.Find.{as_number, as_u64, get}
use Rattle.tally.specs.Span.{IsOrdered}
use Rattle.tally.specs.declared.Bound.{Bound}
use Rattle.tally.specs.declared.Bound.TheVariants.{Upto, Free}
use Rattle.shexj_reader.specs.Constraints.{small}

-- a whole number from 0 to 4,294,967,295, 1 where the key is absent
abbrev pub least : Option Data → Option ℕ
least None = Some 1
least (Some d) = option_and_then small (option_and_then as_u64 (as_number d))

-- a number as an upper bound: -1 is no bound
abbrev pub upper : Num → Option Bound
upper (unsigned n) = option_map Upto (small n)
upper (negative (negsuc zero)) = Some Free
upper _ = None

-- a whole number from 0 to 4,294,967,295 or -1, and 1 where the key is absent
abbrev pub most : Option Data → Option Bound
most None = Some (Upto 1)
most (Some d) = option_and_then upper (as_number d)

-- the cardinality of an object: its minimum is not above its bound
pub record IsCardinality (low : ℕ) (high : Bound) (d : Data) : Type 0 where
  pub min : least (get (codes "min") d) ≡ Some low
  pub max : most (get (codes "max") d) ≡ Some high
  pub ordered : IsOrdered low high
