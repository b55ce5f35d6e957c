-- Parts that are not made into a constraint.
use Rattle.std.proofs.Common.{◌≡◌, ◌⊎◌, inl, inr, Result, Err}
use Rattle.std.specs.Prelude.{IsErrOf, IsOk}
use Rattle.xs_pattern.specs.declared.pattern_error.PatternError.{PatternError}
use Rattle.node_constraint.specs.declared.make_error.MakeError.{MakeError}
use Rattle.node_constraint.specs.declared.make_error.MakeError.TheVariants as Errors

-- a pattern is not refused where all is taken
pub not_taken : {T : Type 0} (r : Result T MakeError) (e : PatternError) → r ≡ Err (Errors.Pattern e) → IsOk r ⊎ IsErrOf r Errors.Memory → ⊥
not_taken r e is (inl ok) = cc
not_taken r e is (inr memory) = cc
