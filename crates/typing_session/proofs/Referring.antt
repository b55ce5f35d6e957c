-- The references that are found once.
use Rattle.std.proofs.Common.{◌≡◌, refl, subst, sym, true≢false}
use Rattle.std.specs.Prelude.{IfSome, IsSome, IsSomeAnd, None, Option, Some}

module _ {T : Type 0} (P : T → Type 0) where
  pub there_with : (o : Option T) → IsSome o → IfSome o P → IsSomeAnd o P
  there_with None some known = absurd (true≢false (sym some))
  there_with (Some x) some known = known

  pub there : (o : Option T) → IsSomeAnd o P → IsSome o
  there None h = absurd h
  there (Some x) h = refl

  pub known_there : (o : Option T) → IsSomeAnd o P → IfSome o P
  known_there None h = absurd h
  known_there (Some x) h = h

  pub of_held : (o : Option T) (x : T) → o ≡ Some x → IsSomeAnd o P → P x
  of_held o x is h = subst (λ z. IsSomeAnd z P) is h
