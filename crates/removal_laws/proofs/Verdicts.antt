-- Verdicts are the same or not.
use Rattle.std.proofs.Common.{◌≡◌, ◌≢◌, refl, true, false}
use Rattle.schema_tree.specs.declared.verdicts.Verdict.{Verdict}
use Rattle.schema_tree.specs.declared.verdicts.Verdict.TheVariants.{Yes, No, Unknown}
use Rattle.removal_laws.specs.Marks.{same_verdict}

pub verdict_is : (v w : Verdict) → same_verdict v w ≡ true → v ≡ w
verdict_is Yes Yes e = refl
verdict_is No No e = refl
verdict_is Unknown Unknown e = refl
verdict_is Yes No e = cc
verdict_is Yes Unknown e = cc
verdict_is No Yes e = cc
verdict_is No Unknown e = cc
verdict_is Unknown Yes e = cc
verdict_is Unknown No e = cc

pub verdict_same : (v : Verdict) → same_verdict v v ≡ true
verdict_same Yes = refl
verdict_same No = refl
verdict_same Unknown = refl

pub verdict_apart : (v w : Verdict) → v ≢ w → same_verdict v w ≡ false
verdict_apart Yes Yes ne = absurd (ne refl)
verdict_apart No No ne = absurd (ne refl)
verdict_apart Unknown Unknown ne = absurd (ne refl)
verdict_apart Yes No ne = refl
verdict_apart Yes Unknown ne = refl
verdict_apart No Yes ne = refl
verdict_apart No Unknown ne = refl
verdict_apart Unknown Yes ne = refl
verdict_apart Unknown No ne = refl
