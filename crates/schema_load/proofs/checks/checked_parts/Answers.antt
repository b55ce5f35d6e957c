use Rattle.std.proofs.Common.{subst, ◌∙◌}
use Rattle.schema_load.specs.Requirements.{HasOne, IsFirst, IsMissing, IsTwice, NoneIs}
use Rattle.schema_load.proofs.Firsts.{not_found}
use Rattle.schema_load.proofs.checks.checked_parts.Goals as goal

pub missing_at-requires : goal.missing_at-requires
missing_at-requires c = subst (λ ps. HasOne (IsMissing ps) c.in-Some-find_missing.place) c.as_slice-3.ensures.value c.in-Some-find_missing.ensures.found.here

pub returns-in-Some-find_missing-clause-refused : goal.returns-in-Some-find_missing-clause-refused
returns-in-Some-find_missing-clause-refused c = λ terms. (
  subst (λ ps. NoneIs (HasOne (IsTwice ps))) (c.as_slice-2.ensures.value ∙ c.in_ok-parts.ensures) (c.find_twice.ensures.none (not_found c.find_twice.result c.in_default.not-Some)),
  (
    c.in-Some-find_missing.place,
    subst (λ ps. IsMissing ps c.in-Some-find_missing.place c.missing_at.result) c.in_ok-parts.ensures c.missing_at.ensures,
    subst (λ ps. IsFirst (HasOne (IsMissing ps)) c.in-Some-find_missing.place) (c.as_slice-3.ensures.value ∙ c.in_ok-parts.ensures) c.in-Some-find_missing.ensures.found,
  ),
)

pub returns-clause-once : goal.returns-clause-once
returns-clause-once c = subst (λ ps. NoneIs (HasOne (IsTwice ps))) c.as_slice-2.ensures.value (c.find_twice.ensures.none (not_found c.find_twice.result c.in_default.not-Some))

pub returns-clause-targets : goal.returns-clause-targets
returns-clause-targets c = subst (λ ps. NoneIs (HasOne (IsMissing ps))) c.as_slice-3.ensures.value (c.find_missing.ensures.none (not_found c.find_missing.result c.in_default-find_missing.not-Some))
