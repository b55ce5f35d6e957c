use Rattle.std.proofs.Common.{◌≡◌, ◌⊎◌, Contains, subst, ◌∙◌}
use Rattle.std.specs.Prelude.{◌↔◌}
use Rattle.bag_match.specs.Sets.{lists_of}
use Rattle.bag_match.proofs.raising.put_one.Goals as goal

pub returns-clause-put : goal.returns-clause-put
returns-clause-put c =
    λ v. subst (λ z. Contains (lists_of c.put.new.found) v ↔ (Contains (lists_of c.args.found.now) v ⊎ (z ≡ v))) (c.as_slice.ensures.value ∙ c.raise.ensures)
    (c.in_ok-put.ensures v)
