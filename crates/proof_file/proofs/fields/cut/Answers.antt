use Rattle.std.proofs.Common.{subst, MatchOption, ◌≡◌, ◌∷◌, []}
use Rattle.proof_file.proofs.Numbers.{cut_fields}
use Rattle.proof_file.specs.Reading.{fields}
use Rattle.proof_file.proofs.fields.cut.Goals as goal

pub returns-in-Some-clause-fields : goal.returns-in-Some-clause-fields
returns-in-Some-clause-fields c =
    subst (λ r. MatchOption r (fields c.args.separator c.args.text.now ≡ c.args.text.now ∷ []) (λ x. fields c.args.separator c.args.text.now ≡ x.0.now ∷ fields c.args.separator x.1.now))
    c.in-Some.is (cut_fields c.args.separator c.args.text.now c.split_once.result c.split_once.ensures.cases c.requires)

pub returns-in-None-clause-fields : goal.returns-in-None-clause-fields
returns-in-None-clause-fields c =
    subst (λ r. MatchOption r (fields c.args.separator c.args.text.now ≡ c.args.text.now ∷ []) (λ x. fields c.args.separator c.args.text.now ≡ x.0.now ∷ fields c.args.separator x.1.now))
    c.in-None.is (cut_fields c.args.separator c.args.text.now c.split_once.result c.split_once.ensures.cases c.requires)
