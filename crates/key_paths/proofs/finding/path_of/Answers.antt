use Rattle.std.proofs.Common.{◌≡◌, [], Some, rules}
use Rattle.serde_json.specs.Read.{read}
use Rattle.serde_json.specs.View.{view}
use Rattle.key_paths.specs.Refusals.{IsRefused}
use Rattle.key_paths.proofs.Trials.{leads}
use Rattle.key_paths.proofs.finding.path_of.Goals as goal

pub returns : goal.returns
returns c =
    let some : c.in_ok-steps.steps.items ≡ [] → ⊥ = search rules in
    let refused : IsRefused c.args.error.now (view c.in-Some.document) = search rules in
    let json : read c.args.source.now ≡ Some (view c.in-Some.document) = search rules in
    leads c.of.result c.in_ok-steps.steps.items c.args.error.now c.args.source.now (view c.in-Some.document) some c.of.ensures json refused c.in_ok-steps.ensures
