use Rattle.std.proofs.Common.{rules, ◌≡◌, codes, false}
use Rattle.std.specs.Prelude.{Some, option_map}
use Rattle.serde_json.specs.View.{view}
use Rattle.shexj_reader.specs.DocumentFaults.{HasExprFault}
use Rattle.shexj_reader.specs.ExpressionFaults.{ExprFault}
use Rattle.shexj_reader.specs.Nesting.{max_nesting}
use Rattle.shexj_reader.proofs.Causes.{made}
use Rattle.shexj_reader.proofs.documents.read_start.Goals as goal

pub returns-clause-cause : goal.returns-clause-cause
returns-clause-cause c =
    let d = view c.in-Some.value.now in
    let at : option_map (λ v. view v.now) c.args.value ≡ Some d = search rules in
    made (λ f. ExprFault f (codes "start") false max_nesting d)
    (λ f. HasExprFault (codes "start") f (option_map (λ v. view v.now) c.args.value)) _ c.read_expr.result c.map.result c.map.ensures.cases (λ f h. record { value = d; there = at; fault = h }) c.read_expr.ensures.cause
