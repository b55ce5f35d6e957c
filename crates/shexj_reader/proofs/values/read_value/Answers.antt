use Rattle.std.proofs.Common.{rules, ◌≡◌, true}
use Rattle.std.specs.Prelude.{Some}
use Rattle.serde_json.specs.View.{view}
use Rattle.shexj_reader.specs.Keys.{is_object, type_of}
use Rattle.shexj_reader.specs.ValueFaults.{LiteralFault, RangeFault, StemFault, ValueFault}
use Rattle.shexj_reader.specs.Values.{IsOfLiteral, range_type, stem_type}
use Rattle.shexj_reader.proofs.Causes.{passed}
use Rattle.shexj_reader.proofs.values.read_value.Goals as goal

pub returns-in_err-stem-clause-cause : goal.returns-in_err-stem-clause-cause
returns-in_err-stem-clause-cause c =
    let d = view c.args.value.now in
    let typed : type_of d ≡ Some (stem_type c.in-Some-stem_kind.kind) = search rules in
    passed (λ f. StemFault f d) (λ f. ValueFault f d) c.from_residual-in_err-stem.result c.in_err-stem.field-0.0 c.from_residual-in_err-stem.ensures.1
    (λ f h. ValueFault.in_stem c.in-Some-stem_kind.kind typed h) c.in_err-stem.ensures.cause

pub returns-in_err-stem-2-clause-cause : goal.returns-in_err-stem-2-clause-cause
returns-in_err-stem-2-clause-cause c =
    let d = view c.args.value.now in
    let typed : type_of d ≡ Some (range_type c.in-Some-range_kind.kind) = search rules in
    passed (λ f. RangeFault c.in-Some-range_kind.kind f d) (λ f. ValueFault f d) c.from_residual-in_err-stem-2.result c.in_err-stem-2.field-0.0 c.from_residual-in_err-stem-2.ensures.1
    (λ f h. ValueFault.in_range c.in-Some-range_kind.kind typed h) c.in_err-stem-2.ensures.cause

pub returns-in_err-literal-clause-cause : goal.returns-in_err-literal-clause-cause
returns-in_err-literal-clause-cause c =
    let d = view c.args.value.now in
    let is : is_object d ≡ true = search rules in
    let other : IsOfLiteral (type_of d) = search rules in
    passed (λ f. LiteralFault f d) (λ f. ValueFault f d) c.from_residual-in_err-literal.result c.in_err-literal.field-0.0 c.from_residual-in_err-literal.ensures.1
    (λ f h. ValueFault.in_literal is other h) c.in_err-literal.ensures.cause
