use Rattle.std.proofs.Common.{rules, ◌≡◌, codes}
use Rattle.std.specs.Prelude.{None, Some}
use Rattle.serde_json.specs.Find.{get}
use Rattle.serde_json.specs.View.{view}
use Rattle.shexj_reader.specs.Faults.{form}
use Rattle.shexj_reader.specs.Keys.{text_if_any}
use Rattle.shexj_reader.specs.ValueFaults.{AreApart, LiteralFault}
use Rattle.shexj_reader.proofs.Causes.{handed}
use Rattle.shexj_reader.proofs.values.read_literal.Goals as goal

pub returns-in-Some-clause-cause : goal.returns-in-Some-clause-cause
returns-in-Some-clause-cause c =
    let d = view c.args.value.now in
    let language : text_if_any (get (codes "language") d) ≡ Some (Some c.in-Some.tag) = search rules in
    handed (λ f. (f ≡ form (codes "type")) × AreApart c.in_ok-datatype.datatype (Some c.in-Some.tag)) (λ f. LiteralFault f d) c.tagged.result
    (λ f h. LiteralFault.mistyped c.in_ok-datatype.datatype (Some c.in-Some.tag) h.0 c.in_ok-datatype.ensures.ok language h.1) c.tagged.ensures.cause

pub returns-in-None-clause-cause : goal.returns-in-None-clause-cause
returns-in-None-clause-cause c =
    let d = view c.args.value.now in
    let language : text_if_any (get (codes "language") d) ≡ Some None = search rules in
    handed (λ f. (f ≡ form (codes "type")) × AreApart c.in_ok-datatype.datatype None) (λ f. LiteralFault f d) c.untagged.result
    (λ f h. LiteralFault.mistyped c.in_ok-datatype.datatype None h.0 c.in_ok-datatype.ensures.ok language h.1) c.untagged.ensures.cause
