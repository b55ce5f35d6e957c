use Rattle.std.proofs.Common.{rules, ◌≡◌, codes, eqb, length, sym, true}
use Rattle.std.specs.Prelude.{None, option_map}
use Rattle.serde_json.specs.Find.{get}
use Rattle.serde_json.specs.View.{view}
use Rattle.shexj_reader.specs.Faults.{form}
use Rattle.shexj_reader.specs.ValueFaults.{ExclusionsFault, RangeFault, RangeStemFault}
use Rattle.shexj_reader.specs.Values.{HasExclusions, IsRangeStem}
use Rattle.shexj_reader.proofs.Causes.{because, passed}
use Rattle.shexj_reader.proofs.ValueParts.{unlimited_range}
use Rattle.shexj_reader.proofs.values.read_range.Goals as goal

pub returns-in_err-stem-clause-cause : goal.returns-in_err-stem-clause-cause
returns-in_err-stem-clause-cause c =
    let d = view c.args.value.now in
    passed (λ f. RangeStemFault f (option_map (λ v. view v.now) c.get.result))
    (λ f. RangeFault c.args.kind f d) c.from_residual-in_err-stem.result c.in_err-stem.field-0.0 c.from_residual-in_err-stem.ensures.1
    (λ f h. RangeFault.bad_stem (rw (sym c.get.ensures) h)) c.in_err-stem.ensures.cause

pub returns-in_err-exclusions-clause-cause : goal.returns-in_err-exclusions-clause-cause
returns-in_err-exclusions-clause-cause c =
    let d = view c.args.value.now in
    passed (λ f. ExclusionsFault c.args.kind f (option_map (λ v. view v.now) c.get-2.result))
    (λ f. RangeFault c.args.kind f d) c.from_residual-in_err-exclusions.result c.in_err-exclusions.field-0.0 c.from_residual-in_err-exclusions.ensures.1
    (λ f h. RangeFault.bad_exclusions (rw (sym c.get-2.ensures) h)) c.in_err-exclusions.ensures.cause

pub returns-then-is_empty-clause-cause : goal.returns-then-is_empty-clause-cause
returns-then-is_empty-clause-cause c =
    let d = view c.args.value.now in
    let no_stem : c.in_ok-stem.stem ≡ None = search rules in
    let found : IsRangeStem c.args.kind c.in_ok-stem.stem (get (codes "stem") (view c.args.value.now)) = rw (sym c.get.ensures) c.in_ok-stem.ensures.ok in
    let stem : IsRangeStem c.args.kind None (get (codes "stem") (view c.args.value.now)) = rw (sym no_stem) found in
    let exclusions : HasExclusions c.args.kind c.in_ok-exclusions.exclusions.items (get (codes "exclusions") (view c.args.value.now)) = rw (sym c.get-2.ensures) c.in_ok-exclusions.ensures.ok in
    let none : eqb (length c.in_ok-exclusions.exclusions.items) 0 ≡ true = search rules in
    because (λ f. f ≡ form (codes "exclusions")) (λ f. RangeFault c.args.kind f d) c.bad_form.result
    (λ f h. unlimited_range c.args.kind f d _ stem exclusions none h) c.bad_form.ensures
