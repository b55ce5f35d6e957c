use Rattle.std.proofs.Common.{rules, ◌≡◌, ◌≢◌, codes, false, true}
use Rattle.std.specs.Prelude.{Some, option_map}
use Rattle.serde_json.specs.View.{view}
use Rattle.shexj_reader.specs.Faults.{IsUnknownKey, form}
use Rattle.shexj_reader.specs.Keys.{is_object, type_of}
use Rattle.shexj_reader.specs.ValueFaults.{RangeStemFault}
use Rattle.std.proofs.Common.{[], ◌∷◌}
use Rattle.shexj_reader.proofs.Causes.{because, passed}
use Rattle.shexj_reader.proofs.ValueParts.{stem_missed}
use Rattle.shexj_reader.proofs.values.read_range_stem.Goals as goal

pub returns-then-not-is_object-clause-cause : goal.returns-then-not-is_object-clause-cause
returns-then-not-is_object-clause-cause c =
    let d = view c.in-Some.value.now in
    let at : option_map (λ v. view v.now) c.args.value ≡ Some d = search rules in
    let no_object : is_object d ≡ false = search rules in
    because (λ f. f ≡ form (codes "stem")) (λ f. RangeStemFault f (option_map (λ v. view v.now) c.args.value)) c.bad_form-then-not-is_object.result
    (λ f h. stem_missed f _ d at c.in_default-as_str.ensures no_object h) c.bad_form-then-not-is_object.ensures

pub returns-then-not-has_type-clause-cause : goal.returns-then-not-has_type-clause-cause
returns-then-not-has_type-clause-cause c =
    let d = view c.in-Some.value.now in
    let at : option_map (λ v. view v.now) c.args.value ≡ Some d = search rules in
    let obj : is_object d ≡ true = search rules in
    let other : type_of d ≢ Some (codes "Wildcard") = search rules in
    because (λ f. f ≡ form (codes "type")) (λ f. RangeStemFault f (option_map (λ v. view v.now) c.args.value)) c.bad_form-then-not-has_type.result
    (λ f h. RangeStemFault.no_wildcard d h at obj other) c.bad_form-then-not-has_type.ensures

pub returns-in_err-only_keys-clause-cause : goal.returns-in_err-only_keys-clause-cause
returns-in_err-only_keys-clause-cause c =
    let d = view c.in-Some.value.now in
    let at : option_map (λ v. view v.now) c.args.value ≡ Some d = search rules in
    let typed : type_of d ≡ Some (codes "Wildcard") = search rules in
    passed (λ f. IsUnknownKey (codes "type" ∷ []) f d)
    (λ f. RangeStemFault f (option_map (λ v. view v.now) c.args.value)) c.from_residual-in_err-only_keys.result c.in_err-only_keys.field-0.0 c.from_residual-in_err-only_keys.ensures.1
    (λ f h. RangeStemFault.unknown_key d at typed h) c.in_err-only_keys.ensures.cause
