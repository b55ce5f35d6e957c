use Rattle.std.proofs.Common.{rules, ap, ◌≡◌, ◌∙◌, Some}
use Rattle.std.specs.Fmt.{signed_decimal}
use Rattle.std.specs.Prelude.{option_and_then, string_bytes}
use Rattle.std.specs.Str.{chars}
use Rattle.serde_json.specs.Find.{as_integer, as_number, get}
use Rattle.serde_json.specs.View.{view}
use Rattle.shexj_reader.proofs.Decimals.{signed_chars}
use Rattle.shexj_reader.proofs.FacetLists.{bound_is}
use Rattle.shexj_reader.proofs.constraints.bound_at.Goals as goal

pub returns-in_ok-digits-in-Some-as_i128-clause-ok :
    goal.returns-in_ok-digits-in-Some-as_i128-clause-ok
returns-in_ok-digits-in-Some-as_i128-clause-ok c =
    let there : get c.args.key.now (view c.args.value.now) ≡ Some (view c.in-Some.child.now) = search rules in
    let whole : option_and_then as_integer (as_number (view c.in-Some.child.now)) ≡ Some c.in-Some-as_i128.whole = search rules in
    let written : string_bytes c.in_ok-digits-in-Some-as_i128.digits ≡ signed_decimal c.in-Some-as_i128.whole = search rules in
    let digits : c.from_string.result ≡ signed_decimal c.in-Some-as_i128.whole =
    c.from_string.ensures ∙ (ap chars written ∙ signed_chars c.in-Some-as_i128.whole) in
    bound_is _ _ _ _ there whole digits
