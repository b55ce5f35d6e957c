use Rattle.std.proofs.Common.{refl, inr}
use Rattle.std.proofs.lemmas.Result.{on_ok_weaker}
use Rattle.refusal_places.specs.Texts.{place_text}
use Rattle.schema_causes.proofs.causes.push_byte.Goals as goal

pub returns-in-Some : goal.returns-in-Some
returns-in-Some c =
    let shown = place_text c.args.name.now c.args.bytes.now c.in-Some.at in
    on_ok_weaker c.push_place.result (λ is. (shown, inr (c.in-Some.at, c.in-Some.ensures.0, c.in-Some.ensures.1, refl), is)) c.push_place.ensures
