use Rattle.std.proofs.Common.{◌++◌, ap, sym, ◌∙◌, string_bytes}
use Rattle.std.proofs.lemmas.Iterator.{YieldsList-from_chars}
use Rattle.std.proofs.lemmas.Iterator.Consumers.{YieldsList-end}
use Rattle.std.proofs.lemmas.List.{flat_map_more, map-id}
use Rattle.std.specs.List.{flat_map}
use Rattle.rdf_terms.specs.Written.{escaped}
use Rattle.rdf_terms.proofs.written.push_escaped.Goals as goal

pub loop-character-preserved : goal.loop-character-preserved
loop-character-preserved c =
    c.in_ok-push_character.ensures
    ∙ ap (λ z. z ++ escaped c.in-Some.character) c.loop-character.invariant
    ∙ flat_map_more escaped (string_bytes c.args.out.now) c.loop-character.yielded c.in-Some.character

pub returns : goal.returns
returns c =
    let t = YieldsList-end (YieldsList-from_chars c.as_str.result.now c.as_str.utf8 cc) c.loop-character.yielded _ c.loop-character.yielded_by _ _ c.in-None.is c.next.ensures.steps in
    c.loop-character.invariant ∙ ap (λ z. string_bytes c.args.out.now ++ flat_map escaped z) (sym (map-id c.loop-character.yielded) ∙ t.0 ∙ c.as_str.ensures.characters)
