use Rattle.std.proofs.Common.{List, ℕ, ◌≡◌, ◌∙◌, ap, Some, None, [], Option, codes}
use Rattle.std.proofs.lemmas.Str.{chars-nil}
use Rattle.std.specs.Str.{chars}
use Rattle.serde_json.specs.Find.{get}
use Rattle.serde_json.specs.View.{view}
use Rattle.shexj_reader.specs.Keys.{text_if_any}
use Rattle.shexj_reader.proofs.FacetLists.{without_flags}
use Rattle.shexj_reader.proofs.constraints.pattern_at.Goals as goal

pub returns-in-Some-None-clause-ok : goal.returns-in-Some-None-clause-ok
returns-in-Some-None-clause-ok c =
    let empty : c.from_string.result ≡ [] = c.from_string.ensures ∙ (ap chars c.new.ensures.bytes ∙ chars-nil) in
    let pattern : text_if_any (get (codes "pattern") (view c.args.value.now)) ≡ Some (Some c.in-Some-None.pattern) = c.in_ok-pattern.ensures.ok
    ∙ ap (λ (x : Option (List ℕ)). Some x) c.in-Some-None.is-0 in
    let flags : text_if_any (get (codes "flags") (view c.args.value.now)) ≡ Some None = c.in_ok-flags.ensures.ok ∙ ap (λ (x : Option (List ℕ)). Some x) c.in-Some-None.is-1 in
    without_flags _ _ _ _ pattern flags empty
