use Rattle.std.proofs.Common.{◌∙◌, refl, subst}
use Rattle.rdf_cursor.specs.Cursors.{ahead}
use Rattle.rdf_cursor.specs.Lent.{Stands, spelled}
use Rattle.label_tokens.specs.Views.{scene_of}
use Rattle.label_tokens.proofs.Walking.{onward, used_here}
use Rattle.label_tokens.proofs.walk.place_from.Goals as goal

pub returns-then-met : goal.returns-then-met
returns-then-met c = λ base first.
    let lent = c.in-Some.ensures in
    let stands = subst (λ s. Stands s.mode s.text (ahead c.loop-token.c) c.place.result) c.loop-token.invariant.1 c.place.ensures in
    used_here _ _ _ _ _ (scene_of c.loop-token.walk) c.loop-token.met (ahead c.loop-token.c) (spelled c.in-Some.token) lent.0.0 c.place.result c.utf8.source lent.0.1
    (c.loop-token.invariant.0 base first) stands (c.in_ok-here.ensures c.if-here.true) c.if-met.true

pub loop-token-preserved : goal.loop-token-preserved
loop-token-preserved c =
    let lent = c.in-Some.ensures in
    let next = c.in_ok-pass.ensures c.if-not-branch.false in (
      λ base first. onward _ _ _ _ _ (scene_of c.loop-token.walk) (scene_of c.pass.new.self) c.loop-token.met c.in_ok-here.here _ (ahead c.loop-token.c) (ahead c.advance.new.self)
          (spelled c.in-Some.token) lent.0.0 lent.0.1 c.advance.ensures.ahead next refl c.in_ok-here.ensures (c.loop-token.invariant.0 base first),
      c.advance.ensures.source ∙ c.loop-token.invariant.1,
    )
