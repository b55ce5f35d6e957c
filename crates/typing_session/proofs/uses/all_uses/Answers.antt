use Rattle.std.proofs.Common.{◌∙◌, ap, arith, sym}
use Rattle.std.proofs.lemmas.Option.{slice_get-get_or}
use Rattle.std.specs.Prelude.{Some}
use Rattle.demand.specs.Links.{AreLinksOf}
use Rattle.lists.proofs.Beside.{same_length}
use Rattle.typing_session.proofs.Using.{uses_all, uses_more}
use Rattle.typing_session.proofs.uses.all_uses.Goals as goal

pub overflow_cast-number : goal.overflow_cast-number
overflow_cast-number c =
    let inside = c.loop-number-test.true in
    let same = same_length (AreLinksOf c.args.schema.now) c.args.schema.now.shapes c.args.links.now c.requires.links in
    let few = c.requires.loaded.few in
    omega (arith, inside, same, few)

pub loop-number-preserved : goal.loop-number-preserved
loop-number-preserved c =
    uses_more c.args.schema.now c.args.links.now c.requires.links c.loop-number.number c.as_slice-own.result.now
    (slice_get-get_or c.args.links.now c.loop-number.number c.index-links-number.result c.loop-number-test.true ∙ ap (λ z. Some z) (sym c.index-links-number.is ∙ sym c.as_slice-own.ensures))
    c.loop-number.found.items c.push_links.new.found.items c.loop-number.invariant c.in_ok-push_links.ensures

pub returns : goal.returns
returns c = uses_all c.args.schema.now c.args.links.now c.requires.links c.loop-number.number c.loop-number.found.items c.loop-number-test.false c.loop-number.invariant
