use Rattle.std.proofs.Common.{sym, ◌∙◌}
use Rattle.graph_index.proofs.Lent.{none_unplaced, of_one_place}
use Rattle.graph_index.proofs.rows.of_predicate.Goals as goal

pub returns-then-place-eq0 : goal.returns-then-place-eq0
returns-then-place-eq0 c = sym (none_unplaced c.args.places.now c.args.rows.now c.args.p c.requires.placed (sym c.place_of-place.ensures ∙ c.if-place-eq0.true))

pub returns : goal.returns
returns c =
    c.of_place.ensures
    ∙ of_one_place c.args.places.now c.args.rows.now c.args.p c.place_of-place.result c.requires.apart c.place_of-place.ensures c.if-place-eq0.false
