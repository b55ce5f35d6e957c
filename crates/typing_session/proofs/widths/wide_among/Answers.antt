use Rattle.std.proofs.Common.{◌∙◌, ◌∷◌, [], ◌++◌, ap, get_or, sym, take}
use Rattle.std.proofs.lemmas.Grind.{flat_map-append}
use Rattle.std.proofs.lemmas.List.{append-nil, take_more}
use Rattle.schema_tree.specs.declared.schema.Pair.{Pair}
use Rattle.typing_refiner.specs.Building.{told_width, wide_of, wide_one}
use Rattle.typing_session.proofs.widths.wide_among.Goals as goal

abbrev no_pair : Pair
no_pair = record { node = record { 0 = 0 }; shape = record { 0 = 0 } }

pub loop-pair-preserved : goal.loop-pair-preserved
loop-pair-preserved c = λ width give.
    let pairs = c.args.pairs.now in
    let i = c.loop-pair.pair-index in
    let one = λ (p : Pair). wide_one p (told_width width p) c.args.budget in
    let next = get_or pairs i no_pair in
    c.in_ok-push_wide.ensures
    ∙ (ap (λ z. z ++ wide_one next c.in_ok-width.width c.args.budget) (c.loop-pair.invariant width give)
    ∙ (ap (λ w. wide_of width c.args.budget (take i pairs) ++ wide_one next w c.args.budget) (c.in_ok-width.ensures width give)
    ∙ sym (ap (wide_of width c.args.budget) (take_more pairs i no_pair c.loop-pair-test.true) ∙ flat_map-append one (take i pairs) (next ∷ [])
    ∙ ap (λ z. wide_of width c.args.budget (take i pairs) ++ z) (append-nil (one next)))))
