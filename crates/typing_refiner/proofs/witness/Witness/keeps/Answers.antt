use Rattle.std.proofs.Common.{◌∙◌, List, ◌∷◌, ap, sym, subst, length}
use Rattle.std.proofs.lemmas.Result.{IfOk-weaker}
use Rattle.std.specs.Bool.{OnTrue}
use Rattle.rdf_terms.specs.declared.terms.Triple.{Triple}
use Rattle.schema_tree.specs.declared.verdicts.Place.TheVariants.{Rest}
use Rattle.typing_refiner.specs.Witnessed.{ArePlaced, IsStanding}
use Rattle.std.proofs.lemmas.Bool.{OnTrue_at}
use Rattle.std.specs.Prelude.{slice_get}
use Rattle.bag_match.specs.Counts.{ArePlacesOf}
use Rattle.typing_refiner.proofs.Tallies.{for_inside, has_place, kept_by, kept_if, kept_there, put_others, put_there}
use Rattle.typing_refiner.proofs.witness.Witness.keeps.Goals as goal

pub take_one-requires-clause-inside : goal.take_one-requires-clause-inside
take_one-requires-clause-inside g c =
    subst (λ ps. ArePlacesOf (length c.args.shape.now.occs) ps) (sym c.as_slice-3.ensures.value)
    (for_inside (g.J.Judge.hold c.args.judge.now) (g.J.Judge.fail c.args.judge.now) c.args.shape.now c.args.node c.args.triple _ c.in_ok-allowed.ensures)

pub returns-then-is_among-clause-stands : goal.returns-then-is_among-clause-stands
returns-then-is_among-clause-stands g c =
    kept_there (g.J.Judge.hold c.args.judge.now) (g.J.Judge.fail c.args.judge.now) c.args.shape.now c.args.node c.args.self.now c.requires.distinct c.args.at c.args.triple c.requires.there
    c.place_at.result (ap (λ ps. slice_get ps c.args.at) (sym c.as_slice-2.ensures.value)
    ∙ c.place_at.ensures) _ _ c.as_slice.ensures.value c.in_ok-allowed.ensures (c.is_among.ensures.0 c.if-is_among.true)

pub returns-then-take_one-clause-stands : goal.returns-then-take_one-clause-stands
returns-then-take_one-clause-stands g c =
    OnTrue_at c.if-take_one.true (kept_if (g.J.Judge.hold c.args.judge.now) (g.J.Judge.fail c.args.judge.now) c.args.shape.now c.args.node c.args.self.now c.take_one.new.self c.take_one.ensures.triples
    c.requires.distinct c.args.at c.args.triple c.requires.there _ _ c.as_slice-3.ensures.value c.in_ok-allowed.ensures c.take_one.result c.take_one.ensures.takes)

pub returns-clause-stands : goal.returns-clause-stands
returns-clause-stands g c =
    IfOk-weaker c.exchange.result
    (λ b. OnTrue b ((free : List Triple) →
    ArePlaced (g.J.Judge.hold c.args.judge.now) (g.J.Judge.fail c.args.judge.now) c.args.shape.now c.args.node free c.set_place.new.self →
    IsStanding (g.J.Judge.hold c.args.judge.now) (g.J.Judge.fail c.args.judge.now) c.args.shape.now c.args.node free c.exchange.new.self))
    (λ b. OnTrue b ((free : List Triple) →
    IsStanding (g.J.Judge.hold c.args.judge.now) (g.J.Judge.fail c.args.judge.now) c.args.shape.now c.args.node (c.args.triple ∷ free) c.args.self.now →
    IsStanding (g.J.Judge.hold c.args.judge.now) (g.J.Judge.fail c.args.judge.now) c.args.shape.now c.args.node free c.exchange.new.self))
    (λ b stands. kept_by (g.J.Judge.hold c.args.judge.now) (g.J.Judge.fail c.args.judge.now) c.args.shape.now c.args.node c.args.self.now c.set_place.new.self (c.set_place.ensures.triples
    ∙ c.take_one.ensures.triples) c.requires.distinct
    c.args.at c.args.triple c.requires.there _ _ c.as_slice-4.ensures.value c.in_ok-allowed.ensures Rest (c.is_among-2.ensures.0 c.if-not-is_among.false)
    (put_there c.take_one.new.self.places.items c.set_place.new.self.places.items c.args.at Rest c.set_place.ensures.places
    (has_place (length c.args.shape.now.occs) c.args.self.now c.take_one.new.self c.take_one.ensures.tally c.take_one.ensures.triples c.args.at c.args.triple c.requires.there))
    (put_others c.args.self.now.places.items c.take_one.new.self.places.items c.set_place.new.self.places.items c.args.at Rest c.set_place.ensures.places c.take_one.ensures.others)
    c.exchange.new.self b stands)
    c.exchange.ensures.stands
