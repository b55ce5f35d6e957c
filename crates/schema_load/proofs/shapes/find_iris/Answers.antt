use Rattle.std.proofs.Common.{◌≡◌, ◌++◌, ◌∷◌, [], rules, sym, subst, take, ◌+◌}
use Rattle.std.specs.List.{AllZip}
use Rattle.lists.proofs.Beside.{zip_more}
use Rattle.schema_load.specs.Stands.{IsTerm}
use Rattle.schema_load.proofs.shapes.find_iris.Goals as goal

pub loop-iri-preserved : goal.loop-iri-preserved
loop-iri-preserved c =
    let pushed : c.push.new.self.items ≡ c.loop-iri.ids.items ++ c.in_ok-find_iri.field-0 ∷ [] = search rules in
    subst (λ ids. AllZip (IsTerm c.args.terms.now) (take (c.loop-iri.iri-index + 1) c.args.iris.now) ids) (sym pushed)
    (zip_more (IsTerm c.args.terms.now) c.args.iris.now c.loop-iri.ids.items c.loop-iri.iri-index c.iri-item.result c.in_ok-find_iri.field-0 c.loop-iri-test.true c.iri-item.is c.loop-iri.invariant c.in_ok-find_iri.ensures)
