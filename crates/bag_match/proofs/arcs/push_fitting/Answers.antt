use Rattle.std.proofs.Common.{◌<◌, arith, length, rules, sym, ◌∙◌}
use Rattle.schema_tree.specs.Relevant.{is_relevant}
use Rattle.bag_match.proofs.Lending.{inside_more, lent_more}
use Rattle.bag_match.proofs.arcs.push_fitting.Goals as goal

pub loop-at-preserved-then-fits_any : goal.loop-at-preserved-then-fits_any
loop-at-preserved-then-fits_any c =
    let below : c.loop-at.at < length c.args.triples.now = omega (arith, c.loop-at-test.true, c.requires.end) in
    record {
      since = search rules;
      before = search rules;
      inside = inside_more (is_relevant c.args.occs.now c.args.node) c.args.triples.now c.loop-at.at c.at.result.now c.loop-at.places.items below c.at.ensures c.loop-at.invariant.fitting
          c.loop-at.invariant.inside c.push.new.self.items c.in_ok-push.ensures.items;
      fitting = lent_more (is_relevant c.args.occs.now c.args.node) c.args.triples.now c.loop-at.at c.at.result.now c.loop-at.places.items below c.at.ensures c.loop-at.invariant.fitting
          (sym c.fits_any.ensures ∙ c.if-fits_any.true) c.push.new.self.items c.in_ok-push.ensures.items;
    }

pub next_place-at-requires-clause-runs : goal.next_place-at-requires-clause-runs
next_place-at-requires-clause-runs c i j k d from within behind below alike =
    c.requires.runs i j k d (omega (arith, from, c.loop-at.invariant.since)) within behind below alike
