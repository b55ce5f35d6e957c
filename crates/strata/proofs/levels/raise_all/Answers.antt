use Rattle.std.proofs.Common.{ap, arith, subst, sym, length, get_or, refl, true≢false, ◌∙◌, ◌<◌, ◌≤◌, ◌+◌}
use Rattle.schema_tree.specs.Edges.{level}
use Rattle.strata.specs.Arcs.{AreReached, IsLow, Passes, cost_of}
use Rattle.strata.specs.declared.levels.Pass.TheVariants.{Raised, Beyond}
use Rattle.strata.proofs.Rising.{have_ends}
use Rattle.strata.proofs.Passing.{no_arc, IsPassing, begun, stepped_beyond, stepped_up, stepped_by}
use Rattle.strata.proofs.levels.raise_all.Goals.{then-is_low+else-most-raise, else-is_low}
use Rattle.strata.proofs.levels.raise_all.Goals as goal

pub loop-arc-init : goal.loop-arc-init
loop-arc-init c = begun c.args.s.now c.args.arcs.now c.args.levels.now.items c.requires.reached c.requires.within

pub is_low-requires-clause-ends : goal.is_low-requires-clause-ends
is_low-requires-clause-ends c =
    let ends = have_ends c.args.s.now c.requires.loaded c.args.arcs.now c.requires.edges c.loop-arc.arc-index no_arc c.loop-arc-test.true in
    let long = ap length c.as_slice-in-loop-arc.ensures.value in
    (omega (arith, ends.0, long, c.loop-arc.invariant.reached.size), omega (arith, ends.1, long, c.loop-arc.invariant.reached.size))

pub raise-requires-clause-ends : goal.raise-requires-clause-ends
raise-requires-clause-ends c =
    let ends = have_ends c.args.s.now c.requires.loaded c.args.arcs.now c.requires.edges c.loop-arc.arc-index no_arc c.loop-arc-test.true in
    (omega (arith, ends.0, c.loop-arc.invariant.reached.size), omega (arith, ends.1, c.loop-arc.invariant.reached.size))

pub returns-then-most-raise-clause-reached : goal.returns-then-most-raise-clause-reached
returns-then-most-raise-clause-reached c =
    let arc = get_or c.args.arcs.now c.loop-arc.arc-index no_arc in
    let low : IsLow c.loop-arc.levels.items arc = subst (λ f. IsLow f arc) c.as_slice-in-loop-arc.ensures.value (c.if-is_low.ensures.0 refl) in
    let many : length c.args.s.now.shapes < level c.loop-arc.levels.items arc.to + cost_of arc.negative =
    omega (arith, c.if-most-raise.true, c.raise.ensures.given, ap length c.as_slice.ensures) in
    subst (λ f. AreReached c.args.s.now f) (sym c.raise.ensures.raised)
    (stepped_beyond c.args.s.now c.args.arcs.now c.requires.edges c.loop-arc.arc-index c.args.levels.now.items c.loop-arc.levels.items c.loop-arc.pass c.loop-arc.invariant c.loop-arc-test.true low many).0

pub returns-then-most-raise-clause-pass : goal.returns-then-most-raise-clause-pass
returns-then-most-raise-clause-pass c =
    let arc = get_or c.args.arcs.now c.loop-arc.arc-index no_arc in
    let low : IsLow c.loop-arc.levels.items arc = subst (λ f. IsLow f arc) c.as_slice-in-loop-arc.ensures.value (c.if-is_low.ensures.0 refl) in
    let many : length c.args.s.now.shapes < level c.loop-arc.levels.items arc.to + cost_of arc.negative =
    omega (arith, c.if-most-raise.true, c.raise.ensures.given, ap length c.as_slice.ensures) in
    subst (λ f. Passes c.args.s.now c.args.arcs.now c.args.levels.now.items f Beyond) (sym c.raise.ensures.raised)
    (stepped_beyond c.args.s.now c.args.arcs.now c.requires.edges c.loop-arc.arc-index c.args.levels.now.items c.loop-arc.levels.items c.loop-arc.pass c.loop-arc.invariant c.loop-arc-test.true low many).1

pub loop-arc-preserved : goal.loop-arc-preserved
loop-arc-preserved c =
    let arc = get_or c.args.arcs.now c.loop-arc.arc-index no_arc in
    elim c.if-is_low.branch [
      | then-is_low+else-most-raise w ↦ (
          let low : IsLow c.loop-arc.levels.items arc = subst (λ f. IsLow f arc) c.as_slice-in-loop-arc.ensures.value (w.if-is_low.ensures.0 refl) in
          let few : level c.loop-arc.levels.items arc.to + cost_of arc.negative ≤ length c.args.s.now.shapes =
          omega (arith, w.if-most-raise.false, w.raise.ensures.given, ap length c.as_slice.ensures) in
          subst (λ p. IsPassing c.args.s.now c.args.arcs.now (c.loop-arc.arc-index + 1) c.args.levels.now.items c.if-is_low.levels.items p) (sym w.pass-is)
          (subst (λ f. IsPassing c.args.s.now c.args.arcs.now (c.loop-arc.arc-index + 1) c.args.levels.now.items f Raised) (sym (ap (λ v. v.items) w.levels-is ∙ w.raise.ensures.raised))
          (stepped_up c.args.s.now c.args.arcs.now c.requires.edges c.loop-arc.arc-index c.args.levels.now.items c.loop-arc.levels.items c.loop-arc.pass c.loop-arc.invariant c.loop-arc-test.true low few))
          )
      | else-is_low w ↦ (
          let high : ¬ IsLow c.loop-arc.levels.items arc = λ low. true≢false (sym (w.if-is_low.ensures.1 (subst (λ f. IsLow f arc) (sym c.as_slice-in-loop-arc.ensures.value) low))) in
          subst (λ p. IsPassing c.args.s.now c.args.arcs.now (c.loop-arc.arc-index + 1) c.args.levels.now.items c.if-is_low.levels.items p) (sym w.pass-is)
          (subst (λ f. IsPassing c.args.s.now c.args.arcs.now (c.loop-arc.arc-index + 1) c.args.levels.now.items f c.loop-arc.pass) (sym (ap (λ v. v.items) w.levels-is))
          (stepped_by c.args.s.now c.args.arcs.now c.loop-arc.arc-index c.args.levels.now.items c.loop-arc.levels.items c.loop-arc.pass c.loop-arc.invariant c.loop-arc-test.true high))
          )
    ]
