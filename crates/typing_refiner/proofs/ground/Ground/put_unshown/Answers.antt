use Rattle.std.proofs.Common.{inl, inr, refl, subst, sym}
use Rattle.schema_tree.specs.declared.verdicts.Verdict.TheVariants.{Unknown}
use Rattle.typing_refiner.specs.Holding.{Holds}
use Rattle.typing_refiner.specs.Ready.{Waits}
use Rattle.typing_refiner.proofs.ground.Ground.put_unshown.Goals as goal

pub returns-clause-witnesses : goal.returns-clause-witnesses
returns-clause-witnesses g c = λ i w holds. c.in_ok-is_shown.ensures.witnesses i w (subst (λ ws. Holds ws i w) c.in_ok-note_back.ensures holds)

pub returns-clause-put : goal.returns-clause-put
returns-clause-put g c = λ q h. elim ((c.in_ok-put.ensures q).0 h) [
  | inl o ↦ inl o
  | inr e ↦ inr (e, subst (λ i. Waits c.args.self.now c.args.stratum c.args.marks.now Unknown i) (sym e) (c.waits.ensures.0 c.if-not-waits.false))
]

pub returns-clause-kept : goal.returns-clause-kept
returns-clause-kept g c = λ q h. (c.in_ok-put.ensures q).1 (inl h)

pub returns-clause-settled : goal.returns-clause-settled
returns-clause-settled g c = λ w. inl ((c.in_ok-put.ensures c.args.other).1 (inr refl))
