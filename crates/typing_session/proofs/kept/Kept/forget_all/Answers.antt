use Rattle.std.proofs.Common.{◌≡◌, Contains, subst}
use Rattle.std.proofs.lemmas.List.{take_all}
use Rattle.std.specs.Prelude.{None}
use Rattle.schema_tree.specs.declared.schema.Pair.{Pair}
use Rattle.typing_session.specs.Kept.{kept_on}
use Rattle.typing_session.proofs.Keeping.{gone_more, others_more}
use Rattle.typing_session.proofs.kept.Kept.forget_all.Goals as goal

pub loop-pair-preserved : goal.loop-pair-preserved
loop-pair-preserved c = record {
  gone = gone_more c.args.pairs.now c.args.self.now c.loop-pair.self c.forget.new.self c.loop-pair.pair-index (record { node = record { 0 = 0 }; shape = record { 0 = 0 } }) c.loop-pair-test.true c.forget.ensures c.loop-pair.invariant.gone;
  others = others_more c.args.pairs.now c.args.self.now c.loop-pair.self c.forget.new.self c.loop-pair.pair-index (record { node = record { 0 = 0 }; shape = record { 0 = 0 } }) c.loop-pair-test.true c.forget.ensures c.loop-pair.invariant.others;
}

pub returns-clause-gone : goal.returns-clause-gone
returns-clause-gone c =
    subst (λ xs. (q : Pair) → Contains xs q → kept_on c.loop-pair.self q ≡ None) (take_all c.loop-pair.pair-index c.args.pairs.now c.loop-pair-test.false) c.loop-pair.invariant.gone
