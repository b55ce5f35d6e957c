use Rattle.std.proofs.Common.{arith, rules, subst, sym}
use Rattle.std.proofs.lemmas.List.{take_more}
use Rattle.call_parts.specs.Given.{HoldsGiven}
use Rattle.call_parts.proofs.Holding.{holds_more, not_own_names, own_names, own_names_more, wrong_name_at}
use Rattle.call_parts.proofs.asked.files_of.Goals as goal

pub loop-file-preserved : goal.loop-file-preserved
loop-file-preserved c =
    let added = c.in_ok-add_new.ensures in (
      subst (HoldsGiven _) (sym (take_more c.args.given.now c.loop-file.file-index _ c.loop-file-test.true))
          (holds_more _ _ _ _ c.loop-file.invariant.0 added.absent added.set added.others),
      own_names_more _ _ _ _ c.loop-file.invariant.0 added.absent c.loop-file.invariant.1,
    )

pub returns-in_err-add_new-clause-not_utf8 : goal.returns-in_err-add_new-clause-not_utf8
returns-in_err-add_new-clause-not_utf8 c = λ is.
    wrong_name_at c.args.given.now c.loop-file.file-index _ c.loop-file-test.true (c.add_new.ensures.not_utf8 (search rules))

pub returns-in_err-add_new-clause-twice : goal.returns-in_err-add_new-clause-twice
returns-in_err-add_new-clause-twice c = λ is.
    not_own_names _ c.args.given.now c.loop-file.file-index _ c.loop-file-test.true c.loop-file.invariant.0
    (c.add_new.ensures.twice (search rules))

pub returns-clause-own_names : goal.returns-clause-own_names
returns-clause-own_names c =
    own_names c.args.given.now c.loop-file.file-index (omega (arith, c.loop-file-test.false)) c.loop-file.invariant.1
