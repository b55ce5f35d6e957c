use Rattle.schema_tree.specs.declared.verdicts.Verdict.TheVariants.{Unknown, Yes}
use Rattle.typing_refiner.proofs.Confirmations.{further_as, still}
use Rattle.typing_refiner.proofs.Steps.{all_wait, nearer, yes_unknown}
use Rattle.std.proofs.Common.{◌∙◌, arith, sym, true≢false}
use Rattle.typing_refiner.proofs.Spending.{changed}
use Rattle.typing_refiner.proofs.ground.Ground.confirm_next.Goals as goal

pub returns-then-branch-clause-looked : goal.returns-then-branch-clause-looked
returns-then-branch-clause-looked g c =
    λ lower gone r. still c.args.self.now c.requires.ready _ lower c.args.stratum c.args.marks.now gone c.args.at c.args.agenda.now r
    (λ p here. (c.in_ok-matches.ensures.decided p here).0 c.if-branch.true)

pub returns-clause-looked : goal.returns-clause-looked
returns-clause-looked g c =
    λ lower gone r. further_as c.args.self.now c.requires.ready _ lower c.args.stratum c.args.marks.now gone c.args.at c.args.agenda.now r
    (λ p here can. true≢false (sym ((c.in_ok-matches.ensures.decided p here).1 can) ∙ c.if-branch.false)) c.requires.least c.set_mark.new.marks c.set_mark.ensures
    c.put_back.new.agenda c.in_ok-put_back.ensures

pub returns-clause-all : goal.returns-clause-all
returns-clause-all g c =
    all_wait c.args.self.now c.args.stratum Yes Unknown yes_unknown c.args.marks.now c.args.at c.args.agenda.now c.put_back.new.agenda c.set_mark.new.marks c.set_mark.ensures
    c.requires.waits c.requires.least c.requires.all (λ q. (c.in_ok-put_back.ensures q).0)

pub returns-clause-nearer : goal.returns-clause-nearer
returns-clause-nearer g c =
    nearer c.args.self.now c.args.stratum Yes Unknown yes_unknown c.args.marks.now c.args.at c.args.agenda.now c.put_back.new.agenda c.set_mark.new.marks c.set_mark.ensures
    c.requires.waits c.requires.least c.requires.all (λ q. (c.in_ok-put_back.ensures q).0) c.len-count.ensures.few

pub returns-clause-paid : goal.returns-clause-paid
returns-clause-paid g c = λ width give.
    let less = changed c.args.self.now width c.args.stratum Yes Unknown yes_unknown c.args.marks.now c.args.at c.args.agenda.now c.put_back.new.agenda c.set_mark.new.marks c.set_mark.ensures
    c.requires.waits (λ q. (c.in_ok-put_back.ensures q).0) in
    let spent = c.in_ok-matches.ensures.spent width give in omega (arith, less, spent)
