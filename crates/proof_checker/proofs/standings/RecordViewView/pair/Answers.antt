use Rattle.proof_checker.proofs.Known.{answers_no, answers_unknown, answers_yes}
use Rattle.proof_checker.proofs.standings.RecordViewView.pair.Goals as goal

pub returns-then-takes_plus : goal.returns-then-takes_plus
returns-then-takes_plus c =
    answers_yes c.args.self.now.strata.now c.args.self.now.standings.now c.args.self.now.reader c.args.pair c.of-standing.result c.stratum_of-stratum.result
    c.of-standing.ensures c.stratum_of-stratum.ensures c.if-takes_plus.ensures

pub returns-then-sees_rank : goal.returns-then-sees_rank
returns-then-sees_rank c =
    answers_no c.args.self.now.strata.now c.args.self.now.standings.now c.args.self.now.reader c.args.pair c.of-standing.result c.stratum_of-stratum.result
    c.of-standing.ensures c.stratum_of-stratum.ensures c.if-takes_plus.ensures c.if-sees_rank.ensures

pub returns-else-sees_rank : goal.returns-else-sees_rank
returns-else-sees_rank c =
    answers_unknown c.args.self.now.strata.now c.args.self.now.standings.now c.args.self.now.reader c.args.pair c.of-standing.result c.stratum_of-stratum.result
    c.of-standing.ensures c.stratum_of-stratum.ensures c.if-takes_plus.ensures c.if-sees_rank.ensures
