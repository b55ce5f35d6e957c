use Rattle.std.proofs.Common.{Contains, subst}
use Rattle.std.specs.Prelude.{◌↔◌, IfSome, IsNone}
use Rattle.locality_laws.specs.Local.{IsVerdict}
use Rattle.typing_session.specs.Questions.{IsVerdictByAll}
use Rattle.typing_session.specs.Seen.{Seen}
use Rattle.typing_session.proofs.Asked.{peeked, peeked_by_all, peeked_none}
use Rattle.typing_session.proofs.session.Session.peek.Goals as goal

pub returns-clause-verdict : goal.returns-clause-verdict
returns-clause-verdict c =
    subst (λ (x : Seen). IfSome c.get.result (IsVerdict x.schema x.terms x.graph x.strata x.budget c.args.pair)) c.self.view_is
    (peeked c.self.inside.schema c.self.inside.terms c.self.inside.graph.triples c.self.inside.strata c.self.inside.budget c.self.inside.kept c.args.pair c.self.invariant.2.verdicts c.get.result c.get.ensures)

pub returns-clause-by_all : goal.returns-clause-by_all
returns-clause-by_all c =
    subst (λ (x : Seen). IfSome c.get.result (IsVerdictByAll x.schema x.terms x.graph x.budget c.args.pair)) c.self.view_is
    (peeked_by_all c.self.inside.schema c.self.inside.terms c.self.inside.graph.triples c.self.inside.strata c.self.inside.budget c.self.inside.kept c.args.pair c.self.invariant.2.verdicts c.strata_are_independent.ensures.verdict c.self.invariant.0.loaded c.self.invariant.0.stratified c.get.result c.get.ensures)

pub returns-clause-absent : goal.returns-clause-absent
returns-clause-absent c =
    subst (λ (x : Seen). IsNone c.get.result ↔ (¬ Contains x.kept c.args.pair)) c.self.view_is (peeked_none c.self.inside.kept c.args.pair c.get.result c.get.ensures)
