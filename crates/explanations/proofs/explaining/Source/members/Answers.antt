use Rattle.std.proofs.Common.{subst, sym}
use Rattle.std.proofs.lemmas.Result.{IfOk-weaker}
use Rattle.std.specs.List.{AllZip}
use Rattle.explanations.specs.Blocks.{IsWhy, members_of}
use Rattle.explanations.proofs.explaining.Source.members.Goals as goal

pub returns-in-Member-clause-are : goal.returns-in-Member-clause-are
returns-in-Member-clause-are g c =
    IfOk-weaker c.whys.result _ _
    (λ v h all on. subst (λ z. AllZip (IsWhy c.args.self.now.schema.now c.args.self.now.terms.now (g.V.View.known c.args.self.now.view.now) all c.args.node)
    (members_of z) v.items) (sym c.in-Member.is) (h all on))
    c.whys.ensures.are
