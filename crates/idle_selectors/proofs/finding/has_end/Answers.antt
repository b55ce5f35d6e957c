use Rattle.std.proofs.Common.{◌≡◌, false, rules, true}
use Rattle.idle_selectors.proofs.Found.{end_else, end_first}
use Rattle.idle_selectors.proofs.finding.has_end.Goals as goal

pub returns-then-is_subject : goal.returns-then-is_subject
returns-then-is_subject c =
    let so : c.is_subject.result ≡ true = search rules in
    end_first c.args.graph.now.triples c.args.node c.is_subject.result so c.is_subject.ensures

pub returns-else-is_subject : goal.returns-else-is_subject
returns-else-is_subject c =
    let off : c.is_subject.result ≡ false = search rules in
    end_else c.args.graph.now.triples c.args.node c.is_subject.result c.is_object.result off c.is_subject.ensures c.is_object.ensures
