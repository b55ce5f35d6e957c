use Rattle.std.proofs.Common.{sym, ◌∙◌}
use Rattle.rdf_cursor.specs.Lent.{spelled}
use Rattle.term_tokens.specs.Scopes.{scope_in}
use Rattle.term_tokens.proofs.LocalNames.{itself, name_answers, name_holds}
use Rattle.term_tokens.proofs.terms.name.Goals as goal

pub returns-then-stands_for_itself : goal.returns-then-stands_for_itself
returns-then-stands_for_itself c =
    name_answers c.args.bounded c.behind_prefix.result (scope_in c.args.names.now) (spelled c.args.token) c.local_name-written.result.now _
    (itself (spelled c.args.token) _ c.requires.name c.requires.spelled c.local_name-written.utf8 c.local_name-written.ensures (sym c.stands_for_itself.ensures
    ∙ c.if-stands_for_itself.true)) c.prefix_of.ensures c.behind_prefix.ensures

pub unescaped-requires-clause-holds : goal.unescaped-requires-clause-holds
unescaped-requires-clause-holds c = name_holds _ c.requires.name
