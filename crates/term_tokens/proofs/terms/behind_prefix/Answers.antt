use Rattle.std.proofs.Common.{◌∙◌, ap, ◌++◌}
use Rattle.term_tokens.proofs.Texts.{behind_joined}
use Rattle.term_tokens.proofs.terms.behind_prefix.Goals as goal

pub returns : goal.returns
returns c = behind_joined c.args.bounded _ _ c.in-Some.iri.now _ _ c.utf8.local c.in-Some.ensures.iri
    (c.in_ok-push_str-2.ensures.bytes ∙ ap (λ x. x ++ c.args.local.now) (c.in_ok-push_str.ensures.bytes ∙ ap (λ x. x ++ c.in-Some.iri.now) c.in_ok-whole.ensures.bytes)) c.limit.ensures.answer
