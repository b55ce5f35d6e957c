use Rattle.std.proofs.Common.{◌≡◌, rules, true}
use Rattle.rdf_cursor.specs.Lent.{spelled}
use Rattle.rdf_cursor.specs.Symbols.{is_symbol}
use Rattle.rdf_cursor.specs.declared.symbols.Symbol.TheVariants.{IriRef}
use Rattle.term_tokens.proofs.Texts.{absolute_answers, relative_answers}
use Rattle.term_tokens.proofs.terms.absolute_iri.Goals as goal

pub returns-then-not-is_absolute : goal.returns-then-not-is_absolute
unfolding is_symbol
returns-then-not-is_absolute c =
    let terminal : is_symbol IriRef (spelled c.args.token) ≡ true = search rules in
    relative_answers c.args.bounded (spelled c.args.token) c.in_ok-iri.iri _ _ terminal c.in_ok-iri.ensures c.as_str.ensures.value c.is_absolute.ensures c.if-not-is_absolute.true

pub returns : goal.returns
unfolding is_symbol
returns c =
    let terminal : is_symbol IriRef (spelled c.args.token) ≡ true = search rules in
    absolute_answers c.args.bounded _ (spelled c.args.token) c.in_ok-iri.iri _ _ terminal c.in_ok-iri.ensures c.as_str.ensures.value c.is_absolute.ensures c.if-not-is_absolute.false c.limit.ensures.answer
