use Rattle.std.proofs.Common.{◌∙◌}
use Rattle.command_words.proofs.Divided.{are_parts, empty_text, parts, some_text, undivided}
use Rattle.command_words.proofs.imports.divided.Goals as goal

pub returns-in_err-iri-clause-missed : goal.returns-in_err-iri-clause-missed
returns-in_err-iri-clause-missed c = λ none. undivided c.args.word.now c.in_err-iri.ensures.cases

pub returns-then-is_empty-clause-missed : goal.returns-then-is_empty-clause-missed
returns-then-is_empty-clause-missed c = λ none i d.
    d.iri ((are_parts c.args.word.now c.in_ok-iri.iri.now c.in_ok-iri.file.now i (parts c.args.word.now c.in_ok-iri.iri.now c.in_ok-iri.file.now c.in_ok-iri.ensures.cases) d).0
    ∙ empty_text c.in_ok-iri.iri.now c.is_empty.result c.is_empty.ensures c.if-is_empty.true)

pub returns-then-is_empty-2-clause-missed : goal.returns-then-is_empty-2-clause-missed
returns-then-is_empty-2-clause-missed c = λ none i d.
    d.file ((are_parts c.args.word.now c.in_ok-iri.iri.now c.in_ok-iri.file.now i (parts c.args.word.now c.in_ok-iri.iri.now c.in_ok-iri.file.now c.in_ok-iri.ensures.cases) d).1
    ∙ empty_text c.in_ok-iri.file.now c.is_empty-2.result c.is_empty-2.ensures c.if-is_empty-2.true)

pub returns-clause-found : goal.returns-clause-found
returns-clause-found c =
    let p = parts c.args.word.now c.in_ok-iri.iri.now c.in_ok-iri.file.now c.in_ok-iri.ensures.cases in
    record {
      whole = p.whole;
      last = p.last;
      iri = some_text c.in_ok-iri.iri.now c.is_empty.result c.is_empty.ensures c.if-is_empty.false;
      file = some_text c.in_ok-iri.file.now c.is_empty-2.result c.is_empty-2.ensures c.if-is_empty-2.false;
    }
