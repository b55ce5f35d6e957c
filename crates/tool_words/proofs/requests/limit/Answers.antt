use Rattle.tool_words.proofs.Limits.{is_budget}
use Rattle.tool_words.proofs.requests.limit.Goals as goal

pub returns-in-Some-clause-missed : goal.returns-in-Some-clause-missed
returns-in-Some-clause-missed c = λ none n h. c.budget.ensures.missed none n (is_budget _ c.args.value c.in-Some.field-0 n c.in-Some.is h)
