use Rattle.std.proofs.Common.{◌∙◌, ap, sym}
use Rattle.std.specs.Option.{option_map}
use Rattle.std.specs.Prelude.{Some}
use Rattle.shard_answers.specs.Answers.{lacking_line}
use Rattle.shard_answers.proofs.covers.text_if_lacking.Goals as goal

pub returns-in_ok-lacking_line-in-Some : goal.returns-in_ok-lacking_line-in-Some
returns-in_ok-lacking_line-in-Some c = λ lines back is_part.
    ap (λ text. Some text) c.in_ok-lacking_line-in-Some.ensures
    ∙ ap (option_map (lacking_line c.args.name.now)) (sym (ap (option_map (λ l. l.now)) c.in-Some.is) ∙ c.in_ok-line.ensures lines back is_part)

pub returns-in-None : goal.returns-in-None
returns-in-None c = λ lines back is_part.
    ap (option_map (lacking_line c.args.name.now)) (sym (ap (option_map (λ l. l.now)) c.in-None.is) ∙ c.in_ok-line.ensures lines back is_part)
