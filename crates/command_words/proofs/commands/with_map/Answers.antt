use Rattle.std.proofs.Common.{◌∙◌, ap}
use Rattle.std.proofs.Math.Path.{ap₂}
use Rattle.std.proofs.lemmas.Result.{IfOk-weaker}
use Rattle.clap.specs.Words.{app_of, with_rule}
use Rattle.command_words.specs.Commands.{needed}
use Rattle.command_words.proofs.commands.with_map.Goals as goal

pub returns : goal.returns
returns c =
    let first = c.in_ok-command.ensures ∙ ap (with_rule (app_of c.args.command)) (c.needed.ensures.rule ∙ ap needed c.option.ensures.rule) in
    let second = c.in_ok-command-2.ensures ∙ ap₂ with_rule first c.option-2.ensures.rule in
    IfOk-weaker c.with-3.result _ _ (λ x e. e ∙ ap₂ with_rule second c.option-3.ensures.rule) c.with-3.ensures
