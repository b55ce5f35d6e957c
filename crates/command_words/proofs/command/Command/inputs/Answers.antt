use Rattle.std.proofs.Common.{ap}
use Rattle.std.specs.Prelude.{option_map}
use Rattle.command_words.specs.Lent.{command_of}
use Rattle.command_words.specs.Requests.{checking, upgrading, validation}
use Rattle.command_words.proofs.command.Command.inputs.Goals as goal

pub returns-in-Validate : goal.returns-in-Validate
returns-in-Validate c =
    (validation c.in-Validate.validation.map.now (option_map (λ s. s.now) c.in-Validate.validation.proof) c.in-Validate.validation.budget, ap command_of c.in-Validate.is)

pub returns-in-Check : goal.returns-in-Check
returns-in-Check c = (checking c.in-Check.checking.proof.now, ap command_of c.in-Check.is)

pub returns-in-Upgrade : goal.returns-in-Upgrade
returns-in-Upgrade c = (upgrading c.in-Upgrade.upgrading.proof.now c.in-Upgrade.upgrading.to.now, ap command_of c.in-Upgrade.is)
