use Rattle.session_run.specs.Running.{IsRunning}
use Rattle.session_run.proofs.running.run_with.Given as goal

abbrev pub invariant-loop-command : goal.invariant-loop-command
invariant-loop-command g l = IsRunning l.fn.session l.fn.commands.items l.session l.said l.command-iterator.rest.items
