use Rattle.std.proofs.Common.{length}
use denote.Text.{Utf8}
use denote.Shadow.{shadow}
use Rattle.session_script.proofs.Texts.{Comes}
use Rattle.session_script.proofs.reader.read_text.Given as goal

-- the commands so far are those of the lines before what is left
abbrev pub invariant-loop-line : goal.invariant-loop-line
invariant-loop-line l = record {
  text : shadow (Utf8 l.rest);
  comes : Comes l.fn.text l.rest l.commands.items;
}

abbrev pub decreases-loop-line : goal.decreases-loop-line
decreases-loop-line l = length l.rest
