-- What a program that stores nothing has printed where printing stopped.
use Rattle.std.specs.Prelude.{ℕ, List, ◌⊎◌}
use Rattle.shex_io.specs.Sinks.{Gains, GainsPrefix}
use Rattle.program_ends.specs.Printing.{IsQuiet, SinkSeen}

-- the line is due to the error stream: it says what is wrong with the words, a file, or a call on a file
abbrev pub IsDueBy : (Faulty Refused Failed : List ℕ → Type 0) → List ℕ → Type 0
IsDueBy Faulty Refused Failed line = Faulty line ⊎ (Refused line ⊎ Failed line)

-- the output got a prefix of the text that answers, and the error stream nothing; or the output got that text whole, and the error
-- stream a prefix of the notes; or the error stream got a prefix of the line that is due to it, and the output nothing
pub data ArePrintedInPart (Due : List ℕ → Type 0) (Answers : ℕ → List ℕ → List ℕ → Type 0) (out err : SinkSeen) : Type 0 where
  answer_in_part : (text notes : List ℕ) (wanted : ℕ) → Answers wanted text notes → GainsPrefix out.got out.got_after text → IsQuiet err → ArePrintedInPart Due Answers out err
  notes_in_part : (text notes : List ℕ) (wanted : ℕ) → Answers wanted text notes → Gains out.got out.got_after text → GainsPrefix err.got err.got_after notes → ArePrintedInPart Due Answers out err
  line_in_part : (line : List ℕ) → Due line → IsQuiet out → GainsPrefix err.got err.got_after line → ArePrintedInPart Due Answers out err

-- nothing was printed, and no fault of a sink came
abbrev pub AreQuiet : SinkSeen → SinkSeen → Type 0
AreQuiet out err = IsQuiet out × IsQuiet err
