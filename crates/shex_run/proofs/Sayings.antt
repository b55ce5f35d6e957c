-- What is printed and stored with each status.
use Rattle.std.proofs.Common.{◌≡◌, sym, subst, refl, List, ℕ, ◌⊎◌, inl, inr, ◌<◌, arith}
use Rattle.input_names.specs.Names.{Text}
use Rattle.shex_io.specs.Sinks.{Gains}
use Rattle.program_ends.specs.Ends.{FilesSeen}
use Rattle.program_ends.specs.Printing.{IsCut, IsQuiet, PrintsBoth, PrintsTo, SinkSeen}
use Rattle.shex_run.specs.Endings.{Ends, IsFailedBy, IsRefusedBy, IsRejectedBy, IsRespondedTo, IsWordsLine, answered, failed, faulty, refused, rejected, wanting}
use Rattle.shex_run.specs.Statuses.{IsAnswering, IsInterrupted, IsStatus}
use Rattle.shex_run.proofs.Closing.{five_interrupts, low_wanted, other_both, other_cut, other_status, wanted_both, wanted_or}

-- ---- what is printed whole

-- a line whose status came is printed whole
whole_line : (sink : SinkSeen) (text : List ℕ) (wanted status : ℕ) → status < 7 → PrintsTo sink text wanted status → (status ≡ wanted) × Gains sink.got sink.got_after text
whole_line sink text wanted status low (inl h) = (h.0, h.1)
whole_line sink text wanted status low (inr cut) = absurd (other_cut sink text status status low cut refl)

whole_both : (out err : SinkSeen) (text notes : List ℕ) (wanted status : ℕ) → status < 7 → PrintsBoth out err text notes wanted status → (status ≡ wanted) ×
    Gains out.got out.got_after text × Gains err.got err.got_after notes
whole_both out err text notes wanted status low (inl h) = let (is, gains) = whole_line err notes wanted status low h.2 in (is, h.0, gains)
whole_both out err text notes wanted status low (inr h) = absurd (other_cut out text status status low h.0 refl)

-- ---- statuses apart

-- a status of a line
abbrev IsOfLine : ℕ → Type 0
IsOfLine status = (status ≡ 2) ⊎ ((status ≡ 3) ⊎ ((status ≡ 5) ⊎ (status ≡ 6)))

line_low : (status : ℕ) → IsOfLine status → status < 7
line_low status (inl e) = omega (arith, e)
line_low status (inr (inl e)) = omega (arith, e)
line_low status (inr (inr (inl e))) = omega (arith, e)
line_low status (inr (inr (inr e))) = omega (arith, e)

-- is not that of an answer
line_apart : (status other : ℕ) → IsOfLine status → IsAnswering other → status ≡ other → ⊥
line_apart status other (inl e) answers same = two_apart other (omega (arith, e, same)) answers
  where
    two_apart : (n : ℕ) → n ≡ 2 → IsAnswering n → ⊥
    two_apart n is (inl f) = absurd (omega (arith, is, f))
    two_apart n is (inr (inl f)) = absurd (omega (arith, is, f))
    two_apart n is (inr (inr f)) = absurd (omega (arith, is, f))
line_apart status other (inr (inl e)) answers same = three_apart other (omega (arith, e, same)) answers
  where
    three_apart : (n : ℕ) → n ≡ 3 → IsAnswering n → ⊥
    three_apart n is (inl f) = absurd (omega (arith, is, f))
    three_apart n is (inr (inl f)) = absurd (omega (arith, is, f))
    three_apart n is (inr (inr f)) = absurd (omega (arith, is, f))
line_apart status other (inr (inr (inl e))) answers same = let low : other < 5 = low_wanted other answers in absurd (omega (arith, e, same, low))
line_apart status other (inr (inr (inr e))) answers same = let low : other < 5 = low_wanted other answers in absurd (omega (arith, e, same, low))

-- an answer has no status of a line
no_answer : (out err : SinkSeen) (text notes : List ℕ) (wanted status : ℕ) → IsAnswering wanted → IsOfLine status → PrintsBoth out err text notes wanted status → ⊥
no_answer out err text notes wanted status low line prints =
    other_both out err text notes wanted status status (λ e. line_apart status wanted line low (sym e)) (line_low status line) prints refl

-- and a line none of an answer
no_line : (sink : SinkSeen) (text : List ℕ) (wanted status : ℕ) → IsOfLine wanted → IsAnswering status → PrintsTo sink text wanted status → ⊥
no_line sink text wanted status line answers prints =
    let low : status < 5 = low_wanted status answers in
    other_status sink text wanted status status (λ e. line_apart wanted status line answers e) (omega (arith, low)) prints refl

-- ---- the ways to end

any_status : (wanted status : ℕ) → IsStatus wanted → (status ≡ wanted) ⊎ IsInterrupted status → IsStatus status
any_status wanted status is (inl e) = subst IsStatus (sym e) is
any_status wanted status is (inr (inl e)) = inr (inr (inr (inl e)))
any_status wanted status is (inr (inr (inl e))) = inr (inr (inr (inr (inr (inl e)))))
any_status wanted status is (inr (inr (inr e))) = inr (inr (inr (inr (inr (inr e)))))

module _ (words : List Text) (files : FilesSeen) (out err : SinkSeen) (status : ℕ) where
  pub is_status : Ends words files out err status → IsStatus status
  is_status (faulty line by left quiet prints) = any_status 2 status (inr (inl refl)) (wanted_or err line 2 status prints)
  is_status (answered text notes wanted low r same prints) = any_status wanted status (inl low) (wanted_both out err text notes wanted status prints)
  is_status (refused line by left quiet prints) = any_status 3 status (inr (inr (inl refl))) (wanted_or err line 3 status prints)
  is_status (rejected line by left quiet prints) = any_status 6 status (inr (inr (inr (inr (inl refl))))) (wanted_or err line 6 status prints)
  is_status (failed line by have quiet prints) = any_status 5 status (inr (inr (inr (inl refl)))) (wanted_or err line 5 status prints)
  is_status (wanting stored same quiet also e) = inr (inr (inr (inr (inr (inr e)))))

  -- with the status of an answer its text and its notes are printed
  pub answers : IsAnswering status → Ends words files out err status → (text notes : List ℕ) ×
      IsRespondedTo files.told files.told_after words status text notes × Gains out.got out.got_after text × Gains err.got err.got_after notes
  answers at (faulty line by left quiet prints) = absurd (no_line err line 2 status (inl refl) at prints)
  answers at (answered text notes wanted low r same prints) =
      let few : status < 5 = low_wanted status at in
      let (is, gains, noted) = whole_both out err text notes wanted status (omega (arith, few)) prints in
      (text, notes, subst (λ n. IsRespondedTo files.told files.told_after words n text notes) (sym is) r, gains, noted)
  answers at (refused line by left quiet prints) = absurd (no_line err line 3 status (inr (inl refl)) at prints)
  answers at (rejected line by left quiet prints) = absurd (no_line err line 6 status (inr (inr (inr refl))) at prints)
  answers at (failed line by have quiet prints) = absurd (no_line err line 5 status (inr (inr (inl refl))) at prints)
  answers at (wanting stored same quiet also e) = let few : status < 5 = low_wanted status at in absurd (omega (arith, few, e))

  -- with each other the line that is due
  pub two_says : status ≡ 2 → Ends words files out err status → (line : List ℕ) × IsWordsLine words line × Gains err.got err.got_after line
  two_says at (faulty line by left quiet prints) = (line, by, (whole_line err line 2 status (omega (arith, at)) prints).1)
  two_says at (answered text notes wanted low r same prints) = absurd (no_answer out err text notes wanted status low (inl at) prints)
  two_says at (refused line by left quiet prints) = absurd (other_status err line 3 status 2 (λ e. absurd (omega (arith, e))) (omega arith) prints at)
  two_says at (rejected line by left quiet prints) = absurd (other_status err line 6 status 2 (λ e. absurd (omega (arith, e))) (omega arith) prints at)
  two_says at (failed line by have quiet prints) = absurd (other_status err line 5 status 2 (λ e. absurd (omega (arith, e))) (omega arith) prints at)
  two_says at (wanting stored same quiet also e) = absurd (omega (arith, at, e))

  pub three_says : status ≡ 3 → Ends words files out err status → (line : List ℕ) × IsRefusedBy files.told words line × Gains err.got err.got_after line
  three_says at (faulty line by left quiet prints) = absurd (other_status err line 2 status 3 (λ e. absurd (omega (arith, e))) (omega arith) prints at)
  three_says at (answered text notes wanted low r same prints) = absurd (no_answer out err text notes wanted status low (inr (inl at)) prints)
  three_says at (refused line by left quiet prints) = (line, by, (whole_line err line 3 status (omega (arith, at)) prints).1)
  three_says at (rejected line by left quiet prints) = absurd (other_status err line 6 status 3 (λ e. absurd (omega (arith, e))) (omega arith) prints at)
  three_says at (failed line by have quiet prints) = absurd (other_status err line 5 status 3 (λ e. absurd (omega (arith, e))) (omega arith) prints at)
  three_says at (wanting stored same quiet also e) = absurd (omega (arith, at, e))

  pub five_says : status ≡ 5 → Ends words files out err status → (line : List ℕ) × IsFailedBy files words line × Gains err.got err.got_after line
  five_says at (faulty line by left quiet prints) = absurd (other_status err line 2 status 5 (λ e. absurd (omega (arith, e))) (omega arith) prints at)
  five_says at (answered text notes wanted low r same prints) = absurd (no_answer out err text notes wanted status low (inr (inr (inl at))) prints)
  five_says at (refused line by left quiet prints) = absurd (other_status err line 3 status 5 (λ e. absurd (omega (arith, e))) (omega arith) prints at)
  five_says at (rejected line by left quiet prints) = absurd (other_status err line 6 status 5 (λ e. absurd (omega (arith, e))) (omega arith) prints at)
  five_says at (failed line by have quiet prints) = (line, by, (whole_line err line 5 status (omega (arith, at)) prints).1)
  five_says at (wanting stored same quiet also e) = absurd (omega (arith, at, e))

  pub six_says : status ≡ 6 → Ends words files out err status → (line : List ℕ) × IsRejectedBy files.told words line × Gains err.got err.got_after line
  six_says at (faulty line by left quiet prints) = absurd (other_status err line 2 status 6 (λ e. absurd (omega (arith, e))) (omega arith) prints at)
  six_says at (answered text notes wanted low r same prints) = absurd (no_answer out err text notes wanted status low (inr (inr (inr at))) prints)
  six_says at (refused line by left quiet prints) = absurd (other_status err line 3 status 6 (λ e. absurd (omega (arith, e))) (omega arith) prints at)
  six_says at (rejected line by left quiet prints) = (line, by, (whole_line err line 6 status (omega (arith, at)) prints).1)
  six_says at (failed line by have quiet prints) = absurd (other_status err line 5 status 6 (λ e. absurd (omega (arith, e))) (omega arith) prints at)
  six_says at (wanting stored same quiet also e) = absurd (omega (arith, at, e))

  -- and nothing to the output
  pub nothing_out : IsOfLine status → Ends words files out err status → out.got_after ≡ out.got
  nothing_out at (faulty line by left quiet prints) = quiet.got_same
  nothing_out at (answered text notes wanted low r same prints) = absurd (no_answer out err text notes wanted status low at prints)
  nothing_out at (refused line by left quiet prints) = quiet.got_same
  nothing_out at (rejected line by left quiet prints) = quiet.got_same
  nothing_out at (failed line by have quiet prints) = quiet.got_same
  nothing_out at (wanting stored same quiet also e) = quiet.got_same

  -- where words, files or the proof are refused nothing is stored
  pub unstored : (status ≡ 2) ⊎ ((status ≡ 3) ⊎ (status ≡ 6)) → Ends words files out err status → files.told_after ≡ files.told
  unstored at (faulty line by left quiet prints) = left.told_same
  unstored at (answered text notes wanted low r same prints) = absurd (no_answer out err text notes wanted status low (of_line at) prints)
    where
      of_line : (status ≡ 2) ⊎ ((status ≡ 3) ⊎ (status ≡ 6)) → IsOfLine status
      of_line (inl e) = inl e
      of_line (inr (inl e)) = inr (inl e)
      of_line (inr (inr e)) = inr (inr (inr e))
  unstored at (refused line by left quiet prints) = left.told_same
  unstored at (rejected line by left quiet prints) = left.told_same
  unstored at (failed line by have quiet prints) = go at
    where
      go : (status ≡ 2) ⊎ ((status ≡ 3) ⊎ (status ≡ 6)) → files.told_after ≡ files.told
      go (inl e) = absurd (other_status err line 5 status 2 (λ f. absurd (omega (arith, f))) (omega arith) prints e)
      go (inr (inl e)) = absurd (other_status err line 5 status 3 (λ f. absurd (omega (arith, f))) (omega arith) prints e)
      go (inr (inr e)) = absurd (other_status err line 5 status 6 (λ f. absurd (omega (arith, f))) (omega arith) prints e)
  unstored at (wanting stored same quiet also e) = go at
    where
      go : (status ≡ 2) ⊎ ((status ≡ 3) ⊎ (status ≡ 6)) → files.told_after ≡ files.told
      go (inl f) = absurd (omega (arith, e, f))
      go (inr (inl f)) = absurd (omega (arith, e, f))
      go (inr (inr f)) = absurd (omega (arith, e, f))

  -- ---- faults that came

  -- a fault of the files interrupts
  pub fault_interrupts : files.faults < files.faults_after → Ends words files out err status → IsInterrupted status
  fault_interrupts more (faulty line by left quiet prints) = let same = left.faults_same in absurd (omega (arith, more, same))
  fault_interrupts more (answered text notes wanted low r same prints) = absurd (omega (arith, more, same))
  fault_interrupts more (refused line by left quiet prints) = let same = left.faults_same in absurd (omega (arith, more, same))
  fault_interrupts more (rejected line by left quiet prints) = let same = left.faults_same in absurd (omega (arith, more, same))
  fault_interrupts more (failed line by have quiet prints) = five_interrupts status (wanted_or err line 5 status prints)
  fault_interrupts more (wanting stored same quiet also e) = inr (inr e)

  abbrev SinkFault : Type 0
  SinkFault = (out.faults < out.faults_after) ⊎ (err.faults < err.faults_after)

  seven_cut : (sink : SinkSeen) (text : List ℕ) → IsCut sink.got sink.got_after sink.faults sink.faults_after text status → sink.faults < sink.faults_after → status ≡ 7
  seven_cut sink text (inl h) more = h.0
  seven_cut sink text (inr h) more = let same : sink.faults_after ≡ sink.faults = h.2 in absurd (omega (arith, more, same))

  seven_to : (sink : SinkSeen) (text : List ℕ) (wanted : ℕ) → PrintsTo sink text wanted status → sink.faults < sink.faults_after → status ≡ 7
  seven_to sink text wanted (inl h) more = let same : sink.faults_after ≡ sink.faults = h.2 in absurd (omega (arith, more, same))
  seven_to sink text wanted (inr cut) more = seven_cut sink text cut more

  seven_line : (line : List ℕ) (wanted : ℕ) → IsQuiet out → PrintsTo err line wanted status → SinkFault → status ≡ 7
  seven_line line wanted quiet prints (inl more) = let same = quiet.faults_same in absurd (omega (arith, more, same))
  seven_line line wanted quiet prints (inr more) = seven_to err line wanted prints more

  seven_answer : (text notes : List ℕ) (wanted : ℕ) → PrintsBoth out err text notes wanted status → SinkFault → status ≡ 7
  seven_answer text notes wanted (inl (gains, same, prints)) (inl more) = absurd (omega (arith, more, same))
  seven_answer text notes wanted (inl (gains, same, prints)) (inr more) = seven_to err notes wanted prints more
  seven_answer text notes wanted (inr (cut, quiet)) (inl more) = seven_cut out text cut more
  seven_answer text notes wanted (inr (cut, quiet)) (inr more) = let same = quiet.faults_same in absurd (omega (arith, more, same))

  -- and one of a sink gives 7
  pub sink_seven : SinkFault → Ends words files out err status → status ≡ 7
  sink_seven fault (faulty line by left quiet prints) = seven_line line 2 quiet prints fault
  sink_seven fault (answered text notes wanted low r same prints) = seven_answer text notes wanted prints fault
  sink_seven fault (refused line by left quiet prints) = seven_line line 3 quiet prints fault
  sink_seven fault (rejected line by left quiet prints) = seven_line line 6 quiet prints fault
  sink_seven fault (failed line by have quiet prints) = seven_line line 5 quiet prints fault
  sink_seven fault (wanting stored same quiet also e) = go fault
    where
      go : SinkFault → status ≡ 7
      go (inl more) = let still = quiet.faults_same in absurd (omega (arith, more, still))
      go (inr more) = let still = also.faults_same in absurd (omega (arith, more, still))
