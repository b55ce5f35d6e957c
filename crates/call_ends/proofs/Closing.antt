-- What the ways to end say of the status, of what is printed and of faults.
use Rattle.std.proofs.Common.{◌≡◌, ◌≢◌, ◌∙◌, ap, sym, subst, refl, List, ℕ, [], ◌++◌, ◌⊎◌, inl, inr, ◌<◌, arith, append-nil, Bool, true, false}
use Rattle.std.specs.Prelude.{Option, Some, None, IsTrue}
use Rattle.shex_io.specs.Faults.{Rose}
use Rattle.shex_io.specs.Sinks.{Gains, GainsPrefix}
use Rattle.program_ends.specs.Ends.{AreLeft, EndsBy, FilesSeen, answered, failed, faulty, refused, wanting}
use Rattle.call_ends.specs.Parts.{AreQuiet, ArePrintedInPart, IsDueBy, answer_in_part, line_in_part, notes_in_part}
use Rattle.program_ends.specs.Printing.{IsCut, IsQuiet, PrintsBoth, PrintsTo, SinkSeen}
use Rattle.call_ends.specs.Statuses.{IsAnswering, IsCutOff, IsInterrupted, IsStatus, status_by}
use Rattle.call_ends.specs.Words.{RefusesWords}

-- ---- the status of an answer

pub by_status : (undecided : Bool) → IsAnswering (status_by undecided)
unfolding status_by
by_status true = inr refl
by_status false = inl refl

-- it is 4 where something is undecided, and 0 where nothing is
pub four_by : (undecided : Bool) (status : ℕ) → status ≡ status_by undecided → IsTrue undecided → status ≡ 4
unfolding status_by
four_by true status is t = is
four_by false status is t = absurd cc

pub nought_by : (undecided : Bool) (status : ℕ) → status ≡ status_by undecided → ¬ IsTrue undecided → status ≡ 0
unfolding status_by
nought_by true status is none = absurd (none refl)
nought_by false status is none = is

-- with 0 nothing is
pub decided_by : (undecided : Bool) → 0 ≡ status_by undecided → undecided ≡ false
unfolding status_by
decided_by true is = absurd (omega (arith, is))
decided_by false is = refl

-- and with 4 something is
pub undecided_by : (undecided : Bool) → 4 ≡ status_by undecided → undecided ≡ true
unfolding status_by
undecided_by true is = refl
undecided_by false is = absurd (omega (arith, is))

-- ---- statuses of answers

-- a status below those of faults, and none of those with which a line is printed
pub record IsOfAnswer (status : ℕ) : Type 0 where
  pub low : status < 5
  pub not_two : status ≢ 2
  pub not_three : status ≢ 3

pub of_answering : (status : ℕ) → IsAnswering status → IsOfAnswer status
of_answering status (inl e) = record { low = omega (arith, e); not_two = λ at. omega (arith, e, at); not_three = λ at. omega (arith, e, at) }
of_answering status (inr e) = record { low = omega (arith, e); not_two = λ at. omega (arith, e, at); not_three = λ at. omega (arith, e, at) }

below_seven : (status : ℕ) → IsOfAnswer status → status < 7
below_seven status of = let low : status < 5 = of.low in omega (arith, low)

-- ---- one text

-- printing ends with the status that is wanted, or it stopped
wanted_or : (sink : SinkSeen) (text : List ℕ) (wanted status : ℕ) → PrintsTo sink text wanted status → (status ≡ wanted) ⊎ IsCutOff status
wanted_or sink text wanted status (inl h) = inl h.0
wanted_or sink text wanted status (inr (inl h)) = inr (inl h.0)
wanted_or sink text wanted status (inr (inr h)) = inr (inr h.0)

cut_off : (sink : SinkSeen) (text : List ℕ) (status : ℕ) → IsCut sink.got sink.got_after sink.faults sink.faults_after text status → IsCutOff status
cut_off sink text status (inl h) = inl h.0
cut_off sink text status (inr h) = inr h.0

wanted_both : (out err : SinkSeen) (text notes : List ℕ) (wanted status : ℕ) → PrintsBoth out err text notes wanted status → (status ≡ wanted) ⊎ IsCutOff status
wanted_both out err text notes wanted status (inl h) = wanted_or err notes wanted status h.2
wanted_both out err text notes wanted status (inr h) = inr (cut_off out text status h.0)

-- with a status below 7 the text is printed whole
not_cut : (status : ℕ) → status < 7 → IsCutOff status → ⊥
not_cut status low (inl e) = absurd (omega (arith, e, low))
not_cut status low (inr e) = absurd (omega (arith, e, low))

whole_line : (sink : SinkSeen) (text : List ℕ) (wanted status : ℕ) → status < 7 → PrintsTo sink text wanted status → (status ≡ wanted) × Gains sink.got sink.got_after text
whole_line sink text wanted status low (inl h) = (h.0, h.1)
whole_line sink text wanted status low (inr cut) = absurd (not_cut status low (cut_off sink text status cut))

whole_both : (out err : SinkSeen) (text notes : List ℕ) (wanted status : ℕ) → status < 7 → PrintsBoth out err text notes wanted status →
    (status ≡ wanted) × Gains out.got out.got_after text × Gains err.got err.got_after notes
whole_both out err text notes wanted status low (inl h) = let (is, gains) = whole_line err notes wanted status low h.2 in (is, h.0, gains)
whole_both out err text notes wanted status low (inr h) = absurd (not_cut status low (cut_off out text status h.0))

-- where printing stopped, a prefix of the text is printed
prefix_of_cut : (sink : SinkSeen) (text : List ℕ) (status : ℕ) → IsCut sink.got sink.got_after sink.faults sink.faults_after text status → GainsPrefix sink.got sink.got_after text
prefix_of_cut sink text status (inl h) = h.1
prefix_of_cut sink text status (inr h) = h.1

prefix_of : (sink : SinkSeen) (text : List ℕ) (wanted status : ℕ) → wanted < 7 → PrintsTo sink text wanted status → IsCutOff status → GainsPrefix sink.got sink.got_after text
prefix_of sink text wanted status low (inl h) at = let e : status ≡ wanted = h.0 in absurd (not_cut wanted low (subst IsCutOff e at))
prefix_of sink text wanted status low (inr cut) at = prefix_of_cut sink text status cut

-- with 7 a fault of the sink came
rose_of_cut : (sink : SinkSeen) (text : List ℕ) (status : ℕ) → status ≡ 7 → IsCut sink.got sink.got_after sink.faults sink.faults_after text status → Rose sink.faults sink.faults_after
rose_of_cut sink text status at (inl h) = h.2
rose_of_cut sink text status at (inr h) = let e : status ≡ 8 = h.0 in absurd (omega (arith, e, at))

rose_of : (sink : SinkSeen) (text : List ℕ) (wanted status : ℕ) → wanted < 7 → status ≡ 7 → PrintsTo sink text wanted status → Rose sink.faults sink.faults_after
rose_of sink text wanted status low at (inl h) = let e : status ≡ wanted = h.0 in absurd (omega (arith, e, at, low))
rose_of sink text wanted status low at (inr cut) = rose_of_cut sink text status at cut

-- and where one came, the status is 7
rises : (sink : SinkSeen) (A : Type 0) → sink.faults_after ≡ sink.faults → sink.faults < sink.faults_after → A
rises sink A still more = absurd (omega (arith, still, more))

seven_of_cut : (sink : SinkSeen) (text : List ℕ) (status : ℕ) → IsCut sink.got sink.got_after sink.faults sink.faults_after text status → sink.faults < sink.faults_after → status ≡ 7
seven_of_cut sink text status (inl h) more = h.0
seven_of_cut sink text status (inr h) more = rises sink (status ≡ 7) h.2 more

seven_of : (sink : SinkSeen) (text : List ℕ) (wanted status : ℕ) → PrintsTo sink text wanted status → sink.faults < sink.faults_after → status ≡ 7
seven_of sink text wanted status (inl h) more = rises sink (status ≡ 7) h.2 more
seven_of sink text wanted status (inr cut) more = seven_of_cut sink text status cut more

-- no bytes are nothing
pub gains_none : (before after : Option (List ℕ)) (notes : List ℕ) → notes ≡ [] → Gains before after notes → after ≡ before
gains_none None None notes none gains = refl
gains_none None (Some new) notes none gains = absurd gains
gains_none (Some old) None notes none gains = absurd gains
gains_none (Some old) (Some new) notes none gains = ap (λ z. Some z) (gains ∙ ap (λ n. old ++ n) none ∙ append-nil old)

-- ---- the ways to end

module _ (Faulty Refused Failed : List ℕ → Type 0) (Answers : ℕ → List ℕ → List ℕ → Type 0) (files : FilesSeen) (out err : SinkSeen) (status : ℕ) where
  abbrev Ends : Type 0
  Ends = EndsBy Faulty Refused Failed Answers files out err status

  -- words that are refused
  pub with_words : {E : Type 0} (memory error : E) (line : List ℕ) → (error ≢ memory → Faulty line) → AreLeft files → IsQuiet out → RefusesWords memory error line err status → Ends
  with_words memory error line at_fault left quiet (inl (is, silent, at)) = wanting left quiet silent at
  with_words memory error line at_fault left quiet (inr (apart, prints)) = faulty line (at_fault apart) left quiet prints

  -- nothing is stored
  pub told_stays : Ends → files.told_after ≡ files.told
  told_stays (faulty line by left quiet prints) = left.told_same
  told_stays (answered text notes wanted by left prints) = left.told_same
  told_stays (refused line by left quiet prints) = left.told_same
  told_stays (failed line by same later quiet prints) = same
  told_stays (wanting left quiet also at) = left.told_same

  -- what is so of the status that is wanted is so of the status, unless printing stopped
  at_wanted : (C : ℕ → Type 0) (wanted : ℕ) → C wanted → (status ≡ wanted) ⊎ IsCutOff status → C status ⊎ IsCutOff status
  at_wanted C wanted so (inl e) = inl (subst C (sym e) so)
  at_wanted C wanted so (inr cut) = inr cut

  pub comes_to : (C : ℕ → Type 0) → ((line : List ℕ) → Faulty line → C 2) → ((text notes : List ℕ) (wanted : ℕ) → Answers wanted text notes → C wanted) →
      ((line : List ℕ) → Refused line → C 3) → ((line : List ℕ) → Failed line → C 5) → Ends → C status ⊎ IsCutOff status
  comes_to C two with three five (faulty line by left quiet prints) = at_wanted C 2 (two line by) (wanted_or err line 2 status prints)
  comes_to C two with three five (answered text notes wanted by left prints) = at_wanted C wanted (with text notes wanted by) (wanted_both out err text notes wanted status prints)
  comes_to C two with three five (refused line by left quiet prints) = at_wanted C 3 (three line by) (wanted_or err line 3 status prints)
  comes_to C two with three five (failed line by same later quiet prints) = at_wanted C 5 (five line by) (wanted_or err line 5 status prints)
  comes_to C two with three five (wanting left quiet also at) = inr (inr at)

  -- what is so of the status that is wanted is so of the status, where a failed call leaves nothing to say
  pub concludes : (C : ℕ → Type 0) → ((line : List ℕ) → Faulty line → C 2) → ((text notes : List ℕ) (wanted : ℕ) → Answers wanted text notes → C wanted) →
      ((line : List ℕ) → Refused line → C 3) → Ends → C status ⊎ IsInterrupted status
  concludes C two with three ends =
      go (comes_to (λ n. C n ⊎ (n ≡ 5)) (λ line by. inl (two line by)) (λ text notes wanted by. inl (with text notes wanted by)) (λ line by. inl (three line by)) (λ line by. inr refl) ends)
    where
      go : (C status ⊎ (status ≡ 5)) ⊎ IsCutOff status → C status ⊎ IsInterrupted status
      go (inl (inl so)) = inl so
      go (inl (inr e)) = inr (inl e)
      go (inr cut) = inr (inr cut)

  -- ---- what is printed whole

  abbrev Says : (List ℕ → Type 0) → ℕ → Type 0
  Says P wanted = (status ≡ wanted) × ((line : List ℕ) × P line × Gains err.got err.got_after line) × (out.got_after ≡ out.got)

  abbrev Gives : Type 0
  Gives = (text notes : List ℕ) × Answers status text notes × Gains out.got out.got_after text × Gains err.got err.got_after notes

  abbrev Whole : Type 0
  Whole = Says Faulty 2 ⊎ (Gives ⊎ (Says Refused 3 ⊎ Says Failed 5))

  says : (P : List ℕ → Type 0) (wanted : ℕ) (line : List ℕ) → P line → status < 7 → IsQuiet out → PrintsTo err line wanted status → Says P wanted
  says P wanted line by low quiet prints = let (is, gains) = whole_line err line wanted status low prints in (is, (line, by, gains), quiet.got_same)

  whole : status < 7 → Ends → Whole
  whole low (faulty line by left quiet prints) = inl (says Faulty 2 line by low quiet prints)
  whole low (answered text notes wanted by left prints) =
      let (is, printed, noted) = whole_both out err text notes wanted status low prints in
      inr (inl (text, notes, subst (λ n. Answers n text notes) (sym is) by, printed, noted))
  whole low (refused line by left quiet prints) = inr (inr (inl (says Refused 3 line by low quiet prints)))
  whole low (failed line by same later quiet prints) = inr (inr (inr (says Failed 5 line by low quiet prints)))
  whole low (wanting left quiet also at) = absurd (omega (arith, at, low))

  -- with the status of an answer its text and its notes are printed
  no_fault : IsOfAnswer status → status ≡ 5 → ⊥
  no_fault of at = let low : status < 5 = of.low in absurd (omega (arith, low, at))

  pub gives : IsOfAnswer status → Ends → Gives
  gives of ends = go (whole (below_seven status of) ends)
    where
      go : Whole → Gives
      go (inl (is, said, same)) = absurd (of.not_two is)
      go (inr (inl gives)) = gives
      go (inr (inr (inl (is, said, same)))) = absurd (of.not_three is)
      go (inr (inr (inr (is, said, same)))) = absurd (no_fault of is)

  pub answers : IsAnswering status → Ends → Gives
  answers at ends = gives (of_answering status at) ends

  -- where an answer with 0 has no notes, nothing is printed to the error stream with it
  pub quietly : ((text notes : List ℕ) → Answers 0 text notes → notes ≡ []) → status ≡ 0 → Ends → err.got_after ≡ err.got
  quietly none at ends =
      let (text, notes, by, printed, noted) = answers (inl at) ends in
      gains_none err.got err.got_after notes (none text notes (subst (λ n. Answers n text notes) at by)) noted

  -- an answer has 0 or 4
  pub is_status : ((text notes : List ℕ) (wanted : ℕ) → Answers wanted text notes → IsAnswering wanted) → Ends → IsStatus status
  is_status low ends = go (concludes IsStatus (λ line by. inr (inl refl)) (λ text notes wanted by. inl (low text notes wanted by)) (λ line by. inr (inr (inl refl))) ends)
    where
      go : IsStatus status ⊎ IsInterrupted status → IsStatus status
      go (inl is) = is
      go (inr cut) = inr (inr (inr cut))

  -- ---- the other statuses, where an answer has none of them

  module _ (low : (text notes : List ℕ) (wanted : ℕ) → Answers wanted text notes → IsOfAnswer wanted) where
    abbrev Line : (List ℕ → Type 0) → Type 0
    Line P = (line : List ℕ) × P line × Gains err.got err.got_after line

    -- 2 says what is wrong with the words, 3 with a file, 5 with a call on a file
    pub two_says : status ≡ 2 → Ends → Line Faulty
    two_says at ends = go (whole (omega (arith, at)) ends)
      where
        go : Whole → Line Faulty
        go (inl (is, said, same)) = said
        go (inr (inl (text, notes, by, printed, noted))) = absurd ((low text notes status by).not_two at)
        go (inr (inr (inl (is, said, same)))) = absurd (omega (arith, at, is))
        go (inr (inr (inr (is, said, same)))) = absurd (omega (arith, at, is))

    pub three_says : status ≡ 3 → Ends → Line Refused
    three_says at ends = go (whole (omega (arith, at)) ends)
      where
        go : Whole → Line Refused
        go (inl (is, said, same)) = absurd (omega (arith, at, is))
        go (inr (inl (text, notes, by, printed, noted))) = absurd ((low text notes status by).not_three at)
        go (inr (inr (inl (is, said, same)))) = said
        go (inr (inr (inr (is, said, same)))) = absurd (omega (arith, at, is))

    pub five_says : status ≡ 5 → Ends → Line Failed
    five_says at ends = go (whole (omega (arith, at)) ends)
      where
        go : Whole → Line Failed
        go (inl (is, said, same)) = absurd (omega (arith, at, is))
        go (inr (inl (text, notes, by, printed, noted))) = absurd (no_fault (low text notes status by) at)
        go (inr (inr (inl (is, said, same)))) = absurd (omega (arith, at, is))
        go (inr (inr (inr (is, said, same)))) = said

    -- and nothing is printed to the output
    low_line : (status ≡ 2) ⊎ ((status ≡ 3) ⊎ (status ≡ 5)) → status < 7
    low_line (inl e) = omega (arith, e)
    low_line (inr (inl e)) = omega (arith, e)
    low_line (inr (inr e)) = omega (arith, e)

    no_answer : (status ≡ 2) ⊎ ((status ≡ 3) ⊎ (status ≡ 5)) → IsOfAnswer status → ⊥
    no_answer (inl e) of = of.not_two e
    no_answer (inr (inl e)) of = of.not_three e
    no_answer (inr (inr e)) of = no_fault of e

    pub nothing_out : (status ≡ 2) ⊎ ((status ≡ 3) ⊎ (status ≡ 5)) → Ends → out.got_after ≡ out.got
    nothing_out at ends = go (whole (low_line at) ends)
      where
        go : Whole → out.got_after ≡ out.got
        go (inl (is, said, same)) = same
        go (inr (inl (text, notes, by, printed, noted))) = absurd (no_answer at (low text notes status by))
        go (inr (inr (inl (is, said, same)))) = same
        go (inr (inr (inr (is, said, same)))) = same

    -- 7 comes only where a fault of a sink came
    seven_both : (text notes : List ℕ) (wanted : ℕ) → wanted < 7 → status ≡ 7 → PrintsBoth out err text notes wanted status → Rose out.faults out.faults_after ⊎ Rose err.faults err.faults_after
    seven_both text notes wanted under at (inl h) = inr (rose_of err notes wanted status under at h.2)
    seven_both text notes wanted under at (inr h) = inl (rose_of_cut out text status at h.0)

    pub seven_rose : status ≡ 7 → Ends → Rose out.faults out.faults_after ⊎ Rose err.faults err.faults_after
    seven_rose at (faulty line by left quiet prints) = inr (rose_of err line 2 status (omega arith) at prints)
    seven_rose at (answered text notes wanted by left prints) = seven_both text notes wanted (below_seven wanted (low text notes wanted by)) at prints
    seven_rose at (refused line by left quiet prints) = inr (rose_of err line 3 status (omega arith) at prints)
    seven_rose at (failed line by same later quiet prints) = inr (rose_of err line 5 status (omega arith) at prints)
    seven_rose at (wanting left quiet also is) = absurd (omega (arith, at, is))

    -- ---- printing stopped

    abbrev InPart : Type 0
    InPart = ArePrintedInPart (IsDueBy Faulty Refused Failed) Answers out err

    both_in_part : (text notes : List ℕ) (wanted : ℕ) → Answers wanted text notes → wanted < 7 → IsCutOff status → PrintsBoth out err text notes wanted status → InPart
    both_in_part text notes wanted by under at (inl h) = notes_in_part text notes wanted by h.0 (prefix_of err notes wanted status under h.2 at)
    both_in_part text notes wanted by under at (inr h) = answer_in_part text notes wanted by (prefix_of_cut out text status h.0) h.1

    partly : IsCutOff status → Ends → InPart ⊎ ((status ≡ 8) × AreQuiet out err)
    partly at (faulty line by left quiet prints) = inl (line_in_part line (inl by) quiet (prefix_of err line 2 status (omega arith) prints at))
    partly at (answered text notes wanted by left prints) = inl (both_in_part text notes wanted by (below_seven wanted (low text notes wanted by)) at prints)
    partly at (refused line by left quiet prints) = inl (line_in_part line (inr (inl by)) quiet (prefix_of err line 3 status (omega arith) prints at))
    partly at (failed line by same later quiet prints) = inl (line_in_part line (inr (inr by)) quiet (prefix_of err line 5 status (omega arith) prints at))
    partly at (wanting left quiet also is) = inr (is, (quiet, also))

    -- by a sink
    pub in_part : status ≡ 7 → Ends → InPart
    in_part at ends = go (partly (inl at) ends)
      where
        go : InPart ⊎ ((status ≡ 8) × AreQuiet out err) → InPart
        go (inl part) = part
        go (inr (is, quiet)) = absurd (omega (arith, at, is))

    -- by want of memory
    pub unprinted : status ≡ 8 → Ends → InPart ⊎ AreQuiet out err
    unprinted at ends = go (partly (inr at) ends)
      where
        go : InPart ⊎ ((status ≡ 8) × AreQuiet out err) → InPart ⊎ AreQuiet out err
        go (inl part) = inl part
        go (inr (is, quiet)) = inr quiet

  -- ---- faults are said

  fault_of : (A : Type 0) → files.faults_after ≡ files.faults → files.faults < files.faults_after → A
  fault_of A still more = absurd (omega (arith, still, more))

  cut_interrupts : (status ≡ 5) ⊎ IsCutOff status → IsInterrupted status
  cut_interrupts (inl e) = inl e
  cut_interrupts (inr cut) = inr cut

  pub fault_interrupts : files.faults < files.faults_after → Ends → IsInterrupted status
  fault_interrupts more (faulty line by left quiet prints) = fault_of (IsInterrupted status) left.faults_same more
  fault_interrupts more (answered text notes wanted by left prints) = fault_of (IsInterrupted status) left.faults_same more
  fault_interrupts more (refused line by left quiet prints) = fault_of (IsInterrupted status) left.faults_same more
  fault_interrupts more (failed line by same later quiet prints) = cut_interrupts (wanted_or err line 5 status prints)
  fault_interrupts more (wanting left quiet also at) = inr (inr at)

  line_seven : (line : List ℕ) (wanted : ℕ) → IsQuiet out → PrintsTo err line wanted status → (out.faults < out.faults_after) ⊎ (err.faults < err.faults_after) → status ≡ 7
  line_seven line wanted quiet prints (inl more) = rises out (status ≡ 7) quiet.faults_same more
  line_seven line wanted quiet prints (inr more) = seven_of err line wanted status prints more

  both_seven : (text notes : List ℕ) (wanted : ℕ) → PrintsBoth out err text notes wanted status → (out.faults < out.faults_after) ⊎ (err.faults < err.faults_after) → status ≡ 7
  both_seven text notes wanted (inl h) (inl more) = rises out (status ≡ 7) h.1 more
  both_seven text notes wanted (inl h) (inr more) = seven_of err notes wanted status h.2 more
  both_seven text notes wanted (inr h) (inl more) = seven_of_cut out text status h.0 more
  both_seven text notes wanted (inr h) (inr more) = let quiet : IsQuiet err = h.1 in rises err (status ≡ 7) quiet.faults_same more

  pub sink_seven : (out.faults < out.faults_after) ⊎ (err.faults < err.faults_after) → Ends → status ≡ 7
  sink_seven more (faulty line by left quiet prints) = line_seven line 2 quiet prints more
  sink_seven more (answered text notes wanted by left prints) = both_seven text notes wanted prints more
  sink_seven more (refused line by left quiet prints) = line_seven line 3 quiet prints more
  sink_seven more (failed line by same later quiet prints) = line_seven line 5 quiet prints more
  sink_seven (inl more) (wanting left quiet also at) = rises out (status ≡ 7) quiet.faults_same more
  sink_seven (inr more) (wanting left quiet also at) = rises err (status ≡ 7) also.faults_same more

-- a call that is interrupted by no fault wants memory
pub unfaulted : (status : ℕ) (C F O E : Type 0) → (status ≡ 5 → F) → (status ≡ 7 → O ⊎ E) → ¬ F → ¬ O → ¬ E → C ⊎ IsInterrupted status → C ⊎ (status ≡ 8)
unfaulted status C F O E five seven f o e (inl h) = inl h
unfaulted status C F O E five seven f o e (inr (inl h)) = absurd (f (five h))
unfaulted status C F O E five seven f o e (inr (inr (inl h))) = elim (seven h) [ inl x ↦ absurd (o x) | inr x ↦ absurd (e x) ]
unfaulted status C F O E five seven f o e (inr (inr (inr h))) = inr h
