-- What the ways to end say of the status, where contents are told, and of what is printed.
use Rattle.std.proofs.Common.{◌≡◌, ◌≢◌, ◌∙◌, ap, sym, subst, refl, List, ℕ, [], ◌∷◌, ◌++◌, ◌⊎◌, inl, inr, ◌<◌, arith, Bool, true, false, true≢false, ◌||◌}
use Rattle.std.proofs.lemmas.Grind.{flat_map-append}
use Rattle.std.proofs.lemmas.List.Folds.{list_any-append}
use Rattle.std.specs.Prelude.{Option, Some, ◌-◌, ◌^◌}
use Rattle.call_ends.specs.Parts.{AreQuiet}
use Rattle.call_ends.specs.Statuses.{IsAnswering, IsCutOff, IsInterrupted, IsStatus}
use Rattle.call_ends.proofs.Closing.{IsOfAnswer, answers, by_status, comes_to, concludes, decided_by, fault_interrupts, five_says, in_part, is_status, nothing_out, of_answering, quietly, seven_rose, sink_seven, three_says, told_stays, two_says, undecided_by, unprinted}
use Rattle.input_names.specs.Names.{Text}
use Rattle.command_words.specs.Checks.{Fault}
use Rattle.lists.proofs.Members.{is_first}
use Rattle.program_ends.specs.Ends.{FilesSeen}
use Rattle.program_ends.specs.Printing.{SinkSeen}
use Rattle.rdf_terms.specs.declared.terms.TermId.{TermId}
use Rattle.schema_tree.specs.declared.schema.ExprId.{ExprId}
use Rattle.schema_tree.specs.declared.schema.Schema.{Schema}
use Rattle.schema_tree.specs.declared.verdicts.Verdict.{Verdict}
use Rattle.schema_tree.specs.declared.verdicts.Verdict.TheVariants.{No, Unknown, Yes}
use Rattle.session_script.specs.declared.commands.Command.{Command}
use Rattle.session_script.specs.declared.commands.Command.TheVariants.{Add, Ask, Remove}
use Rattle.shex_io.specs.Faults.{Rose}
use Rattle.shex_io.specs.Files.{Told}
use Rattle.shex_io.specs.Sinks.{Gains}
use Rattle.tool_words.specs.Asked.{Editing, IsEditing, IsEditingFault}
use Rattle.tool_words.specs.Laws.{AnswersAreOne}
use Rattle.typing_session.specs.Questions.{IsUnknownOnlyWide}
use Rattle.wide_pairs.specs.Laws.{NoneIsWide}
use Rattle.demand.proofs.Led.{not_decided}
use Rattle.session_run.specs.declared.error.CommandError.{CommandError}
use Rattle.session_run.specs.declared.stop.File.{File}
use Rattle.session_run.specs.declared.stop.Refusal.{Refusal}
use Rattle.session_run.specs.Endings.{IsAnswered, IsAnsweredBy, IsFailedBy, IsPrintedInPart, IsRefusedBy, IsWordsLine, SessionEnds}
use Rattle.session_run.specs.Files.{inputs_of}
use Rattle.session_run.specs.Outcomes.{AreAnswers, IsAbsent, IsRefused, start_of}
use Rattle.session_run.specs.Replies.{Reply, any_unknown, is_unknown, notes_of, status_of}
use Rattle.session_run.specs.Script.{AreNotes, Outcome, Runs, State, Steps, answered, ended, goes, refused, stops}
use Rattle.session_run.proofs.Fitting.{fit}
use Rattle.session_run.proofs.Exclusive.{Laws, answers_agree, answers_not_absent, answers_not_refused, refused_not_absent}

-- the status of answers is 0 or 4
pub low : (told : Told) (words : List Text) (text notes : List ℕ) (wanted : ℕ) → IsAnsweredBy told words wanted text notes → IsAnswering wanted
low told words text notes wanted by = subst IsAnswering (sym by.answered.status_is) (by_status _)

of_answer : (told : Told) (words : List Text) (text notes : List ℕ) (wanted : ℕ) → IsAnsweredBy told words wanted text notes → IsOfAnswer wanted
of_answer told words text notes wanted by = of_answering wanted (low told words text notes wanted by)

module _ (words : List Text) (files : FilesSeen) (out err : SinkSeen) (status : ℕ) (law : AnswersAreOne) where
  -- words that are at fault ask for nothing
  pub faulty_ends : (f : Fault) → IsEditingFault words f → SessionEnds words files out err status → (status ≡ 2) ⊎ IsCutOff status
  faulty_ends f is ends =
      comes_to (IsWordsLine words) (IsRefusedBy files.told words) (IsFailedBy files words) (IsAnsweredBy files.told words) files out err status (λ n. n ≡ 2)
      (λ line by. refl)
      (λ text notes wanted by. absurd (law.edit_apart words by.editing f by.is_asked is))
      (λ line by. absurd (law.edit_apart words by.editing f by.is_asked is))
      (λ line by. absurd (law.edit_apart words by.editing f by.is_asked is))
      ends

  module _ (e : Editing) (is_asked : IsEditing words e) where
    not_faulty : (line : List ℕ) → IsWordsLine words line → ⊥
    not_faulty line (f, is, same) = law.edit_apart words e f is_asked is

    -- what is said of the words is said of what they ask
    replies_of : (text notes : List ℕ) (wanted : ℕ) → (by : IsAnsweredBy files.told words wanted text notes) → IsAnswered files.told e wanted text notes
    replies_of text notes wanted by = subst (λ z. IsAnswered files.told z wanted text notes) (law.edits words by.editing e by.is_asked is_asked) by.answered

    refusal_of : (line : List ℕ) (by : IsRefusedBy files.told words line) → IsRefused files.told e by.refusal
    refusal_of line by = subst (λ z. IsRefused files.told z by.refusal) (law.edits words by.editing e by.is_asked is_asked) by.refused

    ends_with : (C : ℕ → Type 0) → ((text notes : List ℕ) (wanted : ℕ) → IsAnswered files.told e wanted text notes → C wanted) →
        ((refusal : Refusal) → IsRefused files.told e refusal → C 3) → SessionEnds words files out err status → C status ⊎ IsInterrupted status
    ends_with C with three ends =
        concludes (IsWordsLine words) (IsRefusedBy files.told words) (IsFailedBy files words) (IsAnsweredBy files.told words) files out err status C
        (λ line by. absurd (not_faulty line by))
        (λ text notes wanted by. with text notes wanted (replies_of text notes wanted by))
        (λ line by. three by.refusal (refusal_of line by))
        ends

    -- where nothing is refused, the call answers
    pub unrefused_ends : ((refusal : Refusal) → ¬ IsRefused files.told e refusal) → SessionEnds words files out err status → IsAnswering status ⊎ IsInterrupted status
    unrefused_ends none ends = ends_with IsAnswering (λ text notes wanted is. subst IsAnswering (sym is.status_is) (by_status _)) (λ refusal is. absurd (none refusal is)) ends

    module _ (contents : List ℕ → Option (List ℕ)) (told : files.told ≡ Some contents) (laws : Laws files.told (inputs_of e)) where
      -- where the script is answered, the call ends with the status of the answers
      pub taken_ends : (replies : List Reply) → AreAnswers files.told e replies → SessionEnds words files out err status → (status ≡ status_of replies) ⊎ IsInterrupted status
      taken_ends replies are ends = ends_with (λ n. n ≡ status_of replies)
          (λ text notes wanted is. is.status_is ∙ answers_agree files.told contents told e laws is.replies replies is.are_answers are)
          (λ refusal is. absurd (answers_not_refused files.told contents told e laws replies are refusal is))
          ends

      -- where a file is refused, that is said
      pub refused_ends : (refusal : Refusal) → IsRefused files.told e refusal → SessionEnds words files out err status → (status ≡ 3) ⊎ IsInterrupted status
      refused_ends refusal cause ends = ends_with (λ n. n ≡ 3)
          (λ text notes wanted is. absurd (answers_not_refused files.told contents told e laws is.replies is.are_answers refusal cause))
          (λ other is. refl)
          ends

      -- where one is absent, the call is interrupted
      pub absent_ends : (file : File) → IsAbsent files.told e file → SessionEnds words files out err status → IsInterrupted status
      absent_ends file absent ends = elim (ends_with (λ n. ⊥)
          (λ text notes wanted is. answers_not_absent files.told contents told e laws is.replies is.are_answers file absent)
          (λ refusal is. refused_not_absent files.told contents told e laws refusal is file absent)
          ends) [
            | inl none ↦ absurd none
            | inr cut ↦ cut
          ]

-- ---- where some answer is noted, it is Unknown

-- answers of which none is Unknown have no notes
abbrev AreQuietly : List Reply → Type 0
AreQuietly replies = any_unknown replies ≡ false → notes_of replies ≡ []

none_noted : (s : Schema) (x : State) (budget : ℕ) (n : TermId) (e : ExprId) (v : Verdict) (notes : List ℕ) → AreNotes s x budget n e v notes → is_unknown v ≡ false → notes ≡ []
none_noted s x budget n e Yes notes noted known = noted
none_noted s x budget n e No notes noted known = noted
none_noted s x budget n e Unknown notes noted known = absurd (true≢false known)

both_false : (a b : Bool) → (a || b) ≡ false → (a ≡ false) × (b ≡ false)
both_false true b h = absurd (true≢false h)
both_false false b h = (refl, h)

more_quietly : (so more : List Reply) → AreQuietly so → AreQuietly more → AreQuietly (so ++ more)
more_quietly so more h k none =
    let (a, b) = both_false (any_unknown so) (any_unknown more) (sym (list_any-append (λ (r : Reply). is_unknown r.verdict) so more) ∙ none) in
    flat_map-append (λ (r : Reply). r.notes) so more ∙ (λ i. h a i ++ k b i)

module _ (s : Schema) (f : List ℕ) (budget : ℕ) where
  step_quietly : (x : State) (c : Command) (y : State) (more : List Reply) → Steps s f budget x c y more → AreQuietly more
  step_quietly x (Add t) y more (e, is) = subst AreQuietly (sym is) (λ none. refl)
  step_quietly x (Remove t) y more (e, is) = subst AreQuietly (sym is) (λ none. refl)
  step_quietly x (Ask node target) y more (r, e, is) = subst AreQuietly (sym is) (λ none.
      ap (λ z. z ++ []) (none_noted s y budget e.number e.expr r.verdict r.notes e.notes (both_false (is_unknown r.verdict) false none).0))

  runs_quietly : (x : State) (so : List Reply) (cs : List Command) (o : Outcome) (replies : List Reply) → o ≡ answered replies → Runs s f budget x so cs o → AreQuietly so → AreQuietly replies
  runs_quietly x so cs o replies is ended h = subst AreQuietly (same_replies so replies is) h
    where
      same_replies : (xs ys : List Reply) → answered xs ≡ answered ys → xs ≡ ys
      same_replies xs ys e = cc
  runs_quietly x so cs o replies is (goes {c = c} {cs = behind} y more steps rest) h = runs_quietly y (so ++ more) behind o replies is rest (more_quietly so more h (step_quietly x c y more steps))
  runs_quietly x so cs o replies is (stops {e = e} stop) h = absurd (differ e replies is)
    where
      differ : (d : CommandError) (ys : List Reply) → refused d ≡ answered ys → ⊥
      differ d ys e = cc

-- with status 0 nothing is noted
quiet_answer : (told : Told) (words : List Text) (text notes : List ℕ) → IsAnsweredBy told words 0 text notes → notes ≡ []
quiet_answer told words text notes by =
    let a = by.answered in
    let are = a.are_answers in
    a.notes_are
    ∙ runs_quietly are.held.schema are.held.strata by.editing.budget (start_of are.held) [] are.commands (answered a.replies) a.replies refl are.ends (λ none. refl)
    (decided_by (any_unknown a.replies) a.status_is)

-- ---- where some answer is Unknown, it is noted

-- answers of which some is Unknown have notes
abbrev AreNoted : List Reply → Type 0
AreNoted replies = any_unknown replies ≡ true → notes_of replies ≢ []

either_true : (a b : Bool) → (a || b) ≡ true → (a ≡ true) ⊎ (b ≡ true)
either_true true b h = inl refl
either_true false b h = inr h

parts_none : (a b : List ℕ) → a ++ b ≡ [] → (a ≡ []) × (b ≡ [])
parts_none [] b e = (refl, e)
parts_none (x ∷ a) b e = absurd cc

more_noted : (so more : List Reply) → AreNoted so → AreNoted more → AreNoted (so ++ more)
more_noted so more h k some none = by (either_true (any_unknown so) (any_unknown more) (sym (list_any-append (λ (r : Reply). is_unknown r.verdict) so more) ∙ some))
  where
    parts : (notes_of so ≡ []) × (notes_of more ≡ [])
    parts = parts_none (notes_of so) (notes_of more) (sym (flat_map-append (λ (r : Reply). r.notes) so more) ∙ none)

    by : (any_unknown so ≡ true) ⊎ (any_unknown more ≡ true) → ⊥
    by (inl a) = h a parts.0
    by (inr b) = k b parts.1

-- an Unknown answer reaches a wide pair, for which there is a line
some_noted : NoneIsWide → (s : Schema) (x : State) (budget : ℕ) (n : TermId) (e : ExprId) (v : Verdict) (notes : List ℕ) → budget < 2 ^ 64 - 1 →
    IsUnknownOnlyWide s x.terms x.graph budget n e v → AreNotes s x budget n e v notes →
    is_unknown v ≡ true → notes ≢ []
some_noted law s x budget n e Yes notes few only noted some = absurd (true≢false (sym some))
some_noted law s x budget n e No notes few only noted some = absurd (true≢false (sym some))
some_noted law s x budget n e Unknown notes few only (wide, are, is) some = λ none.
    not_decided s x.terms x.graph budget n e (only refl) (λ q reached. law s x.terms x.graph budget are.pairs wide few are.wide (sym is
    ∙ none) q ((are.asked.exactly q).1 (record { node = n; expr = e }, is_first (record { node = n; expr = e }) [], reached)))

module _ (law : NoneIsWide) (s : Schema) (f : List ℕ) (budget : ℕ) (few : budget < 2 ^ 64 - 1) where
  step_noted : (x : State) (c : Command) (y : State) (more : List Reply) → Steps s f budget x c y more → AreNoted more
  step_noted x (Add t) y more (e, is) = subst AreNoted (sym is) (λ some. absurd (true≢false (sym some)))
  step_noted x (Remove t) y more (e, is) = subst AreNoted (sym is) (λ some. absurd (true≢false (sym some)))
  step_noted x (Ask node target) y more (r, e, is) = subst AreNoted (sym is) (λ some none.
      some_noted law s y budget e.number e.expr r.verdict r.notes few e.verdict.only_wide e.notes (alone (is_unknown r.verdict) some) (parts_none r.notes [] none).0)
    where
      alone : (b : Bool) → (b || false) ≡ true → b ≡ true
      alone true h = refl
      alone false h = h

  runs_noted : (x : State) (so : List Reply) (cs : List Command) (o : Outcome) (replies : List Reply) → o ≡ answered replies → Runs s f budget x so cs o → AreNoted so → AreNoted replies
  runs_noted x so cs o replies is ended h = subst AreNoted (same_replies so replies is) h
    where
      same_replies : (xs ys : List Reply) → answered xs ≡ answered ys → xs ≡ ys
      same_replies xs ys e = cc
  runs_noted x so cs o replies is (goes {c = c} {cs = behind} y more steps rest) h = runs_noted y (so ++ more) behind o replies is rest (more_noted so more h (step_noted x c y more steps))
  runs_noted x so cs o replies is (stops {e = e} stop) h = absurd (differ e replies is)
    where
      differ : (d : CommandError) (ys : List Reply) → refused d ≡ answered ys → ⊥
      differ d ys e = cc

-- with status 4 something is noted
noted_answer : NoneIsWide → (told : Told) (words : List Text) (text notes : List ℕ) → IsAnsweredBy told words 4 text notes → notes ≢ []
noted_answer law told words text notes by none =
    let a = by.answered in
    let are = a.are_answers in
    runs_noted law are.held.schema are.held.strata by.editing.budget (let le = (fit words by.editing by.is_asked).budget in omega (arith, le))
    (start_of are.held) [] are.commands (answered a.replies) a.replies refl are.ends (λ some. absurd (true≢false (sym some)))
    (undecided_by (any_unknown a.replies) a.status_is) (sym a.notes_are ∙ none)

-- ---- the clauses that follow from each way to end

module _ (words : List Text) (files : FilesSeen) (out err : SinkSeen) (status : ℕ) (ends : SessionEnds words files out err status) where
  pub says_status : IsStatus status
  says_status = is_status (IsWordsLine words) (IsRefusedBy files.told words) (IsFailedBy files words) (IsAnsweredBy files.told words) files out err status (low files.told words) ends

  pub says_told : files.told_after ≡ files.told
  says_told = told_stays (IsWordsLine words) (IsRefusedBy files.told words) (IsFailedBy files words) (IsAnsweredBy files.told words) files out err status ends

  pub says_answers : IsAnswering status → (text notes : List ℕ) × IsAnsweredBy files.told words status text notes × Gains out.got out.got_after text × Gains err.got err.got_after notes
  says_answers at = answers (IsWordsLine words) (IsRefusedBy files.told words) (IsFailedBy files words) (IsAnsweredBy files.told words) files out err status at ends

  pub says_noted : NoneIsWide → (text notes : List ℕ) → IsAnsweredBy files.told words status text notes → status ≡ 4 → notes ≢ []
  says_noted law text notes by at = noted_answer law files.told words text notes (subst (λ n. IsAnsweredBy files.told words n text notes) at by)

  pub says_quietly : status ≡ 0 → err.got_after ≡ err.got
  says_quietly at = quietly (IsWordsLine words) (IsRefusedBy files.told words) (IsFailedBy files words) (IsAnsweredBy files.told words) files out err status (quiet_answer files.told words) at ends

  pub says_two : status ≡ 2 → (line : List ℕ) × IsWordsLine words line × Gains err.got err.got_after line
  says_two at = two_says (IsWordsLine words) (IsRefusedBy files.told words) (IsFailedBy files words) (IsAnsweredBy files.told words) files out err status (of_answer files.told words) at ends

  pub says_three : status ≡ 3 → (line : List ℕ) × IsRefusedBy files.told words line × Gains err.got err.got_after line
  says_three at = three_says (IsWordsLine words) (IsRefusedBy files.told words) (IsFailedBy files words) (IsAnsweredBy files.told words) files out err status (of_answer files.told words) at ends

  pub says_five : status ≡ 5 → (line : List ℕ) × IsFailedBy files words line × Gains err.got err.got_after line
  says_five at = five_says (IsWordsLine words) (IsRefusedBy files.told words) (IsFailedBy files words) (IsAnsweredBy files.told words) files out err status (of_answer files.told words) at ends

  pub five_rose : status ≡ 5 → Rose files.faults files.faults_after
  five_rose at = (says_five at).1.rose

  pub seven_comes : status ≡ 7 → Rose out.faults out.faults_after ⊎ Rose err.faults err.faults_after
  seven_comes at = seven_rose (IsWordsLine words) (IsRefusedBy files.told words) (IsFailedBy files words) (IsAnsweredBy files.told words) files out err status (of_answer files.told words) at ends

  pub says_nothing_out : (status ≡ 2) ⊎ ((status ≡ 3) ⊎ (status ≡ 5)) → out.got_after ≡ out.got
  says_nothing_out at = nothing_out (IsWordsLine words) (IsRefusedBy files.told words) (IsFailedBy files words)
      (IsAnsweredBy files.told words) files out err status (of_answer files.told words) at ends

  pub says_in_part : status ≡ 7 → IsPrintedInPart words files out err
  says_in_part at = in_part (IsWordsLine words) (IsRefusedBy files.told words) (IsFailedBy files words) (IsAnsweredBy files.told words) files out err status (of_answer files.told words) at ends

  pub says_unprinted : status ≡ 8 → IsPrintedInPart words files out err ⊎ AreQuiet out err
  says_unprinted at = unprinted (IsWordsLine words) (IsRefusedBy files.told words) (IsFailedBy files words) (IsAnsweredBy files.told words) files out err status (of_answer files.told words) at ends

  pub says_fault : files.faults < files.faults_after → IsInterrupted status
  says_fault more = fault_interrupts (IsWordsLine words) (IsRefusedBy files.told words) (IsFailedBy files words) (IsAnsweredBy files.told words) files out err status more ends

  pub says_seven : (out.faults < out.faults_after) ⊎ (err.faults < err.faults_after) → status ≡ 7
  says_seven more = sink_seven (IsWordsLine words) (IsRefusedBy files.told words) (IsFailedBy files words) (IsAnsweredBy files.told words) files out err status more ends
