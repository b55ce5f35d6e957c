-- What the ways to end say of the status.
use Rattle.std.proofs.Common.{◌≡◌, ◌≢◌, ◌∙◌, ap, sym, subst, refl, List, ℕ, [], ◌++◌, ◌⊎◌, inl, inr, arith, Bool, true, false}
use Rattle.std.specs.Prelude.{◌↔◌, Option, Some, IsTrue, if◌then◌else◌, not, None}
use Rattle.input_names.specs.Names.{Text}
use Rattle.rdf_terms.specs.declared.terms.Term.{Term}
use Rattle.schema_tree.specs.declared.schema.Pair.{Pair}
use Rattle.schema_tree.specs.Laws.{OneRefinement, OneVerdict, SureFollowsAnswers}
use Rattle.schema_tree.specs.Loaded.{IsLoaded}
use Rattle.schema_tree.specs.Removal.{IsRefined}
use Rattle.schema_tree.specs.Sure.{IsSure, Known}
use Rattle.schema_tree.specs.declared.schema.ExprId.{ExprId}
use Rattle.schema_tree.specs.declared.verdicts.Verdict.{Verdict}
use Rattle.schema_tree.specs.declared.verdicts.Verdict.TheVariants.{Unknown}
use Rattle.rdf_terms.specs.declared.terms.TermId.{TermId}
use Rattle.idle_selectors.specs.Laws.{LinesAreExact}
use Rattle.shape_map.specs.declared.items.Item.{Item}
use Rattle.shape_map.specs.declared.resolve.Association.{Association}
use Rattle.explanations.specs.declared.explanation.Told.{Told as Told_of}
use Rattle.explanations.specs.Explanations.{IsTold}
use Rattle.proof_file.specs.Accepts.{verdict_of}
use Rattle.lists.proofs.Members.{in_map}
use Rattle.typing_answers.proofs.Knowing.{know_alike}
use Rattle.shex_io.specs.Sinks.{Gains}
use Rattle.command_words.specs.Checks.{Fault}
use Rattle.label_extents.specs.declared.finding.Extents.{Extents}
use Rattle.label_extents.specs.Demanded.{AreDemanded, AreTooMany}
use Rattle.label_extents.specs.Extents.{IsUndecided}
use Rattle.program_ends.specs.Ends.{FilesSeen}
use Rattle.program_ends.specs.Printing.{SinkSeen}
use Rattle.call_ends.specs.Statuses.{IsAnswering as IsListing, IsCutOff, IsInterrupted, status_by}
use Rattle.call_ends.proofs.Closing as closing
use Rattle.shard_answers.specs.declared.error.CallFile.{CallFile}
use Rattle.shard_answers.specs.Answers.{Concludes as ConcludesShard, IsAnswer as IsShardAnswer, IsFound as IsFoundOf}
use Rattle.shex_inputs.specs.Asked.{Question, root_of}
use Rattle.shex_inputs.specs.Held.{Held}
use Rattle.shex_io.specs.Files.{Told}
use Rattle.tool_words.specs.Asked.{Explaining, IsToolCall, IsToolFault, Listing, ShardCall, ToolCall, of_cover, of_labels, of_lines, of_nodes, of_reasons, of_schema, of_shards, of_ways}
use Rattle.tool_words.specs.Laws.{AnswersAreOne}
use Rattle.typing_refiner.specs.declared.building.WidePair.{WidePair}
use Rattle.demand.proofs.Led.{not_decided}
use Rattle.shex_tools.specs.declared.stop.Refusal.{Refusal}
use Rattle.shex_tools.specs.Calls.{inputs_of}
use Rattle.shex_tools.specs.Endings.{AreNotedQuietly, AreQuietNotes, HasFailing, IsAnswered, IsFailedBy, IsRefusedBy, IsWordsLine, TellsIdle, ToolEnds, HasLacking}
use Rattle.shex_tools.specs.Finding.{IsFound}
use Rattle.shex_tools.specs.Outcomes.{AreHeld, AreTaken, IsAbsent, IsQuestionOf, IsRefused}
use Rattle.shex_tools.specs.Reasons.{AreAsAsked, HaveFailing, HaveUnknown, IsToldTruly, are_as_asked, are_undecided}
use Rattle.shex_tools.specs.Laws.{DocumentsAreOne}
use Rattle.shex_tools.specs.Results.{Concludes, IsAnswer, IsExplained, IsExplainedBy, IsListed}
use Rattle.shex_tools.specs.Statuses.{IsAnswering, IsStatus}
use Rattle.shex_tools.specs.Notes.{named_by}
use Rattle.shex_tools.specs.Texts.{notes_by}
use Rattle.shex_tools.proofs.Exclusive.{AreOne, ShardLaws, answer_taken, refused_not_absent, taken_not_absent, taken_not_refused}
use Rattle.shex_tools.proofs.Fitting.{fit}
use Rattle.shex_tools.proofs.Noted.{idle_alone, none_wide}
use Rattle.shex_tools.proofs.Settled.{as_asked_by, decided_by, four_means, is_four, is_nought, is_one, known_as, known_off, known_unless, low_means, off_by, off_one, off_truth, one_means, status_answers, undecided_by, undecided_one, unknown_is, unsure_wide}
use Rattle.shex_tools.proofs.Unknowns.{alike, undecided_to}
use Rattle.wide_pairs.specs.Laws.{NoneIsWide}
use Rattle.wide_pairs.specs.Lines.{wide_lines}

-- ---- answers

-- the status of extents is 0 or 4
low_status : (undecided : Bool) (status : ℕ) → status ≡ status_by undecided → IsListing status
low_status undecided status is = subst IsListing (sym is) (closing.by_status undecided)

-- which is one of an answer
of_listed : (status : ℕ) → IsListing status → IsAnswering status
of_listed status (inl e) = inl e
of_listed status (inr e) = inr (inr e)

-- the status of a call about data in shards is 0 or 1
found_status : (found : Option (List ℕ)) (status : ℕ) (text : List ℕ) → IsFoundOf found status text → (status ≡ 0) ⊎ (status ≡ 1)
found_status None status text at = inl at.0
found_status (Some line) status text at = inr at.0

shard_concluded : (told : Told) (s : ShardCall) (status : ℕ) (text : List ℕ) → IsShardAnswer told s status text → ConcludesShard s status
shard_concluded told (of_lines l) status text answer = answer.0
shard_concluded told (of_ways f) status text answer = answer.0
shard_concluded told (of_nodes r) status text answer = answer.0
shard_concluded told (of_cover c) status text (found, covers, at) = found_status found status text at

shard_low : (s : ShardCall) (status : ℕ) → ConcludesShard s status → (status ≡ 0) ⊎ (status ≡ 1)
shard_low (of_lines l) status at = inl at
shard_low (of_ways f) status at = inl at
shard_low (of_nodes r) status at = inl at
shard_low (of_cover c) status at = at

shard_status : (told : Told) (s : ShardCall) (status : ℕ) (text : List ℕ) → IsShardAnswer told s status text → (status ≡ 0) ⊎ (status ≡ 1)
shard_status told s status text answer = shard_low s status (shard_concluded told s status text answer)

of_low : (status : ℕ) → (status ≡ 0) ⊎ (status ≡ 1) → IsAnswering status
of_low status (inl at) = inl at
of_low status (inr at) = inr (inl at)

not_four : (status : ℕ) → (status ≡ 0) ⊎ (status ≡ 1) → status ≡ 4 → ⊥
not_four status (inl at) four = omega (arith, at, four)
not_four status (inr at) four = omega (arith, at, four)

concluded : (told : Told) (call : ToolCall) (status : ℕ) (text notes : List ℕ) → IsAnswer told call status text notes → Concludes call status
concluded told (of_schema c) status text notes answer = answer.status_is
concluded told (of_labels l) status text notes answer = low_status answer.listed.extents.undecided status answer.listed.status_is
concluded told (of_reasons e) status text notes answer = status_answers answer.question.associations answer.explained.explanation.answers status answer.explained.status_is
concluded told (of_shards s) status text notes answer = shard_concluded told s status text answer.0

low_answer : (told : Told) (call : ToolCall) (status : ℕ) (text notes : List ℕ) → IsAnswer told call status text notes → IsAnswering status
low_answer told (of_schema c) status text notes answer = inl answer.status_is
low_answer told (of_labels l) status text notes answer = of_listed status (low_status answer.listed.extents.undecided status answer.listed.status_is)
low_answer told (of_reasons e) status text notes answer = status_answers answer.question.associations answer.explained.explanation.answers status answer.explained.status_is
low_answer told (of_shards s) status text notes answer = of_low status (shard_status told s status text answer.0)

pub low : (told : Told) (words : List Text) (text notes : List ℕ) (wanted : ℕ) → IsAnswered told words wanted text notes → IsAnswering wanted
low told words text notes wanted (call, is_call, answer) = low_answer told call wanted text notes answer

-- and so it is none of those of lines
of_answering : (status : ℕ) → IsAnswering status → closing.IsOfAnswer status
of_answering status (inl e) = record { low = omega (arith, e); not_two = λ at. omega (arith, e, at); not_three = λ at. omega (arith, e, at) }
of_answering status (inr (inl e)) = record { low = omega (arith, e); not_two = λ at. omega (arith, e, at); not_three = λ at. omega (arith, e, at) }
of_answering status (inr (inr e)) = record { low = omega (arith, e); not_two = λ at. omega (arith, e, at); not_three = λ at. omega (arith, e, at) }

pub of_answer : (told : Told) (words : List Text) (text notes : List ℕ) (wanted : ℕ) → IsAnswered told words wanted text notes → closing.IsOfAnswer wanted
of_answer told words text notes wanted by = of_answering wanted (low told words text notes wanted by)

-- with 0 and 1 nothing is noted
none_noted : (terms : List Term) (budget : ℕ) (undecided : Bool) (wide : List WidePair) → undecided ≡ false → notes_by terms budget undecided wide ≡ []
unfolding notes_by
none_noted terms budget undecided wide is = ap (λ b. notes_by terms budget b wide) is

-- extents that end with 0 or 1 end with 0
nought_listed : (undecided : Bool) (status : ℕ) → status ≡ status_by undecided → (status ≡ 0) ⊎ (status ≡ 1) → 0 ≡ status_by undecided
nought_listed undecided status is (inl e) = sym e ∙ is
nought_listed undecided status is (inr e) = absurd (other (low_status undecided status is))
  where
    other : IsListing status → ⊥
    other (inl at) = omega (arith, e, at)
    other (inr at) = omega (arith, e, at)

quiet_answer : (told : Told) (call : ToolCall) (status : ℕ) (text notes : List ℕ) → (status ≡ 0) ⊎ (status ≡ 1) → IsAnswer told call status text notes → AreQuietNotes told call notes
quiet_answer told (of_schema c) status text notes at answer = answer.notes_are
quiet_answer told (of_labels l) status text notes at answer =
    let x = answer.listed.extents in
    answer.listed.notes_are ∙ none_noted answer.held.terms l.budget x.undecided x.wide (closing.decided_by x.undecided (nought_listed x.undecided status answer.listed.status_is at))
quiet_answer told (of_reasons e) status text notes at answer =
    let q = answer.question in
    let x = answer.explained in
    let told_of = x.explanation.answers in (
      q,
      answer.is_asked,
      idle_alone q.held.schema q.terms q.held.graph answer.is_asked.items e (are_undecided told_of) x.wide notes x.notes_are
          (low_means (are_undecided told_of) (are_as_asked q.associations told_of) status x.status_is at),
    )
quiet_answer told (of_shards s) status text notes at answer = answer.1

quiet : (told : Told) (words : List Text) (status : ℕ) (text notes : List ℕ) → (status ≡ 0) ⊎ (status ≡ 1) → IsAnswered told words status text notes → AreNotedQuietly told words notes
quiet told words status text notes at (call, is_call, answer) = (call, is_call, quiet_answer told call status text notes at answer)

-- each idle selector of the map of `explain` has its line
tells_idle : LinesAreExact → (told : Told) (e : Explaining) (status : ℕ) (text notes : List ℕ) (got after : Option (List ℕ)) →
    IsExplained told e status text notes → Gains got after notes → TellsIdle told e got after
tells_idle law told e status text notes got after answer gains =
    let q = answer.question in
    let n = answer.explained.notes_are in
    let (have, of) = law q.terms q.held.graph answer.is_asked.items n.idle_are.lines n.idle_are.are_idle in
    let front = named_by n.names q.terms e.budget (are_undecided answer.explained.explanation.answers) answer.explained.wide in
    record {
      question = q;
      is_asked = answer.is_asked;
      lines = n.idle_are.lines;
      have = have;
      of_idle = of;
      before = front;
      gained = subst (λ z. Gains got after z) (n.notes_are ∙ ap (λ z. front ++ z) n.idle_are.notes_are) gains;
    }

-- with 4 a wide pair is noted
lines_due : (terms : List Term) (budget : ℕ) (undecided : Bool) (wide : List WidePair) → undecided ≡ true → notes_by terms budget undecided wide ≡ wide_lines terms budget wide
unfolding notes_by
lines_due terms budget undecided wide is = ap (λ b. if b then wide_lines terms budget wide else []) is

noted_answer : NoneIsWide → (told : Told) (words : List Text) (call : ToolCall) (text notes : List ℕ) → IsToolCall words call → IsAnswer told call 4 text notes → notes ≢ []
noted_answer law told words (of_schema c) text notes is_call answer none = let e : 4 ≡ 0 = answer.status_is in absurd (omega (arith, e))
noted_answer law told words (of_labels l) text notes is_call answer none =
    let h = answer.held in
    let x = answer.listed.extents in
    let found = answer.listed.is_found.found in
    let some : x.undecided ≡ true = closing.undecided_by x.undecided answer.listed.status_is in
    let lines : wide_lines h.terms l.budget x.wide ≡ [] = sym (lines_due h.terms l.budget x.undecided x.wide some) ∙ sym answer.listed.notes_are ∙ none in
    let few = (fit words (of_labels l) is_call).2 in
    let u = found.undecided.0 some in
    not_decided h.schema h.terms h.graph l.budget u.node u.expr (found.only_wide u.label u.expr u.node u.declared u.is_node u.unknown) (λ p reached.
    law h.schema h.terms h.graph l.budget found.pairs x.wide (omega (arith, few)) found.wide lines p
    ((found.demanded.exactly p).1 (record { label = u.label; expr = u.expr; node = u.node; declared = u.declared; is_node = u.is_node; reaches = reached })))
noted_answer law told words (of_shards s) text notes is_call answer none = absurd (not_four 4 (shard_status told s 4 text answer.0) refl)
noted_answer law told words (of_reasons e) text notes is_call answer none =
    let q = answer.question in
    let x = answer.explained in
    let told_of = x.explanation.answers in
    let some : are_undecided told_of ≡ true = four_means (are_undecided told_of) (are_as_asked q.associations told_of) x.status_is in
    let lines : wide_lines q.terms e.budget x.wide ≡ [] = none_wide q.held.schema q.terms q.held.graph answer.is_asked.items e (are_undecided told_of) x.wide notes x.notes_are some none in
    let few = (fit words (of_reasons e) is_call).2 in
    let R : Association → Told_of → Type 0 = λ a t. IsToldTruly q.held.schema q.terms q.held.graph e.budget a t in
    let u = undecided_one R q.associations told_of x.reasons.told_truly some in
    let a = u.association in
    not_decided q.held.schema q.terms q.held.graph e.budget a.node a.expr (unsure_wide q.held.schema q.terms q.held.graph e.budget a u.told.verdict u.so u.related) (λ p reached.
    law q.held.schema q.terms q.held.graph e.budget q.pairs x.wide (omega (arith, few)) x.reasons.are_wide lines p
    ((answer.is_asked.asked.exactly p).1 (root_of a, in_map root_of q.associations a u.listed, reached)))

pub four_noted : NoneIsWide → (told : Told) (words : List Text) (text notes : List ℕ) (status : ℕ) → status ≡ 4 → IsAnswered told words status text notes → notes ≢ []
four_noted law told words text notes status at by =
    let (call, is_call, answer) = subst (λ n. IsAnswered told words n text notes) at by in noted_answer law told words call text notes is_call answer

-- 4 is that of extents or of an explanation
abbrev pub LeavesOut : List Text → Type 0
LeavesOut words = ((l : Listing) × IsToolCall words (of_labels l)) ⊎ ((e : Explaining) × IsToolCall words (of_reasons e))

leaves_out : (told : Told) (words : List Text) (call : ToolCall) (text notes : List ℕ) → IsToolCall words call → IsAnswer told call 4 text notes → LeavesOut words
leaves_out told words (of_schema c) text notes is_call answer = let e : 4 ≡ 0 = answer.status_is in absurd (omega (arith, e))
leaves_out told words (of_labels l) text notes is_call answer = inl (l, is_call)
leaves_out told words (of_reasons e) text notes is_call answer = inr (e, is_call)
leaves_out told words (of_shards s) text notes is_call answer = absurd (not_four 4 (shard_status told s 4 text answer.0) refl)

-- with 1 some association is not as asked
one_listed : (undecided : Bool) → 1 ≡ status_by undecided → ⊥
one_listed undecided is = other (low_status undecided 1 is)
  where
    other : IsListing 1 → ⊥
    other (inl at) = omega (arith, at)
    other (inr at) = omega (arith, at)

-- a shard lacks a line
lacking_answer : (told : Told) (words : List Text) (s : ShardCall) (text : List ℕ) → IsToolCall words (of_shards s) → IsShardAnswer told s 1 text → HasLacking told words
lacking_answer told words (of_lines l) text is_call answer = let e : 1 ≡ 0 = answer.0 in absurd (omega (arith, e))
lacking_answer told words (of_ways f) text is_call answer = let e : 1 ≡ 0 = answer.0 in absurd (omega (arith, e))
lacking_answer told words (of_nodes r) text is_call answer = let e : 1 ≡ 0 = answer.0 in absurd (omega (arith, e))
lacking_answer told words (of_cover c) text is_call (None, covers, at) = let e : 1 ≡ 0 = at.0 in absurd (omega (arith, e))
lacking_answer told words (of_cover c) text is_call (Some line, covers, at) = record { covering = c; is_call = is_call; text = line; covers = covers }

failing_answer : (told : Told) (words : List Text) (call : ToolCall) (text notes : List ℕ) → IsToolCall words call → IsAnswer told call 1 text notes → HasFailing told words ⊎ HasLacking told words
failing_answer told words (of_shards s) text notes is_call answer = inr (lacking_answer told words s text is_call answer.0)
failing_answer told words (of_schema c) text notes is_call answer = let e : 1 ≡ 0 = answer.status_is in absurd (omega (arith, e))
failing_answer told words (of_labels l) text notes is_call answer = absurd (one_listed answer.listed.extents.undecided answer.listed.status_is)
failing_answer told words (of_reasons e) text notes is_call answer =
    let q = answer.question in
    let x = answer.explained in
    let told_of = x.explanation.answers in
    let (known, off) = one_means (are_undecided told_of) (are_as_asked q.associations told_of) x.status_is in
    let R : Association → Told_of → Type 0 = λ a t. IsToldTruly q.held.schema q.terms q.held.graph e.budget a t in
    let u = off_one R q.associations told_of x.reasons.told_truly known off in
    inl (record {
      explaining = e;
      is_call = is_call;
      question = q;
      is_asked = answer.is_asked;
      association = u.association;
      listed = u.listed;
      failing = off_truth q.held.schema q.terms q.held.graph e.budget u.association u.told.verdict u.association.want u.so.0 u.so.1 u.related;
    })

-- ---- words that are refused

module _ (words : List Text) (files : FilesSeen) (out err : SinkSeen) (status : ℕ) where
  pub gives : IsAnswering status → ToolEnds words files out err status → (text notes : List ℕ) × IsAnswered files.told words status text notes ×
      Gains out.got out.got_after text × Gains err.got err.got_after notes
  gives at ends = closing.gives _ _ _ _ files out err status (of_answering status at) ends

  pub is_status : ToolEnds words files out err status → IsStatus status
  is_status ends = go (closing.concludes (IsWordsLine words) (IsRefusedBy files.told words) (IsFailedBy files words) (IsAnswered files.told words) files out err status IsStatus
      (λ line by. inr (inl refl)) (λ text notes wanted by. inl (low files.told words text notes wanted by)) (λ line by. inr (inr (inl refl))) ends)
    where
      go : IsStatus status ⊎ IsInterrupted status → IsStatus status
      go (inl is) = is
      go (inr cut) = inr (inr (inr cut))

  -- with 0 and 1 nothing is printed to the error stream but, of `explain`, the lines for idle selectors
  low_at : (status ≡ 0) ⊎ (status ≡ 1) → IsAnswering status
  low_at (inl e) = inl e
  low_at (inr e) = inr (inl e)

  pub quietly : (status ≡ 0) ⊎ (status ≡ 1) → ToolEnds words files out err status → (notes : List ℕ) × AreNotedQuietly files.told words notes × Gains err.got err.got_after notes
  quietly at ends =
      let (text, notes, by, printed, noted) = gives (low_at at) ends in
      (notes, quiet files.told words status text notes at by, noted)

  pub idle_told : LinesAreExact → AnswersAreOne → (e : Explaining) → IsToolCall words (of_reasons e) → IsAnswering status →
      ToolEnds words files out err status → TellsIdle files.told e err.got err.got_after
  idle_told exact law e is_call at ends =
      let (text, notes, by, printed, noted) = gives at ends in
      let (call, is_other, answer) = by in
      tells_idle exact files.told e status text notes err.got err.got_after
      (subst (λ d. IsAnswer files.told d status text notes) (law.calls words call (of_reasons e) is_other is_call) answer) noted

  pub four_leaves_out : status ≡ 4 → ToolEnds words files out err status → LeavesOut words
  four_leaves_out at ends =
      let (text, notes, by, printed, noted) = gives (inr (inr at)) ends in
      let (call, is_call, answer) = subst (λ n. IsAnswered files.told words n text notes) at by in
      leaves_out files.told words call text notes is_call answer

  pub one_fails : status ≡ 1 → ToolEnds words files out err status → HasFailing files.told words ⊎ HasLacking files.told words
  one_fails at ends =
      let (text, notes, by, printed, noted) = gives (inr (inl at)) ends in
      let (call, is_call, answer) = subst (λ n. IsAnswered files.told words n text notes) at by in
      failing_answer files.told words call text notes is_call answer

  -- where the words are at fault, they are refused
  pub faulty_ends : AnswersAreOne → (f : Fault) → IsToolFault words f → ToolEnds words files out err status → (status ≡ 2) ⊎ IsCutOff status
  faulty_ends law f is ends = closing.comes_to (IsWordsLine words) (IsRefusedBy files.told words) (IsFailedBy files words) (IsAnswered files.told words) files out err status (λ n. n ≡ 2)
      (λ line by. refl)
      (λ text notes wanted by. absurd (law.apart words by.0 f by.1 is))
      (λ line by. absurd (law.apart words by.call f by.is_call is))
      (λ line by. absurd (law.apart words by.call f by.is_call is))
      ends

  module _ (call : ToolCall) (is_call : IsToolCall words call) (law : AnswersAreOne) where
    not_faulty : (A : Type 0) (line : List ℕ) → IsWordsLine words line → A
    not_faulty A line (f, is, e) = absurd (law.apart words call f is_call is)

    -- what is said of the words is said of what they ask
    answer_of : (text notes : List ℕ) (wanted : ℕ) → IsAnswered files.told words wanted text notes → IsAnswer files.told call wanted text notes
    answer_of text notes wanted (other, is, answer) = subst (λ k. IsAnswer files.told k wanted text notes) (law.calls words other call is is_call) answer

    refusal_of : (line : List ℕ) (by : IsRefusedBy files.told words line) → IsRefused files.told call by.refusal
    refusal_of line by = subst (λ k. IsRefused files.told k by.refusal) (law.calls words by.call call by.is_call is_call) by.refused

    -- how a call ends that is answered or refused
    call_ends : (C : ℕ → Type 0) → ((text notes : List ℕ) (wanted : ℕ) → IsAnswer files.told call wanted text notes → C wanted) → ((refusal : Refusal) → IsRefused files.told call refusal → C 3) →
        ToolEnds words files out err status → C status ⊎ IsInterrupted status
    call_ends C with three ends = closing.concludes (IsWordsLine words) (IsRefusedBy files.told words) (IsFailedBy files words) (IsAnswered files.told words) files out err status C
        (λ line by. not_faulty (C 2) line by)
        (λ text notes wanted by. with text notes wanted (answer_of text notes wanted by))
        (λ line by. three by.refusal (refusal_of line by))
        ends

    module _ (contents : List ℕ → Option (List ℕ)) (told : files.told ≡ Some contents) (docs : DocumentsAreOne) (shards : ShardLaws) (one : AreOne files.told (inputs_of call)) where
      -- where all is taken, the call concludes unless it is interrupted
      pub taken_ends : AreTaken files.told call → ToolEnds words files out err status → Concludes call status ⊎ IsInterrupted status
      taken_ends taken ends = call_ends (λ n. Concludes call n)
          (λ text notes wanted answer. concluded files.told call wanted text notes answer)
          (λ refusal refused. absurd (taken_not_refused files.told contents told docs shards call one taken refusal refused))
          ends

      -- where a file is refused, the refusal is said
      pub refused_ends : (refusal : Refusal) → IsRefused files.told call refusal → ToolEnds words files out err status → (status ≡ 3) ⊎ IsInterrupted status
      refused_ends refusal refused ends = call_ends (λ n. n ≡ 3)
          (λ text notes wanted answer. absurd (taken_not_refused files.told contents told docs shards call one (answer_taken files.told call wanted text notes answer) refusal refused))
          (λ other also. refl)
          ends

      -- where a file is absent, the call is interrupted
      pub absent_ends : (file : CallFile) → IsAbsent files.told call file → ToolEnds words files out err status → IsInterrupted status
      absent_ends file absent ends = go (call_ends (λ n. ⊥)
          (λ text notes wanted answer. taken_not_absent files.told contents told docs shards call one (answer_taken files.told call wanted text notes answer) file absent)
          (λ refusal refused. refused_not_absent files.told contents told docs shards call one refusal refused file absent)
          ends)
        where
          go : ⊥ ⊎ IsInterrupted status → IsInterrupted status
          go (inl none) = absurd none
          go (inr cut) = cut

-- ---- extents that are told or not

module _ (words : List Text) (files : FilesSeen) (out err : SinkSeen) (status : ℕ) (l : Listing) (is_call : IsToolCall words (of_labels l)) (law : AnswersAreOne)
    (contents : List ℕ → Option (List ℕ)) (told : files.told ≡ Some contents) (docs : DocumentsAreOne) (shards : ShardLaws) (one : AreOne files.told (inputs_of (of_labels l)))
    (refinements : OneRefinement) (follows : SureFollowsAnswers) (h : Held) (held : AreHeld files.told l h) (few : ¬ AreTooMany h.schema h.graph) (loaded : IsLoaded h.schema)
    (pairs : List Pair) (verdicts : Known) (demanded : AreDemanded h.schema h.terms h.graph pairs) (refined : IsRefined h.schema h.terms h.graph h.strata pairs l.budget verdicts) where
  -- what is found is found of the same
  same_found : (text notes : List ℕ) (wanted : ℕ) (answer : IsListed files.told l wanted text notes) → IsFound h l.budget answer.listed.extents
  same_found text notes wanted answer = subst (λ k. IsFound k l.budget answer.listed.extents) (one.held answer.held h answer.taken held) answer.listed.is_found

  -- and leaves something Unknown where these verdicts do
  same_unknown : (x : Extents) (found : IsFound h l.budget x) → (IsTrue x.undecided → IsUndecided h.schema h.terms h.graph verdicts) ×
      (IsUndecided h.schema h.terms h.graph verdicts → IsTrue x.undecided)
  same_unknown x found = (
    λ is. undecided_to h.schema h.terms h.graph h.strata l.budget found.found.pairs pairs found.found.verdicts verdicts refinements follows loaded found.found.demanded demanded found.found.refined refined (found.found.undecided.0 is),
    λ is. found.found.undecided.1 (undecided_to h.schema h.terms h.graph h.strata l.budget pairs found.found.pairs verdicts found.found.verdicts refinements follows loaded demanded found.found.demanded refined found.found.refined is),
  )

  not_refused : (refusal : Refusal) → IsRefused files.told (of_labels l) refusal → ⊥
  not_refused refusal refused = taken_not_refused files.told contents told docs shards (of_labels l) one (h, held, few) refusal refused

  pub undecided_ends : IsUndecided h.schema h.terms h.graph verdicts → ToolEnds words files out err status → (status ≡ 4) ⊎ IsInterrupted status
  undecided_ends is ends = call_ends words files out err status (of_labels l) is_call law (λ n. n ≡ 4)
      (λ text notes wanted answer. closing.four_by answer.listed.extents.undecided wanted answer.listed.status_is ((same_unknown answer.listed.extents (same_found text notes wanted answer)).1 is))
      (λ refusal refused. absurd (not_refused refusal refused))
      ends

  pub decided_ends : (¬ IsUndecided h.schema h.terms h.graph verdicts) → ToolEnds words files out err status → (status ≡ 0) ⊎ IsInterrupted status
  decided_ends none ends = call_ends words files out err status (of_labels l) is_call law (λ n. n ≡ 0)
      (λ text notes wanted answer. closing.nought_by answer.listed.extents.undecided wanted answer.listed.status_is (λ t. none ((same_unknown answer.listed.extents (same_found text notes wanted answer)).0 t)))
      (λ refusal refused. absurd (not_refused refusal refused))
      ends

-- ---- explanations

module _ (words : List Text) (files : FilesSeen) (out err : SinkSeen) (status : ℕ) (e : Explaining) (is_call : IsToolCall words (of_reasons e)) (law : AnswersAreOne)
    (contents : List ℕ → Option (List ℕ)) (told : files.told ≡ Some contents) (docs : DocumentsAreOne) (shards : ShardLaws) (one : AreOne files.told (inputs_of (of_reasons e)))
    (refinements : OneRefinement) (follows : SureFollowsAnswers) (verdict : OneVerdict) (q : Question) (asked : IsQuestionOf files.told e q) (loaded : IsLoaded q.held.schema)
    (verdicts : Known) (refined : IsRefined q.held.schema q.terms q.held.graph q.held.strata q.pairs e.budget verdicts) where
  abbrev Explained : ℕ → List ℕ → List ℕ → Type 0
  Explained wanted text notes = (items : List Item) × IsExplainedBy q.held.schema q.terms q.held.graph q.held.strata q.associations q.pairs items e wanted text notes

  -- what is explained is the same question
  same_explained : (text notes : List ℕ) (wanted : ℕ) → IsExplained files.told e wanted text notes → Explained wanted text notes
  same_explained text notes wanted answer = (
    answer.is_asked.items,
    subst (λ (k : Question). IsExplainedBy k.held.schema k.terms k.held.graph k.held.strata k.associations k.pairs answer.is_asked.items e wanted text notes)
        (one.question answer.question q answer.is_asked asked) answer.explained,
  )

  -- the verdicts are the same
  module _ (text notes : List ℕ) (wanted : ℕ) (items : List Item) (x : IsExplainedBy q.held.schema q.terms q.held.graph q.held.strata q.associations q.pairs items e wanted text notes) where
    abbrev view : Known
    view = x.reasons.verdicts

    abbrev R : Association → Told_of → Type 0
    R a t = IsTold q.held.schema q.terms view x.reasons.explained.subjects a t

    same_sure : (n : TermId) (d : ExprId) (v : Verdict) → IsSure q.held.schema q.terms verdicts n d v ↔ IsSure q.held.schema q.terms view n d v
    same_sure n d v =
        let (known, is, same) = x.reasons.refined in
        let to = follows q.held.schema q.terms verdicts known loaded (alike q.held.schema q.terms q.held.graph q.held.strata e.budget q.pairs verdicts known refinements loaded refined is) n d v in
        let back = follows q.held.schema q.terms view known loaded (know_alike view known same) n d v in
        (λ h. back.1 (to.0 h), λ h. to.1 (back.0 h))

    told_is : (a : Association) (t : Told_of) (v : Verdict) → R a t → IsSure q.held.schema q.terms verdicts a.node a.expr v → t.verdict ≡ v
    told_is a t v h sure = verdict q.held.schema q.terms view a.node a.expr t.verdict v h.verdict ((same_sure a.node a.expr v).0 sure)

    status_four : HaveUnknown q.held.schema q.terms verdicts q.associations → wanted ≡ 4
    status_four some =
        x.status_is ∙ is_four (are_undecided x.explanation.answers) (are_as_asked q.associations x.explanation.answers)
        (undecided_by R q.associations x.explanation.answers x.reasons.explained.told some.association some.listed
        (λ t h. unknown_is t.verdict (told_is some.association t Unknown h some.unknown)))

    status_nought : AreAsAsked q.held.schema q.terms verdicts q.associations → wanted ≡ 0
    status_nought each =
        x.status_is ∙ is_nought (are_undecided x.explanation.answers) (are_as_asked q.associations x.explanation.answers)
        (decided_by R q.associations x.explanation.answers x.reasons.explained.told (λ a t c h. (known_as t.verdict a.want (told_is a t (verdict_of a.want) h (each a c))).0))
        (as_asked_by R q.associations x.explanation.answers x.reasons.explained.told (λ a t c h. (known_as t.verdict a.want (told_is a t (verdict_of a.want) h (each a c))).1))

    status_one : (¬ HaveUnknown q.held.schema q.terms verdicts q.associations) → HaveFailing q.held.schema q.terms verdicts q.associations → wanted ≡ 1
    status_one none some =
        x.status_is ∙ is_one (are_undecided x.explanation.answers) (are_as_asked q.associations x.explanation.answers)
        (decided_by R q.associations x.explanation.answers x.reasons.explained.told (λ a t c h. known_unless t.verdict (λ is. none (record {
          association = a;
          listed = c;
          unknown = (same_sure a.node a.expr Unknown).1 (subst (λ v. IsSure q.held.schema q.terms view a.node a.expr v) is h.verdict);
        }))))
        (off_by R q.associations x.explanation.answers x.reasons.explained.told some.association some.listed
        (λ t h. known_off t.verdict some.association.want (told_is some.association t (verdict_of (not some.association.want)) h some.failing)))

  no_refusal : (refusal : Refusal) → IsRefused files.told (of_reasons e) refusal → ⊥
  no_refusal refusal refused = taken_not_refused files.told contents told docs shards (of_reasons e) one (q, asked) refusal refused

  explained_ends : (C : ℕ → Type 0) → ((text notes : List ℕ) (wanted : ℕ) → Explained wanted text notes → C wanted) → ToolEnds words files out err status → C status ⊎ IsInterrupted status
  explained_ends C with ends = call_ends words files out err status (of_reasons e) is_call law C
      (λ text notes wanted answer. with text notes wanted (same_explained text notes wanted answer))
      (λ refusal refused. absurd (no_refusal refusal refused))
      ends

  pub unsure_ends : HaveUnknown q.held.schema q.terms verdicts q.associations → ToolEnds words files out err status → (status ≡ 4) ⊎ IsInterrupted status
  unsure_ends some ends = explained_ends (λ n. n ≡ 4) (λ text notes wanted x. status_four text notes wanted x.0 x.1 some) ends

  pub as_asked_ends : AreAsAsked q.held.schema q.terms verdicts q.associations → ToolEnds words files out err status → (status ≡ 0) ⊎ IsInterrupted status
  as_asked_ends each ends = explained_ends (λ n. n ≡ 0) (λ text notes wanted x. status_nought text notes wanted x.0 x.1 each) ends

  pub failing_ends : (¬ HaveUnknown q.held.schema q.terms verdicts q.associations) → HaveFailing q.held.schema q.terms verdicts q.associations →
      ToolEnds words files out err status → (status ≡ 1) ⊎ IsInterrupted status
  failing_ends none some ends = explained_ends (λ n. n ≡ 1) (λ text notes wanted x. status_one text notes wanted x.0 x.1 none some) ends
