use Rattle.std.proofs.Common.{rules}
use Rattle.call_ends.proofs.Closing.{fault_interrupts, five_says, in_part, nothing_out, seven_rose, sink_seven, three_says, told_stays, two_says, unfaulted, unprinted}
use Rattle.tool_words.specs.Asked.{of_labels, of_reasons}
use Rattle.shex_tools.specs.Calls.{inputs_of}
use Rattle.shex_tools.proofs.Closing.{absent_ends, as_asked_ends, decided_ends, failing_ends, faulty_ends, four_leaves_out, four_noted, gives, idle_told, is_status, of_answer, one_fails, quietly, refused_ends, taken_ends, undecided_ends, unsure_ends}
use Rattle.shex_tools.proofs.Exclusive.{are_one, shard_laws}
use Rattle.shex_tools.proofs.top.run_tool.Goals as goal

-- how the call ends; the other clauses follow from it
pub returns-clause-ends : goal.returns-clause-ends
returns-clause-ends g c = search rules

pub returns-clause-statuses : goal.returns-clause-statuses
returns-clause-statuses g c = is_status _ _ _ _ _ (returns-clause-ends g c)

pub returns-clause-four : goal.returns-clause-four
returns-clause-four g c = λ at. four_leaves_out _ _ _ _ _ at (returns-clause-ends g c)

pub returns-clause-told : goal.returns-clause-told
returns-clause-told g c = told_stays _ _ _ _ _ _ _ _ (returns-clause-ends g c)

pub returns-clause-answered : goal.returns-clause-answered
returns-clause-answered g c = λ at. gives _ _ _ _ _ at (returns-clause-ends g c)

pub returns-clause-answered_quietly : goal.returns-clause-answered_quietly
returns-clause-answered_quietly g c = λ at. quietly _ _ _ _ _ at (returns-clause-ends g c)

pub returns-clause-idle : goal.returns-clause-idle
returns-clause-idle g c = λ at e is_call. idle_told _ _ _ _ _ c.lines_are_exact.ensures c.answers_are_one.ensures e is_call at (returns-clause-ends g c)

pub returns-clause-noted : goal.returns-clause-noted
returns-clause-noted g c = λ at text notes by. four_noted c.none_is_wide.ensures _ _ text notes _ at by

pub returns-clause-arguments : goal.returns-clause-arguments
returns-clause-arguments g c = λ at. two_says _ _ _ _ _ _ _ _ (of_answer _ _) at (returns-clause-ends g c)

pub returns-clause-refused : goal.returns-clause-refused
returns-clause-refused g c = λ at. three_says _ _ _ _ _ _ _ _ (of_answer _ _) at (returns-clause-ends g c)

pub returns-clause-failed : goal.returns-clause-failed
returns-clause-failed g c = λ at. five_says _ _ _ _ _ _ _ _ (of_answer _ _) at (returns-clause-ends g c)

pub returns-clause-fault : goal.returns-clause-fault
returns-clause-fault g c = λ at. let (line, by, gains) = five_says _ _ _ _ _ _ _ _ (of_answer _ _) at (returns-clause-ends g c) in by.rose

pub returns-clause-sink_failed : goal.returns-clause-sink_failed
returns-clause-sink_failed g c = λ at. seven_rose _ _ _ _ _ _ _ _ (of_answer _ _) at (returns-clause-ends g c)

pub returns-clause-nothing_out : goal.returns-clause-nothing_out
returns-clause-nothing_out g c = λ at. nothing_out _ _ _ _ _ _ _ _ (of_answer _ _) at (returns-clause-ends g c)

pub returns-clause-in_part : goal.returns-clause-in_part
returns-clause-in_part g c = λ at. in_part _ _ _ _ _ _ _ _ (of_answer _ _) at (returns-clause-ends g c)

pub returns-clause-unprinted : goal.returns-clause-unprinted
returns-clause-unprinted g c = λ at. unprinted _ _ _ _ _ _ _ _ (of_answer _ _) at (returns-clause-ends g c)

pub returns-clause-unasked : goal.returns-clause-unasked
returns-clause-unasked g c = λ f is. faulty_ends _ _ _ _ _ c.answers_are_one.ensures f is (returns-clause-ends g c)

pub returns-clause-takes : goal.returns-clause-takes
returns-clause-takes g c = λ contents call told is_call taken.
    taken_ends _ _ _ _ _ call is_call c.answers_are_one.ensures contents told c.documents_are_one.ensures (shard_laws c.calls_end_in_one_way.ensures.answered c.calls_end_in_one_way.ensures.refused)
    (are_one c.inputs_are_one.ensures contents _ told (inputs_of call)) taken (returns-clause-ends g c)

pub returns-clause-completes : goal.returns-clause-completes
returns-clause-completes g c = λ contents call told is_call taken files out err.
    unfaulted _ _ _ _ _ (returns-clause-fault g c) (returns-clause-sink_failed g c) files out err
    (taken_ends _ _ _ _ _ call is_call c.answers_are_one.ensures contents told c.documents_are_one.ensures (shard_laws c.calls_end_in_one_way.ensures.answered c.calls_end_in_one_way.ensures.refused) (are_one c.inputs_are_one.ensures contents _ told (inputs_of call)) taken (returns-clause-ends g c))

pub returns-clause-refuses : goal.returns-clause-refuses
returns-clause-refuses g c = λ contents call refusal told is_call refused.
    refused_ends _ _ _ _ _ call is_call c.answers_are_one.ensures contents told c.documents_are_one.ensures (shard_laws c.calls_end_in_one_way.ensures.answered c.calls_end_in_one_way.ensures.refused)
    (are_one c.inputs_are_one.ensures contents _ told (inputs_of call)) refusal refused (returns-clause-ends g c)

pub returns-clause-misses : goal.returns-clause-misses
returns-clause-misses g c = λ contents call source told is_call absent.
    absent_ends _ _ _ _ _ call is_call c.answers_are_one.ensures contents told c.documents_are_one.ensures (shard_laws c.calls_end_in_one_way.ensures.answered c.calls_end_in_one_way.ensures.refused)
    (are_one c.inputs_are_one.ensures contents _ told (inputs_of call)) source absent (returns-clause-ends g c)

pub returns-clause-undecided : goal.returns-clause-undecided
returns-clause-undecided g c = λ contents l h pairs verdicts told is_call held few demanded refined is.
    undecided_ends _ _ _ _ _ l is_call c.answers_are_one.ensures contents told c.documents_are_one.ensures (shard_laws c.calls_end_in_one_way.ensures.answered c.calls_end_in_one_way.ensures.refused)
    (are_one c.inputs_are_one.ensures contents _ told (inputs_of (of_labels l)))
    c.refinement_is_one.ensures.one c.layers_are_meanings.ensures.sure_answers h held few (c.taken_is_loaded.ensures _ _ h held) pairs verdicts demanded refined is (returns-clause-ends g c)

pub returns-clause-decided : goal.returns-clause-decided
returns-clause-decided g c = λ contents l h pairs verdicts told is_call held few demanded refined none.
    decided_ends _ _ _ _ _ l is_call c.answers_are_one.ensures contents told c.documents_are_one.ensures (shard_laws c.calls_end_in_one_way.ensures.answered c.calls_end_in_one_way.ensures.refused)
    (are_one c.inputs_are_one.ensures contents _ told (inputs_of (of_labels l)))
    c.refinement_is_one.ensures.one c.layers_are_meanings.ensures.sure_answers h held few (c.taken_is_loaded.ensures _ _ h held) pairs verdicts demanded refined none (returns-clause-ends g c)

pub returns-clause-unsure : goal.returns-clause-unsure
returns-clause-unsure g c = λ contents e q verdicts told is_call asked refined some.
    unsure_ends _ _ _ _ _ e is_call c.answers_are_one.ensures contents told c.documents_are_one.ensures (shard_laws c.calls_end_in_one_way.ensures.answered c.calls_end_in_one_way.ensures.refused)
    (are_one c.inputs_are_one.ensures contents _ told (inputs_of (of_reasons e)))
    c.refinement_is_one.ensures.one c.layers_are_meanings.ensures.sure_answers c.verdict_is_one.ensures.one q asked (c.taken_is_loaded.ensures _ _ q.held asked.taken) verdicts refined some (returns-clause-ends g c)

pub returns-clause-unexplained : goal.returns-clause-unexplained
returns-clause-unexplained g c = λ contents e q verdicts told is_call asked refined each.
    as_asked_ends _ _ _ _ _ e is_call c.answers_are_one.ensures contents told c.documents_are_one.ensures (shard_laws c.calls_end_in_one_way.ensures.answered c.calls_end_in_one_way.ensures.refused)
    (are_one c.inputs_are_one.ensures contents _ told (inputs_of (of_reasons e)))
    c.refinement_is_one.ensures.one c.layers_are_meanings.ensures.sure_answers c.verdict_is_one.ensures.one q asked (c.taken_is_loaded.ensures _ _ q.held asked.taken) verdicts refined each (returns-clause-ends g c)

pub returns-clause-explained : goal.returns-clause-explained
returns-clause-explained g c = λ contents e q verdicts told is_call asked refined none some.
    failing_ends _ _ _ _ _ e is_call c.answers_are_one.ensures contents told c.documents_are_one.ensures (shard_laws c.calls_end_in_one_way.ensures.answered c.calls_end_in_one_way.ensures.refused)
    (are_one c.inputs_are_one.ensures contents _ told (inputs_of (of_reasons e)))
    c.refinement_is_one.ensures.one c.layers_are_meanings.ensures.sure_answers c.verdict_is_one.ensures.one q asked (c.taken_is_loaded.ensures _ _ q.held asked.taken) verdicts refined none some (returns-clause-ends g c)

pub returns-clause-failing : goal.returns-clause-failing
returns-clause-failing g c = λ at. one_fails _ _ _ _ _ at (returns-clause-ends g c)

pub returns-clause-files_fault : goal.returns-clause-files_fault
returns-clause-files_fault g c = λ more. fault_interrupts _ _ _ _ _ _ _ _ more (returns-clause-ends g c)

pub returns-clause-sink_fault : goal.returns-clause-sink_fault
returns-clause-sink_fault g c = λ more. sink_seven _ _ _ _ _ _ _ _ more (returns-clause-ends g c)
