use Rattle.std.proofs.Common.{rules}
use Rattle.call_ends.proofs.Closing.{unfaulted}
use Rattle.session_run.proofs.Closing.{absent_ends, faulty_ends, five_rose, refused_ends, says_answers, says_fault, says_five, says_in_part, says_noted, says_nothing_out, says_quietly, says_seven, says_status, says_three, says_told, says_two, says_unprinted, seven_comes, taken_ends, unrefused_ends}
use Rattle.session_run.proofs.Exclusive.{laws_of}
use Rattle.session_run.proofs.top.run_session.Goals as goal

-- how the call ends; the other clauses follow from it
pub returns-clause-ends : goal.returns-clause-ends
returns-clause-ends g c = search rules

pub returns-clause-statuses : goal.returns-clause-statuses
returns-clause-statuses g c = says_status _ _ _ _ _ (returns-clause-ends g c)

pub returns-clause-told : goal.returns-clause-told
returns-clause-told g c = says_told _ _ _ _ _ (returns-clause-ends g c)

pub returns-clause-answered : goal.returns-clause-answered
returns-clause-answered g c = λ at. says_answers _ _ _ _ _ (returns-clause-ends g c) at

pub returns-clause-answered_quietly : goal.returns-clause-answered_quietly
returns-clause-answered_quietly g c = λ at. says_quietly _ _ _ _ _ (returns-clause-ends g c) at

pub returns-clause-noted : goal.returns-clause-noted
returns-clause-noted g c = λ at text notes by. says_noted _ _ _ _ _ (returns-clause-ends g c) c.none_is_wide.ensures text notes by at

pub returns-clause-arguments : goal.returns-clause-arguments
returns-clause-arguments g c = λ at. says_two _ _ _ _ _ (returns-clause-ends g c) at

pub returns-clause-refused : goal.returns-clause-refused
returns-clause-refused g c = λ at. says_three _ _ _ _ _ (returns-clause-ends g c) at

pub returns-clause-failed : goal.returns-clause-failed
returns-clause-failed g c = λ at. says_five _ _ _ _ _ (returns-clause-ends g c) at

pub returns-clause-fault : goal.returns-clause-fault
returns-clause-fault g c = λ at. five_rose _ _ _ _ _ (returns-clause-ends g c) at

pub returns-clause-sink_failed : goal.returns-clause-sink_failed
returns-clause-sink_failed g c = λ at. seven_comes _ _ _ _ _ (returns-clause-ends g c) at

pub returns-clause-nothing_out : goal.returns-clause-nothing_out
returns-clause-nothing_out g c = λ at. says_nothing_out _ _ _ _ _ (returns-clause-ends g c) at

pub returns-clause-in_part : goal.returns-clause-in_part
returns-clause-in_part g c = λ at. says_in_part _ _ _ _ _ (returns-clause-ends g c) at

pub returns-clause-unprinted : goal.returns-clause-unprinted
returns-clause-unprinted g c = λ at. says_unprinted _ _ _ _ _ (returns-clause-ends g c) at

pub returns-clause-unasked : goal.returns-clause-unasked
returns-clause-unasked g c = λ f is. faulty_ends _ _ _ _ _ c.answers_are_one.ensures f is (returns-clause-ends g c)

pub returns-clause-takes : goal.returns-clause-takes
returns-clause-takes g c = λ contents e replies told is_asked are.
    taken_ends _ _ _ _ _ c.answers_are_one.ensures e is_asked contents told
    (laws_of c.inputs_are_one.ensures c.taken_is_loaded.ensures c.scripts_are_one.ensures.short c.scripts_are_not_refused.ensures c.answers_are_of_sets.ensures.answers c.answers_are_of_sets.ensures.reach contents _ told _) replies are (returns-clause-ends g c)

pub returns-clause-refuses : goal.returns-clause-refuses
returns-clause-refuses g c = λ contents e refusal told is_asked cause.
    refused_ends _ _ _ _ _ c.answers_are_one.ensures e is_asked contents told
    (laws_of c.inputs_are_one.ensures c.taken_is_loaded.ensures c.scripts_are_one.ensures.short c.scripts_are_not_refused.ensures c.answers_are_of_sets.ensures.answers c.answers_are_of_sets.ensures.reach contents _ told _) refusal cause (returns-clause-ends g c)

pub returns-clause-misses : goal.returns-clause-misses
returns-clause-misses g c = λ contents e file told is_asked absent.
    absent_ends _ _ _ _ _ c.answers_are_one.ensures e is_asked contents told
    (laws_of c.inputs_are_one.ensures c.taken_is_loaded.ensures c.scripts_are_one.ensures.short c.scripts_are_not_refused.ensures c.answers_are_of_sets.ensures.answers c.answers_are_of_sets.ensures.reach contents _ told _) file absent (returns-clause-ends g c)

pub returns-clause-completes : goal.returns-clause-completes
returns-clause-completes g c = λ contents e replies told is_asked are files out err.
    unfaulted _ _ _ _ _ (five_rose _ _ _ _ _ (returns-clause-ends g c)) (seven_comes _ _ _ _ _ (returns-clause-ends g c)) files out err
    (taken_ends _ _ _ _ _ c.answers_are_one.ensures e is_asked contents told
    (laws_of c.inputs_are_one.ensures c.taken_is_loaded.ensures c.scripts_are_one.ensures.short c.scripts_are_not_refused.ensures c.answers_are_of_sets.ensures.answers c.answers_are_of_sets.ensures.reach contents _ told _) replies are (returns-clause-ends g c))

pub returns-clause-unrefused : goal.returns-clause-unrefused
returns-clause-unrefused g c = λ e is_asked none. unrefused_ends _ _ _ _ _ c.answers_are_one.ensures e is_asked none (returns-clause-ends g c)

pub returns-clause-files_fault : goal.returns-clause-files_fault
returns-clause-files_fault g c = λ more. says_fault _ _ _ _ _ (returns-clause-ends g c) more

pub returns-clause-sink_fault : goal.returns-clause-sink_fault
returns-clause-sink_fault g c = λ more. says_seven _ _ _ _ _ (returns-clause-ends g c) more
