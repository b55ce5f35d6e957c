use Rattle.std.proofs.Common.{rules}
use Rattle.shex_run.proofs.Closing.{absent_ends, accepted_ends, drill_ends, drill_stored, ends_kept, ends_partly, ends_quietly, faulty_ends, filled_ends, five_rose, five_unfetched, in_part, refused_ends, rejected_ends, seven_rose, taken_ends, unfaulted, unprinted, upgraded_ends, whole_ends}
use Rattle.shex_run.proofs.Exclusive.{are_one}
use Rattle.shex_run.proofs.Noted.{four_noted}
use Rattle.shex_run.proofs.Sayings.{answers, fault_interrupts, five_says, is_status, nothing_out, sink_seven, six_says, three_says, two_says, unstored}
use Rattle.shex_run.proofs.top.run.Goals as goal

-- how the call ends; the other clauses follow from it
pub returns-clause-ends : goal.returns-clause-ends
returns-clause-ends g c = search rules

pub returns-clause-statuses : goal.returns-clause-statuses
returns-clause-statuses g c = is_status _ _ _ _ _ (returns-clause-ends g c)

pub returns-clause-answered : goal.returns-clause-answered
returns-clause-answered g c = λ at. answers _ _ _ _ _ at (returns-clause-ends g c)

pub returns-clause-arguments : goal.returns-clause-arguments
returns-clause-arguments g c = λ at. two_says _ _ _ _ _ at (returns-clause-ends g c)

pub returns-clause-refused : goal.returns-clause-refused
returns-clause-refused g c = λ at. three_says _ _ _ _ _ at (returns-clause-ends g c)

pub returns-clause-failed : goal.returns-clause-failed
returns-clause-failed g c = λ at. five_says _ _ _ _ _ at (returns-clause-ends g c)

pub returns-clause-fault : goal.returns-clause-fault
returns-clause-fault g c = λ at. five_rose _ _ _ _ _ (returns-clause-ends g c) at

pub returns-clause-rejected : goal.returns-clause-rejected
returns-clause-rejected g c = λ at. six_says _ _ _ _ _ at (returns-clause-ends g c)

pub returns-clause-sink_failed : goal.returns-clause-sink_failed
returns-clause-sink_failed g c = λ at. seven_rose _ _ _ _ _ (returns-clause-ends g c) at

pub returns-clause-nothing_out : goal.returns-clause-nothing_out
returns-clause-nothing_out g c = λ at. nothing_out _ _ _ _ _ at (returns-clause-ends g c)

pub returns-clause-unstored : goal.returns-clause-unstored
returns-clause-unstored g c = λ at. unstored _ _ _ _ _ at (returns-clause-ends g c)

pub returns-clause-files_fault : goal.returns-clause-files_fault
returns-clause-files_fault g c = λ more. fault_interrupts _ _ _ _ _ more (returns-clause-ends g c)

pub returns-clause-sink_fault : goal.returns-clause-sink_fault
returns-clause-sink_fault g c = λ fault. sink_seven _ _ _ _ _ fault (returns-clause-ends g c)

pub returns-clause-in_part : goal.returns-clause-in_part
returns-clause-in_part g c = in_part _ _ _ _ _ (returns-clause-ends g c)

pub returns-clause-unprinted : goal.returns-clause-unprinted
returns-clause-unprinted g c = unprinted _ _ _ _ _ (returns-clause-ends g c)

pub returns-clause-stored_whole : goal.returns-clause-stored_whole
returns-clause-stored_whole g c = λ contents k map_name name budget told is_asked to taken.
    whole_ends _ k is_asked c.answers_are_one.ensures _ _ _ _ contents told (are_one c.inputs_are_one.ensures contents _ told k) map_name name budget to taken (returns-clause-ends g c)

pub returns-clause-upgraded_whole : goal.returns-clause-upgraded_whole
returns-clause-upgraded_whole g c = λ contents k name h bytes terms answers told is_asked to given accepted.
    upgraded_ends _ k is_asked c.answers_are_one.ensures _ _ _ _ contents told (are_one c.inputs_are_one.ensures contents _ told k) h bytes given name to terms answers accepted (returns-clause-ends g c)

pub returns-clause-stored_in_part : goal.returns-clause-stored_in_part
returns-clause-stored_in_part g c = λ interrupted. ends_partly _ _ _ _ _ (returns-clause-ends g c)

pub returns-clause-unfetched : goal.returns-clause-unfetched
returns-clause-unfetched g c = λ at act. five_unfetched _ _ _ _ _ (returns-clause-ends g c) at act

pub returns-clause-told : goal.returns-clause-told
returns-clause-told g c = ends_kept _ _ _ _ _ (returns-clause-ends g c)

pub returns-clause-unasked : goal.returns-clause-unasked
returns-clause-unasked g c = λ f is. faulty_ends _ _ _ _ _ c.answers_are_one.ensures f is (returns-clause-ends g c)

pub returns-clause-takes : goal.returns-clause-takes
returns-clause-takes g c =
    λ contents k told is_asked taken. taken_ends _ k is_asked c.answers_are_one.ensures _ _ _ _ contents told (are_one c.inputs_are_one.ensures contents _ told k) taken (returns-clause-ends g c)

pub returns-clause-accepts : goal.returns-clause-accepts
returns-clause-accepts g c = λ contents k h bytes terms answers told is_asked given accepted.
    accepted_ends _ k is_asked c.answers_are_one.ensures _ _ _ _ contents told (are_one c.inputs_are_one.ensures contents _ told k) h bytes given terms answers accepted (returns-clause-ends g c)

pub returns-clause-rejects : goal.returns-clause-rejects
returns-clause-rejects g c =
    λ contents k rejection told is_asked cause. rejected_ends _ k is_asked c.answers_are_one.ensures _ _ _ _ contents told (are_one c.inputs_are_one.ensures contents _ told k) rejection cause (returns-clause-ends g c)

pub returns-clause-refuses : goal.returns-clause-refuses
returns-clause-refuses g c =
    λ contents k refusal told is_asked cause. refused_ends _ k is_asked c.answers_are_one.ensures _ _ _ _ contents told (are_one c.inputs_are_one.ensures contents _ told k) refusal cause (returns-clause-ends g c)

pub returns-clause-fills : goal.returns-clause-fills
returns-clause-fills g c =
    λ contents k told is_asked full. filled_ends _ k is_asked c.answers_are_one.ensures _ _ _ _ contents told (are_one c.inputs_are_one.ensures contents _ told k) full (returns-clause-ends g c)

pub returns-clause-misses : goal.returns-clause-misses
returns-clause-misses g c =
    λ contents k file told is_asked absent. absent_ends _ k is_asked c.answers_are_one.ensures _ _ _ _ contents told (are_one c.inputs_are_one.ensures contents _ told k) file absent (returns-clause-ends g c)

pub returns-clause-completes : goal.returns-clause-completes
returns-clause-completes g c = λ contents k told is_asked taken files out err.
    unfaulted _ _ _ _ _ (five_rose _ _ _ _ _ (returns-clause-ends g c)) (seven_rose _ _ _ _ _ (returns-clause-ends g c)) files out err
    (taken_ends _ k is_asked c.answers_are_one.ensures _ _ _ _ contents told (are_one c.inputs_are_one.ensures contents _ told k) taken (returns-clause-ends g c))

pub returns-clause-answered_quietly : goal.returns-clause-answered_quietly
returns-clause-answered_quietly g c = λ low. ends_quietly _ _ _ _ _ (returns-clause-ends g c) low

pub returns-clause-noted : goal.returns-clause-noted
returns-clause-noted g c = λ at text notes by. four_noted c.none_is_wide.ensures _ _ _ text notes _ at by

pub returns-clause-drills : goal.returns-clause-drills
returns-clause-drills g c = λ d is. drill_ends _ d is c.answers_are_one.ensures _ _ _ _ (returns-clause-ends g c)

pub returns-clause-drilled_whole : goal.returns-clause-drilled_whole
returns-clause-drilled_whole g c = λ d name is named at still. drill_stored _ d is c.answers_are_one.ensures _ _ _ _ name named (returns-clause-ends g c) at still
