use Rattle.typing_answers.proofs.Placing.{ArePlaced, answered_within, are_placed, claims_beside, of_table, own_beside, own_within}
use Rattle.typing_answers.proofs.Proving.{counted_by, is_proof, made_of}
use Rattle.typing_answers.proofs.stored.proof_of.Goals as goal

pub places_by_number-requires-clause-of_table : goal.places_by_number-requires-clause-of_table
places_by_number-requires-clause-of_table c =
    of_table c.args.terms.now c.args.records.nodes.items c.as_slice-recorded.result.now c.in_ok-distinct.distinct.items c.as_slice-nodes.result.now
    c.args.records.sections.items c.args.answers.now c.as_slice-recorded.ensures.value c.as_slice-nodes.ensures.value
    c.in_ok-distinct.ensures.exactly c.requires.range

pub places_of-requires : goal.places_of-requires
places_of-requires c =
    let recorded = c.as_slice-recorded.result.now in
    let distinct = c.in_ok-distinct.distinct.items in
    let nodes = c.as_slice-nodes.result.now in
    let answers = c.args.answers.now in
    let by_number = c.as_slice-by_number.result.now in
    own_within recorded nodes answers by_number
    (are_placed recorded distinct nodes answers c.in_ok-placed.placed.items by_number
    c.as_slice-nodes.ensures.value c.in_ok-distinct.ensures.exactly c.as_slice-by_number.ensures.value c.in_ok-placed.ensures)

pub moved_sections-requires : goal.moved_sections-requires
moved_sections-requires c =
    let recorded = c.as_slice-recorded.result.now in
    let distinct = c.in_ok-distinct.distinct.items in
    let nodes = c.as_slice-nodes.result.now in
    let answers = c.args.answers.now in
    let by_number = c.as_slice-by_number.result.now in
    let places = c.in_ok-places.places.items in
    let placed : ArePlaced recorded nodes answers by_number =
    are_placed recorded distinct nodes answers c.in_ok-placed.placed.items by_number
    c.as_slice-nodes.ensures.value c.in_ok-distinct.ensures.exactly c.as_slice-by_number.ensures.value c.in_ok-placed.ensures in
    counted_by c.args.terms.now c.args.records.nodes.items recorded nodes c.args.records.sections.items answers places c.as_slice-numbers.result.now
    c.as_slice-recorded.ensures.value c.as_slice-numbers.ensures.value c.requires.range
    (own_beside recorded nodes answers by_number placed places c.in_ok-places.ensures)

pub terms_of-requires : goal.terms_of-requires
terms_of-requires c =
    of_table c.args.terms.now c.args.records.nodes.items c.as_slice-recorded.result.now c.in_ok-distinct.distinct.items c.as_slice-nodes.result.now
    c.args.records.sections.items c.args.answers.now c.as_slice-recorded.ensures.value c.as_slice-nodes.ensures.value
    c.in_ok-distinct.ensures.exactly c.requires.range

pub claims_of-requires : goal.claims_of-requires
claims_of-requires c =
    let recorded = c.as_slice-recorded.result.now in
    let distinct = c.in_ok-distinct.distinct.items in
    let nodes = c.as_slice-nodes.result.now in
    let answers = c.args.answers.now in
    let by_number = c.as_slice-by_number.result.now in
    answered_within recorded nodes answers by_number
    (are_placed recorded distinct nodes answers c.in_ok-placed.placed.items by_number
    c.as_slice-nodes.ensures.value c.in_ok-distinct.ensures.exactly c.as_slice-by_number.ensures.value c.in_ok-placed.ensures)

pub returns-clause-proof : goal.returns-clause-proof
returns-clause-proof c = λ s g f pairs budget verdicts shown.
    let recorded = c.as_slice-recorded.result.now in
    let distinct = c.in_ok-distinct.distinct.items in
    let nodes = c.as_slice-nodes.result.now in
    let answers = c.args.answers.now in
    let by_number = c.as_slice-by_number.result.now in
    let own = c.args.records.nodes.items in
    let sections = c.args.records.sections.items in
    let places = c.in_ok-places.places.items in
    let claims = c.in_ok-claims.claims.items in
    let placed : ArePlaced recorded nodes answers by_number =
    are_placed recorded distinct nodes answers c.in_ok-placed.placed.items by_number
    c.as_slice-nodes.ensures.value c.in_ok-distinct.ensures.exactly c.as_slice-by_number.ensures.value c.in_ok-placed.ensures in
    is_proof s c.args.terms.now g f pairs budget verdicts own sections answers shown c.laws.ensures.laws c.laws.ensures.distinct nodes
    (record { head = c.args.head; nodes = c.of.result; sections = c.of-2.result; claims = c.of-3.result })
    (made_of c.args.terms.now c.args.head own recorded distinct nodes sections c.in_ok-renumbered.renumbered.items answers
    places c.as_slice-numbers.result.now c.in_ok-terms_of_nodes.terms_of_nodes.items c.of.result c.of-2.result claims c.of-3.result
    c.requires.lines c.as_slice-recorded.ensures.value c.as_slice-nodes.ensures.value c.as_slice-numbers.ensures.value c.requires.range
    c.in_ok-distinct.ensures.sorted c.in_ok-distinct.ensures.exactly c.in_ok-distinct.ensures.few
    (own_beside recorded nodes answers by_number placed places c.in_ok-places.ensures) c.in_ok-renumbered.ensures
    c.in_ok-terms_of_nodes.ensures.numbers c.in_ok-terms_of_nodes.ensures.values
    (claims_beside recorded nodes answers by_number placed claims c.in_ok-claims.ensures)
    c.of.ensures c.of-2.ensures c.of-3.ensures)
