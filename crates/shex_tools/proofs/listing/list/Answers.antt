use Rattle.std.proofs.Common.{Err, Ok, Result}
use Rattle.std.specs.Result.{OnOk}
use Rattle.tool_words.specs.Asked.{of_labels}
use Rattle.tool_words.specs.Lent.{listing_of}
use Rattle.shex_inputs.specs.Held.{held_by}
use Rattle.shex_tools.proofs.Stopped.{when_listed, when_still, when_unlisted}
use Rattle.shex_tools.proofs.listing.list.Goals as goal

-- what is so holds where there is a value
always : {T E P : Type 0} (r : Result T E) → P → OnOk r P
always (Ok x) p = p
always (Err e) p = tt

pub returns-clause-listed : goal.returns-clause-listed
returns-clause-listed g c =
    let (digests, held) = c.in_ok-holding.ensures.held in
    when_listed (g.F.Files.told c.args.files.now) (listing_of c.args.listing.now) (held_by c.in_ok-holding.holding digests) held c.answer.result
    (c.answer.ensures.listed digests)

pub returns-clause-cause : goal.returns-clause-cause
returns-clause-cause g c =
    let (digests, held) = c.in_ok-holding.ensures.held in
    when_unlisted (g.F.Files.told c.args.files.now) (listing_of c.args.listing.now) (held_by c.in_ok-holding.holding digests) held c.answer.result
    (c.answer.ensures.stops digests)

pub returns-clause-faults : goal.returns-clause-faults
returns-clause-faults g c =
    let (digests, held) = c.in_ok-holding.ensures.held in
    when_still (of_labels (listing_of c.args.listing.now)) (g.F.Files.faults c.args.files.now) (g.F.Files.faults c.hold.new.files)
    (g.F.Files.blame c.hold.new.files) (g.F.Files.act c.hold.new.files) (held_by c.in_ok-holding.holding digests) c.in_ok-holding.ensures.faults_stay
    c.answer.result (c.answer.ensures.stops digests)

pub returns-clause-faults_stay : goal.returns-clause-faults_stay
returns-clause-faults_stay g c = always c.answer.result c.in_ok-holding.ensures.faults_stay
