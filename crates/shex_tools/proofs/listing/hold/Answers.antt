use Rattle.std.proofs.Common.{[]}
use Rattle.tool_words.specs.Asked.{of_labels}
use Rattle.tool_words.specs.Lent.{listing_of}
use Rattle.shex_tools.proofs.Stopped.{input_explains, input_faults}
use Rattle.shex_tools.proofs.listing.hold.Goals as goal

pub returns-in-Err-clause-cause : goal.returns-in-Err-clause-cause
returns-in-Err-clause-cause g c =
    input_explains (g.F.Files.told c.args.files.now) (listing_of c.args.listing.now) c.in-Err.error c.stop_of.result c.in-Err.ensures.before_map (c.in-Err.ensures.cause []) c.stop_of.ensures

pub returns-in-Err-clause-faults : goal.returns-in-Err-clause-faults
returns-in-Err-clause-faults g c =
    input_faults (of_labels (listing_of c.args.listing.now)) (g.F.Files.faults c.args.files.now) (g.F.Files.faults c.read_holding.new.files)
    (g.F.Files.blame c.read_holding.new.files) (g.F.Files.act c.read_holding.new.files)
    c.in-Err.error c.stop_of.result (c.in-Err.ensures.faults []) c.stop_of.ensures

pub returns-in-Ok-clause-held : goal.returns-in-Ok-clause-held
returns-in-Ok-clause-held g c = let held = c.in-Ok.ensures.taken [] in (held.files, held.taken)
