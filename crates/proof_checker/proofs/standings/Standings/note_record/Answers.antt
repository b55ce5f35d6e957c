use Rattle.std.proofs.Common.{ap, sym, ◌∙◌}
use Rattle.std.specs.Prelude.{Some, None}
use Rattle.std.proofs.lemmas.Option.{slice_get-get_or, slice_get_past}
use Rattle.std.proofs.lemmas.Result.{on_ok_weaker}
use Rattle.proof_checker.proofs.Noted.{noted, noted_none, noted_record}
use Rattle.proof_checker.proofs.standings.Standings.note_record.Goals as goal

pub returns-in-Some : goal.returns-in-Some
returns-in-Some c =
    let at = slice_get-get_or c.args.nodes.now c.args.entry.now.node c.in-Some.node.now c.in-Some.ensures.lookup.3.0 ∙ ap (λ x. Some x) (sym c.in-Some.ensures.lookup.1) in
    on_ok_weaker c.note.result
    (λ changes plus minus ok. noted_record c.args.nodes.now c.args.entry.now (Some c.in-Some.node.now) at plus minus c.note.new.self
    (noted c.args.self.now c.note.new.self _ c.args.entry.now.kind changes plus minus ok))
    c.note.ensures

pub returns-in-None : goal.returns-in-None
returns-in-None c =
    λ plus minus ok. noted_record c.args.nodes.now c.args.entry.now None (slice_get_past c.args.nodes.now c.args.entry.now.node c.in-None.ensures.lookup.3) plus minus c.args.self.now
    (noted_none c.args.entry.now.kind plus minus c.args.self.now ok)
