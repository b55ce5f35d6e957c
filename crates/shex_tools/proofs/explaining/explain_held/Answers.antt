use Rattle.std.proofs.Common.{refl}
use Rattle.shex_inputs.specs.Asked.{Question}
use Rattle.shex_inputs.specs.Held.{held_by}
use Rattle.tool_words.specs.Lent.{explaining_of}
use Rattle.shex_tools.specs.Outcomes.{IsQuestionOf}
use Rattle.shex_tools.proofs.Reasoned.{when_explained}
use Rattle.shex_tools.proofs.explaining.explain_held.Goals as goal

pub returns-in-Ok-clause-explained : goal.returns-in-Ok-clause-explained
returns-in-Ok-clause-explained g c =
    let (digests, taken) = c.requires.taken in
    let h = c.ask.new.holding in
    let a = c.in_ok-asked.asked in
    let q : Question = record { held = held_by c.args.holding.now digests; terms = h.terms; associations = a.associations.items; pairs = a.pairs } in
    let asked = c.in_ok-asked.ensures.asked digests taken in
    let is : IsQuestionOf (g.F.Files.told c.args.files.now) (explaining_of c.args.explaining.now) q = record {
      taken = taken;
      items = a.map;
      holds_map = c.in_ok-asked.ensures.map digests taken;
      ends = c.in_ok-asked.ensures.ends digests taken;
      few = asked.few;
      asked = asked.asked;
    } in
    when_explained (g.F.Files.told c.args.files.now) (explaining_of c.args.explaining.now) q h is
    c.ask.ensures.schema c.ask.ensures.strata c.ask.ensures.graph refl c.in-Ok.response.status c.in-Ok.response.text.items c.in-Ok.response.notes.items c.in-Ok.ensures.explained
