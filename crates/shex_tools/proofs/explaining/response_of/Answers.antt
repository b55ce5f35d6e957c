use Rattle.std.proofs.Common.{◌∙◌, ap, refl, subst}
use Rattle.tool_words.specs.Lent.{explaining_of}
use Rattle.shex_tools.specs.Notes.{AreNotes}
use Rattle.shex_tools.specs.Reasons.{are_undecided, status_of}
use Rattle.shex_tools.specs.Texts.{IsPrinted}
use Rattle.shex_tools.proofs.Noted.{are_notes}
use Rattle.shex_tools.proofs.Reasoned.{is_printed}
use Rattle.shex_tools.proofs.explaining.response_of.Goals as goal

pub push_idle_notes-requires : goal.push_idle_notes-requires
push_idle_notes-requires c = (c.args.holding.now.terms, c.requires.ready.sealed)

pub returns-clause-explained : goal.returns-clause-explained
returns-clause-explained c =
    let h = c.args.holding.now in
    let x = c.args.findings.now.explanation in
    let e = c.args.explaining.now in
    let map = c.args.asked.now.map in
    let notes = c.push_idle_notes.new.out.items in
    let (idle, idle_are, noted) = c.in_ok-push_idle_notes.ensures in
    record {
      explanation = x;
      wide = c.args.findings.now.wide;
      reasons = c.requires.findings;
      status_is =
          c.status.ensures.status
          ∙ ap (λ ys. status_of c.as_slice-associations.result.now ys) c.as_slice-answers.ensures
          ∙ ap (λ xs. status_of xs x.answers) c.as_slice-associations.ensures.value;
      text_is =
          subst (λ xs. IsPrinted h.schema h.terms (explaining_of e) xs x.answers c.in_ok-text.text.items) c.as_slice-associations.ensures.value
          (is_printed h.schema h.terms (explaining_of e) c.as_slice-associations.result.now x.answers _ c.in_ok-text.text.items refl refl c.in_ok-names.ensures refl c.in_ok-text.ensures);
      notes_are =
          subst (λ b. AreNotes h.schema h.terms h.graph.triples map (explaining_of e) b c.args.findings.now.wide notes)
          (c.are_undecided-undecided.ensures ∙ ap are_undecided c.as_slice-answers.ensures)
          (subst (λ ws. AreNotes h.schema h.terms h.graph.triples map (explaining_of e) c.are_undecided-undecided.result ws notes) c.as_slice-wide.ensures
          (are_notes h.schema h.terms h.graph.triples map (explaining_of e) c.are_undecided-undecided.result c.as_slice-wide.result.now c.in_ok-names.names c.in_ok-names.ensures c.in_ok-notes.notes.items idle notes c.in_ok-notes.ensures idle_are noted));
    }
