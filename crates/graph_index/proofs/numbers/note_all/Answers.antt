use Rattle.graph_index.proofs.numbers.note_all.Goals as goal

pub returns-clause-held : goal.returns-clause-held
returns-clause-held c = record {
  subject = c.in_ok-note-3.ensures.kept _ (c.in_ok-note-2.ensures.kept _ c.in_ok-note.ensures.held);
  predicate = c.in_ok-note-3.ensures.kept _ c.in_ok-note-2.ensures.held;
  object = c.in_ok-note-3.ensures.held;
}
