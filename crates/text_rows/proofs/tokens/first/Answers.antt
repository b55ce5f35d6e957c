use Rattle.std.proofs.lemmas.Str.{IsCharBoundary-start}
use Rattle.text_rows.proofs.tokens.first.Goals as goal

pub next-requires : goal.next-requires
next-requires c = IsCharBoundary-start _ c.utf8.source
