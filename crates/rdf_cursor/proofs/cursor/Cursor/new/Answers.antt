use Rattle.std.proofs.Common.{sym}
use Rattle.std.proofs.lemmas.Str.{IsCharBoundary-start}
use Rattle.rdf_cursor.proofs.Moves.{reached_new, cut_next}
use Rattle.rdf_cursor.proofs.Streams.{stream_lexed}
use Rattle.rdf_cursor.proofs.cursor.Cursor.new.Goals as goal

pub next-next-requires : goal.next-next-requires
next-next-requires c = IsCharBoundary-start _ c.utf8.source

pub invariant_of-result-clause-utf8 : goal.invariant_of-result-clause-utf8
invariant_of-result-clause-utf8 c = ∣ c.utf8.source ∣₁

pub invariant_of-result-clause-cut : goal.invariant_of-result-clause-cut
invariant_of-result-clause-cut c = cut_next _ _ _ _ ∣ c.utf8.source ∣₁ c.next-next.ensures.longest

pub invariant_of-result-clause-reached : goal.invariant_of-result-clause-reached
invariant_of-result-clause-reached c = reached_new _ _ _ c.next-next.ensures.scanned

pub returns-clause-ahead : goal.returns-clause-ahead
returns-clause-ahead c = sym (stream_lexed _ _ c.utf8.source 0 _ (IsCharBoundary-start _ c.utf8.source) c.next-next.ensures.scanned)
