use Rattle.std.proofs.Common.{sym, refl, ◌∙◌, arith}
use Rattle.std.proofs.lemmas.Str.{IsCharBoundary-start}
use Rattle.rdf_lex.proofs.Skipping.{skips_goes, skips_stops, skips_ends, skips_bound, skips_room}
use Rattle.rdf_lex.proofs.lexed.blanks.Goals as goal

pub loop-ch-init : goal.loop-ch-init
loop-ch-init c = rw (c.into_iter-ch-iterator.ensures.into_iter_gives, c.chars-ch-items.ensures.rest) (refl, c.utf8.source, omega arith, refl, IsCharBoundary-start _ c.utf8.source)

pub add_len-len-requires : goal.add_len-len-requires
add_len-len-requires c = skips_room _ _ _ _ _ _ _ c.in-Some.ensures.steps.0 c.loop-ch.invariant

pub loop-ch-preserved : goal.loop-ch-preserved
loop-ch-preserved c = skips_goes _ _ _ _ _ _ _ _ _ c.in-Some.ensures.steps.0 c.add_len-len.ensures (sym c.next_blank.ensures ∙ c.in-Some-next_blank.is) c.loop-ch.invariant

pub returns-in_default-clause-count : goal.returns-in_default-clause-count
returns-in_default-clause-count c = skips_stops _ _ _ _ _ _ _ _ c.in-Some.ensures.steps.0 (sym c.next_blank.ensures ∙ c.in_default.is) c.end_of_blanks.ensures c.loop-ch.invariant

pub returns-in_default-clause-boundary : goal.returns-in_default-clause-boundary
returns-in_default-clause-boundary c = skips_bound _ _ _ _ _ _ c.end_of_blanks.ensures c.loop-ch.invariant

pub returns-clause-count : goal.returns-clause-count
returns-clause-count c = skips_ends _ _ _ _ _ _ c.in-None.ensures.steps.0.0 c.end_of_blanks-2.ensures c.loop-ch.invariant

pub returns-clause-boundary : goal.returns-clause-boundary
returns-clause-boundary c = skips_bound _ _ _ _ _ _ c.end_of_blanks-2.ensures c.loop-ch.invariant
