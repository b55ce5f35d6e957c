use Rattle.std.proofs.Common.{Some, None, sym, refl, ◌∙◌, arith}
use Rattle.rdf_lex.proofs.Scanning.{goes, stops, ends, room, bound}
use Rattle.rdf_lex.proofs.scan.longest.Goals as goal

pub loop-ch-init : goal.loop-ch-init
loop-ch-init c = rw (c.into_iter-ch-iterator.ensures.into_iter_gives, c.chars-ch-items.ensures.rest) (refl, c.utf8.source, omega arith, refl, tt)

pub returns-in_default-clause-boundary : goal.returns-in_default-clause-boundary
returns-in_default-clause-boundary c = bound _ _ _ _ _ _ c.loop-ch.invariant

pub returns-clause-boundary : goal.returns-clause-boundary
returns-clause-boundary c = bound _ _ _ _ _ _ c.loop-ch.invariant

pub returns-in_default-clause-scan : goal.returns-in_default-clause-scan
returns-in_default-clause-scan c = stops _ _ _ _ _ _ _ _ c.in-Some.ensures.steps.0 (sym c.step.ensures ∙ c.in_default.is) c.loop-ch.invariant

pub add_len-len-requires : goal.add_len-len-requires
add_len-len-requires c = room _ _ _ _ _ _ _ _ c.in-Some.ensures.steps.0 c.loop-ch.invariant

pub loop-ch-preserved : goal.loop-ch-preserved
loop-ch-preserved c = goes _ _ _ _ _ _ _ _ _ _ None c.in-Some.ensures.steps.0 c.add_len-len.ensures (sym c.step.ensures ∙ c.in-Some-step.is)
    (sym c.label.ensures ∙ c.in_default-label.is) c.loop-ch.invariant

pub loop-ch-preserved-in-Some-label : goal.loop-ch-preserved-in-Some-label
loop-ch-preserved-in-Some-label c = goes _ _ _ _ _ _ _ _ _ _ (Some c.in-Some-label.kind) c.in-Some.ensures.steps.0 c.add_len-len.ensures (sym c.step.ensures
    ∙ c.in-Some-step.is) (sym c.label.ensures ∙ c.in-Some-label.is) c.loop-ch.invariant

pub returns-clause-scan : goal.returns-clause-scan
returns-clause-scan c = ends _ _ _ _ _ _ c.in-None.ensures.steps.0.0 c.loop-ch.invariant
