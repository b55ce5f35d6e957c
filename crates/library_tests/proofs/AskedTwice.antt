-- What a question leaves of a session.
use Rattle.std.proofs.Common.{◌≡◌, ap, inr, subst}
use Rattle.std.specs.Prelude.{Contains}
use Rattle.rdf_terms.specs.declared.terms.TermId.{TermId}
use Rattle.schema_tree.specs.declared.schema.ExprId.{ExprId}
use Rattle.schema_tree.specs.declared.schema.Pair.{Pair}
use Rattle.schema_tree.specs.Needs.{Reaches}
use Rattle.typing_session.specs.Questions.{Keeps}
use Rattle.typing_session.specs.Seen.{Seen, with_graph, with_kept}

-- verdicts on all pairs that the question reaches are kept
pub kept_then : (n : TermId) (e : ExprId) (old new : Seen) → new ≡ with_kept new.kept old → Keeps old.schema old.graph n e old.kept new.kept → (q : Pair) →
    Reaches new.schema new.graph n e q → Contains new.kept q
kept_then n e old new alone keeps q reaches = (keeps q).1 (inr (subst (λ (x : Seen). Reaches x.schema x.graph n e q) alone reaches))

-- the terms are as they were
pub terms_asked : (old new : Seen) → new ≡ with_kept new.kept old → new.terms ≡ old.terms
terms_asked old new alone = ap (λ (x : Seen). x.terms) alone

pub terms_edited : (old new : Seen) → new ≡ with_graph new.graph new.kept old → new.terms ≡ old.terms
terms_edited old new alone = ap (λ (x : Seen). x.terms) alone
