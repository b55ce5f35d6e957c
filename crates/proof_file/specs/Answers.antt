-- The answers that claims give (own).
use Rattle.std.specs.Prelude.{List, ◌≡◌, map, Some, option_map, slice_get}
use Rattle.rdf_terms.specs.declared.terms.TermId.{TermId}
use Rattle.schema_tree.specs.declared.schema.Answer.{Answer}
use Rattle.proof_file.specs.declared.Claim.{Claim}

-- the answer that a claim gives at the term of its node line
abbrev pub answer_with : Claim → TermId → Answer
answer_with c n = record { node = n; target = c.target; holds = c.holds }

-- the answers that the claims give, in their order, each at the term of its node line
abbrev pub AreClaimed : List TermId → List Claim → List Answer → Type 0
AreClaimed nodes claims answers = map (λ c. option_map (answer_with c) (slice_get nodes c.node)) claims ≡ map (λ a. Some a) answers
