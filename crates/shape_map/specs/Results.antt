-- The text of answers: a result shape map (ShapeMap Structure and Language, section 4).
use Rattle.std.specs.Prelude.{ℕ, Bool, List, [], ◌∷◌, ◌++◌, codes, if◌then◌else◌}
use Rattle.rdf_terms.specs.declared.terms.Term.{Term}
use Rattle.rdf_terms.specs.Order.{text_at}
use Rattle.schema_tree.specs.declared.schema.Answer.{Answer}
use Rattle.schema_tree.specs.Targets.{target_text}

-- the mark of an answer that does not hold
abbrev pub mark : Bool → List ℕ
mark holds = if holds then [] else codes "!"

-- one answer: the text of its node, `@`, `!` where it does not hold, and the target
abbrev pub answer_text : List Term → Answer → List ℕ
answer_text terms a = text_at terms a.node ++ (codes "@" ++ (mark a.holds ++ target_text a.target))

-- the answers, a comma and a line feed between two of them and a line feed after the last; no answer, no bytes
abbrev pub result_text : List Term → List Answer → List ℕ
result_text terms [] = []
result_text terms (a ∷ []) = answer_text terms a ++ codes "\n"
result_text terms (a ∷ b ∷ more) = answer_text terms a ++ (codes ",\n" ++ result_text terms (b ∷ more))
