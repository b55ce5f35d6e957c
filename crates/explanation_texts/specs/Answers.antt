-- The text of an explanation (own): each association that is not as asked, with the blocks that are mentioned there first.
use Rattle.std.specs.Prelude.{ℕ, suc, Bool, true, false, List, [], ◌∷◌, ◌++◌, ◌+◌, Option, Some, None, codes, if◌then◌else◌, length, nat_lt, slice_get}
use Rattle.rdf_terms.specs.Order.{text_at}
use Rattle.schema_tree.specs.declared.verdicts.Verdict.{Verdict}
use Rattle.schema_tree.specs.declared.verdicts.Verdict.TheVariants.{Yes, No, Unknown}
use Rattle.schema_tree.specs.Targets.{target_text}
use Rattle.shape_map.specs.declared.resolve.Association.{Association}
use Rattle.explanations.specs.declared.explanation.Block.{Block}
use Rattle.explanations.specs.declared.explanation.Told.{Told}
use Rattle.explanations.specs.declared.explanation.Why.{Why}
use Rattle.explanations.specs.declared.explanation.Why.TheVariants.{Part, See}
use Rattle.explanation_texts.specs.declared.setting.Setting.{Setting}
use Rattle.explanation_texts.specs.Conditions.{block_number, why_text}
use Rattle.explanation_texts.specs.Reasons.{block_lines, blocks_text, margin}

-- the rest of the line of an association whose node was asked to satisfy its expression and does not, n blocks standing before: the
-- number of the block that tells why, or below it the part of a node constraint that does not hold
abbrev pub why_mark : Setting → Association → ℕ → Option Why → List ℕ
why_mark s a n None = codes "\n"
why_mark s a n (Some (Part part)) = codes "\n" ++ (margin ++ (why_text s a.node a.expr (Part part) ++ codes "\n"))
why_mark s a n (Some (See k)) = (if nat_lt n k then codes " " else codes ", see ") ++ (block_number k ++ codes "\n")

-- blocks that are mentioned first by an association, n blocks standing before: the first has no heading, since that is the association
abbrev pub first_blocks : Setting → ℕ → List Block → List ℕ
first_blocks s n [] = []
first_blocks s n (b ∷ bs) = block_lines s b ++ blocks_text s (n + 2) 0 bs

-- why an association is not as asked, n blocks standing before: the part of a node constraint that does not hold, the number of a
-- block that stands before, or the blocks that are mentioned here first
abbrev pub below_text : Setting → ℕ → Association → Option Why → List Block → List ℕ
below_text s n a None blocks = []
below_text s n a (Some (Part part)) blocks = why_text s a.node a.expr (Part part)
below_text s n a (Some (See k)) blocks = if nat_lt n k then blocks_text s (n + 1) 0 blocks else codes "see " ++ block_number k

-- a node, a mark and the target that it was asked for
abbrev pub association_text : Setting → Association → List ℕ → List ℕ
association_text s a mark = text_at s.terms.now a.node ++ (mark ++ target_text a.target)

-- an association whose node was asked to satisfy its expression and does not, n blocks standing before
abbrev pub unsatisfied_text : Setting → ℕ → Association → Option Why → List Block → List ℕ
unsatisfied_text s n a why blocks = association_text s a (codes "@!") ++ (why_mark s a n why ++ first_blocks s n blocks)

-- an association whose node was asked not to satisfy its expression and does
abbrev pub satisfied_text : Setting → Association → List ℕ
satisfied_text s a = association_text s a (codes "@") ++ codes "\n"

-- an association and what is told of it, n blocks standing before: nothing where it is as asked, or not known to be otherwise
abbrev pub answer_text : Setting → ℕ → Association → Bool → Verdict → Option Why → List Block → List ℕ
answer_text s n a true No why blocks = unsatisfied_text s n a why blocks
answer_text s n a false Yes why blocks = satisfied_text s a
answer_text s n a true Yes why blocks = []
answer_text s n a true Unknown why blocks = []
answer_text s n a false No why blocks = []
answer_text s n a false Unknown why blocks = []

-- the association, if it is there, and what is told of it, n blocks standing before
abbrev pub told_text : Setting → ℕ → Option Association → Told → List ℕ
told_text s n None t = []
told_text s n (Some a) t = answer_text s n a a.want t.verdict t.why t.blocks

-- what is told of the associations from number i on, n blocks standing before
abbrev pub answers_text : Setting → List Association → ℕ → ℕ → List Told → List ℕ
answers_text s asked i n [] = []
answers_text s asked i n (t ∷ answers) = told_text s n (slice_get asked i) t ++ answers_text s asked (suc i) (n + length t.blocks) answers

-- the text of an explanation of these associations
abbrev pub explanation_text : Setting → List Association → List Told → List ℕ
explanation_text s asked answers = answers_text s asked 0 0 answers
