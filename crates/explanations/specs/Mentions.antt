-- The numbers of blocks that an explanation mentions, in the order in which it is read.
use Rattle.std.specs.Prelude.{ℕ, List, [], ◌∷◌, ◌++◌, ◌+◌, Option, Some, None, length, ⊤}
use Rattle.std.specs.List.{flat_map}
use Rattle.explanations.specs.declared.explanation.Block.{Block}
use Rattle.explanations.specs.declared.explanation.Block.TheVariants as Blocks
use Rattle.explanations.specs.declared.explanation.Explanation.{Explanation}
use Rattle.explanations.specs.declared.explanation.Misfit.{Misfit}
use Rattle.explanations.specs.declared.explanation.Told.{Told}
use Rattle.explanations.specs.declared.explanation.ToldCause.{ToldCause}
use Rattle.explanations.specs.declared.explanation.ToldReason.{ToldReason}
use Rattle.explanations.specs.declared.explanation.Why.{Why}
use Rattle.explanations.specs.declared.explanation.Why.TheVariants.{Part, See}
use Rattle.explanations.specs.Numbers.{AreInTurn}

abbrev pub why_mentions : Why → List ℕ
why_mentions (Part part) = []
why_mentions (See k) = k ∷ []

abbrev pub misfit_mentions : Misfit → List ℕ
misfit_mentions m = why_mentions m.why

abbrev pub reason_mentions : ToldReason → List ℕ
reason_mentions r = flat_map misfit_mentions r.misfits

abbrev pub cause_mentions : ToldCause → List ℕ
cause_mentions c = flat_map why_mentions c.members

abbrev pub block_mentions : Block → List ℕ
block_mentions (Blocks.Reasons p reasons) = flat_map reason_mentions reasons
block_mentions (Blocks.Causes n e causes) = flat_map cause_mentions causes

abbrev pub asked_mentions : Option Why → List ℕ
asked_mentions None = []
asked_mentions (Some why) = why_mentions why

abbrev pub told_mentions : Told → List ℕ
told_mentions t = asked_mentions t.why ++ flat_map block_mentions t.blocks

-- the blocks of answers, in their order
abbrev pub blocks_in : List Told → List Block
blocks_in answers = flat_map (λ t. t.blocks) answers

abbrev pub blocks_of : Explanation → List Block
blocks_of x = blocks_in x.answers

-- n blocks stand before these answers: with each stand just the blocks that are mentioned there first, in the order in which
-- they are mentioned
abbrev pub AreNumbered : ℕ → List Told → Type 0
AreNumbered n [] = ⊤
AreNumbered n (t ∷ answers) = AreInTurn n (told_mentions t) (n + length t.blocks) × AreNumbered (n + length t.blocks) answers
