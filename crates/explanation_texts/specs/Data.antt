-- An explanation as JSON (ShapeMap Structure and Language, section 4, the JSON form of a result shape map).
use Rattle.std.specs.Prelude.{ℕ, suc, List, [], ◌∷◌, ◌++◌, ◌+◌, ◌==◌, Option, Some, None, codes, if◌then◌else◌, length, slice_get}
use Rattle.rdf_terms.specs.Order.{text_at}
use Rattle.schema_tree.specs.declared.verdicts.Verdict.{Verdict}
use Rattle.schema_tree.specs.declared.verdicts.Verdict.TheVariants.{Yes, No, Unknown}
use Rattle.schema_tree.specs.Targets.{target_text}
use Rattle.serde_json.specs.Data.{Data, Members, array, no_members, object, put, string}
use Rattle.serde_json.specs.View.{items_of, members_view}
use Rattle.shape_map.specs.declared.resolve.Association.{Association}
use Rattle.explanations.specs.declared.explanation.Told.{Told}
use Rattle.explanation_texts.specs.declared.setting.Setting.{Setting}
use Rattle.explanations.specs.declared.explanation.Block.{Block}
use Rattle.explanations.specs.declared.explanation.Why.{Why}
use Rattle.explanation_texts.specs.declared.object.Object.{Object}
use Rattle.explanation_texts.specs.Answers.{below_text}
use Rattle.explanation_texts.specs.Trees.{text_data, tree_data}

-- the status of a node with an expression
abbrev pub status_word : Verdict → List ℕ
status_word Yes = codes "conformant"
status_word No = codes "nonconformant"
status_word Unknown = codes "unknown"

-- the members of an object that is put together
abbrev pub members_of : Object → Members
members_of o = members_view o.map.entries

-- a reason, if there is a text of it
abbrev pub put_reason : List ℕ → Members → Members
put_reason reason members = if length reason == 0 then members else put (codes "reason") (text_data reason) members

-- why an association is not as asked, as data, if that is told, n blocks standing before
abbrev pub put_tree : Setting → ℕ → Association → Option Why → List Block → Members → Members
put_tree s n a None blocks members = members
put_tree s n a (Some why) blocks members = put (codes "appInfo") (tree_data s (n + 1) a.node a.expr why blocks) members

-- an association with its outcome, n blocks standing before
abbrev pub answer_data : Setting → ℕ → Association → Told → Data
answer_data s n a t =
    object (put_tree s n a t.why t.blocks (put_reason (below_text s n a t.why t.blocks) (put (codes "status") (string (status_word t.verdict))
    (put (codes "shape") (string (target_text a.target)) (put (codes "node") (text_data (text_at s.terms.now a.node)) no_members)))))

-- the association, if it is there, with its outcome, n blocks standing before
abbrev pub told_data : Setting → ℕ → Option Association → Told → List Data
told_data s n None t = []
told_data s n (Some a) t = answer_data s n a t ∷ []

-- associations from number i on with their outcomes, n blocks standing before
abbrev pub answers_data : Setting → List Association → ℕ → ℕ → List Told → List Data
answers_data s asked i n [] = []
answers_data s asked i n (t ∷ answers) = told_data s n (slice_get asked i) t ++ answers_data s asked (suc i) (n + length t.blocks) answers

-- the result shape map of these associations
abbrev pub explanation_data : Setting → List Association → List Told → Data
explanation_data s asked answers = array (items_of (answers_data s asked 0 0 answers))
