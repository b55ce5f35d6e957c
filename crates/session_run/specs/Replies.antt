-- The answers to the questions of a script, and what is printed for them (own).
use Rattle.std.specs.Prelude.{ℕ, Bool, true, false, List, ◌++◌, codes}
use Rattle.std.specs.List.{flat_map, list_any}
use Rattle.call_ends.specs.Statuses.{status_by}
use Rattle.rdf_terms.specs.Written.{term_text}
use Rattle.rdf_terms.specs.declared.terms.Term.{Term}
use Rattle.schema_tree.specs.Targets.{target_text}
use Rattle.schema_tree.specs.declared.schema.Target.{Target}
use Rattle.schema_tree.specs.declared.verdicts.Verdict.{Verdict}
use Rattle.schema_tree.specs.declared.verdicts.Verdict.TheVariants.{No, Unknown, Yes}

-- a question's node and target, the verdict on it, and what is noted beside that
pub record Reply : Type 0 where
  pub node : Term
  pub target : Target
  pub verdict : Verdict
  pub notes : List ℕ

-- the mark of a verdict
abbrev pub verdict_mark : Verdict → List ℕ
verdict_mark Yes = codes ""
verdict_mark No = codes "!"
verdict_mark Unknown = codes "?"

-- the text of a node, `@`, the mark of the verdict, the target, and a line feed
abbrev pub line_of : List ℕ → Verdict → Target → List ℕ
line_of node verdict target = node ++ (codes "@" ++ (verdict_mark verdict ++ (target_text target ++ codes "\n")))

-- the line for an answer
abbrev pub reply_line : Reply → List ℕ
reply_line r = line_of (term_text r.node) r.verdict r.target

-- a line for each answer, in order
abbrev pub text_of : List Reply → List ℕ
text_of replies = flat_map reply_line replies

-- what is noted beside them
abbrev pub notes_of : List Reply → List ℕ
notes_of replies = flat_map (λ r. r.notes) replies

-- whether the verdict is Unknown
abbrev pub is_unknown : Verdict → Bool
is_unknown Yes = false
is_unknown No = false
is_unknown Unknown = true

-- some answer is Unknown
abbrev pub any_unknown : List Reply → Bool
any_unknown replies = list_any (λ r. is_unknown r.verdict) replies

-- the status of answers: 4 where some answer is Unknown, and else 0
abbrev pub status_of : List Reply → ℕ
status_of replies = status_by (any_unknown replies)
