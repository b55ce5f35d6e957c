-- What a drill answers: the question that its texts spell, as if they were files that words name.
use Rattle.std.specs.Prelude.{ℕ, Bool, true, false, List, [], ◌≡◌, ◌++◌, Some, None, codes, count_by, length}
use Rattle.std.specs.Bool.{beq}
use Rattle.std.specs.Fmt.{decimal}
use Rattle.input_names.specs.Names.{Text}
use Rattle.command_words.specs.Asked.{Command}
use Rattle.command_words.specs.Drills.{Drill}
use Rattle.command_words.specs.Requests.{default_base, default_budget, validation}
use Rattle.schema_tree.specs.declared.schema.Answer.{Answer}
use Rattle.shex_drill.specs.Files.{data_name, drill_told, map_name, schema_name}
use Rattle.shex_inputs.specs.Asked.{Question}
use Rattle.shex_io.specs.Files.{HoldsPart, KeepsOthers, Told}
use Rattle.shex_run.specs.Proofs.{AreAnswers, IsStoredProofOf, Stores}

-- what is asked of the texts: to validate the associations of the map, under the budget where none is given
abbrev pub drill_command : Command
drill_command = record {
  schema = schema_name;
  data_file = data_name;
  schema_base = default_base;
  data_base = default_base;
  imports = [];
  task = validation map_name None default_budget;
}

-- these are the true answers to all that the map of a drill with n items asks
pub record AreDrillAnswers (n : ℕ) (q : Question) (answers : List Answer) : Type 0 where
  pub are_answers : AreAnswers (drill_told n) drill_command q default_budget answers
  pub all : length answers ≡ length q.associations

-- how many of the answers say this
abbrev pub saying : Bool → List Answer → ℕ
saying holds answers = count_by (λ a. beq a.holds holds) answers

-- the line for a drill with n items
abbrev pub drill_line : ℕ → List Answer → List ℕ
drill_line n answers =
    codes "items " ++ (decimal n ++ (codes " conformant " ++ (decimal (saying true answers) ++ (codes " nonconformant " ++ (decimal (saying false answers) ++ codes " accepted\n")))))

-- the bytes are a proof of these answers
pub record IsDrillProof (n : ℕ) (bytes : List ℕ) : Type 0 where
  pub question : Question
  pub answers : List Answer
  pub are_answers : AreDrillAnswers n question answers
  pub proof : IsStoredProofOf question default_budget answers bytes

-- the text is the line that counts the answers, and nothing is noted; bytes are a proof of them that a check accepts; where a name is
-- given, it holds such a proof, and no other name changed
pub record IsDrilled (told after : Told) (d : Drill) (status : ℕ) (text notes : List ℕ) : Type 0 where
  pub question : Question
  pub answers : List Answer
  pub are_answers : AreDrillAnswers d.items question answers
  pub bytes : List ℕ
  pub proof : IsStoredProofOf question default_budget answers bytes
  pub stored : Stores told after d.proof (IsStoredProofOf question default_budget answers)
  pub status_is : status ≡ 0
  pub text_is : text ≡ drill_line d.items answers
  pub notes_are : notes ≡ []

-- the name that is given holds what it held or a prefix of a proof of the answers, as far as is told, and each other name what it held
pub record IsCutDrill (told after : Told) (d : Drill) : Type 0 where
  pub name : Text
  pub named : d.proof ≡ Some name
  pub bytes : List ℕ
  pub due : IsDrillProof d.items bytes
  pub part : HoldsPart told after name bytes
  pub others : KeepsOthers told after name
