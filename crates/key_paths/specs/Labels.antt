-- What stands at a path of a document is a text.
use Rattle.std.specs.Prelude.{ℕ, List, ◌≡◌, Some}
use Rattle.serde_json.specs.Data.{Data, string}
use Rattle.serde_json.specs.Read.{read}
use Rattle.json_paths.specs.Paths.{value_at}
use Rattle.json_paths.specs.declared.steps.Step.{Step}

-- the bytes are JSON (RFC 8259), and the steps lead to this text in their value
pub record LeadsToText (text bytes : List ℕ) (steps : List Step) : Type 0 where
  pub document : Data
  pub json : read bytes ≡ Some document
  pub there : value_at steps document ≡ Some (string text)
