-- Paths into a JSON value (RFC 8259), and the value changed at the end of one.
use Rattle.std.specs.Prelude.{ℕ, List, [], ◌∷◌, Option, Some, None, option_and_then, string_bytes}
use Rattle.serde_json.specs.Data.{Data, null, boolean, number, string, array, object, put}
use Rattle.serde_json.specs.Find.{at, get}
use Rattle.json_paths.specs.Items.{ending, front}
use Rattle.json_paths.specs.Members.{without_member}
use Rattle.json_paths.specs.declared.steps.Step.{Step}
use Rattle.json_paths.specs.declared.steps.Step.TheVariants.{Index, Key}

-- what stands behind a step
abbrev pub inside : Step → Data → Option Data
inside (Key name) d = get (string_bytes name) d
inside (Index i) d = at i d

-- what stands at the end of a path
abbrev pub value_at : List Step → Data → Option Data
value_at [] d = Some d
value_at (step ∷ path) d = option_and_then (value_at path) (inside step d)

-- the value with x behind a step; an array ends there
abbrev pub with_step : Step → Data → Data → Data
with_step (Key name) x (object ms) = object (put (string_bytes name) x ms)
with_step (Index i) x (array ds) = array (ending i x ds)
with_step step x d = d

-- the value without what stands behind a step; of an array the items before it are left
abbrev pub without : Step → Data → Data
without (Key name) (object ms) = object (without_member (string_bytes name) ms)
without (Index i) (array ds) = array (front i ds)
without step d = d

-- x in the place of what stands behind a step, if anything does
abbrev pub placed : Step → (Data → Data) → Data → Option Data → Data
placed step change d None = d
placed step change d (Some child) = with_step step (change child) d

-- the value with x at the end of a path; each array on the path ends there, so what stands behind the path in it is gone
abbrev pub with_at : List Step → Data → Data → Data
with_at [] x d = x
with_at (step ∷ path) x d = placed step (with_at path x) d (inside step d)
