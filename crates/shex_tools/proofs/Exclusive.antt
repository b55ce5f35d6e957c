-- Where contents are told, what words and files hold is one thing.
use Rattle.std.proofs.Common.{◌≡◌, ◌≢◌, ◌≤◌, ◌<◌, ◌∙◌, ap, sym, subst, refl, List, ℕ, Bool, true, false, arith, length, inl, inr}
use Rattle.std.specs.Prelude.{Option, Some, None, option_map}
use Rattle.std.specs.List.{position}
use Rattle.std.specs.Str.{bytes_eq}
use Rattle.shex_io.specs.Files.{Holds, Lacks, Told}
use Rattle.label_extents.specs.Demanded.{AreTooMany}
use Rattle.schema_documents.specs.Tree.{Document}
use Rattle.schema_documents.specs.declared.error.SchemaError.{SchemaError}
use Rattle.shex_io.specs.Fetching.{IsTooLong, max_file}
use Rattle.schema_files.specs.Named.{Asked}
use Rattle.schema_files.specs.Refusals.{IsNext, IsNoDocument, imported, root}
use Rattle.schema_files.specs.declared.error.SchemaFile.{SchemaFile}
use Rattle.schema_files.specs.declared.error.SchemaFile.TheVariants.{Imported, Root}
use Rattle.schema_reader.specs.Formats.{format_of}
use Rattle.shex_inputs.specs.declared.error.Refusal.{Refusal as InputRefusal}
use Rattle.shex_inputs.specs.declared.error.Source.{Source}
use Rattle.shex_inputs.specs.declared.error.Source.TheVariants as Sources
use Rattle.shex_inputs.specs.Asked.{IsAskedOf, Question}
use Rattle.shex_inputs.specs.Held.{Held, IsTaken}
use Rattle.shex_inputs.specs.Laws.{InputsAreOne}
use Rattle.shex_inputs.specs.Named.{Inputs, asked_of, source_of}
use Rattle.shex_inputs.specs.Outcomes.{IsAbsent as IsInputAbsent}
use Rattle.shex_inputs.specs.Refusals.{IsRefused as IsInputRefused}
use Rattle.shexj_writer.specs.declared.error.WriteError.{WriteError}
use Rattle.shexj_writer.specs.declared.error.WriteError.TheVariants as WriteErrors
use Rattle.tool_words.specs.Asked.{ToolCall, of_labels, of_reasons, of_schema, of_shards}
use Rattle.tool_words.specs.Requests.{Converting}
use Rattle.shard_answers.specs.declared.error.CallFile.{CallFile}
use Rattle.shard_answers.specs.declared.error.CallFile.TheVariants.{Input, Cover}
use Rattle.shard_answers.specs.Laws.{AnsweredIsNotLeft, RefusedIsNotAbsent}
use Rattle.shard_answers.specs.Refusals.{IsAbsent as IsShardAbsent, IsRefused as IsShardRefused}
use Rattle.shard_answers.specs.Answers.{IsAnswer as IsShardAnswer}
use Rattle.tool_words.specs.Asked.{ShardCall}
use Rattle.shard_answers.specs.declared.error.ShardRefusal.{ShardRefusal}
use Rattle.shex_tools.specs.declared.stop.Refusal.{Refusal}
use Rattle.shex_tools.specs.declared.stop.Refusal.TheVariants as Refusals
use Rattle.shex_tools.specs.Calls.{inputs_of}
use Rattle.shex_tools.specs.Documents.{HasText, HoldsDocument, LacksText, Spells}
use Rattle.shex_tools.specs.Laws.{DocumentsAreOne}
use Rattle.shex_tools.specs.Outcomes.{AreTaken, IsAbsent, IsInputsAbsent, IsRefused}
use Rattle.shex_tools.specs.Results.{IsAnswer}
use Rattle.shex_tools.proofs.Spelled.{as_schema}

-- ---- files

-- a name that is told holds one thing
same_bytes : (told : Told) (contents : List ℕ → Option (List ℕ)) → told ≡ Some contents → (name a b : List ℕ) → Holds told name (Some a) → Holds told name (Some b) → a ≡ b
same_bytes told contents e name a b h k =
    let x : contents name ≡ Some a = subst (λ t. Holds t name (Some a)) e h in
    let y : contents name ≡ Some b = subst (λ t. Holds t name (Some b)) e k in
    cc

-- and is not absent
held_not_lacking : (told : Told) (name a : List ℕ) → Holds told name (Some a) → Lacks told name → ⊥
held_not_lacking None name a h k = k
held_not_lacking (Some contents) name a h k = cc

pub record AreOne (told : Told) (i : Inputs) : Type 0 where
  pub held : (h k : Held) → IsTaken told i h → IsTaken told i k → h ≡ k
  pub taken : (h : Held) (source : Source) → IsTaken told i h → source ≢ Sources.Map →
      ((refusal : InputRefusal) → source_of refusal ≡ source → ¬ IsInputRefused told i refusal) × (¬ IsInputAbsent told i source)
  pub left : (refusal : InputRefusal) → IsInputRefused told i refusal → (source : Source) → ¬ IsInputAbsent told i source
  pub question : (p q : Question) → IsAskedOf told i p → IsAskedOf told i q → p ≡ q
  pub asked : (q : Question) → IsAskedOf told i q → ((refusal : InputRefusal) → ¬ IsInputRefused told i refusal) × ((source : Source) → ¬ IsInputAbsent told i source)

pub are_one : InputsAreOne → (contents : List ℕ → Option (List ℕ)) (told : Told) → told ≡ Some contents → (i : Inputs) → AreOne told i
are_one law contents told e i =
    let (held, (one, (taken, (asked, left)))) = law contents i in
    subst (λ t. AreOne t i) (sym e) (record { held = held; taken = taken; left = λ refusal refused. (left refusal refused).1; question = one; asked = asked })

-- ---- the document of a schema file

-- no import word names the schema file by its number
never_root : (o : Option ℕ) → option_map (λ n. Imported n) o ≡ Some Root → ⊥
never_root None h = cc
never_root (Some n) h = cc

-- what is read first is the schema file, under the schema's base
root_base : (told : Told) (a : Asked) (file : SchemaFile) (base : List ℕ) → IsNext told a file base → file ≡ Root → base ≡ a.base
root_base told a file base root is = refl
root_base told a file base (imported ss i f read next named) is = absurd (never_root (position (λ w. bytes_eq w.iri i.iri) a.words) (named ∙ ap (λ z. Some z) is))

module _ (told : Told) (contents : List ℕ → Option (List ℕ)) (e : told ≡ Some contents) (c : Converting) (law : DocumentsAreOne) where
  -- the documents are one
  pub one_document : (doc other : Document) → HoldsDocument told c doc → HoldsDocument told c other → doc ≡ other
  one_document doc other h k =
      let bytes : k.bytes ≡ h.bytes = same_bytes told contents e c.schema k.bytes h.bytes k.file.held h.file.held in
      law (format_of c.schema) c.schema_base h.bytes doc other h.spelled (subst (λ z. Spells (format_of c.schema) c.schema_base other z) bytes k.spelled)

  -- what has a document is not too long
  not_long : (doc : Document) → HoldsDocument told c doc → IsTooLong told c.schema → ⊥
  not_long doc h long =
      let bytes : long.bytes ≡ h.bytes = same_bytes told contents e c.schema long.bytes h.bytes long.held h.file.held in
      let size : length long.bytes ≡ length h.bytes = ap length bytes in
      let within : length h.bytes ≤ max_file = h.file.within in
      let above : max_file < length long.bytes = long.above in
      absurd (omega (arith, size, within, above))

  -- nor refused for its bytes
  not_refused : (doc : Document) → HoldsDocument told c doc → (x : SchemaError) → IsNoDocument told (asked_of (inputs_of (of_schema c))) Root x → ⊥
  not_refused doc h x refused =
      let bytes : h.bytes ≡ refused.bytes = same_bytes told contents e c.schema h.bytes refused.bytes h.file.held refused.is_file.held in
      let based : refused.base ≡ c.schema_base = root_base told (asked_of (inputs_of (of_schema c))) Root refused.base refused.next refl in
      let spelled : Spells (format_of c.schema) refused.base doc refused.bytes =
      subst (λ z. Spells (format_of c.schema) z doc refused.bytes) (sym based) (subst (λ z. Spells (format_of c.schema) c.schema_base doc z) bytes h.spelled) in
      let r = as_schema (format_of c.schema) refused.base doc refused.bytes spelled in
      refused.none r.0 r.1

  -- nor for what is no text in ShExJ, where it has one
  not_lacking : (doc : Document) → HasText doc → (x : WriteError) → LacksText doc x → ⊥
  not_lacking doc has WriteErrors.FacetNumber lacks = absurd (apart has.whole lacks)
    where
      apart : {b : Bool} → b ≡ true → b ≡ false → ⊥
      apart t f = cc
  not_lacking doc has WriteErrors.Deep lacks = has.flat lacks
  not_lacking doc has WriteErrors.Memory lacks = lacks

-- ---- calls

-- what answers a call was taken
pub answer_taken : (told : Told) (call : ToolCall) (status : ℕ) (text notes : List ℕ) → IsAnswer told call status text notes → AreTaken told call
answer_taken told (of_schema c) status text notes answer = (answer.document, answer.held, answer.has_text)
answer_taken told (of_labels l) status text notes answer = (answer.held, answer.taken, answer.listed.is_found.few)
answer_taken told (of_reasons e) status text notes answer = (answer.question, answer.is_asked)
answer_taken told (of_shards s) status text notes answer = (status, text, answer.0)

-- the laws of calls about data in shards
pub record ShardLaws : Type 0 where
  pub answered : AnsweredIsNotLeft
  pub refused : RefusedIsNotAbsent

pub shard_laws : AnsweredIsNotLeft → RefusedIsNotAbsent → ShardLaws
shard_laws answered refused = record { answered = answered; refused = refused }

module _ (told : Told) (contents : List ℕ → Option (List ℕ)) (e : told ≡ Some contents) (laws : ShardLaws) (s : ShardCall) where
  shard_not_refused : (status : ℕ) (text : List ℕ) → IsShardAnswer told s status text → (refusal : ShardRefusal) → IsShardRefused told s refusal → ⊥
  shard_not_refused status text h refusal u =
      (laws.answered contents s status text (subst (λ t. IsShardAnswer t s status text) e h)).0 refusal (subst (λ t. IsShardRefused t s refusal) e u)

  shard_not_absent : (status : ℕ) (text : List ℕ) → IsShardAnswer told s status text → (file : CallFile) → IsShardAbsent told s file → ⊥
  shard_not_absent status text h file absent =
      (laws.answered contents s status text (subst (λ t. IsShardAnswer t s status text) e h)).1 file (subst (λ t. IsShardAbsent t s file) e absent)

  shard_refused_not_absent : (refusal : ShardRefusal) → IsShardRefused told s refusal → (file : CallFile) → IsShardAbsent told s file → ⊥
  shard_refused_not_absent refusal u file absent = laws.refused contents s refusal (subst (λ t. IsShardRefused t s refusal) e u) file (subst (λ t. IsShardAbsent t s file) e absent)

module _ (told : Told) (contents : List ℕ → Option (List ℕ)) (e : told ≡ Some contents) (law : DocumentsAreOne) (laws : ShardLaws) where
  -- where all is taken, nothing is refused
  pub taken_not_refused : (call : ToolCall) → AreOne told (inputs_of call) → AreTaken told call → (refusal : Refusal) → IsRefused told call refusal → ⊥
  taken_not_refused (of_schema c) one (doc, held, has) (Refusals.Input refusal) (inl is, refused) =
      not_long told contents e c law doc held (subst (λ r. IsInputRefused told (inputs_of (of_schema c)) r) is refused).1
  taken_not_refused (of_schema c) one (doc, held, has) (Refusals.Input refusal) (inr (x, is), refused) =
      not_refused told contents e c law doc held x (subst (λ r. IsInputRefused told (inputs_of (of_schema c)) r) is refused)
  taken_not_refused (of_schema c) one (doc, held, has) (Refusals.Unwritten x) (other, also, lacks) =
      not_lacking told contents e c law doc has x (subst (λ d. LacksText d x) (one_document told contents e c law other doc also held) lacks)
  taken_not_refused (of_schema c) one taken Refusals.Pairs refused = absurd refused
  taken_not_refused (of_labels l) one (h, held, few) (Refusals.Input refusal) (other, refused) = (one.taken h (source_of refusal) held other).0 refusal refl refused
  taken_not_refused (of_labels l) one taken (Refusals.Unwritten x) refused = absurd refused
  taken_not_refused (of_labels l) one (h, held, few) Refusals.Pairs (k, also, many) = few (subst (λ (z : Held). AreTooMany z.schema z.graph) (one.held k h also held) many)
  taken_not_refused (of_reasons x) one (q, asked) (Refusals.Input refusal) (read, refused) = (one.asked q asked).0 refusal refused
  taken_not_refused (of_reasons x) one taken (Refusals.Unwritten y) refused = absurd refused
  taken_not_refused (of_reasons x) one taken Refusals.Pairs refused = absurd refused
  taken_not_refused (of_schema c) one taken (Refusals.Shards refusal) refused = absurd refused
  taken_not_refused (of_labels l) one taken (Refusals.Shards refusal) refused = absurd refused
  taken_not_refused (of_reasons x) one taken (Refusals.Shards refusal) refused = absurd refused
  taken_not_refused (of_shards s) one taken (Refusals.Input refusal) refused = absurd refused.0
  taken_not_refused (of_shards s) one taken (Refusals.Unwritten y) refused = absurd refused
  taken_not_refused (of_shards s) one taken Refusals.Pairs refused = absurd refused
  taken_not_refused (of_shards s) one (status, text, h) (Refusals.Shards refusal) refused = shard_not_refused told contents e laws s status text h refusal refused

  -- and nothing is absent
  not_absent : (c : Converting) (bytes : List ℕ) → Holds told c.schema (Some bytes) → (source : Source) → IsAbsent told (of_schema c) (Input source) → ⊥
  not_absent c bytes held source (is, absent) = held_not_lacking told c.schema bytes held (subst (λ s. IsInputAbsent told (inputs_of (of_schema c)) s) is absent).1

  pub taken_not_absent : (call : ToolCall) → AreOne told (inputs_of call) → AreTaken told call → (file : CallFile) → IsAbsent told call file → ⊥
  taken_not_absent (of_schema c) one (doc, held, has) (Input source) absent = not_absent c held.bytes held.file.held source absent
  taken_not_absent (of_labels l) one (h, held, few) (Input source) (other, absent) = (one.taken h source held other).1 absent
  taken_not_absent (of_reasons x) one (q, asked) (Input source) (read, absent) = (one.asked q asked).1 source absent
  taken_not_absent (of_schema c) one taken (Cover file) absent = absurd absent
  taken_not_absent (of_labels l) one taken (Cover file) absent = absurd absent
  taken_not_absent (of_reasons x) one taken (Cover file) absent = absurd absent
  taken_not_absent (of_shards s) one (status, text, h) file absent = shard_not_absent told contents e laws s status text h file absent

  -- nor is anything where a file is refused
  input_not_absent : (call : ToolCall) → AreOne told (inputs_of call) → (refusal : Refusal) → IsRefused told call refusal → (source : Source) → IsInputsAbsent told call (Input source) → ⊥
  input_not_absent (of_schema c) one (Refusals.Input refusal) (inl is, refused) source absent =
      let long : IsTooLong told c.schema = (subst (λ r. IsInputRefused told (inputs_of (of_schema c)) r) is refused).1 in
      not_absent c long.bytes long.held source absent
  input_not_absent (of_schema c) one (Refusals.Input refusal) (inr (x, is), refused) source absent =
      let none : IsNoDocument told (asked_of (inputs_of (of_schema c))) Root x = subst (λ r. IsInputRefused told (inputs_of (of_schema c)) r) is refused in
      not_absent c none.bytes none.is_file.held source absent
  input_not_absent (of_schema c) one (Refusals.Unwritten x) (doc, held, lacks) source absent = not_absent c held.bytes held.file.held source absent
  input_not_absent (of_schema c) one Refusals.Pairs refused source absent = absurd refused
  input_not_absent (of_labels l) one (Refusals.Input refusal) (other, refused) source (read, absent) = one.left refusal refused source absent
  input_not_absent (of_labels l) one (Refusals.Unwritten x) refused source absent = absurd refused
  input_not_absent (of_labels l) one Refusals.Pairs (h, held, many) source (read, absent) = (one.taken h source held read).1 absent
  input_not_absent (of_reasons x) one (Refusals.Input refusal) (read, refused) source (also, absent) = one.left refusal refused source absent
  input_not_absent (of_reasons x) one (Refusals.Unwritten y) refused source absent = absurd refused
  input_not_absent (of_reasons x) one Refusals.Pairs refused source absent = absurd refused
  input_not_absent (of_schema c) one (Refusals.Shards refusal) refused source absent = absurd refused
  input_not_absent (of_labels l) one (Refusals.Shards refusal) refused source absent = absurd refused
  input_not_absent (of_reasons x) one (Refusals.Shards refusal) refused source absent = absurd refused
  input_not_absent (of_shards s) one refusal refused source (none, absent) = absurd none

  shards_not_absent : (s : ShardCall) (refusal : Refusal) → IsRefused told (of_shards s) refusal → (file : CallFile) → IsShardAbsent told s file → ⊥
  shards_not_absent s (Refusals.Input refusal) refused file absent = absurd refused.0
  shards_not_absent s (Refusals.Unwritten y) refused file absent = absurd refused
  shards_not_absent s Refusals.Pairs refused file absent = absurd refused
  shards_not_absent s (Refusals.Shards refusal) refused file absent = shard_refused_not_absent told contents e laws s refusal refused file absent

  pub refused_not_absent : (call : ToolCall) → AreOne told (inputs_of call) → (refusal : Refusal) → IsRefused told call refusal → (file : CallFile) → IsAbsent told call file → ⊥
  refused_not_absent (of_schema c) one refusal refused (Input source) absent = input_not_absent (of_schema c) one refusal refused source absent
  refused_not_absent (of_labels l) one refusal refused (Input source) absent = input_not_absent (of_labels l) one refusal refused source absent
  refused_not_absent (of_reasons x) one refusal refused (Input source) absent = input_not_absent (of_reasons x) one refusal refused source absent
  refused_not_absent (of_schema c) one refusal refused (Cover file) absent = absurd absent
  refused_not_absent (of_labels l) one refusal refused (Cover file) absent = absurd absent
  refused_not_absent (of_reasons x) one refusal refused (Cover file) absent = absurd absent
  refused_not_absent (of_shards s) one refusal refused file absent = shards_not_absent s refusal refused file absent
