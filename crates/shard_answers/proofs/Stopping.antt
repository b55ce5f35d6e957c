-- What is fetched in vain or refused is said so.
use Rattle.std.proofs.Common.{◌≡◌, ℕ, List, [], inl, inr, subst, sym}
use Rattle.data_reader.specs.Formats.{format_of}
use Rattle.data_reader.specs.declared.format.Format.{Format}
use Rattle.graph_index.specs.declared.read_error.ReadError.{ReadError}
use Rattle.shex_io.specs.Fetching.{IsFile, IsTooLong}
use Rattle.shex_inputs.specs.declared.error.InputError.{InputError}
use Rattle.shex_inputs.specs.declared.error.InputError.TheVariants as InputErrors
use Rattle.shex_inputs.specs.Named.{source_name}
use Rattle.shex_inputs.specs.Outcomes.{Explains as InputsExplain, FaultsAs as InputsFaultAs, IsOfSchema as IsOfSchemaStop}
use Rattle.shex_inputs.specs.Stops.{ReadingStops}
use Rattle.shex_io.specs.Files.{Told}
use Rattle.shex_io.specs.declared.files.Act.{Act}
use Rattle.tool_words.specs.Asked.{Following, Reaching, ShardCall, of_cover, of_lines, of_nodes, of_ways}
use Rattle.tool_words.specs.Requests.{Lining}
use Rattle.shard_answers.specs.declared.error.ShardError.{ShardError}
use Rattle.shard_answers.specs.declared.error.ShardError.TheVariants.{Refused, Failed, Memory}
use Rattle.shard_answers.specs.declared.error.CallFile.{CallFile}
use Rattle.shard_answers.specs.declared.error.CallFile.TheVariants.{Input, Cover}
use Rattle.shard_answers.specs.Refusals.{AreUnread, IsRefused, Reaches}
use Rattle.shard_answers.specs.Sources.{inputs_of, name_of}
use Rattle.shard_answers.specs.Stops.{Explains, FaultsAs, FetchStops, IsDataStop, size_refusal, stop_of}

-- a file to which the steps come, and which is too long, is refused
size_explains : (told : Told) (call : ShardCall) (source : CallFile) → Reaches told call source → IsTooLong told (name_of call source) → IsRefused told call (size_refusal source)
size_explains told (of_lines l) (Input source) reached long = (reached, subst (λ s. IsTooLong told (source_name (inputs_of (of_lines l)) s)) reached long)
size_explains told (of_ways f) (Input source) reached long = (reached.0, (reached.1, long))
size_explains told (of_nodes r) (Input source) reached long = (reached, long)
size_explains told (of_cover c) (Input source) reached long = absurd reached
size_explains told (of_lines l) (Cover file) reached long = absurd reached
size_explains told (of_ways f) (Cover file) reached long = absurd reached
size_explains told (of_nodes r) (Cover file) reached long = absurd reached
size_explains told (of_cover c) (Cover file) reached long = (reached, long)

-- a fetch that stops
pub fetch_explains : (told : Told) (call : ShardCall) (source : CallFile) (before after : ℕ) (blame : List ℕ) (act : Act) (e : ShardError) → Reaches told call source →
    FetchStops told (name_of call source) source before after blame act e → Explains told call e
fetch_explains told call source before after blame act (Refused refusal) reached (size, long, stay) = subst (λ r. IsRefused told call r) (sym size) (size_explains told call source reached long)
fetch_explains told call source before after blame act (Failed other) reached (same, faults) = subst (λ s. Reaches told call s) (sym same) reached
fetch_explains told call source before after blame act Memory reached stay = tt

pub fetch_faults : (told : Told) (call : ShardCall) (source : CallFile) (before after : ℕ) (blame : List ℕ) (act : Act) (e : ShardError) →
    FetchStops told (name_of call source) source before after blame act e → FaultsAs call before after blame act e
fetch_faults told call source before after blame act (Refused refusal) (size, long, stay) = stay
fetch_faults told call source before after blame act (Failed other) (same, faults) = subst (λ s. FaultsAs call before after blame act (Failed s)) (sym same) faults
fetch_faults told call source before after blame act Memory stay = stay

-- data that are not read
pub data_explains : (told : Told) (l : Lining) (format : Format) (bytes text : List ℕ) (e : ReadError) (stop : ShardError) → IsFile told l.data_file bytes →
    format ≡ format_of l.data_file → text ≡ bytes →
    ReadingStops format l.data_base [] text e → IsDataStop e stop → Explains told (of_lines l) stop
data_explains told l format bytes text e stop file is same stops (inl (wanting, made)) = subst (Explains told (of_lines l)) (sym made) tt
data_explains told l format bytes text e stop file is same stops (inr (apart, made)) =
    let (cause, none) = subst (λ m. ReadingStops m l.data_base [] text e) is stops apart in
    let unread : AreUnread told l e = record { bytes = text; file = subst (IsFile told l.data_file) (sym same) file; apart = apart; cause = cause; none = none } in
    subst (Explains told (of_lines l)) (sym made) unread

pub data_faults : (call : ShardCall) (e : ReadError) (stop : ShardError) (before after : ℕ) (blame : List ℕ) (act : Act) → IsDataStop e stop → after ≡ before →
    FaultsAs call before after blame act stop
data_faults call e stop before after blame act (inl (wanting, made)) stay = subst (FaultsAs call before after blame act) (sym made) stay
data_faults call e stop before after blame act (inr (apart, made)) stay = subst (FaultsAs call before after blame act) (sym made) stay

-- inputs that are not taken
pub ways_explain : (told : Told) (f : Following) (e : InputError) (stop : ShardError) → InputsExplain told (inputs_of (of_ways f)) e → IsOfSchemaStop e →
    stop ≡ stop_of e → Explains told (of_ways f) stop
ways_explain told f (InputErrors.Refused refusal) stop why is made = subst (Explains told (of_ways f)) (sym made) (is, why)
ways_explain told f (InputErrors.Failed source) stop why is made = subst (Explains told (of_ways f)) (sym made) (is, why)
ways_explain told f InputErrors.Memory stop why is made = subst (Explains told (of_ways f)) (sym made) tt

pub nodes_explain : (told : Told) (r : Reaching) (e : InputError) (stop : ShardError) → InputsExplain told (inputs_of (of_nodes r)) e → stop ≡ stop_of e → Explains told (of_nodes r) stop
nodes_explain told r (InputErrors.Refused refusal) stop why made = subst (Explains told (of_nodes r)) (sym made) why
nodes_explain told r (InputErrors.Failed source) stop why made = subst (Explains told (of_nodes r)) (sym made) why
nodes_explain told r InputErrors.Memory stop why made = subst (Explains told (of_nodes r)) (sym made) tt

pub input_faults : (call : ShardCall) (before after : ℕ) (blame : List ℕ) (act : Act) (e : InputError) (stop : ShardError) →
    InputsFaultAs (inputs_of call) before after blame act e → stop ≡ stop_of e →
    FaultsAs call before after blame act stop
input_faults call before after blame act (InputErrors.Refused refusal) stop faults made = subst (FaultsAs call before after blame act) (sym made) faults
input_faults call before after blame act (InputErrors.Failed source) stop faults made = subst (FaultsAs call before after blame act) (sym made) faults
input_faults call before after blame act InputErrors.Memory stop faults made = subst (FaultsAs call before after blame act) (sym made) faults
