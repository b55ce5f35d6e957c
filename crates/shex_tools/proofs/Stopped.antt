-- Why the functions of a call stop.
use Rattle.std.proofs.Common.{◌≡◌, ◌≢◌, sym, subst, refl, true, ℕ, List, inl, inr}
use Rattle.std.proofs.lemmas.Bool.{and_parts}
use Rattle.std.specs.Prelude.{Err, IfErr, IfOk, IsSome, Ok, Result}
use Rattle.input_names.specs.Names.{is_base}
use Rattle.iri_resolve.specs.Reference.{scheme_of}
use Rattle.shex_io.specs.Files.{Told}
use Rattle.shex_io.specs.declared.files.Act.{Act}
use Rattle.shex_io.specs.declared.files.FetchError.{FetchError}
use Rattle.shex_io.specs.declared.files.FetchError.TheVariants as FetchErrors
use Rattle.schema_documents.specs.declared.error.SchemaError.{SchemaError}
use Rattle.schema_documents.specs.declared.error.SchemaError.TheVariants as SchemaErrors
use Rattle.shex_io.specs.Fetching.{FetchStops, IsFile}
use Rattle.schema_files.specs.Refusals.{root}
use Rattle.schema_files.specs.declared.error.SchemaFile.TheVariants.{Root}
use Rattle.schema_reader.specs.Documents.{AreNone, Explains as ReaderExplains, IsSchema, Read}
use Rattle.schema_reader.specs.Formats.{format_of}
use Rattle.schema_reader.specs.declared.format.Format.{Format}
use Rattle.shex_inputs.specs.declared.error.InputError.{InputError}
use Rattle.shex_inputs.specs.declared.error.InputError.TheVariants as InputErrors
use Rattle.shex_inputs.specs.declared.error.Refusal.TheVariants as InputRefusals
use Rattle.shex_inputs.specs.Held.{Held}
use Rattle.shex_inputs.specs.Outcomes.{Explains as ExplainsInput, FaultsAs as FaultsAsInput, IsBeforeMap}
use Rattle.schema_documents.specs.Tree.{Document}
use Rattle.shexj_writer.specs.Expressible.{IsExpressibleDocument}
use Rattle.tool_words.specs.Asked.{Explaining, Listing, ShardCall, ToolCall, of_labels, of_reasons, of_schema, of_shards}
use Rattle.tool_words.specs.Requests.{Converting}
use Rattle.call_ends.specs.declared.response.Response.{Response}
use Rattle.shard_answers.specs.declared.error.CallFile.TheVariants.{Input, Cover}
use Rattle.shard_answers.specs.declared.error.ShardError.{ShardError}
use Rattle.shard_answers.specs.declared.error.ShardError.TheVariants as ShardErrors
use Rattle.shard_answers.specs.Stops.{Explains as ShardExplains, FaultsAs as ShardFaultsAs}
use Rattle.shex_tools.specs.declared.stop.Refusal.{Refusal}
use Rattle.shex_tools.specs.declared.stop.Refusal.TheVariants as Refusals
use Rattle.shex_tools.specs.declared.stop.Stop.{Stop}
use Rattle.shex_tools.specs.declared.stop.Stop.TheVariants as Stops
use Rattle.shex_tools.specs.Calls.{inputs_of}
use Rattle.shex_tools.specs.Documents.{HoldsDocument}
use Rattle.shex_tools.specs.Finding.{FindingStops}
use Rattle.shex_tools.specs.Laws.{DocumentsAreExpressible}
use Rattle.shex_tools.specs.Outcomes.{AreHeld}
use Rattle.shex_tools.specs.Results.{IsListed, IsListedOf}
use Rattle.shex_tools.specs.Stopping.{Explains, FaultsAs, IsDocumentStop, IsRefusalOf, fetch_stop, shard_stop, stop_of}

-- a base has a scheme
pub base_scheme : (text : List ℕ) → is_base text ≡ true → IsSome (scheme_of text)
unfolding is_base
base_scheme text h = (and_parts _ _ h).0

-- what holds of want of memory and of the refusal holds of the stop
pub by_refusal : {E : Type 0} (memory : E) (refusal : E → Refusal) (e : E) (stop : Stop) (P : Stop → Type 0) → IsRefusalOf memory refusal e stop →
    P Stops.Memory → (e ≢ memory → P (Stops.Refused (refusal e))) → P stop
by_refusal memory refusal e stop P (inl (is, made)) wanting to = subst P (sym made) wanting
by_refusal memory refusal e stop P (inr (apart, made)) wanting to = subst P (sym made) (to apart)

-- ---- `convert`

-- the document that a file holds has a form in ShExJ
pub held_has_form : (told : Told) (c : Converting) (doc : Document) → DocumentsAreExpressible → is_base c.schema_base ≡ true → HoldsDocument told c doc → IsExpressibleDocument doc
held_has_form told c doc law base h = law (format_of c.schema) c.schema_base h.bytes doc (base_scheme c.schema_base base) h.spelled

-- the schema file is not fetched
pub fetch_explains : (told : Told) (c : Converting) (before after : ℕ) (blame : List ℕ) (act : Act) (e : FetchError) (stop : Stop) →
    FetchStops told c.schema before after blame act e → stop ≡ fetch_stop e → Explains told (of_schema c) stop
fetch_explains told c before after blame act FetchErrors.Failed stop why made = subst (Explains told (of_schema c)) (sym made) (refl, (c.schema_base, root))
fetch_explains told c before after blame act FetchErrors.Long stop why made = subst (Explains told (of_schema c)) (sym made) (inl refl, ((c.schema_base, root), why.0))
fetch_explains told c before after blame act FetchErrors.Memory stop why made = subst (Explains told (of_schema c)) (sym made) tt

-- its bytes are no document
pub document_explains : (told : Told) (c : Converting) (format : Format) (bytes source : List ℕ) (e : SchemaError) (stop : Stop) → IsFile told c.schema bytes →
    format ≡ format_of c.schema → source ≡ bytes →
    ReaderExplains format c.schema_base e source → AreNone format c.schema_base source e → IsDocumentStop e stop → Explains told (of_schema c) stop
document_explains told c format bytes source e stop file same whole cause none is =
    by_refusal SchemaErrors.Memory (λ x. Refusals.Input (InputRefusals.Schema Root x)) e stop (Explains told (of_schema c)) is tt (λ apart. (
      inr (e, refl),
      record {
        base = c.schema_base;
        next = root;
        bytes = bytes;
        is_file = file;
        apart = apart;
        cause = subst (λ f. ReaderExplains f c.schema_base e bytes) same (subst (λ b. ReaderExplains format c.schema_base e b) whole cause);
        none = subst (λ f. (r : Read) → ¬ IsSchema f c.schema_base r bytes) same (subst (λ b. (r : Read) → ¬ IsSchema format c.schema_base r b) whole (none apart));
      },
    ))

-- ---- `extents`

-- the schema or the data are not taken
pub input_explains : (told : Told) (l : Listing) (e : InputError) (stop : Stop) → IsBeforeMap e → ExplainsInput told (inputs_of (of_labels l)) e → stop ≡ stop_of e → Explains told (of_labels l) stop
input_explains told l (InputErrors.Refused refusal) stop before why made = subst (Explains told (of_labels l)) (sym made) (before, why)
input_explains told l (InputErrors.Failed source) stop before why made = subst (Explains told (of_labels l)) (sym made) (before, why)
input_explains told l InputErrors.Memory stop before why made = subst (Explains told (of_labels l)) (sym made) tt

pub input_faults : (call : ToolCall) (before after : ℕ) (blame : List ℕ) (act : Act) (e : InputError) (stop : Stop) →
    FaultsAsInput (inputs_of call) before after blame act e → stop ≡ stop_of e → FaultsAs call before after blame act stop
input_faults call before after blame act (InputErrors.Refused refusal) stop why made = subst (FaultsAs call before after blame act) (sym made) why
input_faults call before after blame act (InputErrors.Failed source) stop why made = subst (FaultsAs call before after blame act) (sym made) why
input_faults call before after blame act InputErrors.Memory stop why made = subst (FaultsAs call before after blame act) (sym made) why

-- the extents are not found
pub finding_explains : (told : Told) (l : Listing) (h : Held) (stop : Stop) → AreHeld told l h → FindingStops h stop → Explains told (of_labels l) stop
finding_explains told l h (Stops.Refused (Refusals.Input refusal)) held why = absurd why
finding_explains told l h (Stops.Refused (Refusals.Unwritten e)) held why = absurd why
finding_explains told l h (Stops.Refused Refusals.Pairs) held why = (h, held, why)
finding_explains told l h (Stops.Refused (Refusals.Shards refusal)) held why = absurd why
finding_explains told l h (Stops.Failed source) held why = absurd why
finding_explains told l h Stops.Memory held why = tt

pub finding_faults : (call : ToolCall) (before after : ℕ) (blame : List ℕ) (act : Act) (h : Held) (stop : Stop) → after ≡ before → FindingStops h stop → FaultsAs call before after blame act stop
finding_faults call before after blame act h (Stops.Refused refusal) still why = still
finding_faults call before after blame act h (Stops.Failed source) still why = absurd why
finding_faults call before after blame act h Stops.Memory still why = still

-- what is due for what is held is due for what the files hold
pub when_listed : (told : Told) (l : Listing) (h : Held) → AreHeld told l h → (r : Result Response Stop) → IfOk r (λ x. IsListedOf h l.budget x.status x.text.items x.notes.items) →
    IfOk r (λ x. IsListed told l x.status x.text.items x.notes.items)
when_listed told l h taken (Ok x) is = record { held = h; taken = taken; listed = is }
when_listed told l h taken (Err stop) is = tt

pub when_unlisted : (told : Told) (l : Listing) (h : Held) → AreHeld told l h → (r : Result Response Stop) → IfErr r (FindingStops h) → IfErr r (Explains told (of_labels l))
when_unlisted told l h taken (Ok x) why = tt
when_unlisted told l h taken (Err stop) why = finding_explains told l h stop taken why

pub when_still : (call : ToolCall) (before after : ℕ) (blame : List ℕ) (act : Act) (h : Held) → after ≡ before → (r : Result Response Stop) →
    IfErr r (FindingStops h) → IfErr r (FaultsAs call before after blame act)
when_still call before after blame act h still (Ok x) why = tt
when_still call before after blame act h still (Err stop) why = finding_faults call before after blame act h stop still why

-- ---- `explain`

-- the schema, the data or the map are not taken
pub asking_explains : (told : Told) (x : Explaining) (e : InputError) (stop : Stop) → ExplainsInput told (inputs_of (of_reasons x)) e → stop ≡ stop_of e → Explains told (of_reasons x) stop
asking_explains told x (InputErrors.Refused refusal) stop why made = subst (Explains told (of_reasons x)) (sym made) (tt, why)
asking_explains told x (InputErrors.Failed source) stop why made = subst (Explains told (of_reasons x)) (sym made) (tt, why)
asking_explains told x InputErrors.Memory stop why made = subst (Explains told (of_reasons x)) (sym made) tt

-- ---- calls about data in shards

pub shards_explain : (told : Told) (s : ShardCall) (e : ShardError) (stop : Stop) → ShardExplains told s e → stop ≡ shard_stop e → Explains told (of_shards s) stop
shards_explain told s (ShardErrors.Refused refusal) stop why made = subst (Explains told (of_shards s)) (sym made) why
shards_explain told s (ShardErrors.Failed file) stop why made = subst (Explains told (of_shards s)) (sym made) why
shards_explain told s ShardErrors.Memory stop why made = subst (Explains told (of_shards s)) (sym made) tt

pub shards_faults : (s : ShardCall) (before after : ℕ) (blame : List ℕ) (act : Act) (e : ShardError) (stop : Stop) → ShardFaultsAs s before after blame act e → stop ≡ shard_stop e →
    FaultsAs (of_shards s) before after blame act stop
shards_faults s before after blame act (ShardErrors.Refused refusal) stop why made = subst (FaultsAs (of_shards s) before after blame act) (sym made) why
shards_faults s before after blame act (ShardErrors.Failed (Input source)) stop why made = subst (FaultsAs (of_shards s) before after blame act) (sym made) why
shards_faults s before after blame act (ShardErrors.Failed (Cover file)) stop why made = subst (FaultsAs (of_shards s) before after blame act) (sym made) why
shards_faults s before after blame act ShardErrors.Memory stop why made = subst (FaultsAs (of_shards s) before after blame act) (sym made) why
