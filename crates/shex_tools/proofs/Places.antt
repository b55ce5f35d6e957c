-- What is shown of a file that is refused.
use Rattle.std.proofs.Common.{◌≡◌, ◌∙◌, ap, sym, subst, List, ℕ, inl, inr}
use Rattle.graph_index.specs.declared.read_error.ReadError.{ReadError}
use Rattle.schema_documents.specs.declared.error.SchemaError.{SchemaError}
use Rattle.shex_io.specs.Fetching.{HasFailed}
use Rattle.schema_files.specs.Named.{base_for, name_of as schema_name}
use Rattle.schema_files.specs.Refusals.{root}
use Rattle.schema_files.specs.declared.error.SchemaFile.{SchemaFile}
use Rattle.schema_load.specs.declared.error.LoadError.{LoadError}
use Rattle.shape_map.specs.declared.error.MapError.{MapError}
use Rattle.shard_answers.specs.declared.error.CallFile.TheVariants.{Input}
use Rattle.shex_inputs.specs.declared.error.Refusal.{Refusal as InputRefusal}
use Rattle.shex_inputs.specs.declared.error.Refusal.TheVariants as InputRefusals
use Rattle.shex_inputs.specs.declared.error.Source.{Source}
use Rattle.shex_inputs.specs.declared.error.Source.TheVariants as Sources
use Rattle.shex_inputs.specs.Named.{Inputs, asked_of, source_name, source_of}
use Rattle.shex_inputs.specs.Refusals.{IsRefused as IsInputRefused}
use Rattle.shex_io.specs.Files.{Told}
use Rattle.shex_io.specs.declared.files.Act.{Act}
use Rattle.tool_words.specs.Asked.{Explaining, ToolCall, of_reasons}
use Rattle.shex_tools.specs.declared.stop.Unshown.{Unshown}
use Rattle.shex_tools.specs.declared.stop.Unshown.TheVariants as Unshowns
use Rattle.shex_tools.specs.Calls.{inputs_of}
use Rattle.shex_tools.specs.Outcomes.{Reaches}
use Rattle.shex_tools.specs.Showing.{ShowsDocument, ShowsInput, ShowsLoad, ShowsPlace, data_place, map_place, schema_place, source_base}
use Rattle.shex_tools.specs.Stopping.{IsUnshown, LeavesUnshown}
use Rattle.shex_tools.specs.Texts.{name_of}

-- a file to which the steps came is not fetched once more, or memory runs out
pub left_unshown : (told : Told) (call : ToolCall) (source named : Source) (name : List ℕ) → Reaches told call (Input source) → named ≡ source → name ≡ name_of call (Input source) →
    (before after : ℕ) (blame : List ℕ) (act : Act) (x : Unshown) → IsUnshown name named before after blame act x → LeavesUnshown told call before after blame act x
left_unshown told call source named name reached same is before after blame act (Unshowns.Failed other) (was, failed) =
    let P : Source → Type 0 = λ s. Reaches told call (Input s) × HasFailed (name_of call (Input s)) before after blame act in
    subst P (sym (was ∙ same)) (reached, subst (λ n. HasFailed n before after blame act) is failed)
left_unshown told call source named name reached same is before after blame act Unshowns.Memory still = still

module _ (told : Told) (e : Explaining) where
  abbrev i : Inputs
  i = inputs_of (of_reasons e)

  -- the steps came to the file that is refused
  pub schema_reached : (refusal : InputRefusal) (file : SchemaFile) (x : SchemaError) → refusal ≡ InputRefusals.Schema file x → IsInputRefused told i refusal →
      Reaches told (of_reasons e) (Input (source_of refusal))
  schema_reached refusal file x is refused =
      let why = subst (λ r. IsInputRefused told i r) is refused in
      subst (λ r. Reaches told (of_reasons e) (Input (source_of r))) (sym is) (tt, (why.base, why.next))

  pub data_reached : (refusal : InputRefusal) (x : ReadError) → refusal ≡ InputRefusals.Data x → IsInputRefused told i refusal → Reaches told (of_reasons e) (Input (source_of refusal))
  data_reached refusal x is refused =
      let why = subst (λ r. IsInputRefused told i r) is refused in
      subst (λ r. Reaches told (of_reasons e) (Input (source_of r))) (sym is) (tt, (why.first, why.schema, why.strata, why.labels, why.taken))

  map_comes : (x : MapError) → IsInputRefused told i (InputRefusals.Map x) → Reaches told (of_reasons e) (Input Sources.Map)
  map_comes x (inl why) = (tt, (why.held, why.taken))
  map_comes x (inr why) = (tt, (why.held, why.taken))

  pub map_reached : (refusal : InputRefusal) (x : MapError) → refusal ≡ InputRefusals.Map x → IsInputRefused told i refusal → Reaches told (of_reasons e) (Input (source_of refusal))
  map_reached refusal x is refused = subst (λ r. Reaches told (of_reasons e) (Input (source_of r))) (sym is) (map_comes x (subst (λ r. IsInputRefused told i r) is refused))

  pub load_reached : (refusal : InputRefusal) (x : LoadError) → refusal ≡ InputRefusals.Load x → Reaches told (of_reasons e) (Input (source_of refusal))
  load_reached refusal x is = subst (λ r. Reaches told (of_reasons e) (Input (source_of r))) (sym is) (tt, (e.inputs.schema_base, root))

  -- what is shown is shown of the file that is refused
  module _ (refusal : InputRefusal) (name base : List ℕ) (named : name ≡ source_name i (source_of refusal)) (based : base ≡ source_base (asked_of i) (source_of refusal)) (shown : List ℕ) where
    pub schema_shown : (file : SchemaFile) (x : SchemaError) → refusal ≡ InputRefusals.Schema file x → ShowsDocument told name base x (schema_place x) shown → ShowsInput told i refusal shown
    schema_shown file x is h =
        let n : name ≡ schema_name (asked_of i) file = named ∙ ap (λ r. source_name i (source_of r)) is in
        let b : base ≡ base_for (asked_of i) file = based ∙ ap (λ r. source_base (asked_of i) (source_of r)) is in
        subst (λ r. ShowsInput told i r shown) (sym is)
        (subst (λ z. ShowsDocument told (schema_name (asked_of i) file) z x (schema_place x) shown) b
        (subst (λ z. ShowsDocument told z base x (schema_place x) shown) n h))

    pub data_shown : (x : ReadError) → refusal ≡ InputRefusals.Data x → ShowsPlace told name (data_place x) shown → ShowsInput told i refusal shown
    data_shown x is h =
        subst (λ r. ShowsInput told i r shown) (sym is)
        (subst (λ z. ShowsPlace told z (data_place x) shown) (named ∙ ap (λ r. source_name i (source_of r)) is) h)

    pub map_shown : (x : MapError) → refusal ≡ InputRefusals.Map x → ShowsPlace told name (map_place x) shown → ShowsInput told i refusal shown
    map_shown x is h =
        subst (λ r. ShowsInput told i r shown) (sym is)
        (subst (λ z. ShowsPlace told z (map_place x) shown) (named ∙ ap (λ r. source_name i (source_of r)) is) h)

    pub load_shown : (x : LoadError) → refusal ≡ InputRefusals.Load x → ShowsLoad told name base x shown → ShowsInput told i refusal shown
    load_shown x is h =
        let n : name ≡ i.schema = named ∙ ap (λ r. source_name i (source_of r)) is in
        let b : base ≡ i.schema_base = based ∙ ap (λ r. source_base (asked_of i) (source_of r)) is in
        subst (λ r. ShowsInput told i r shown) (sym is)
        (subst (λ z. ShowsLoad told i.schema z x shown) b (subst (λ z. ShowsLoad told z base x shown) n h))
