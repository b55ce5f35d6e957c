-- Where contents are told, what is answered is not refused, and no file of it is absent.
use Rattle.std.proofs.Common.{◌≡◌, ℕ, List, subst}
use Rattle.std.specs.Prelude.{Option, Some}
use Rattle.data_reader.specs.Documents.{IsData}
use Rattle.data_reader.specs.Formats.{format_of}
use Rattle.schema_files.proofs.Contents.{held_there, not_too_long, same_bytes}
use Rattle.shex_inputs.specs.declared.error.Refusal.{Refusal}
use Rattle.shex_inputs.specs.declared.error.Refusal.TheVariants as Refusals
use Rattle.shex_inputs.specs.declared.error.Source.{Source}
use Rattle.shex_inputs.specs.declared.error.Source.TheVariants as Sources
use Rattle.shex_inputs.specs.Laws.{InputsAreOne, SchemasAreNotLeft}
use Rattle.shex_inputs.specs.Named.{source_name}
use Rattle.shex_inputs.specs.Outcomes.{IsAbsent as IsInputAbsent}
use Rattle.shex_inputs.specs.Refusals.{IsSchemaTaken}
use Rattle.shex_io.specs.Files.{Lacks, Told}
use Rattle.tool_words.specs.Asked.{Following, ShardCall, of_cover, of_lines, of_nodes, of_ways}
use Rattle.tool_words.specs.Requests.{Lining}
use Rattle.shard_answers.specs.declared.error.CallFile.{CallFile}
use Rattle.shard_answers.specs.declared.error.CallFile.TheVariants.{Input, Cover}
use Rattle.shard_answers.specs.declared.error.ShardRefusal.{ShardRefusal}
use Rattle.shard_answers.specs.declared.error.ShardRefusal.TheVariants as ShardRefusals
use Rattle.shard_answers.specs.Answers.{AreWaysOf, IsAnswer, IsLined}
use Rattle.shard_answers.specs.Laws.{AnsweredIsNotLeft, RefusedIsNotAbsent}
use Rattle.shard_answers.specs.Refusals.{IsAbsent, IsRefused, RefusesData}
use Rattle.shard_answers.specs.Sources.{cover_name, inputs_of}
use Rattle.shard_answers.proofs.Ordered.{covered_there, long_not_absent}

module _ (contents : List ℕ → Option (List ℕ)) where
  abbrev pub told : Told
  told = Some contents

  -- ---- data

  lined_not_refused : (l : Lining) (text : List ℕ) → IsLined told l text → (refusal : Refusal) → RefusesData told l refusal → ⊥
  lined_not_refused l text h (Refusals.Size source) (is, long) = not_too_long contents l.data_file h.held.bytes h.held.file long
  lined_not_refused l text h (Refusals.Data e) u =
      u.none h.held.held.last h.held.held.triples
      (subst (λ bs. IsData (format_of l.data_file) l.data_base (h.held.held.last, h.held.held.triples) bs) (same_bytes contents l.data_file h.held.bytes u.bytes h.held.file.held u.file.held) h.held.held.spelled)
      h.terms h.graph h.held.held.loaded h.held.held.within
  lined_not_refused l text h (Refusals.Schema file e) u = u
  lined_not_refused l text h (Refusals.Import file iri) u = u
  lined_not_refused l text h (Refusals.Load e) u = u
  lined_not_refused l text h (Refusals.NegatedCycle cycle) u = u
  lined_not_refused l text h (Refusals.Map e) u = u
  lined_not_refused l text h Refusals.Pairs u = u

  -- the data file lacks what it is told to hold
  there_not_absent : (l : Lining) (bytes : List ℕ) → contents l.data_file ≡ Some bytes → (source : Source) → source ≡ Sources.Data → Lacks told (source_name (inputs_of (of_lines l)) source) → ⊥
  there_not_absent l bytes held source is lacks = held_there contents l.data_file bytes held (subst (λ s. Lacks told (source_name (inputs_of (of_lines l)) s)) is lacks)

  data_not_absent : (l : Lining) (refusal : Refusal) → RefusesData told l refusal → (source : Source) → source ≡ Sources.Data → Lacks told (source_name (inputs_of (of_lines l)) source) → ⊥
  data_not_absent l (Refusals.Size other) (at, long) source is lacks = there_not_absent l long.bytes long.held source is lacks
  data_not_absent l (Refusals.Data e) u source is lacks = there_not_absent l u.bytes u.file.held source is lacks
  data_not_absent l (Refusals.Schema file e) u source is lacks = u
  data_not_absent l (Refusals.Import file iri) u source is lacks = u
  data_not_absent l (Refusals.Load e) u source is lacks = u
  data_not_absent l (Refusals.NegatedCycle cycle) u source is lacks = u
  data_not_absent l (Refusals.Map e) u source is lacks = u
  data_not_absent l Refusals.Pairs u source is lacks = u

  -- ---- calls

  module _ (inputs : InputsAreOne) (schemas : SchemasAreNotLeft) where
    taken_of : (f : Following) (text : List ℕ) → AreWaysOf told f text → IsSchemaTaken told (inputs_of (of_ways f))
    taken_of f text h = (h.first, h.schema, h.of_files.strata, h.of_files.labels, h.of_files.taken)

    not_refused : (call : ShardCall) (status : ℕ) (text : List ℕ) → IsAnswer told call status text → (refusal : ShardRefusal) → IsRefused told call refusal → ⊥
    not_refused (of_lines l) status text (at, h) (ShardRefusals.Input refusal) u = lined_not_refused l text h refusal u
    not_refused (of_lines l) status text h (ShardRefusals.Size file) u = u
    not_refused (of_ways f) status text (at, h) (ShardRefusals.Input refusal) ((file, is), u) =
        (schemas contents (inputs_of (of_ways f)) (taken_of f text h) file).0 refusal is u
    not_refused (of_ways f) status text h (ShardRefusals.Size file) u = u
    not_refused (of_nodes r) status text (at, h) (ShardRefusals.Input refusal) u =
        let (held, (one, (taken, (asked, left)))) = inputs contents (inputs_of (of_nodes r)) in (asked h.question h.is_asked).0 refusal u
    not_refused (of_nodes r) status text h (ShardRefusals.Size file) u = u
    not_refused (of_cover c) status text h (ShardRefusals.Input refusal) u = u
    not_refused (of_cover c) status text (found, h, at) (ShardRefusals.Size file) (reached, long) =
        let (bytes, is) = covered_there contents c found h file reached in not_too_long contents (cover_name c file) bytes is long

    not_absent : (call : ShardCall) (status : ℕ) (text : List ℕ) → IsAnswer told call status text → (file : CallFile) → IsAbsent told call file → ⊥
    not_absent (of_lines l) status text (at, h) (Input source) (is, lacks) = there_not_absent l h.held.bytes h.held.file.held source is lacks
    not_absent (of_lines l) status text h (Cover file) (reached, lacks) = reached
    not_absent (of_ways f) status text (at, h) (Input source) (((file, is), reached), lacks) =
        (schemas contents (inputs_of (of_ways f)) (taken_of f text h) file).1 (subst (λ s. IsInputAbsent told (inputs_of (of_ways f)) s) is (reached, lacks))
    not_absent (of_ways f) status text h (Cover file) (reached, lacks) = reached
    not_absent (of_nodes r) status text (at, h) (Input source) absent =
        let (held, (one, (taken, (asked, left)))) = inputs contents (inputs_of (of_nodes r)) in (asked h.question h.is_asked).1 source absent
    not_absent (of_nodes r) status text h (Cover file) (reached, lacks) = reached
    not_absent (of_cover c) status text h (Input source) (reached, lacks) = reached
    not_absent (of_cover c) status text (found, h, at) (Cover file) (reached, lacks) =
        let (bytes, is) = covered_there contents c found h file reached in held_there contents (cover_name c file) bytes is.held lacks

    refused_not_absent : (call : ShardCall) (refusal : ShardRefusal) → IsRefused told call refusal → (file : CallFile) → IsAbsent told call file → ⊥
    refused_not_absent (of_lines l) (ShardRefusals.Input refusal) u (Input source) (is, lacks) = data_not_absent l refusal u source is lacks
    refused_not_absent (of_lines l) (ShardRefusals.Input refusal) u (Cover file) (reached, lacks) = reached
    refused_not_absent (of_lines l) (ShardRefusals.Size other) u file absent = u
    refused_not_absent (of_ways f) (ShardRefusals.Input refusal) (of, u) (Input source) ((is, reached), lacks) =
        let (held, (one, (taken, (asked, left)))) = inputs contents (inputs_of (of_ways f)) in (left refusal u).1 source (reached, lacks)
    refused_not_absent (of_ways f) (ShardRefusals.Input refusal) u (Cover file) (reached, lacks) = reached
    refused_not_absent (of_ways f) (ShardRefusals.Size other) u file absent = u
    refused_not_absent (of_nodes r) (ShardRefusals.Input refusal) u (Input source) absent =
        let (held, (one, (taken, (asked, left)))) = inputs contents (inputs_of (of_nodes r)) in (left refusal u).1 source absent
    refused_not_absent (of_nodes r) (ShardRefusals.Input refusal) u (Cover file) (reached, lacks) = reached
    refused_not_absent (of_nodes r) (ShardRefusals.Size other) u file absent = u
    refused_not_absent (of_cover c) (ShardRefusals.Input refusal) u file absent = u
    refused_not_absent (of_cover c) (ShardRefusals.Size other) u (Input source) (reached, lacks) = reached
    refused_not_absent (of_cover c) (ShardRefusals.Size other) (came, long) (Cover file) (reached, lacks) = long_not_absent contents c other file came long reached lacks

pub answered_not_left : InputsAreOne → SchemasAreNotLeft → AnsweredIsNotLeft
answered_not_left inputs schemas contents call status text h =
    (λ refusal u. not_refused contents inputs schemas call status text h refusal u, λ file absent. not_absent contents inputs schemas call status text h file absent)

pub refused_not_left : InputsAreOne → SchemasAreNotLeft → RefusedIsNotAbsent
refused_not_left inputs schemas contents call refusal u file absent = refused_not_absent contents inputs schemas call refusal u file absent
