-- The head of a proof over what files hold is within the limits of a proof's text.
use Rattle.std.proofs.Common.{◌≡◌, ◌∙◌, ap, sym, subst, refl, ℕ, zero, suc, Bool, true, false, true≢false, ◌<◌, ◌≤◌, ◌/◌, ◌^◌, List, [], ◌∷◌, arith, length, map}
use Rattle.std.specs.Prelude.{Contains, Some, is_some, slice_index}
use Rattle.std.specs.Int.{byte_at, bytes_high_first, to_be_bytes, w32}
use Rattle.std.specs.List.{AllByRecursion}
use Rattle.std.proofs.Math.Nat.{mod-lt}
use Rattle.std.proofs.lemmas.List.{map-append}
use Rattle.std.proofs.lemmas.Grind.{get_or_default_zero}
use Rattle.lists.proofs.Quantifiers.{all_append, all_map, all_of}
use Rattle.sha2.specs.Sha256.{digest_bytes, final_hash, initial_hash_256, sha256}
use Rattle.sha2.proofs.Facts256.{length-sha256}
use Rattle.schema_tree.specs.declared.schema.Schema.{Schema}
use Rattle.schema_tree.specs.declared.schema.ShapeId.{ShapeId}
use Rattle.schema_tree.specs.Edges.{IsStratum, level}
use Rattle.schema_tree.specs.Loaded.{IsLoaded}
use Rattle.schema_tree.proofs.Strata.{path_short, stratified_no_cycle, stratum_stratified}
use Rattle.proof_file.specs.declared.head.Digest256.{Digest256}
use Rattle.proof_file.specs.declared.head.Part.TheVariants as Parts
use Rattle.proof_file.specs.declared.line.Line.TheVariants as Lines
use Rattle.proof_file.specs.Text.{IsDigest, IsLine, IsNumber, head_lines}
use Rattle.shex_io.specs.Files.{Told}
use Rattle.schema_files.specs.Named.{Asked}
use Rattle.schema_files.specs.Sources.{AreRead, Source, next, root, source_digests}
use Rattle.shex_inputs.specs.Held.{Held, IsTaken}
use Rattle.shex_inputs.specs.Named.{Inputs, asked_of}
use Rattle.shex_run.specs.Ready.{head_if, head_of}

-- ---- a digest is 32 bytes

byte_small : (i n : ℕ) → byte_at i n < 256
byte_small zero n = mod-lt n (omega arith)
byte_small (suc i) n = mod-lt (n / 256 ^ suc i) (omega arith)

high_small : (k n : ℕ) → AllByRecursion (λ byte. byte < 256) (bytes_high_first k n)
high_small zero n = tt
high_small (suc k) n = (byte_small k n, high_small k n)

digest_small : (h : List ℕ) (n : ℕ) → AllByRecursion (λ byte. byte < 256) (digest_bytes h n)
unfolding digest_bytes
digest_small h zero = tt
digest_small h (suc n) = all_append (λ byte. byte < 256) (digest_bytes h n) (to_be_bytes w32 (slice_index h n)) (digest_small h n) (high_small 4 (slice_index h n))

small : (m : List ℕ) → AllByRecursion (λ byte. byte < 256) (sha256 m)
unfolding sha256
small m = digest_small (final_hash initial_hash_256 m) 8

digest_fits : (d : Digest256) (bytes : List ℕ) → d.0 ≡ sha256 bytes → IsDigest d
digest_fits d bytes is = (ap length is ∙ length-sha256 bytes, subst (AllByRecursion (λ byte. byte < 256)) (sym is) (small bytes))

all_fit : (told : Told) (a : Asked) (ss : List Source) → AreRead told a ss → AllByRecursion IsDigest (source_digests ss)
all_fit told a ss (root r d h) = (digest_fits d h.bytes h.is_digest, tt)
all_fit told a ss (next before i file r d h is named held) =
    subst (AllByRecursion IsDigest) (sym (map-append (λ (s : Source). s.digest) before (record { file = file; base = i.iri; read = r; digest = d } ∷ [])))
    (all_append IsDigest (source_digests before) (d ∷ []) (all_fit told a before h) (digest_fits d held.bytes held.is_digest, tt))

-- ---- a stratum is a small number

stratum_fits : (s : Schema) (f : List ℕ) → IsLoaded s → IsStratum s f → (n : ℕ) → Contains f n → IsNumber n
stratum_fits s f loaded least n (i, inside, is) =
    let shape : ShapeId = record { 0 = i } in
    let there : i < length s.shapes = omega (arith, inside, least.0) in
    let (t, path) = (least.1 shape there).0 in
    let short : level f shape ≤ length s.shapes = path_short s (stratified_no_cycle s f (stratum_stratified s f least)) shape t (level f shape) path in
    let same : level f shape ≡ n = sym (get_or_default_zero f i n inside) ∙ is in
    omega (arith, short, same, loaded.few)

-- ---- the head

pub head_fits : (told : Told) (i : Inputs) (h : Held) → IsTaken told i h → IsLoaded h.schema → (wanted : Bool) → AllByRecursion IsLine (head_lines (head_if wanted h))
head_fits told i h taken loaded false = tt
head_fits told i h taken loaded true =
    let (schema, imports) = subst (AllByRecursion IsDigest) (sym taken.digests.schemas) (all_fit told (asked_of i) taken.sources taken.are_sources.are_read) in (
      schema,
      all_append IsLine (map (λ d. Lines.Digest Parts.Import d) h.files.imports) (Lines.Digest Parts.Data h.files.graph ∷ Lines.Strata h.strata ∷ [])
          (all_map IsDigest IsLine (λ d. Lines.Digest Parts.Import d) (λ d fits. fits) h.files.imports imports)
          (digest_fits h.files.graph taken.holds_data.bytes taken.digests.graph, (all_of IsNumber h.strata (stratum_fits h.schema h.strata loaded taken.holding.is_schema.strata), tt)),
    )

-- a head that is there was wanted
pub head_given : (wanted : Bool) (h : Held) → true ≡ is_some (head_if wanted h) → head_if wanted h ≡ Some (head_of h)
head_given true h there = refl
head_given false h there = absurd (true≢false there)

-- and there is one where it was
pub as_wanted : (wanted : Bool) (h : Held) → is_some (head_if wanted h) ≡ wanted
as_wanted true h = refl
as_wanted false h = refl
