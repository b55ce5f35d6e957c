-- Documents and data of the same bytes have one list of digests.
use Rattle.std.proofs.Common.{◌≡◌, ◌∙◌, ap, sym, ℕ, List, ◌∷◌}
use Rattle.proof_file.specs.declared.head.Digest256.{Digest256}
use Rattle.proof_file.specs.declared.head.Digests.{Digests}
use Rattle.sha2.specs.Sha256.{sha256}
use Rattle.schema_files.specs.Sources.{Source, source_digests}
use Rattle.shex_inputs.specs.Held.{AreFilesOf}

same_head : (d e : Digest256) (ds es : List Digest256) → d ∷ ds ≡ e ∷ es → d ≡ e
same_head d e ds es h = cc

same_tail : (d e : Digest256) (ds es : List Digest256) → d ∷ ds ≡ e ∷ es → ds ≡ es
same_tail d e ds es h = cc

pub files_one :
    (ss others : List Source) (bytes other : List ℕ) (f g : Digests) → AreFilesOf ss bytes f → AreFilesOf others other g → ss ≡ others → bytes ≡ other → f ≡ g
files_one ss others bytes other f g h k same held =
    let all : f.schema ∷ f.imports ≡ g.schema ∷ g.imports = h.schemas ∙ ap source_digests same ∙ sym k.schemas in
    let schema : f.schema ≡ g.schema = same_head f.schema g.schema f.imports g.imports all in
    let imports : f.imports ≡ g.imports = same_tail f.schema g.schema f.imports g.imports all in
    let graph : f.graph.0 ≡ g.graph.0 = h.graph ∙ ap sha256 held ∙ sym k.graph in
    λ j. record { schema = schema j; imports = imports j; graph = record { 0 = graph j } }
