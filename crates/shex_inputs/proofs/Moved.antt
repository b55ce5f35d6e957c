-- What is read of files is read of others that hold the same bytes.
use Rattle.std.proofs.Common.{◌≡◌, ◌∙◌, sym, ℕ, List, map}
use Rattle.std.specs.Prelude.{Contains, Option, Some}
use Rattle.input_names.specs.Names.{Import as Word}
use Rattle.lists.proofs.Members.{is_first, is_later}
use Rattle.schema_files.specs.declared.error.SchemaFile.TheVariants.{Root}
use Rattle.shex_io.specs.Fetching.{IsFile}
use Rattle.schema_files.specs.Named.{Asked, name_of}
use Rattle.schema_files.specs.Sources.{AreRead, HoldsSource, Source, next, root}
use Rattle.schema_files.proofs.Few.{all_names, word_named}
use Rattle.shex_inputs.specs.Laws.{TakenByBytes}
use Rattle.shex_inputs.specs.Named.{asked_of}

module _ (contents other : List ℕ → Option (List ℕ)) where
  file_moved : (name bytes : List ℕ) → contents name ≡ other name → IsFile (Some contents) name bytes → IsFile (Some other) name bytes
  file_moved name bytes same file = record { held = sym same ∙ file.held; within = file.within }

  module _ (a : Asked) (same : (name : List ℕ) → Contains (all_names a) name → contents name ≡ other name) where
    source_moved : (s : Source) → Contains (all_names a) (name_of a s.file) → HoldsSource (Some contents) a s → HoldsSource (Some other) a s
    source_moved s among h = record {
      bytes = h.bytes;
      is_file = file_moved (name_of a s.file) h.bytes (same (name_of a s.file) among) h.is_file;
      spelled = h.spelled;
      is_digest = h.is_digest;
    }

    read_moved : (ss : List Source) → AreRead (Some contents) a ss → AreRead (Some other) a ss
    read_moved ss (root r d h) =
        root r d (source_moved (record { file = Root; base = a.base; read = r; digest = d }) (is_first a.root (map (λ (w : Word). w.file) a.words)) h)
    read_moved ss (next before i file r d h is named held) =
        next before i file r d (read_moved before h) is named (source_moved (record { file = file; base = i.iri; read = r; digest = d }) (word_named a i.iri file named) held)

pub taken_by_bytes : TakenByBytes
taken_by_bytes contents other i map_name h same x =
    let names : List (List ℕ) = all_names (asked_of i) in
    record {
      sources = x.sources;
      are_sources = record {
        are_read = read_moved contents other (asked_of i) (λ name c. same name (is_later i.data_file names name c)) x.sources x.are_sources.are_read;
        all_read = x.are_sources.all_read;
      };
      labels = x.labels;
      triples = x.triples;
      holds_data = record {
        bytes = x.holds_data.bytes;
        file = file_moved contents other i.data_file x.holds_data.bytes (same i.data_file (is_first i.data_file names)) x.holds_data.file;
        spelled = x.holds_data.spelled;
      };
      holding = x.holding;
      digests = x.digests;
    }
