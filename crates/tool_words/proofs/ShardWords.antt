-- Words that name the files of shards.
use Rattle.std.proofs.Common.{◌≡◌, ◌<◌, ◌+◌, ◌++◌, ℕ, zero, suc, List, [], ◌∷◌, Bor, arith, get_or, length, map, subst, sym, take}
use Rattle.std.proofs.lemmas.List.{map-append, take_more}
use Rattle.std.specs.List.{AllZip}
use Rattle.clap.specs.Words.{Text}
use Rattle.command_words.specs.Checks.{Divides}
use Rattle.input_names.specs.Names.{Import}
use Rattle.lists.proofs.Beside.{zip_push}
use Rattle.tool_words.specs.declared.call.ShardFiles.{ShardFiles as LentShardFiles}
use Rattle.tool_words.specs.Lent.{shard_of}
use Rattle.tool_words.specs.Requests.{NamesBoth, ShardFiles}

-- as an import word
abbrev pub import_by : ShardFiles → Import
import_by s = record { iri = s.nodes; file = s.shard }

pub divides : (word : Text) (s : ShardFiles) → NamesBoth word s → Divides word (import_by s)
divides word s h = record { whole = h.whole; last = h.last; iri = h.nodes; file = h.shard }

abbrev texts : List (Bor Text) → List Text
texts words = map (λ w. w.now) words

-- one more word
pub named_next : (words : List (Bor Text)) (i : ℕ) (d : Bor Text) (before after : List LentShardFiles) (x : LentShardFiles)
    → i < length words → AllZip NamesBoth (texts (take i words)) (map shard_of before) → NamesBoth (get_or words i d).now (shard_of x) → after ≡ before ++ x ∷ []
    → AllZip NamesBoth (texts (take (i + 1) words)) (map shard_of after)
named_next words i d before after x inside h one pushed =
    subst (λ ws. AllZip NamesBoth (texts ws) (map shard_of after)) (sym (take_more words i d inside))
    (subst (λ ws. AllZip NamesBoth ws (map shard_of after)) (sym (map-append (λ (w : Bor Text). w.now) (take i words) (get_or words i d ∷ [])))
    (subst (λ all. AllZip NamesBoth (texts (take i words) ++ ((get_or words i d).now ∷ [])) (map shard_of all)) (sym pushed)
    (subst (λ ss. AllZip NamesBoth (texts (take i words) ++ ((get_or words i d).now ∷ [])) ss) (sym (map-append shard_of before (x ∷ [])))
    (zip_push NamesBoth (texts (take i words)) (map shard_of before) (get_or words i d).now (shard_of x) h one))))

-- where one word names no files, the words name none
pub none_named : (words : List (Bor Text)) (i : ℕ) (d : Bor Text) (ss : List ShardFiles) → i < length words → ((s : ShardFiles) → ¬ NamesBoth (get_or words i d).now s)
    → ¬ AllZip NamesBoth (texts words) ss
none_named [] i d ss inside none h = absurd (omega (arith, inside))
none_named (w ∷ words) i d [] inside none h = h
none_named (w ∷ words) zero d (s ∷ ss) inside none h = none s h.0
none_named (w ∷ words) (suc i) d (s ∷ ss) inside none h = none_named words i d ss (omega (arith, inside)) none h.1
