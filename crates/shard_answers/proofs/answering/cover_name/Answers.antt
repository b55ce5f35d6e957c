use Rattle.std.proofs.Common.{◌≡◌, ◌∙◌, ap, ℕ, Bor, List, length, map, refl, sym}
use Rattle.std.proofs.lemmas.Bool.{ltb-false, ltb-true}
use Rattle.std.proofs.lemmas.Option.{slice_get-map, slice_get_past, slice_get_read}
use Rattle.std.specs.Option.{option_map}
use Rattle.std.specs.Prelude.{None, Option, Some, slice_get}
use Rattle.std.specs.Slice.{IsItemAt}
use Rattle.tool_words.specs.declared.call.ShardFiles.{ShardFiles as Lent}
use Rattle.tool_words.specs.Lent.{covering_of, shard_of}
use Rattle.shard_answers.specs.Sources.{cover_name, nodes_name, shard_name}
use Rattle.shard_answers.proofs.answering.cover_name.Goals as goal

-- the shard at a place
got : (xs : List Lent) (i : ℕ) (r : Option (Bor Lent)) → IsItemAt xs i r → option_map (λ s. shard_of s.now) r ≡ option_map shard_of (slice_get xs i)
got xs i None h = sym (ap (option_map shard_of) (slice_get_past xs i (ltb-false i (length xs) (sym h.0))))
got xs i (Some x) h = sym (ap (option_map shard_of) (slice_get_read xs (length xs) i x.now refl (ltb-true i (length xs) (sym h.0)) h.1))

there : (xs lent : List Lent) (i : ℕ) (r : Option (Bor Lent)) → lent ≡ xs → IsItemAt lent i r → option_map (λ s. shard_of s.now) r ≡ slice_get (map shard_of xs) i
there xs lent i r same h = got lent i r h ∙ sym (slice_get-map shard_of lent i) ∙ ap (λ ss. slice_get (map shard_of ss) i) same

pub returns-in-Nodes : goal.returns-in-Nodes
returns-in-Nodes c =
    c.nodes_name.ensures ∙ ap nodes_name (there c.args.covering.now.shards.items c.as_slice-shards.result.now _ c.get.result c.as_slice-shards.ensures.value c.get.ensures.lookup)
    ∙ ap (cover_name (covering_of c.args.covering.now)) (sym c.in-Nodes.is)

pub returns-in-Shard : goal.returns-in-Shard
returns-in-Shard c =
    c.shard_name.ensures ∙ ap shard_name (there c.args.covering.now.shards.items c.as_slice-shards.result.now _ c.get-in-Shard.result c.as_slice-shards.ensures.value c.get-in-Shard.ensures.lookup)
    ∙ ap (cover_name (covering_of c.args.covering.now)) (sym c.in-Shard.is)
