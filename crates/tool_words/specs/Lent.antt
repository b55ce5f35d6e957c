-- What words ask for as it is lent from them.
use Rattle.std.specs.Prelude.{map, option_map}
use Rattle.command_words.specs.Lent.{given_of}
use Rattle.input_names.specs.Lent.{import_of, inputs_of}
use Rattle.tool_words.specs.declared.call.Converting.{Converting as LentConverting}
use Rattle.tool_words.specs.declared.call.Covering.{Covering as LentCovering}
use Rattle.tool_words.specs.declared.call.Editing.{Editing as LentEditing}
use Rattle.tool_words.specs.declared.call.Explaining.{Explaining as LentExplaining}
use Rattle.tool_words.specs.declared.call.Following.{Following as LentFollowing}
use Rattle.tool_words.specs.declared.call.Lining.{Lining as LentLining}
use Rattle.tool_words.specs.declared.call.Listing.{Listing as LentListing}
use Rattle.tool_words.specs.declared.call.Reaching.{Reaching as LentReaching}
use Rattle.tool_words.specs.declared.call.ShardCall.{ShardCall as LentShardCall}
use Rattle.tool_words.specs.declared.call.ShardCall.TheVariants as ShardCalls
use Rattle.tool_words.specs.declared.call.ShardFiles.{ShardFiles as LentShardFiles}
use Rattle.tool_words.specs.declared.call.ToolCall.{ToolCall as LentCall}
use Rattle.tool_words.specs.declared.call.ToolCall.TheVariants as Calls
use Rattle.tool_words.specs.declared.requests.Budgeted.{Budgeted as LentBudgeted}
use Rattle.tool_words.specs.declared.requests.Explained.{Explained as LentExplained}
use Rattle.tool_words.specs.declared.requests.Scripted.{Scripted as LentScripted}
use Rattle.tool_words.specs.declared.shard_requests.Mapped.{Mapped as LentMapped}
use Rattle.tool_words.specs.declared.shard_requests.Schemed.{Schemed as LentSchemed}
use Rattle.tool_words.specs.Asked.{Editing, Explaining, Following, Listing, Reaching, ShardCall, ToolCall, of_cover, of_labels, of_lines, of_nodes, of_reasons, of_schema, of_shards, of_ways}
use Rattle.tool_words.specs.Requests.{Budgeted, Converting, Covering, Explained, Lining, Mapped, Schemed, Scripted, ShardFiles}

abbrev pub converting_of : LentConverting → Converting
converting_of c = record { schema = c.schema.now; schema_base = c.schema_base.now }

abbrev pub budgeted_of : LentBudgeted → Budgeted
budgeted_of b = record { given = given_of b.given; budget = b.budget }

abbrev pub scripted_of : LentScripted → Scripted
scripted_of s = record { budgeted = budgeted_of s.budgeted; script = s.script.now }

abbrev pub listing_of : LentListing → Listing
listing_of l = record { inputs = inputs_of l.inputs; budget = l.budget }

abbrev pub explained_of : LentExplained → Explained
explained_of e = record { budgeted = budgeted_of e.budgeted; map_file = e.map.now; limit = e.limit; json = e.json }

abbrev pub explaining_of : LentExplaining → Explaining
explaining_of e = record { inputs = inputs_of e.inputs; map_file = e.map.now; budget = e.budget; limit = e.limit; json = e.json }

abbrev pub editing_of : LentEditing → Editing
editing_of e = record { inputs = inputs_of e.inputs; script = e.script.now; budget = e.budget }

abbrev pub lining_of : LentLining → Lining
lining_of l = record { data_file = l.data.now; prefix = option_map (λ p. p.now) l.prefix; data_base = l.data_base.now }

abbrev pub schemed_of : LentSchemed → Schemed
schemed_of s = record { schema = s.schema.now; schema_base = s.schema_base.now; import_words = map (λ w. w.now) s.import_words.items }

abbrev pub following_of : LentFollowing → Following
following_of f = record { schema = f.schema.now; schema_base = f.schema_base.now; imports = map import_of f.imports.items }

abbrev pub mapped_of : LentMapped → Mapped
mapped_of m = record { given = given_of m.given; map_file = m.map.now }

abbrev pub reaching_of : LentReaching → Reaching
reaching_of r = record { inputs = inputs_of r.inputs; map_file = r.map.now }

abbrev pub shard_of : LentShardFiles → ShardFiles
shard_of s = record { nodes = s.nodes.now; shard = s.shard.now }

abbrev pub covering_of : LentCovering → Covering
covering_of c = record { ways = c.followed.now; part = c.part.now; shards = map shard_of c.shards.items }

abbrev pub shard_call_of : LentShardCall → ShardCall
shard_call_of (ShardCalls.Lines l) = of_lines (lining_of l)
shard_call_of (ShardCalls.Followed f) = of_ways (following_of f)
shard_call_of (ShardCalls.Reached r) = of_nodes (reaching_of r)
shard_call_of (ShardCalls.Covers c) = of_cover (covering_of c)

abbrev pub tool_call_of : LentCall → ToolCall
tool_call_of (Calls.Convert c) = of_schema (converting_of c)
tool_call_of (Calls.Extents l) = of_labels (listing_of l)
tool_call_of (Calls.Explain e) = of_reasons (explaining_of e)
tool_call_of (Calls.Shards s) = of_shards (shard_call_of s)
