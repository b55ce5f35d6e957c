-- The members of an object that is put together.
use Rattle.serde_json.specs.Data.{Members}
use Rattle.serde_json.specs.View.{members_view}
use Rattle.shexj_writer.specs.declared.objects.Object.{Object}

abbrev pub members_of : Object → Members
members_of o = members_view o.map.entries
