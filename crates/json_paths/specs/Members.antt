-- The members of an object without one (RFC 8259, section 4).
use Rattle.std.specs.Prelude.{ℕ, List, if◌then◌else◌}
use Rattle.std.specs.Str.{bytes_eq}
use Rattle.serde_json.specs.Data.{Members, no_members, member}

-- the members without the first of this name
abbrev pub without_member : List ℕ → Members → Members
without_member name no_members = no_members
without_member name (member k d ms) = if bytes_eq name k then ms else member k d (without_member name ms)
