-- Resolution of a reference against a base (RFC 3986 sections 5.2 and 5.3).
use Rattle.std.specs.Prelude.{ℕ, ◌-◌, ◌==◌, Bool, ◌&&◌, List, [], ◌++◌, length, take, Option, Some, None, is_some, string_bytes, nat_eq, not, codes, if◌then◌else◌}
use Rattle.std.specs.List.{suffix_len, starts_with}
use Rattle.std.specs.Option.{option_or, option_copied}
use Rattle.iri_resolve.specs.Text.{slash}
use Rattle.iri_resolve.specs.Reference.{Components, components_of}
use Rattle.iri_resolve.specs.declared.resolution.Target.{Target}
use Rattle.iri_resolve.specs.Dots.{without_dot_segments}

-- a component with its delimiter in front of it, or nothing where it is not there
abbrev pub with_mark_before : List ℕ → Option (List ℕ) → List ℕ
with_mark_before mark None = []
with_mark_before mark (Some component) = mark ++ component

-- the same with the delimiter behind it
abbrev pub with_mark_after : List ℕ → Option (List ℕ) → List ℕ
with_mark_after mark None = []
with_mark_after mark (Some component) = component ++ mark

-- the text of components (RFC 3986 section 5.3)
abbrev pub text_of : Components → List ℕ
text_of c = with_mark_after (codes ":") c.scheme ++ with_mark_before (codes "//") c.authority ++ c.path ++ with_mark_before (codes "?") c.query ++ with_mark_before (codes "#") c.fragment

-- whether a path has no character
abbrev pub is_empty : List ℕ → Bool
is_empty path = length path == 0

-- whether a path begins with `/`
abbrev pub is_absolute : List ℕ → Bool
is_absolute path = starts_with nat_eq path (codes "/")

-- all but the last segment of a path: what stands behind its last `/` is cut off, or all where there is none
abbrev pub up_to_last_slash : List ℕ → List ℕ
up_to_last_slash path = take (length path - suffix_len (λ b. not (b == slash)) path) path

-- a relative path in the place of the last segment of the base's path (RFC 3986 section 5.2.3)
abbrev pub merged_path : Components → List ℕ → List ℕ
merged_path base path =
    if is_some base.authority && is_empty base.path then codes "/" ++ path
    else up_to_last_slash base.path ++ path

-- a target with this authority, path and query: its scheme is the base's, and its fragment the reference's (RFC 3986 section 5.2.2)
abbrev pub target_with : Components → Components → Option (List ℕ) → List ℕ → Option (List ℕ) → Components
target_with base reference authority path query =
    record { scheme = base.scheme; authority = authority; path = path; query = query; fragment = reference.fragment }

-- the target of a reference (RFC 3986 section 5.2.2). One that has a scheme is taken as written, with its dot segments
abbrev pub target : Components → Components → Components
target base reference =
    if is_some reference.scheme then reference
    else (if is_some reference.authority then target_with base reference reference.authority (without_dot_segments reference.path) reference.query
    else (if is_empty reference.path then target_with base reference base.authority base.path (option_or reference.query base.query)
    else (if is_absolute reference.path then target_with base reference base.authority (without_dot_segments reference.path) reference.query
    else target_with base reference base.authority (without_dot_segments (merged_path base reference.path)) reference.query)))

-- the text that a reference stands for in a document with this base (RFC 3986 section 5.2)
abbrev pub resolved_text : List ℕ → List ℕ → List ℕ
resolved_text base reference = text_of (target (components_of base) (components_of reference))

-- the components that a target holds
abbrev pub components_held : Target → Components
components_held t = record {
  scheme = option_copied t.scheme;
  authority = option_copied t.authority;
  path = string_bytes t.path;
  query = option_copied t.query;
  fragment = option_copied t.fragment;
}
