-- Removal of dot segments from a path (RFC 3986 section 5.2.4), over the list of its segments.
use Rattle.std.specs.Prelude.{ℕ, zero, suc, ◌==◌, Bool, ◌||◌, List, [], ◌∷◌, ◌++◌, codes, if◌then◌else◌}
use Rattle.std.specs.List.{flat_map, slice_split}
use Rattle.std.specs.Str.{bytes_eq}
use Rattle.iri_resolve.specs.Text.{slash, until_last}

-- the segments of a path: what stands before its first `/`, between each two, and behind its last (RFC 3986 section 3.3)
abbrev pub segments_of : List ℕ → List (List ℕ)
segments_of path = slice_split (λ b. b == slash) path

-- the segments `.` and `..` (RFC 3986 section 3.3)
abbrev pub is_dot : List ℕ → Bool
is_dot segment = bytes_eq segment (codes ".")

abbrev pub is_dot_dot : List ℕ → Bool
is_dot_dot segment = bytes_eq segment (codes "..")

abbrev pub is_dot_segment : List ℕ → Bool
is_dot_segment segment = is_dot segment || is_dot_dot segment

-- the segments without the dot segments that a relative path begins with
abbrev pub after_leading_dots : List (List ℕ) → List (List ℕ)
after_leading_dots [] = []
after_leading_dots (segment ∷ segments) = if is_dot_segment segment then after_leading_dots segments else segment ∷ segments

-- a dot segment at the end names a directory, so the empty segment follows it
abbrev pub with_end : List (List ℕ) → List (List ℕ)
with_end [] = []
with_end (last ∷ []) = if is_dot_segment last then last ∷ [] ∷ [] else last ∷ []
with_end (segment ∷ next ∷ segments) = segment ∷ with_end (next ∷ segments)

-- what is left of some segments, and how many of those before them the `..` among them take back
pub record Left : Type 0 where
  pub taken_back : ℕ
  pub segments : List (List ℕ)

-- any other segment is left, unless it is taken back
abbrev pub with_name : List ℕ → ℕ → List (List ℕ) → Left
with_name segment zero segments = record { taken_back = 0; segments = segment ∷ segments }
with_name segment (suc n) segments = record { taken_back = n; segments = segments }

-- `.` is dropped, `..` takes back one segment more
abbrev pub with_segment : List ℕ → Left → Left
with_segment segment left =
    if is_dot segment then left
    else (if is_dot_dot segment then record { taken_back = suc left.taken_back; segments = left.segments }
    else with_name segment left.taken_back left.segments)

-- what is left of the segments behind the first
abbrev pub left_of : List (List ℕ) → Left
left_of [] = record { taken_back = 0; segments = [] }
left_of (segment ∷ segments) = with_segment segment (left_of segments)

-- a first segment, unless it is taken back, and behind it the segments that are left, each with its `/`
abbrev pub path_with : List ℕ → Left → List ℕ
path_with first left = (if left.taken_back == 0 then first else []) ++ flat_map (λ segment. slash ∷ segment) left.segments

-- the path that is left of segments, the first of which has no `/` in front of it
abbrev pub path_of_segments : List (List ℕ) → List ℕ
path_of_segments [] = []
path_of_segments (first ∷ segments) = path_with first (left_of (with_end segments))

-- the path without its dot segments
abbrev pub without_dot_segments : List ℕ → List ℕ
without_dot_segments path = path_of_segments (after_leading_dots (segments_of path))

-- the text of a path so far, after one more of its segments is read: `..` cuts off the last segment with its `/`
abbrev pub with_read : List ℕ → List ℕ → List ℕ
with_read text segment =
    if is_dot segment then text
    else (if is_dot_dot segment then until_last slash text
    else text ++ slash ∷ segment)
