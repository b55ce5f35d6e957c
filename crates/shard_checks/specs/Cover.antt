-- Which lines of a part a shard lacks (own).
use Rattle.std.specs.Prelude.{ℕ, Bool, List, ◌&&◌, ◌||◌, codes, drop, filter, map, not, take}
use Rattle.std.specs.Str.{bytes_eq}
use Rattle.shard_checks.specs.Lines.{is_among, lines_of, object_of, predicate_of, subject_of}

-- the line is read at one of the nodes: its subject is one, or its object is and its predicate is read back
abbrev pub is_read_at : List (List ℕ) → List (List ℕ) → List ℕ → Bool
is_read_at nodes back line = is_among (subject_of line) nodes || (is_among (predicate_of line) back && is_among (object_of line) nodes)

-- those of the lines that are read at one of the nodes and are not among the shard's
abbrev pub missing : List (List ℕ) → List (List ℕ) → List (List ℕ) → List (List ℕ) → List (List ℕ)
missing lines shard nodes back = filter (λ line. is_read_at nodes back line && not (is_among line shard)) lines

-- the same of texts of lines
abbrev pub missing_lines : List ℕ → List ℕ → List ℕ → List ℕ → List (List ℕ)
missing_lines part triples nodes back = missing (lines_of part) (lines_of triples) (lines_of nodes) (lines_of back)

-- what stands behind `read ^` in those of the lines that begin so
abbrev pub is_read_back : List ℕ → Bool
is_read_back line = bytes_eq (take 6 line) (codes "read ^")

abbrev pub read_back_in : List (List ℕ) → List (List ℕ)
read_back_in lines = map (drop 6) (filter is_read_back lines)

-- what is missing where the lines of ways say which predicates are read back, each a text of lines
abbrev pub missing_by : List ℕ → List ℕ → List ℕ → List ℕ → List (List ℕ)
missing_by ways part nodes shard = missing (lines_of part) (lines_of shard) (lines_of nodes) (read_back_in (lines_of ways))

-- those of the lines that are none of these
abbrev pub outside : List (List ℕ) → List (List ℕ) → List (List ℕ)
outside these lines = filter (λ line. not (is_among line these)) lines
