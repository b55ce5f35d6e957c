-- The texts of a drill with n items, which stand in blocks of ten and lead round each block (own).
use Rattle.std.specs.Prelude.{ℕ, ◌+◌, ◌*◌, ◌/◌, ◌%◌, ◌&&◌, List, ◌++◌, codes, nat_eq, nat_lt, if◌then◌else◌}
use Rattle.std.specs.Fmt.{decimal}
use Rattle.std.specs.List.{flat_map, range_with_len}

-- ---- the items

-- the number of an item's block, and the first item of a block
abbrev pub block_of : ℕ → ℕ
block_of i = i / 10

abbrev pub first_of : ℕ → ℕ
first_of block = block * 10

-- the item that item i leads to among n: the one behind it in its block, and from the last the first one
abbrev pub next_of : ℕ → ℕ → ℕ
next_of n i = if nat_lt (i + 1) n && nat_eq (block_of (i + 1)) (block_of i) then i + 1 else first_of (block_of i)

-- the tag of an item: 1, 2 or 3, but 4 at the first item of a block whose number is divisible by 3
abbrev pub tag_of : ℕ → ℕ
tag_of i = if nat_eq i (first_of (block_of i)) && nat_eq (block_of i % 3) 0 then 4 else 1 + i % 3

-- ---- the texts

-- the line of item i among n
abbrev pub line_of : ℕ → ℕ → List ℕ
line_of n i = codes ":i" ++ (decimal i ++ (codes " :next :i" ++ (decimal (next_of n i) ++ (codes " ; :tag " ++ (decimal (tag_of i) ++ codes " .\n")))))

-- the data, in Turtle: the prefix, and a line for each item
abbrev pub graph_text : ℕ → List ℕ
graph_text n = codes "@prefix : <http://d.example/> .\n" ++ flat_map (line_of n) (range_with_len 0 n)

-- the schema, in ShExC: an item leads to items alone, and has one tag, of 1, 2 or 3
abbrev pub schema_text : List ℕ
schema_text = codes "PREFIX : <http://d.example/>\n:Item { :next @:Item* ; :tag [1 2 3] }\n"

-- the shape map: whatever has a tag is to be an item
abbrev pub map_text : List ℕ
map_text = codes "{FOCUS :tag _}@:Item\n"
