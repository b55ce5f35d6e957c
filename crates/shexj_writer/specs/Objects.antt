-- Objects and lists of JSON.
use Rattle.std.specs.Prelude.{ℕ, List, [], ◌∷◌, Option, Some, None}
use Rattle.serde_json.specs.Data.{Data, array, object, Items, no_items, item, Members, no_members, put}

-- a key with its value, if there is one
abbrev pub Field : Type 0
Field = List ℕ × Option Data

-- the members with this value at the key, if there is one
abbrev pub put_if : List ℕ → Option Data → Members → Members
put_if key None ms = ms
put_if key (Some d) ms = put key d ms

-- the members of these fields, each at its place in the byte order of keys; without a value there is none
abbrev pub members : List Field → Members
members [] = no_members
members (f ∷ fs) = put_if f.0 f.1 (members fs)

-- members, and the values of these fields among them
abbrev pub put_all : List Field → Members → Members
put_all [] ms = ms
put_all (f ∷ fs) ms = put_if f.0 f.1 (put_all fs ms)

-- the object of these fields
abbrev pub object_of : List Field → Data
object_of fs = object (members fs)

-- a list that is not empty, or nothing
abbrev pub list_if_any : Items → Option Data
list_if_any no_items = None
list_if_any (item d ds) = Some (array (item d ds))
