-- What a JSON object has under its keys (RFC 8259, section 4; ShEx 2.1, appendix A, ShExJ).
use Rattle.std.specs.Prelude.{ℕ, Bool, true, false, List, [], ◌∷◌, ◌≡◌, ◌&&◌, ◌||◌, Option, Some, None, codes, option_map, option_and_then}
use Rattle.std.specs.List.{list_any}
use Rattle.std.specs.Str.{bytes_eq, chars}
use Rattle.serde_json.specs.Data.{Data, array, object, Items, no_items, item, Members, no_members, member}
use Rattle.serde_json.specs.Find.{as_array, as_bool, as_str, get}

-- each member has one of the keys
abbrev pub members_within : List (List ℕ) → Members → Bool
members_within keys no_members = true
members_within keys (member k d ms) = list_any (bytes_eq k) keys && members_within keys ms

-- the value is an object, and its members have no other keys
abbrev pub has_only : List (List ℕ) → Data → Bool
has_only keys (object ms) = members_within keys ms
has_only keys _ = false

-- the value is an object with a member of this key
abbrev pub has_member : List ℕ → Members → Bool
has_member k no_members = false
has_member k (member l d ms) = bytes_eq l k || has_member k ms

abbrev pub has_key : List ℕ → Data → Bool
has_key k (object ms) = has_member k ms
has_key k _ = false

-- the value is an object
abbrev pub is_object : Data → Bool
is_object (object ms) = true
is_object _ = false

-- ---- what a key's value stands for; the argument None is an absent key, the answer None a value that is not of its form

-- a text, in bytes
abbrev pub word : Option Data → Option (List ℕ)
word o = option_and_then as_str o

-- a text, in characters
abbrev pub text : Option Data → Option (List ℕ)
text o = option_map chars (word o)

-- a text, if the key is there
abbrev pub text_if_any : Option Data → Option (Option (List ℕ))
text_if_any None = Some None
text_if_any (Some d) = option_map Some (text (Some d))

-- true or false, false where the key is absent
abbrev pub flag : Option Data → Option Bool
flag None = Some false
flag (Some d) = as_bool d

-- texts, in characters
abbrev pub texts_in : Items → Option (List (List ℕ))
texts_in no_items = Some []
texts_in (item d ds) = option_and_then (λ t. option_map (λ ts. t ∷ ts) (texts_in ds)) (text (Some d))

-- a list of texts, none where the key is absent
abbrev pub texts : Option Data → Option (List (List ℕ))
texts None = Some []
texts (Some d) = option_and_then texts_in (as_array d)

-- a list that is not empty
abbrev pub some_items : Items → Option Items
some_items no_items = None
some_items (item d ds) = Some (item d ds)

abbrev pub members : Option Data → Option Items
members o = option_and_then some_items (option_and_then as_array o)

-- a list of any values, or none
abbrev pub is_list : Option Data → Bool
is_list None = true
is_list (Some (array ds)) = true
is_list (Some _) = false

-- an empty list, or none
abbrev pub is_empty_list : Option Data → Bool
is_empty_list None = true
is_empty_list (Some (array no_items)) = true
is_empty_list (Some _) = false

-- the keys of an object, with `id` where it has a label of its own
abbrev pub with_id : Bool → List (List ℕ) → List (List ℕ)
with_id false keys = keys
with_id true keys = codes "id" ∷ keys

-- the type that an object names
abbrev pub type_of : Data → Option (List ℕ)
type_of d = word (get (codes "type") d)

-- an object of this type without other keys than these
pub record IsObject (name : List ℕ) (keys : List (List ℕ)) (d : Data) : Type 0 where
  pub only : has_only keys d ≡ true
  pub type : type_of d ≡ Some name

-- no actions, and any annotations
pub record IsPlain (d : Data) : Type 0 where
  pub acts : is_empty_list (get (codes "semActs") d) ≡ true
  pub notes : is_list (get (codes "annotations") d) ≡ true
