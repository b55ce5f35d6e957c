-- Fronts of the items of an array (RFC 8259, section 5).
use Rattle.std.specs.Prelude.{ℕ, zero, suc}
use Rattle.serde_json.specs.Data.{Data, Items, no_items, item}

-- the first n items, all where there are fewer
abbrev pub front : ℕ → Items → Items
front n no_items = no_items
front zero (item d ds) = no_items
front (suc n) (item d ds) = item d (front n ds)

-- the first n items, and then x
abbrev pub ending : ℕ → Data → Items → Items
ending n x no_items = item x no_items
ending zero x (item d ds) = item x no_items
ending (suc n) x (item d ds) = item d (ending n x ds)
