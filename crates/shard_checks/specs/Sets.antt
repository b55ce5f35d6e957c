-- Sets of lent texts.
use Rattle.std.specs.Prelude.{ℕ, List, ◌≡◌, map}
use Rattle.std.specs.Borrow.{Bor}
use Rattle.std.specs.Cmp.Lexicographic.{slice_cmp}
use Rattle.std.specs.declared.cmp.Ordering.{Ordering}
use Rattle.std.specs.List.Sorted.{IsSorted}
use Rattle.std.specs.Ordering.{nat_cmp}
use Rattle.shard_checks.specs.declared.compared.Compared.{Compared}
use Rattle.shard_checks.specs.declared.compared.Looked.{Looked}
use Rattle.shard_checks.specs.declared.covers.Part.{Part}
use Rattle.shard_checks.specs.Lines.{is_among}

-- the order of lent texts
abbrev pub text_order : Bor (List ℕ) → Bor (List ℕ) → Ordering
text_order x y = slice_cmp nat_cmp x.now y.now

-- what stands there in order are these texts and no others
pub record Knows (found : List (Bor (List ℕ))) (texts : List (List ℕ)) : Type 0 where
  pub sorted : IsSorted text_order found
  pub same : (text : List ℕ) → is_among text (map (λ x. x.now) found) ≡ is_among text texts

-- the part has these lines, and these predicates are read back
pub record IsPart (p : Part) (lines back : List (List ℕ)) : Type 0 where
  pub lines_are : map (λ l. l.now) p.lines.items ≡ lines
  pub read_back : Knows p.read_back.lines.items back

-- what was looked for last is one of the nodes, or is said to be none
abbrev pub IsLooked : Looked → List (List ℕ) → Type 0
IsLooked l at = l.is_node ≡ is_among l.text.now at

-- lines are compared with these lines of a shard, these nodes, and these predicates that are read back
pub record AreCompared (c : Compared) (all at back : List (List ℕ)) : Type 0 where
  pub shard_has : Knows c.shard.now.lines.items all
  pub nodes_are : Knows c.nodes.now.lines.items at
  pub back_are : Knows c.read_back.now.lines.items back
