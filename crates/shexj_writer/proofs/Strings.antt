-- JSON values whose strings are UTF-8.
use Rattle.std.proofs.Common.{◌≡◌, subst, ℕ, List, Ordering, Less, Equal, Greater}
use Rattle.std.specs.Prelude.{Option, Some, None, ⊤}
use Rattle.std.specs.Cmp.Lexicographic.{slice_cmp}
use Rattle.std.specs.Ordering.{match_ordering, nat_cmp}
use Rattle.std.specs.Str.{IsUtf8}
use Rattle.serde_json.specs.Data.{Data, null, boolean, number, string, array, object, Items, no_items, item, Members, no_members, member}
use Rattle.serde_json.specs.Find.{get, get_member}

-- each string in the value, but for keys, is UTF-8
abbrev mutual
  pub HasTexts : Data → Type 0
  HasTexts null = ⊤
  HasTexts (boolean b) = ⊤
  HasTexts (number n) = ⊤
  HasTexts (string s) = IsUtf8 s
  HasTexts (array ds) = HaveTexts ds
  HasTexts (object ms) = MembersHaveTexts ms

  pub HaveTexts : Items → Type 0
  HaveTexts no_items = ⊤
  HaveTexts (item d ds) = HasTexts d × HaveTexts ds

  pub MembersHaveTexts : Members → Type 0
  MembersHaveTexts no_members = ⊤
  MembersHaveTexts (member k d ms) = HasTexts d × MembersHaveTexts ms

-- a value that may be there has texts of Unicode scalar values alone
abbrev pub HasTextsIfAny : Option Data → Type 0
HasTextsIfAny None = ⊤
HasTextsIfAny (Some d) = HasTexts d

chosen : (o : Ordering) (a b : Option Data) → HasTextsIfAny a → HasTextsIfAny b → HasTextsIfAny (match_ordering o a b a)
chosen Less a b p q = p
chosen Equal a b p q = q
chosen Greater a b p q = p

member_texts : (k : List ℕ) (ms : Members) → MembersHaveTexts ms → HasTextsIfAny (get_member k ms)
member_texts k no_members h = tt
member_texts k (member l d ms) h = chosen (slice_cmp nat_cmp k l) (get_member k ms) (Some d) (member_texts k ms h.1) h.0

pub texts_at : (k : List ℕ) (d : Data) → HasTexts d → HasTextsIfAny (get k d)
texts_at k null h = tt
texts_at k (boolean b) h = tt
texts_at k (number n) h = tt
texts_at k (string s) h = tt
texts_at k (array ds) h = tt
texts_at k (object ms) h = member_texts k ms h

pub texts_there : (k : List ℕ) (d e : Data) → HasTexts d → get k d ≡ Some e → HasTexts e
texts_there k d e h is = subst HasTextsIfAny is (texts_at k d h)
