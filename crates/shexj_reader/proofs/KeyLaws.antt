-- Where the keys of an object are those of its form, no fault of keys stands.
use Rattle.std.proofs.Common.{◌≡◌, ◌∙◌, ap, Bool, true, false, ℕ, List, refl}
use Rattle.std.proofs.lemmas.Slice.Eq.{bytes_eq-Decides}
use Rattle.std.specs.List.{list_any}
use Rattle.std.specs.Prelude.{Option, Some, None, codes, ◌&&◌, ◌||◌}
use Rattle.std.specs.Str.{bytes_eq}
use Rattle.serde_json.specs.Data.{Data, null, boolean, number, string, array, object, Members, no_members, member}
use Rattle.serde_json.specs.Find.{get}
use Rattle.shexj_reader.specs.Faults.{Fault, HasActs, IsNoList, IsUnknownKey, PlainFault, bad_acts, bad_notes, has_acts}
use Rattle.shexj_reader.specs.Keys.{IsPlain, has_member, has_only, is_empty_list, is_list, members_within}

pub same_bytes : (k l : List ℕ) → bytes_eq k l ≡ true → k ≡ l
same_bytes k l e = (bytes_eq-Decides k l).0 e

-- two texts that a test tells apart
pub differ : (a b : List ℕ) → bytes_eq a b ≡ false → Some a ≡ Some b → ⊥
differ a b apart e = let same : a ≡ b = cc in let is : bytes_eq a b ≡ true = (bytes_eq-Decides a b).1 same in cc

within_step : (k l : List ℕ) (keys : List (List ℕ)) (rest : Bool) (more : Bool) → ((rest ≡ true) → (more ≡ true) → ⊥) → (b c : Bool) → bytes_eq l k ≡ b →
    list_any (bytes_eq l) keys ≡ c → (b || more) ≡ true → list_any (bytes_eq k) keys ≡ false → (c && rest) ≡ true → ⊥
within_step k l keys rest more next true true e h there unknown within =
    let known : list_any (bytes_eq l) keys ≡ false = ap (λ (x : List ℕ). list_any (bytes_eq x) keys) (same_bytes l k e) ∙ unknown in cc
within_step k l keys rest more next b false e h there unknown within = cc
within_step k l keys rest more next false true e h there unknown within = next within there

not_within : (k : List ℕ) (keys : List (List ℕ)) (ms : Members) → has_member k ms ≡ true → list_any (bytes_eq k) keys ≡ false → members_within keys ms ≡ true → ⊥
not_within k keys no_members there unknown within = cc
not_within k keys (member l d ms) there unknown within =
    within_step k l keys (members_within keys ms) (has_member k ms) (λ w t. not_within k keys ms t unknown w) (bytes_eq l k) (list_any (bytes_eq l) keys) refl refl there unknown within

pub known_keys : (keys : List (List ℕ)) (f : Fault) (d : Data) → IsUnknownKey keys f d → has_only keys d ≡ true → ⊥
known_keys keys f null h only = cc
known_keys keys f (boolean b) h only = cc
known_keys keys f (number n) h only = cc
known_keys keys f (string s) h only = cc
known_keys keys f (array ds) h only = cc
known_keys keys f (object ms) h only = not_within h.name keys ms h.there h.unknown only

empty_is_list : (o : Option Data) → is_empty_list o ≡ true → is_list o ≡ true
empty_is_list None e = refl
empty_is_list (Some null) e = cc
empty_is_list (Some (boolean b)) e = cc
empty_is_list (Some (number n)) e = cc
empty_is_list (Some (string s)) e = cc
empty_is_list (Some (array ds)) e = refl
empty_is_list (Some (object ms)) e = cc

pub no_acts_fault : (key : List ℕ) (f : Fault) (d : Data) → HasActs key f d → is_empty_list (get key d) ≡ true → ⊥
no_acts_fault key f d fault h = let some = fault.some in cc

pub no_list_fault : (key : List ℕ) (f : Fault) (d : Data) → IsNoList key f d → is_empty_list (get key d) ≡ true → ⊥
no_list_fault key f d fault h = let wrong = fault.wrong in let list = empty_is_list (get key d) h in cc

pub no_plain_fault : (f : Fault) (d : Data) → PlainFault f d → IsPlain d → ⊥
no_plain_fault f d (has_acts fault) h = no_acts_fault (codes "semActs") f d fault h.acts
no_plain_fault f d (bad_acts fault) h = no_list_fault (codes "semActs") f d fault h.acts
no_plain_fault f d (bad_notes fault) h = let wrong = fault.wrong in let notes = h.notes in cc
