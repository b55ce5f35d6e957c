-- What is told of items, one after the other, while subjects are numbered.
use Rattle.std.proofs.Common.{◌≡◌, ◌∙◌, ℕ, ◌<◌, ◌≤◌, ◌+◌, sym, subst, ap, get_or, take, length, List, [], ◌∷◌, ◌++◌}
use Rattle.std.proofs.lemmas.List.{append-nil, nil_from_length, take_all}
use Rattle.std.specs.List.{AllZip, flat_map}
use Rattle.lists.proofs.Beside.{zip_on, zip_push}
use Rattle.rdf_terms.specs.declared.terms.Term.{Term}
use Rattle.schema_tree.specs.declared.schema.Schema.{Schema}
use Rattle.schema_tree.specs.Sure.{Known}
use Rattle.explanations.specs.declared.subject.Subject.{Subject}
use Rattle.explanations.specs.Numbers.{GoesOn, Numbers}
use Rattle.explanations.proofs.Numbering.{goes_on, numbers_more, numbers_none}

-- where nothing is left, all was given
pub yielded_all : {X : Type 0} (all yielded rest : List X) → all ≡ yielded ++ rest → length rest ≡ 0 → yielded ≡ all
yielded_all all yielded rest e none = sym (e ∙ ap (λ z. yielded ++ z) (nil_from_length rest none) ∙ append-nil yielded)

-- R all x y: y is told of x, where all are the subjects; mentions are the numbers that it mentions
module _ (s : Schema) (terms : List Term) (view : Known) {A B : Type 0} (R : List Subject → A → B → Type 0) (mentions : B → List ℕ) where
  -- these are told of the items, and the subjects are numbered as they mention them
  pub record AreTellings (start seen : List Subject) (xs : List A) (ys : List B) : Type 0 where
    pub numbers : Numbers s terms view start (flat_map mentions ys) seen
    pub are : (all : List Subject) → GoesOn seen all → AllZip (R all) xs ys

  pub tell_none : (start : List Subject) (ys : List B) → ys ≡ [] → AreTellings start start [] ys
  tell_none start ys is = subst (λ z. AreTellings start start [] z) (sym is) (record { numbers = numbers_none s terms view start; are = λ all on. tt })

  pub tell_one : (start old new : List Subject) (xs : List A) (ys more : List B) (x : A) (y : B) → AreTellings start old xs ys →
      Numbers s terms view old (mentions y) new → ((all : List Subject) → GoesOn new all → R all x y) → more ≡ ys ++ y ∷ [] →
      AreTellings start new (xs ++ x ∷ []) more
  tell_one start old new xs ys more x y before numbers is same = record {
    numbers = numbers_more s terms view mentions ys more y start old new before.numbers numbers same;
    are = λ all on. subst (λ z. AllZip (R all) (xs ++ x ∷ []) z) (sym same) (zip_push (R all) xs ys x y (before.are all (goes_on old new all numbers.grown on)) (is all on));
  }

  -- one more of a list
  pub tell_next : (start old new : List Subject) (xs : List A) (i : ℕ) (d : A) (ys more : List B) (y : B) → i < length xs →
      AreTellings start old (take i xs) ys → Numbers s terms view old (mentions y) new →
      ((all : List Subject) → GoesOn new all → R all (get_or xs i d) y) → more ≡ ys ++ y ∷ [] → AreTellings start new (take (i + 1) xs) more
  tell_next start old new xs i d ys more y inside before numbers is same = record {
    numbers = numbers_more s terms view mentions ys more y start old new before.numbers numbers same;
    are = λ all on. zip_on (R all) xs ys more i d y inside (before.are all (goes_on old new all numbers.grown on)) (is all on) same;
  }

  -- all that was given, where nothing is left
  pub tell_yielded : (start seen : List Subject) (all yielded rest : List A) (ys : List B) → all ≡ yielded ++ rest → length rest ≡ 0 →
      AreTellings start seen yielded ys → AreTellings start seen all ys
  tell_yielded start seen all yielded rest ys e none are = subst (λ z. AreTellings start seen z ys) (yielded_all all yielded rest e none) are

  -- all of a list
  pub tell_all : (start seen : List Subject) (xs : List A) (i : ℕ) (ys : List B) → length xs ≤ i → AreTellings start seen (take i xs) ys →
      AreTellings start seen xs ys
  tell_all start seen xs i ys past are = subst (λ z. AreTellings start seen z ys) (take_all i xs past) are
