-- Subjects that are numbered as they are mentioned.
use Rattle.std.proofs.Common.{add-one, ◌≡◌, ◌∙◌, ℕ, zero, suc, ◌+◌, ◌⊎◌, inl, inr, refl, arith, sym, subst, ap, length, List, [], ◌∷◌, ◌++◌}
use Rattle.std.proofs.lemmas.Grind.{flat_map-append}
use Rattle.std.proofs.lemmas.List.{append-nil, length-append}
use Rattle.std.proofs.lemmas.List.Concat.{flat_map-cons}
use Rattle.std.proofs.lemmas.Option.{slice_get_within}
use Rattle.std.specs.Prelude.{Some, slice_get}
use Rattle.std.specs.List.{AllByRecursion, flat_map}
use Rattle.lists.specs.Additions.{Adds}
use Rattle.lists.proofs.Additions.{adds_grows, grown_on}
use Rattle.lists.proofs.Members.{got_in}
use Rattle.lists.proofs.Quantifiers.{all_append}
use Rattle.rdf_terms.specs.declared.terms.Term.{Term}
use Rattle.schema_tree.specs.declared.schema.Schema.{Schema}
use Rattle.schema_tree.specs.Sure.{Known}
use Rattle.explanations.specs.declared.subject.Subject.{Subject}
use Rattle.explanations.specs.Numbers.{AreInTurn, Fails, GoesOn, Numbers, numbered}

-- what is read of a list with one more item is of the list, or the item
last_cases : {X : Type 0} (xs : List X) (y : X) (i : ℕ) (x : X) → slice_get (xs ++ y ∷ []) i ≡ Some x → (slice_get xs i ≡ Some x) ⊎ ((i ≡ length xs) × (y ≡ x))
last_cases [] y zero x e = inr (refl, cc)
last_cases [] y (suc i) x e = absurd cc
last_cases (z ∷ zs) y zero x e = inl e
last_cases (z ∷ zs) y (suc i) x e = by (last_cases zs y i x e)
  where
    by : (slice_get zs i ≡ Some x) ⊎ ((i ≡ length zs) × (y ≡ x)) → (slice_get (z ∷ zs) (suc i) ≡ Some x) ⊎ ((suc i ≡ length (z ∷ zs)) × (y ≡ x))
    by (inl h) = inl h
    by (inr (n, h)) = inr (omega arith, h)

-- numbers in turn, and others behind them
pub in_turn_on : (n : ℕ) (ks : List ℕ) (m : ℕ) (ls : List ℕ) (l : ℕ) → AreInTurn n ks m → AreInTurn m ls l → AreInTurn n (ks ++ ls) l
in_turn_on n [] m ls l h more = subst (λ z. AreInTurn z ls l) (sym h) more
in_turn_on n (k ∷ ks) m ls l (inl (some, le, h)) more = inl (some, le, in_turn_on n ks m ls l h more)
in_turn_on n (k ∷ ks) m ls l (inr (is, h)) more = inr (is, in_turn_on (suc n) ks m ls l h more)

-- the subject of the number behind a place
pub numbered_next : (all : List Subject) (k : ℕ) (subject : Subject) → slice_get all k ≡ Some subject → numbered all (k + 1) ≡ Some subject
numbered_next all k subject at = rw add-one at

pub goes_on : (old mid new : List Subject) → GoesOn old mid → GoesOn mid new → GoesOn old new
goes_on old mid new a b = grown_on old mid new a b

pub goes_itself : (old : List Subject) → GoesOn old old
goes_itself old = ([], sym (append-nil old))

module _ (s : Schema) (terms : List Term) (view : Known) where
  -- nothing is mentioned
  pub numbers_none : (old : List Subject) → Numbers s terms view old [] old
  numbers_none old = record { grown = goes_itself old; in_turn = refl; fail = λ h. h }

  -- more is mentioned behind
  pub numbers_on : (old mid new : List Subject) (ks ls : List ℕ) → Numbers s terms view old ks mid → Numbers s terms view mid ls new →
      Numbers s terms view old (ks ++ ls) new
  numbers_on old mid new ks ls a b = record {
    grown = goes_on old mid new a.grown b.grown;
    in_turn = in_turn_on (length old) ks (length mid) ls (length new) a.in_turn b.in_turn;
    fail = λ h. b.fail (a.fail h);
  }

  -- more is mentioned by one more item
  pub numbers_more : {X : Type 0} (mentions : X → List ℕ) (ys more : List X) (y : X) (start old new : List Subject) →
      Numbers s terms view start (flat_map mentions ys) old → Numbers s terms view old (mentions y) new → more ≡ ys ++ y ∷ [] →
      Numbers s terms view start (flat_map mentions more) new
  numbers_more mentions ys more y start old new a b is =
      subst (λ z. Numbers s terms view start z new)
      (sym (ap (λ z. flat_map mentions z) is ∙ flat_map-append mentions ys (y ∷ []) ∙ ap (λ z. flat_map mentions ys ++ z) (flat_map-cons mentions y [] ∙ append-nil (mentions y))))
      (numbers_on start old new (flat_map mentions ys) (mentions y) a b)

  -- a subject is mentioned
  pub numbers_one : (old new : List Subject) (subject : Subject) (k : ℕ) → Adds old subject new → slice_get new k ≡ Some subject →
      Fails s terms view subject → Numbers s terms view old ((k + 1) ∷ []) new
  numbers_one old new subject k adds at fails = record { grown = adds_grows old new subject adds; in_turn = turn adds; fail = fail adds }
    where
      turn : Adds old subject new → AreInTurn (length old) ((k + 1) ∷ []) (length new)
      turn (inl (held, same)) =
          let inside = slice_get_within new k subject at in let size = ap (λ z. length z) same in
          inl (omega arith, omega (arith, inside, size), sym size)
      turn (inr (fresh, same)) = by (last_cases old subject k subject (ap (λ z. slice_get z k) (sym same) ∙ at))
        where
          size : length new ≡ length old + 1
          size = ap (λ z. length z) same ∙ length-append old (subject ∷ [])

          by : (slice_get old k ≡ Some subject) ⊎ ((k ≡ length old) × (subject ≡ subject)) → AreInTurn (length old) ((k + 1) ∷ []) (length new)
          by (inl there) = absurd (fresh (got_in old k subject there))
          by (inr (is, e)) = inr (omega (arith, is), (let n = size in omega (arith, n)))

      fail : Adds old subject new → AllByRecursion (Fails s terms view) old → AllByRecursion (Fails s terms view) new
      fail (inl (held, same)) h = subst (λ z. AllByRecursion (Fails s terms view) z) (sym same) h
      fail (inr (fresh, same)) h = subst (λ z. AllByRecursion (Fails s terms view) z) (sym same) (all_append _ old (subject ∷ []) h (fails, tt))
