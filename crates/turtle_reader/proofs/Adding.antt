-- Triples that are added to those of a statement.
use Rattle.std.proofs.Common.{◌≡◌, ℕ, zero, suc, List, [], ◌∷◌, ◌++◌, length, get_or, set, sym, ap, ◌∙◌, arith, append_assoc}
use Rattle.std.specs.List.{flat_map}
use Rattle.std.proofs.lemmas.Grind.{flat_map-append}
use Rattle.std.proofs.lemmas.List.{append-nil}
use Rattle.rdf_terms.specs.declared.terms.Term.{Term}
use Rattle.turtle_reader.specs.declared.objects.ObjectList.{ObjectList}
use Rattle.turtle_reader.specs.Objects.{triple_of, triples_of}

-- what all items give, and behind them one more
pub one_more : {X Y : Type 0} (f : X → List Y) (xs : List X) (x : X) → flat_map f (xs ++ x ∷ []) ≡ flat_map f xs ++ f x
one_more f xs x = flat_map-append f xs (x ∷ []) ∙ ap (λ (v : List _). flat_map f xs ++ v) (append-nil (f x))

-- what all items give, where the last of them gives more
pub last_gives_more : {X Y : Type 0} (f : X → List Y) (xs : List X) (n : ℕ) (x w : X) (ys : List Y) → length xs ≡ suc n → x ≡ get_or xs n x
    → f w ≡ f x ++ ys → flat_map f (set xs n w) ≡ flat_map f xs ++ ys
last_gives_more f [] n x w ys l e g = absurd (omega (arith, l))
last_gives_more f (a ∷ []) zero x w ys l e g = append-nil (f w) ∙ g ∙ ap (λ (v : List _). v ++ ys) (ap f e ∙ sym (append-nil (f a)))
last_gives_more f (a ∷ b ∷ bs) zero x w ys l e g = absurd (omega (arith, l))
last_gives_more f (a ∷ rest) (suc n) x w ys l e g = ap (λ (v : List _). f a ++ v) (last_gives_more f rest n x w ys (omega (arith, l)) e g)
    ∙ sym (append_assoc (f a) (flat_map f rest) ys)

-- what all items give, where the last of them is given and gives more
pub end_gives_more : {X Y : Type 0} (f : X → List Y) (xs : List X) (x w : X) (ys : List Y) → f w ≡ f x ++ ys
    → flat_map f (xs ++ w ∷ []) ≡ flat_map f (xs ++ x ∷ []) ++ ys
end_gives_more f xs x w ys g =
    one_more f xs w ∙ ap (λ (v : List _). flat_map f xs ++ v) g ∙ sym (append_assoc (flat_map f xs) (f x) ys)
    ∙ ap (λ (v : List _). v ++ ys) (sym (one_more f xs x))

-- the triple that a further object adds to a list of this predicate
pub of_predicate : (s : Term) (l w : ObjectList) (p : List ℕ) (o : Term) → triples_of s w ≡ triples_of s l ++ triple_of s l.predicate o ∷ []
    → l.predicate ≡ p → triples_of s w ≡ triples_of s l ++ triple_of s p o ∷ []
of_predicate s l w p o e same = e ∙ ap (λ (v : List ℕ). triples_of s l ++ triple_of s v o ∷ []) same
