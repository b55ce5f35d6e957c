-- A way leads from a set of positions where it leads from each of them.
use Rattle.std.proofs.Common.{◌≡◌, ℕ, zero, suc, ◌-◌, List, [], ◌∷◌, ◌++◌, length, map, refl, arith, sym, ap, ◌∙◌, Bool, true, false, ◌&&◌, ◌||◌, drop, replicate, length-append}
use Rattle.std.proofs.lemmas.List.{drop-replicate, replicate-append-replicate}
use Rattle.xs_pattern.specs.declared.walk.Edge.{Edge}
use Rattle.xs_pattern.specs.Way.{Way, nothing, never, start, finish, one, then, either, plus, size, passes, first, ends, next}
use Rattle.xs_pattern.specs.Marked.{or_marks, and_marks, meets, set_numbers, lasts}
use Rattle.xs_pattern.proofs.Reading.{length-next}

-- tests
then_tests : (x y p q h : Bool) → ((x || y) || ((p || q) && h)) ≡ ((x || (p && h)) || (y || (q && h)))
then_tests true y p q h = refl
then_tests false y false q h = refl
then_tests false true true q true = refl
then_tests false true true q false = refl
then_tests false false true q true = refl
then_tests false false true true false = refl
then_tests false false true false false = refl

both_tests : (x y p q : Bool) → ((x || y) || (p || q)) ≡ ((x || p) || (y || q))
both_tests true y p q = refl
both_tests false true true q = refl
both_tests false true false q = refl
both_tests false false true q = refl
both_tests false false false q = refl

pub one_tests : (p q h : Bool) → ((p || q) && h) ≡ ((p && h) || (q && h))
one_tests true q true = refl
one_tests true true false = refl
one_tests true false false = refl
one_tests false q h = refl

or_no : (b : Bool) → (b || false) ≡ b
or_no true = refl
or_no false = refl

-- lists of marks
pub or_none : (xs : List Bool) → or_marks xs [] ≡ xs
or_none [] = refl
or_none (x ∷ xs) = refl

or_drop : (n : ℕ) (xs ys : List Bool) → drop n (or_marks xs ys) ≡ or_marks (drop n xs) (drop n ys)
or_drop zero xs ys = refl
or_drop (suc n) [] ys = refl
or_drop (suc n) (x ∷ xs) [] = sym (or_none (drop n xs))
or_drop (suc n) (x ∷ xs) (y ∷ ys) = or_drop n xs ys

or_first : (xs ys : List Bool) → first (or_marks xs ys) ≡ (first xs || first ys)
or_first [] ys = refl
or_first (x ∷ xs) [] = sym (or_no x)
or_first (x ∷ xs) (y ∷ ys) = refl

or_append : (us vs xs ys : List Bool) → length us ≡ length vs → or_marks (us ++ xs) (vs ++ ys) ≡ or_marks us vs ++ or_marks xs ys
or_append [] [] xs ys h = refl
or_append [] (b ∷ vs) xs ys h = absurd (omega arith)
or_append (a ∷ us) [] xs ys h = absurd (omega arith)
or_append (a ∷ us) (b ∷ vs) xs ys h = ap (λ v. (a || b) ∷ v) (or_append us vs xs ys (omega arith))

pub blank_or : (n : ℕ) (xs : List Bool) → length xs ≡ n → or_marks (replicate n false) xs ≡ xs
blank_or zero xs h = refl
blank_or (suc n) [] h = absurd (omega arith)
blank_or (suc n) (x ∷ xs) h = ap (λ v. x ∷ v) (blank_or n xs (omega arith))

pub or_blank : (n : ℕ) (xs : List Bool) → length xs ≡ n → or_marks xs (replicate n false) ≡ xs
or_blank zero [] h = refl
or_blank zero (x ∷ xs) h = absurd (omega arith)
or_blank (suc n) [] h = absurd (omega arith)
or_blank (suc n) (x ∷ xs) h = ap (λ v. v ∷ or_marks xs (replicate n false)) (or_no x) ∙ ap (λ v. x ∷ v) (or_blank n xs (omega arith))

pub or_more : (xs ys zs : List Bool) → or_marks (or_marks xs ys) zs ≡ or_marks xs (or_marks ys zs)
or_more [] ys zs = refl
or_more (x ∷ xs) [] zs = refl
or_more (x ∷ xs) (y ∷ ys) [] = refl
or_more (x ∷ xs) (y ∷ ys) (z ∷ zs) = ap (λ v. v ∷ or_marks (or_marks xs ys) zs) (three x y z) ∙ ap (λ v. (x || (y || z)) ∷ v) (or_more xs ys zs)
  where
    three : (a b c : Bool) → ((a || b) || c) ≡ (a || (b || c))
    three true b c = refl
    three false b c = refl

and_append : (us vs xs ys : List Bool) → length us ≡ length vs → and_marks (us ++ xs) (vs ++ ys) ≡ and_marks us vs ++ and_marks xs ys
and_append [] [] xs ys h = refl
and_append [] (b ∷ vs) xs ys h = absurd (omega arith)
and_append (a ∷ us) [] xs ys h = absurd (omega arith)
and_append (a ∷ us) (b ∷ vs) xs ys h = ap (λ v. (a && b) ∷ v) (and_append us vs xs ys (omega arith))

map_append : (f : ℕ → Bool) (xs ys : List ℕ) → map f (xs ++ ys) ≡ map f xs ++ map f ys
map_append f [] ys = refl
map_append f (x ∷ xs) ys = ap (λ v. f x ∷ v) (map_append f xs ys)

-- the union of two sets
module _ (e : Edge) where
  pub ends_or : (w : Way) (a b : List Bool) → ends e w (or_marks a b) ≡ (ends e w a || ends e w b)
  ends_or nothing a b = refl
  ends_or never a b = refl
  ends_or start a b = refl
  ends_or finish a b = refl
  ends_or (one k) a b = or_first a b
  ends_or (then v w) a b =
      ap (λ m. ends e w m || (ends e v (or_marks a b) && passes e w)) (or_drop (size v) a b)
      ∙ ap (λ x. x || (ends e v (or_marks a b) && passes e w)) (ends_or w (drop (size v) a) (drop (size v) b))
      ∙ ap (λ x. (ends e w (drop (size v) a) || ends e w (drop (size v) b)) || (x && passes e w)) (ends_or v a b)
      ∙ then_tests (ends e w (drop (size v) a)) (ends e w (drop (size v) b)) (ends e v a) (ends e v b) (passes e w)
  ends_or (either v w) a b =
      ap (λ m. ends e v (or_marks a b) || ends e w m) (or_drop (size v) a b)
      ∙ ap (λ x. ends e v (or_marks a b) || x) (ends_or w (drop (size v) a) (drop (size v) b))
      ∙ ap (λ x. x || (ends e w (drop (size v) a) || ends e w (drop (size v) b))) (ends_or v a b)
      ∙ both_tests (ends e v a) (ends e v b) (ends e w (drop (size v) a)) (ends e w (drop (size v) b))
  ends_or (plus v) a b = ends_or v a b

  pub next_or : (has : ℕ → Bool) (w : Way) (p q : Bool) (a b : List Bool) → next e has w (p || q) (or_marks a b) ≡ or_marks (next e has w p a) (next e has w q b)
  next_or has nothing p q a b = refl
  next_or has never p q a b = refl
  next_or has start p q a b = refl
  next_or has finish p q a b = refl
  next_or has (one k) p q a b = ap (λ x. x ∷ []) (one_tests p q (has k))
  next_or has (then v w) p q a b =
      let r = size v in
      let x = ends e v a || (p && passes e v) in
      let y = ends e v b || (q && passes e v) in
      let handed : (ends e v (or_marks a b) || ((p || q) && passes e v)) ≡ (x || y) =
      ap (λ t. t || ((p || q) && passes e v)) (ends_or v a b) ∙ then_tests (ends e v a) (ends e v b) p q (passes e v) in
      ap (λ m. next e has v (p || q) (or_marks a b) ++ next e has w (ends e v (or_marks a b) || ((p || q) && passes e v)) m) (or_drop r a b)
      ∙ ap (λ t. next e has v (p || q) (or_marks a b) ++ next e has w t (or_marks (drop r a) (drop r b))) handed
      ∙ ap (λ m. next e has v (p || q) (or_marks a b) ++ m) (next_or has w x y (drop r a) (drop r b))
      ∙ ap (λ m. m ++ or_marks (next e has w x (drop r a)) (next e has w y (drop r b))) (next_or has v p q a b)
      ∙ sym (or_append (next e has v p a) (next e has v q b) (next e has w x (drop r a)) (next e has w y (drop r b)) (length-next e has v p a ∙ sym (length-next e has v q b)))
  next_or has (either v w) p q a b =
      let r = size v in
      ap (λ m. next e has v (p || q) (or_marks a b) ++ next e has w (p || q) m) (or_drop r a b)
      ∙ ap (λ m. next e has v (p || q) (or_marks a b) ++ m) (next_or has w p q (drop r a) (drop r b))
      ∙ ap (λ m. m ++ or_marks (next e has w p (drop r a)) (next e has w q (drop r b))) (next_or has v p q a b)
      ∙ sym (or_append (next e has v p a) (next e has v q b) (next e has w p (drop r a)) (next e has w q (drop r b)) (length-next e has v p a ∙ sym (length-next e has v q b)))
  next_or has (plus v) p q a b =
      ap (λ t. next e has v ((p || q) || t) (or_marks a b)) (ends_or v a b)
      ∙ ap (λ t. next e has v t (or_marks a b)) (both_tests p q (ends e v a) (ends e v b))
      ∙ next_or has v (p || ends e v a) (q || ends e v b) a b

  -- where nothing is marked, and nothing entered
  pub ends_blank : (w : Way) (n : ℕ) → ends e w (replicate n false) ≡ false
  ends_blank nothing n = refl
  ends_blank never n = refl
  ends_blank start n = refl
  ends_blank finish n = refl
  ends_blank (one k) zero = refl
  ends_blank (one k) (suc n) = refl
  ends_blank (then v w) n =
      ap (λ m. ends e w m || (ends e v (replicate n false) && passes e w)) (drop-replicate (size v) n false)
      ∙ ap (λ x. x || (ends e v (replicate n false) && passes e w)) (ends_blank w (n - size v))
      ∙ ap (λ x. x && passes e w) (ends_blank v n)
  ends_blank (either v w) n =
      ap (λ x. x || ends e w (drop (size v) (replicate n false))) (ends_blank v n)
      ∙ ap (ends e w) (drop-replicate (size v) n false) ∙ ends_blank w (n - size v)
  ends_blank (plus v) n = ends_blank v n

  pub next_blank : (has : ℕ → Bool) (w : Way) (n : ℕ) → next e has w false (replicate n false) ≡ replicate (size w) false
  next_blank has nothing n = refl
  next_blank has never n = refl
  next_blank has start n = refl
  next_blank has finish n = refl
  next_blank has (one k) n = refl
  next_blank has (then v w) n =
      ap (λ x. next e has v false (replicate n false) ++ next e has w (x || false) (drop (size v) (replicate n false))) (ends_blank v n)
      ∙ ap (λ m. next e has v false (replicate n false) ++ next e has w false m) (drop-replicate (size v) n false)
      ∙ ap (λ m. next e has v false (replicate n false) ++ m) (next_blank has w (n - size v))
      ∙ ap (λ m. m ++ replicate (size w) false) (next_blank has v n)
      ∙ replicate-append-replicate (size v) (size w) false
  next_blank has (either v w) n =
      ap (λ m. next e has v false (replicate n false) ++ next e has w false m) (drop-replicate (size v) n false)
      ∙ ap (λ m. next e has v false (replicate n false) ++ m) (next_blank has w (n - size v))
      ∙ ap (λ m. m ++ replicate (size w) false) (next_blank has v n)
      ∙ replicate-append-replicate (size v) (size w) false
  next_blank has (plus v) n = ap (λ x. next e has v x (replicate n false)) (ends_blank v n) ∙ next_blank has v n

  -- the positions behind which a way ends
  pub length_lasts : (w : Way) → length (lasts e w) ≡ size w
  length_lasts nothing = refl
  length_lasts never = refl
  length_lasts start = refl
  length_lasts finish = refl
  length_lasts (one k) = refl
  length_lasts (then v w) = omega (arith, length_lasts v, length_lasts w, length_masked (passes e w) (lasts e v), length-append (map (λ x. x && passes e w) (lasts e v)) (lasts e w))
    where
      length_masked : (b : Bool) (xs : List Bool) → length (map (λ x. x && b) xs) ≡ length xs
      length_masked b [] = refl
      length_masked b (x ∷ xs) = ap suc (length_masked b xs)
  length_lasts (either v w) = omega (arith, length_lasts v, length_lasts w, length-append (lasts e v) (lasts e w))
  length_lasts (plus v) = length_lasts v

  meets_none : (m : List Bool) → meets m [] ≡ false
  meets_none [] = refl
  meets_none (x ∷ xs) = refl

  meets_append : (m xs ys : List Bool) → meets m (xs ++ ys) ≡ (meets m xs || meets (drop (length xs) m) ys)
  meets_append [] xs ys = sym (none (length xs))
    where
      none : (n : ℕ) → meets (drop n []) ys ≡ false
      none zero = refl
      none (suc n) = refl
  meets_append (b ∷ m) [] ys = refl
  meets_append (b ∷ m) (x ∷ xs) ys = ap (λ v. (b && x) || v) (meets_append m xs ys) ∙ three (b && x) (meets m xs) (meets (drop (length xs) m) ys)
    where
      three : (a b c : Bool) → (a || (b || c)) ≡ ((a || b) || c)
      three true b c = refl
      three false b c = refl

  meets_masked : (h : Bool) (m xs : List Bool) → meets m (map (λ x. x && h) xs) ≡ (meets m xs && h)
  meets_masked h [] xs = refl
  meets_masked h (b ∷ m) [] = refl
  meets_masked h (b ∷ m) (x ∷ xs) = ap (λ v. (b && (x && h)) || v) (meets_masked h m xs) ∙ tests b x h (meets m xs)
    where
      tests : (b x h r : Bool) → ((b && (x && h)) || (r && h)) ≡ (((b && x) || r) && h)
      tests true true h r = always h r
        where
          always : (h r : Bool) → (h || (r && h)) ≡ h
          always true r = refl
          always false true = refl
          always false false = refl
      tests true false h r = refl
      tests false x h r = refl

  pub ends_meets : (w : Way) (m : List Bool) → ends e w m ≡ meets m (lasts e w)
  ends_meets nothing m = sym (meets_none m)
  ends_meets never m = sym (meets_none m)
  ends_meets start m = sym (meets_none m)
  ends_meets finish m = sym (meets_none m)
  ends_meets (one k) [] = refl
  ends_meets (one k) (true ∷ m) = refl
  ends_meets (one k) (false ∷ m) = sym (meets_none m)
  ends_meets (then v w) m =
      ap (λ x. x || (ends e v m && passes e w)) (ends_meets w (drop (size v) m))
      ∙ ap (λ x. meets (drop (size v) m) (lasts e w) || (x && passes e w)) (ends_meets v m)
      ∙ swapped (meets (drop (size v) m) (lasts e w)) (meets m (lasts e v) && passes e w)
      ∙ ap (λ x. x || meets (drop (size v) m) (lasts e w)) (sym (meets_masked (passes e w) m (lasts e v)))
      ∙ ap (λ n. meets m (map (λ x. x && passes e w) (lasts e v)) || meets (drop n m) (lasts e w)) (sym (length_masked (passes e w) (lasts e v) ∙ length_lasts v))
      ∙ sym (meets_append m (map (λ x. x && passes e w) (lasts e v)) (lasts e w))
    where
      swapped : (a b : Bool) → (a || b) ≡ (b || a)
      swapped true true = refl
      swapped true false = refl
      swapped false true = refl
      swapped false false = refl

      length_masked : (b : Bool) (xs : List Bool) → length (map (λ x. x && b) xs) ≡ length xs
      length_masked b [] = refl
      length_masked b (x ∷ xs) = ap suc (length_masked b xs)
  ends_meets (either v w) m =
      ap (λ x. x || ends e w (drop (size v) m)) (ends_meets v m)
      ∙ ap (λ x. meets m (lasts e v) || x) (ends_meets w (drop (size v) m))
      ∙ ap (λ n. meets m (lasts e v) || meets (drop n m) (lasts e w)) (sym (length_lasts v))
      ∙ sym (meets_append m (lasts e v) (lasts e w))
  ends_meets (plus v) m = ends_meets v m

  -- the sets can be asked later
  pub length_sets : (f : ℕ → Bool) (w : Way) → length (map f (set_numbers w)) ≡ size w
  length_sets f nothing = refl
  length_sets f never = refl
  length_sets f start = refl
  length_sets f finish = refl
  length_sets f (one k) = refl
  length_sets f (then v w) = ap length (map_append f (set_numbers v) (set_numbers w)) ∙ omega (arith, length_sets f v, length_sets f w, length-append (map f (set_numbers v)) (map f (set_numbers w)))
  length_sets f (either v w) = ap length (map_append f (set_numbers v) (set_numbers w)) ∙ omega (arith, length_sets f v, length_sets f w, length-append (map f (set_numbers v)) (map f (set_numbers w)))
  length_sets f (plus v) = length_sets f v

module _ (e : Edge) (has known : ℕ → Bool) (sure : (k : ℕ) → (has k && known k) ≡ has k) where
  one_asked : (p h n : Bool) → (h && n) ≡ h → (p && h) ≡ (h && (p && n))
  one_asked true h n is = sym is
  one_asked false true n is = refl
  one_asked false false n is = refl

  pub next_asked : (w : Way) (p : Bool) (m : List Bool) → next e has w p m ≡ and_marks (map has (set_numbers w)) (next e known w p m)
  next_asked nothing p m = refl
  next_asked never p m = refl
  next_asked start p m = refl
  next_asked finish p m = refl
  next_asked (one k) p m = ap (λ x. x ∷ []) (one_asked p (has k) (known k) (sure k))
  next_asked (then v w) p m =
      let q = ends e v m || (p && passes e v) in
      ap (λ xs. xs ++ next e has w q (drop (size v) m)) (next_asked v p m)
      ∙ ap (λ xs. and_marks (map has (set_numbers v)) (next e known v p m) ++ xs) (next_asked w q (drop (size v) m))
      ∙ sym (and_append (map has (set_numbers v)) (next e known v p m) (map has (set_numbers w)) (next e known w q (drop (size v) m)) (length_sets e has v ∙ sym (length-next e known v p m)))
      ∙ ap (λ xs. and_marks xs (next e known v p m ++ next e known w q (drop (size v) m))) (sym (map_append has (set_numbers v) (set_numbers w)))
  next_asked (either v w) p m =
      ap (λ xs. xs ++ next e has w p (drop (size v) m)) (next_asked v p m)
      ∙ ap (λ xs. and_marks (map has (set_numbers v)) (next e known v p m) ++ xs) (next_asked w p (drop (size v) m))
      ∙ sym (and_append (map has (set_numbers v)) (next e known v p m) (map has (set_numbers w)) (next e known w p (drop (size v) m)) (length_sets e has v ∙ sym (length-next e known v p m)))
      ∙ ap (λ xs. and_marks xs (next e known v p m ++ next e known w p (drop (size v) m))) (sym (map_append has (set_numbers v) (set_numbers w)))
  next_asked (plus v) p m = next_asked v (p || ends e v m) m
