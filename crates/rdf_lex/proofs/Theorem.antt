-- A scan finds the longest token.
use Rattle.std.proofs.Common.{◌≡◌, ℕ, ◌+◌, ◌<◌, List, [], ◌∷◌, ◌++◌, Option, Some, None, refl, sym, ap, subst, arith, zero-add}
use Rattle.std.specs.Char.{len_utf8}
use Rattle.rdf_lex.specs.declared.kinds.Kind.{Kind}
use Rattle.rdf_lex.specs.declared.kinds.Mode.{Mode}
use Rattle.rdf_lex.specs.declared.machine.State.{State}
use Rattle.rdf_lex.specs.Machine.{step_of, label_of}
use Rattle.rdf_lex.specs.Scan.{scan_from, scan_on, best_of}
use Rattle.rdf_lex.proofs.Recognised.{kind_from}

-- how many bytes the characters take
abbrev pub size : List ℕ → ℕ
size [] = 0
size (c ∷ cs) = len_utf8 c + size cs

-- What a scan answers that has come to s with n bytes and this best: either the best stood, and no further part is of a kind, or a further part is the longest.
pub data Finds (m : Mode) (s : State) (best : Option (Kind × ℕ)) (n : ℕ) (cs : List ℕ) : Option (Kind × ℕ) → Type 0 where
  stood : ((c : ℕ) (xs ys : List ℕ) → cs ≡ (c ∷ xs) ++ ys → kind_from m s (c ∷ xs) ≡ None) → Finds m s best n cs best
  further : (k : Kind) (c : ℕ) (front rest : List ℕ) → cs ≡ (c ∷ front) ++ rest → kind_from m s (c ∷ front) ≡ Some k
      → ((xs ys : List ℕ) → cs ≡ xs ++ ys → size (c ∷ front) < size xs → kind_from m s xs ≡ None) → Finds m s best n cs (Some (k, n + size (c ∷ front)))

tails : (c d : ℕ) (xs ys : List ℕ) → Path (List ℕ) (c ∷ xs) (d ∷ ys) → (c ≡ d) × (xs ≡ ys)
tails c d xs ys e = (cc, cc)

-- nothing to come
at_end : (m : Mode) → (s : State) (best : Option (Kind × ℕ)) (n : ℕ) → Finds m s best n [] best
at_end m s best n = stood (λ c xs ys e. absurd cc)

-- no way on
no_way : (m : Mode) → (s : State) (best : Option (Kind × ℕ)) (n c : ℕ) (cs : List ℕ) → step_of s c ≡ None → Finds m s best n (c ∷ cs) best
no_way m s best n c cs st = stood (λ d xs ys e. let p = tails c d cs (xs ++ ys) e in rw (← p.0, st) refl)

none_from : (m : Mode) → (t : State) (cs xs ys : List ℕ) → label_of m t ≡ None →
    ((c : ℕ) (xs ys : List ℕ) → cs ≡ (c ∷ xs) ++ ys → kind_from m t (c ∷ xs) ≡ None) → cs ≡ xs ++ ys → kind_from m t xs ≡ None
none_from m t cs [] ys la none e = la
none_from m t cs (x ∷ xs) ys la none e = none x xs ys e

none_longer : (m : Mode) → (s t : State) (c : ℕ) (cs xs ys : List ℕ) → step_of s c ≡ Some t → ((c : ℕ) (xs ys : List ℕ) → cs ≡ (c ∷ xs) ++ ys → kind_from m t (c ∷ xs) ≡ None)
    → (c ∷ cs) ≡ xs ++ ys → size (c ∷ []) < size xs → kind_from m s xs ≡ None
none_longer m s t c cs [] ys st none e lt = absurd (omega arith)
none_longer m s t c cs (x ∷ []) ys st none e lt = let p = tails c x cs ys e in let q : len_utf8 c ≡ len_utf8 x = ap len_utf8 p.0 in absurd (omega arith)
none_longer m s t c cs (x ∷ y ∷ zs) ys st none e lt = let p = tails c x cs ((y ∷ zs) ++ ys) e in rw (← p.0, st) (none y zs ys p.1)

still_longest : (m : Mode) → (s t : State) (c : ℕ) (cs front xs ys : List ℕ) → step_of s c ≡ Some t → ((xs ys : List ℕ) → cs ≡ xs ++ ys → size front < size xs → kind_from m t xs ≡ None)
    → (c ∷ cs) ≡ xs ++ ys → size (c ∷ front) < size xs → kind_from m s xs ≡ None
still_longest m s t c cs front [] ys st longest e lt = absurd (omega arith)
still_longest m s t c cs front (x ∷ xs) ys st longest e lt =
    let p = tails c x cs (xs ++ ys) e in
    let q : len_utf8 c ≡ len_utf8 x = ap len_utf8 p.0 in
    rw (← p.0, st) (longest xs ys p.1 (omega arith))

-- a way on, to a state that is of a kind or of none
on_way : (m : Mode) → (s t : State) (best : Option (Kind × ℕ)) (n c : ℕ) (cs : List ℕ) (l : Option Kind) (r : Option (Kind × ℕ)) → step_of s c ≡ Some t → label_of m t ≡ l
    → Finds m t (best_of l best (n + len_utf8 c)) (n + len_utf8 c) cs r → Finds m s best n (c ∷ cs) r
on_way m s t best n c cs None r st la (stood none) = stood (λ d xs ys e. let p = tails c d cs (xs ++ ys) e in rw (← p.0, st) (none_from m t cs xs ys la none p.1))
on_way m s t best n c cs (Some k) r st la (stood none) =
    let w : n + size (c ∷ []) ≡ n + len_utf8 c = omega arith in
    subst (λ (v : ℕ). Finds m s best n (c ∷ cs) (Some (k, v))) w (further k c [] cs refl (rw st la) (λ xs ys e lt. none_longer m s t c cs xs ys st none e lt))
on_way m s t best n c cs l r st la (further k d front rest e is longest) =
    let w : n + size (c ∷ d ∷ front) ≡ n + len_utf8 c + size (d ∷ front) = omega arith in
    subst (λ (v : ℕ). Finds m s best n (c ∷ cs) (Some (k, v))) w
    (further k c (d ∷ front) rest (ap (λ (v : List ℕ). c ∷ v) e) (rw st is) (λ xs ys e lt. still_longest m s t c cs (d ∷ front) xs ys st longest e lt))

finds_by : (m : Mode) → (s : State) (best : Option (Kind × ℕ)) (n c : ℕ) (cs : List ℕ) (o : Option State) → step_of s c ≡ o
    → ((t : State) (b : Option (Kind × ℕ)) (v : ℕ) → Finds m t b v cs (scan_from m cs t b v)) → Finds m s best n (c ∷ cs) (scan_on m (scan_from m cs) o best (n + len_utf8 c))
finds_by m s best n c cs None st ih = no_way m s best n c cs st
finds_by m s best n c cs (Some t) st ih = on_way m s t best n c cs (label_of m t) _ st refl (ih t (best_of (label_of m t) best (n + len_utf8 c)) (n + len_utf8 c))

pub finds : (m : Mode) → (cs : List ℕ) (s : State) (best : Option (Kind × ℕ)) (n : ℕ) → Finds m s best n cs (scan_from m cs s best n)
finds m [] s best n = at_end m s best n
finds m (c ∷ cs) s best n = finds_by m s best n c cs (step_of s c) refl (λ t b v. finds m cs t b v)

-- the longest part of the characters from their front that is of a kind, and its number of bytes
pub record HasLongest (m : Mode) (s : State) (cs : List ℕ) (k : Kind) (n : ℕ) : Type 0 where
  pub front : List ℕ
  pub rest : List ℕ
  pub parts : cs ≡ front ++ rest
  pub bytes : size front ≡ n
  pub of_kind : kind_from m s front ≡ Some k
  pub longest : (xs ys : List ℕ) → cs ≡ xs ++ ys → n < size xs → kind_from m s xs ≡ None

-- for a state that is of no kind itself: the longest token, or none
abbrev pub Longest : (m : Mode) → State → List ℕ → Option (Kind × ℕ) → Type 0
Longest m s cs None = (xs ys : List ℕ) → cs ≡ xs ++ ys → kind_from m s xs ≡ None
Longest m s cs (Some x) = HasLongest m s cs x.0 x.1

as_longest : (m : Mode) → (s : State) (cs : List ℕ) (best r : Option (Kind × ℕ)) → label_of m s ≡ None → best ≡ None → Finds m s best 0 cs r → Longest m s cs r
as_longest m s cs best r la is (stood none) = rw is (λ xs ys e. none_from m s cs xs ys la none e)
as_longest m s cs best r la is (further k c front rest e kind longest) = record {
  front = c ∷ front;
  rest = rest;
  parts = e;
  bytes = sym (zero-add (size (c ∷ front)));
  of_kind = kind;
  longest = λ xs ys e lt. longest xs ys e (omega arith);
}

pub scan_longest : (m : Mode) → (s : State) (cs : List ℕ) → label_of m s ≡ None → Longest m s cs (scan_from m cs s None 0)
scan_longest m s cs la = as_longest m s cs None (scan_from m cs s None 0) la refl (finds m cs s None 0)
