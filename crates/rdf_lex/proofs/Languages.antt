-- What is left of a phrase after a character spells what the phrase spells behind that character.
use Rattle.std.proofs.Common.{◌≡◌, ℕ, Bool, true, false, ◌&&◌, ◌||◌, List, [], ◌∷◌, ◌++◌, refl, sym, ap, subst, ◌∙◌, ◌⊎◌, inl, inr, append_assoc}
use Rattle.std.specs.Prelude.{nat_eq}
use Rattle.std.proofs.lemmas.List.{append-nil}
use Rattle.std.proofs.lemmas.Bool.{eqb-true}
use Rattle.rdf_lex.specs.Characters.{Class, Only, Among, Except, has, Ranges}
use Rattle.rdf_lex.specs.Phrases.{Phrase, nothing, empty, one, ◌⨾◌, ◌∣◌, each, Spells, Pieces, none, more}
use Rattle.rdf_lex.proofs.Derivatives.{ends, beside, either, follow, both, normal, when, past, same_ranges, same_class, same, stands_in, covered}

-- tests
pub and_true : (a b : Bool) → (a && b) ≡ true → (a ≡ true) × (b ≡ true)
and_true true b e = (refl, e)
and_true false b e = absurd cc

pub true_and : (a b : Bool) → a ≡ true → b ≡ true → (a && b) ≡ true
true_and true b e f = f
true_and false b e f = absurd cc

pub or_true : (a b : Bool) → (a || b) ≡ true → (a ≡ true) ⊎ (b ≡ true)
or_true true b e = inl refl
or_true false b e = inr e

or_left : (a b : Bool) → a ≡ true → (a || b) ≡ true
or_left true b e = refl
or_left false b e = absurd cc

or_right : (a b : Bool) → b ≡ true → (a || b) ≡ true
or_right true b e = refl
or_right false b e = e

-- lists
nil_parts : (xs ys : List ℕ) → Path (List ℕ) [] (xs ++ ys) → (xs ≡ []) × (ys ≡ [])
nil_parts [] ys e = (refl, sym e)
nil_parts (x ∷ xs) ys e = absurd cc

pub heads : (c d : ℕ) (xs ys : List ℕ) → Path (List ℕ) (c ∷ xs) (d ∷ ys) → (c ≡ d) × (xs ≡ ys)
heads c d xs ys e = (cc, cc)

-- choices
from_beside : (p q : Phrase) (cs : List ℕ) → Spells (beside p q) cs → Spells p cs ⊎ Spells q cs
from_beside p nothing cs h = inl h
from_beside p q cs h = h

to_beside : (p q : Phrase) (cs : List ℕ) → Spells p cs ⊎ Spells q cs → Spells (beside p q) cs
to_beside p nothing cs (inl h) = h
to_beside p nothing cs (inr h) = absurd h
to_beside p q cs h = h

pub from_either : (p q : Phrase) (cs : List ℕ) → Spells (either p q) cs → Spells p cs ⊎ Spells q cs
from_either nothing q cs h = inr h
from_either p q cs h = from_beside p q cs h

pub to_either : (p q : Phrase) (cs : List ℕ) → Spells p cs ⊎ Spells q cs → Spells (either p q) cs
to_either nothing q cs (inl h) = absurd h
to_either nothing q cs (inr h) = h
to_either p q cs h = to_beside p q cs h

-- sequences
in_turn : (p q : Phrase) (xs ys : List ℕ) → Spells p xs → Spells q ys → Spells (p ⨾ q) (xs ++ ys)
in_turn p q xs ys h k = (xs, ys, refl, h, k)

from_follow : (a q : Phrase) (cs : List ℕ) → Spells (follow a q) cs → Spells (a ⨾ q) cs
from_follow a nothing cs h = absurd h
from_follow a empty cs h = (cs, [], sym (append-nil cs), h, refl)
from_follow a (b ∣ c) cs (inl h) = let (xs, ys, e, k, l) = from_follow a b cs h in (xs, ys, e, k, inl l)
from_follow a (b ∣ c) cs (inr h) = let (xs, ys, e, k, l) = from_follow a c cs h in (xs, ys, e, k, inr l)
from_follow a q cs h = h

to_follow : (a q : Phrase) (cs : List ℕ) → Spells (a ⨾ q) cs → Spells (follow a q) cs
to_follow a nothing cs (xs, ys, e, h, k) = absurd k
to_follow a empty cs (xs, ys, e, h, k) = let f : xs ≡ cs = sym (append-nil xs) ∙ ap (λ (zs : List ℕ). xs ++ zs) (sym k) ∙ sym e in subst (λ (zs : List ℕ). Spells a zs) f h
to_follow a (b ∣ c) cs (xs, ys, e, h, inl k) = inl (to_follow a b cs (xs, ys, e, h, k))
to_follow a (b ∣ c) cs (xs, ys, e, h, inr k) = inr (to_follow a c cs (xs, ys, e, h, k))
to_follow a q cs h = h

regroup : (a b q : Phrase) (cs : List ℕ) → Spells (a ⨾ (b ⨾ q)) cs → Spells ((a ⨾ b) ⨾ q) cs
regroup a b q cs (xs, rest, e, h, (ys, zs, f, k, l)) = (xs ++ ys, zs, e ∙ ap (λ (v : List ℕ). xs ++ v) f ∙ sym (append_assoc xs ys zs), (xs, ys, refl, h, k), l)

ungroup : (a b q : Phrase) (cs : List ℕ) → Spells ((a ⨾ b) ⨾ q) cs → Spells (a ⨾ (b ⨾ q)) cs
ungroup a b q cs (front, zs, e, (xs, ys, f, h, k), l) = (xs, ys ++ zs, e ∙ ap (λ (v : List ℕ). v ++ zs) f ∙ append_assoc xs ys zs, h, (ys, zs, refl, k, l))

from_both : (p q : Phrase) (cs : List ℕ) → Spells (both p q) cs → Spells (p ⨾ q) cs
from_both nothing q cs h = absurd h
from_both empty q cs h = ([], cs, refl, refl, h)
from_both (a ⨾ b) q cs h =
    let (xs, rest, e, k, l) = from_follow a (both b q) cs h in
    regroup a b q cs (xs, rest, e, k, from_both b q rest l)
from_both (a ∣ b) q cs h = elim (from_either (both a q) (both b q) cs h) [
  | inl k ↦ (let (xs, ys, e, m, l) = from_both a q cs k in (xs, ys, e, inl m, l))
  | inr k ↦ (let (xs, ys, e, m, l) = from_both b q cs k in (xs, ys, e, inr m, l))
]
from_both p q cs h = from_follow p q cs h

to_both : (p q : Phrase) (cs : List ℕ) → Spells (p ⨾ q) cs → Spells (both p q) cs
to_both nothing q cs (xs, ys, e, h, k) = absurd h
to_both empty q cs (xs, ys, e, h, k) = let f : ys ≡ cs = ap (λ (v : List ℕ). v ++ ys) (sym h) ∙ sym e in subst (λ (v : List ℕ). Spells q v) f k
to_both (a ⨾ b) q cs h = let (xs, rest, e, k, l) = ungroup a b q cs h in to_follow a (both b q) cs (xs, rest, e, k, to_both b q rest l)
to_both (a ∣ b) q cs (xs, ys, e, inl h, k) = to_either (both a q) (both b q) cs (inl (to_both a q cs (xs, ys, e, h, k)))
to_both (a ∣ b) q cs (xs, ys, e, inr h, k) = to_either (both a q) (both b q) cs (inr (to_both b q cs (xs, ys, e, h, k)))
to_both p q cs h = to_follow p q cs h

-- the empty text
pub to_ends : (p : Phrase) → Spells p [] → ends p ≡ true
to_ends nothing h = absurd h
to_ends empty h = refl
to_ends (one q) (c, h, e) = absurd cc
to_ends (p ⨾ q) (xs, ys, e, h, k) =
    let n = nil_parts xs ys e in
    true_and (ends p) (ends q) (to_ends p (subst (λ (v : List ℕ). Spells p v) n.0 h)) (to_ends q (subst (λ (v : List ℕ). Spells q v) n.1 k))
to_ends (p ∣ q) (inl h) = or_left (ends p) (ends q) (to_ends p h)
to_ends (p ∣ q) (inr h) = or_right (ends p) (ends q) (to_ends q h)
to_ends (each p) h = refl

pub from_ends : (p : Phrase) → ends p ≡ true → Spells p []
from_ends nothing e = absurd cc
from_ends empty e = refl
from_ends (one q) e = absurd cc
from_ends (p ⨾ q) e = let b = and_true (ends p) (ends q) e in ([], [], refl, from_ends p b.0, from_ends q b.1)
from_ends (p ∣ q) e = elim (or_true (ends p) (ends q) e) [ inl h ↦ inl (from_ends p h) | inr h ↦ inr (from_ends q h) ]
from_ends (each p) e = none refl

-- one character
to_when : (b : Bool) (p : Phrase) (cs : List ℕ) → b ≡ true → Spells p cs → Spells (when b p) cs
to_when true p cs e h = h
to_when false p cs e h = absurd cc

from_when : (b : Bool) (p : Phrase) (cs : List ℕ) → Spells (when b p) cs → (b ≡ true) × Spells p cs
from_when true p cs h = (refl, h)
from_when false p cs h = absurd h

-- a sequence that begins with a character, by what its first phrase spells
turn_on : (c : ℕ) (cs xs ys : List ℕ) → (c ∷ cs) ≡ xs ++ ys → ((xs ≡ []) × (ys ≡ c ∷ cs)) ⊎ ((zs : List ℕ) × (xs ≡ c ∷ zs) × (cs ≡ zs ++ ys))
turn_on c cs [] ys e = inl (refl, sym e)
turn_on c cs (x ∷ xs) ys e = let h = heads c x cs (xs ++ ys) e in inr (xs, ap (λ (d : ℕ). d ∷ xs) (sym h.0), h.1)

pieces_on : (p : Phrase) (c : ℕ) (cs all : List ℕ) → ((xs : List ℕ) → Spells p (c ∷ xs) → Spells (past c p) xs) → all ≡ c ∷ cs → Pieces (Spells p) all → Spells (both (past c p) (each p)) cs
pieces_on p c cs all ih is (none e) = absurd cc
pieces_on p c cs all ih is (more xs ys e h k) = elim (turn_on c cs xs ys (sym is ∙ e)) [
  | inl a ↦ pieces_on p c cs ys ih a.1 k
  | inr a ↦ to_both (past c p) (each p) cs (a.0, ys, a.2, ih a.0 (subst (λ (v : List ℕ). Spells p v) a.1 h), k)
]

turns_on : (p q : Phrase) (c : ℕ) (cs : List ℕ) → ((xs : List ℕ) → Spells p (c ∷ xs) → Spells (past c p) xs) → (Spells q (c ∷ cs) → Spells (past c q) cs)
    → Spells (p ⨾ q) (c ∷ cs) → Spells (either (both (past c p) q) (when (ends p) (past c q))) cs
turns_on p q c cs first second (xs, ys, e, h, k) = elim (turn_on c cs xs ys e) [
  | inl a ↦ to_either (both (past c p) q) (when (ends p) (past c q)) cs
      (inr (to_when (ends p) (past c q) cs (to_ends p (subst (λ (v : List ℕ). Spells p v) a.0 h)) (second (subst (λ (v : List ℕ). Spells q v) a.1 k))))
  | inr a ↦ to_either (both (past c p) q) (when (ends p) (past c q)) cs
      (inl (to_both (past c p) q cs (a.0, ys, a.2, first a.0 (subst (λ (v : List ℕ). Spells p v) a.1 h), k)))
]

is_char : (q : Class) (c d : ℕ) (cs : List ℕ) → has q d ≡ true → Path (List ℕ) (c ∷ cs) (d ∷ []) → Spells (when (has q c) empty) cs
is_char q c d cs h e = let p = heads c d cs [] e in to_when (has q c) empty cs (ap (has q) p.0 ∙ h) p.1

pub to_past : (p : Phrase) (c : ℕ) (cs : List ℕ) → Spells p (c ∷ cs) → Spells (past c p) cs
to_past nothing c cs h = absurd h
to_past empty c cs h = absurd cc
to_past (one q) c cs (d, h, e) = is_char q c d cs h e
to_past (p ⨾ q) c cs h = turns_on p q c cs (λ xs k. to_past p c xs k) (λ k. to_past q c cs k) h
to_past (p ∣ q) c cs (inl h) = to_either (past c p) (past c q) cs (inl (to_past p c cs h))
to_past (p ∣ q) c cs (inr h) = to_either (past c p) (past c q) cs (inr (to_past q c cs h))
to_past (each p) c cs h = pieces_on p c cs (c ∷ cs) (λ xs k. to_past p c xs k) refl h

after_turn : (p q : Phrase) (c : ℕ) (cs : List ℕ) → ((xs : List ℕ) → Spells (past c p) xs → Spells p (c ∷ xs)) → Spells (both (past c p) q) cs → Spells (p ⨾ q) (c ∷ cs)
after_turn p q c cs ih h = let (xs, ys, e, k, l) = from_both (past c p) q cs h in (c ∷ xs, ys, ap (λ (v : List ℕ). c ∷ v) e, ih xs k, l)

pub from_past : (p : Phrase) (c : ℕ) (cs : List ℕ) → Spells (past c p) cs → Spells p (c ∷ cs)
from_past nothing c cs h = absurd h
from_past empty c cs h = absurd h
from_past (one q) c cs h = let (b, e) = from_when (has q c) empty cs h in (c, b, ap (λ (v : List ℕ). c ∷ v) e)
from_past (p ⨾ q) c cs h = elim (from_either (both (past c p) q) (when (ends p) (past c q)) cs h) [
  | inl k ↦ after_turn p q c cs (λ xs m. from_past p c xs m) k
  | inr k ↦ (let (b, m) = from_when (ends p) (past c q) cs k in ([], c ∷ cs, refl, from_ends p b, from_past q c cs m))
]
from_past (p ∣ q) c cs h = elim (from_either (past c p) (past c q) cs h) [ inl k ↦ inl (from_past p c cs k) | inr k ↦ inr (from_past q c cs k) ]
from_past (each p) c cs h = let (xs, ys, e, k, l) = after_turn p (each p) c cs (λ xs m. from_past p c xs m) h in more xs ys e k l

-- normal phrases
to_pieces : (p q : Phrase) (cs : List ℕ) → ((xs : List ℕ) → Spells p xs → Spells q xs) → Pieces (Spells p) cs → Pieces (Spells q) cs
to_pieces p q cs f (none e) = none e
to_pieces p q cs f (more xs ys e h k) = more xs ys e (f xs h) (to_pieces p q ys f k)

pub to_normal : (p : Phrase) (cs : List ℕ) → Spells p cs → Spells (normal p) cs
to_normal nothing cs h = h
to_normal empty cs h = h
to_normal (one q) cs h = h
to_normal (p ⨾ q) cs (xs, ys, e, h, k) = to_both (normal p) (normal q) cs (xs, ys, e, to_normal p xs h, to_normal q ys k)
to_normal (p ∣ q) cs (inl h) = to_either (normal p) (normal q) cs (inl (to_normal p cs h))
to_normal (p ∣ q) cs (inr h) = to_either (normal p) (normal q) cs (inr (to_normal q cs h))
to_normal (each p) cs h = to_pieces p (normal p) cs (λ xs k. to_normal p xs k) h

pub from_normal : (p : Phrase) (cs : List ℕ) → Spells (normal p) cs → Spells p cs
from_normal nothing cs h = h
from_normal empty cs h = h
from_normal (one q) cs h = h
from_normal (p ⨾ q) cs h = let (xs, ys, e, k, l) = from_both (normal p) (normal q) cs h in (xs, ys, e, from_normal p xs k, from_normal q ys l)
from_normal (p ∣ q) cs h = elim (from_either (normal p) (normal q) cs h) [ inl k ↦ inl (from_normal p cs k) | inr k ↦ inr (from_normal q cs k) ]
from_normal (each p) cs h = to_pieces (normal p) p cs (λ xs k. from_normal p xs k) h

-- equal phrases
ranges_joined : (r s : ℕ × ℕ) (rs ss : Ranges) → r.0 ≡ s.0 → r.1 ≡ s.1 → rs ≡ ss → Path Ranges (r ∷ rs) (s ∷ ss)
ranges_joined (a, b) (c, d) rs ss e f g = cc

ranges_equal : (rs ss : Ranges) → same_ranges rs ss ≡ true → rs ≡ ss
ranges_equal [] [] e = refl
ranges_equal (r ∷ rs) (s ∷ ss) e =
    let a = and_true (nat_eq r.0 s.0) (nat_eq r.1 s.1 && same_ranges rs ss) e in
    let b = and_true (nat_eq r.1 s.1) (same_ranges rs ss) a.1 in
    let first = eqb-true r.0 s.0 a.0 in
    let last = eqb-true r.1 s.1 b.0 in
    ranges_joined r s rs ss first last (ranges_equal rs ss b.1)
ranges_equal rs ss e = absurd cc

class_equal : (a b : Class) → same_class a b ≡ true → a ≡ b
class_equal (Only c) (Only d) e = ap Only (eqb-true c d e)
class_equal (Among rs) (Among ss) e = ap Among (ranges_equal rs ss e)
class_equal (Except rs) (Except ss) e = ap Except (ranges_equal rs ss e)
class_equal a b e = absurd cc

phrase_equal : (p q : Phrase) → same p q ≡ true → p ≡ q
phrase_equal nothing nothing e = refl
phrase_equal empty empty e = refl
phrase_equal (one a) (one b) e = ap one (class_equal a b e)
phrase_equal (a ⨾ b) (c ⨾ d) e = let (f, g) = and_true (same a c) (same b d) e in let i = phrase_equal a c f in let j = phrase_equal b d g in cc
phrase_equal (a ∣ b) (c ∣ d) e = let (f, g) = and_true (same a c) (same b d) e in let i = phrase_equal a c f in let j = phrase_equal b d g in cc
phrase_equal (each a) (each b) e = ap each (phrase_equal a b e)
phrase_equal p q e = absurd cc

spelled_too : (p q : Phrase) (cs : List ℕ) → same p q ≡ true → Spells p cs → Spells q cs
spelled_too p q cs e h = subst (λ (r : Phrase). Spells r cs) (phrase_equal p q e) h

from_choice : (a q : Phrase) (cs : List ℕ) → stands_in a q ≡ true → Spells a cs → Spells q cs
from_choice a (b ∣ c) cs e h = elim (or_true (stands_in a b) (stands_in a c) e) [ inl f ↦ inl (from_choice a b cs f h) | inr f ↦ inr (from_choice a c cs f h) ]
from_choice a nothing cs e h = spelled_too a nothing cs e h
from_choice a empty cs e h = spelled_too a empty cs e h
from_choice a (one b) cs e h = spelled_too a (one b) cs e h
from_choice a (b ⨾ c) cs e h = spelled_too a (b ⨾ c) cs e h
from_choice a (each b) cs e h = spelled_too a (each b) cs e h

pub from_covered : (p q : Phrase) (cs : List ℕ) → covered p q ≡ true → Spells p cs → Spells q cs
from_covered nothing q cs e h = absurd h
from_covered (a ∣ b) q cs e (inl h) = from_covered a q cs (and_true (covered a q) (covered b q) e).0 h
from_covered (a ∣ b) q cs e (inr h) = from_covered b q cs (and_true (covered a q) (covered b q) e).1 h
from_covered empty q cs e h = from_choice empty q cs e h
from_covered (one a) q cs e h = from_choice (one a) q cs e h
from_covered (a ⨾ b) q cs e h = from_choice (a ⨾ b) q cs e h
from_covered (each a) q cs e h = from_choice (each a) q cs e h
