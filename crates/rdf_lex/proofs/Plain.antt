-- Characters that the classes of a phrase do not tell apart lead to the same rest.
use Rattle.std.proofs.Common.{◌≡◌, ℕ, suc, ◌≤◌, ◌<◌, Bool, true, false, cond, ◌&&◌, ◌||◌, List, [], ◌∷◌, refl, sym, ap, ◌∙◌, arith}
use Rattle.std.specs.Prelude.{nat_eq, nat_le, nat_lt, not}
use Rattle.std.proofs.lemmas.Bool.{leb-true}
use Rattle.std.proofs.lemmas.Bool.Decides.{nat_tests}
use Rattle.rdf_lex.specs.Characters.{Class, Only, Among, Except, has, within, Ranges}
use Rattle.rdf_lex.specs.Phrases.{Phrase, nothing, empty, one, ◌⨾◌, ◌∣◌, each}
use Rattle.rdf_lex.proofs.Derivatives.{ends, beside, either, follow, both, normal, when, past, past_all}
use Rattle.rdf_lex.proofs.Languages.{and_true}
use Rattle.rdf_lex.proofs.Samples.{Bounds, sample_in, bounds, sample}

-- whether both are true or both false
abbrev pub both_or_none : Bool → Bool → Bool
both_or_none true b = b
both_or_none false true = false
both_or_none false false = true

pub alike_bools : (a b : Bool) → both_or_none a b ≡ true → a ≡ b
alike_bools true b e = sym e
alike_bools false true e = absurd cc
alike_bools false false e = refl

-- no range has some of the characters between these and not all
abbrev pub level : Ranges → ℕ → ℕ → Bool
level [] low high = true
level (r ∷ rs) low high = (nat_lt r.1 low || (nat_lt high r.0 || (nat_le r.0 low && nat_le high r.1))) && level rs low high

-- all ranges end before
abbrev pub passed : Ranges → ℕ → Bool
passed [] low = true
passed (r ∷ rs) low = nat_lt r.1 low && passed rs low

-- from a character on, each has the ranges that its sample has
abbrev pub steady_ranges : Ranges → ℕ → Bounds → Bool
steady_ranges rs low [] = passed rs low && not (within rs 127)
steady_ranges rs low (b ∷ bs) = (level rs low b.0 && both_or_none (within rs low) (within rs b.1)) && steady_ranges rs (suc b.0) bs

one_level : (r : ℕ × ℕ) (low high c : ℕ) → (nat_lt r.1 low || (nat_lt high r.0 || (nat_le r.0 low && nat_le high r.1))) ≡ true → low ≤ c → c ≤ high
    → (nat_le r.0 c && nat_le c r.1) ≡ (nat_le r.0 low && nat_le low r.1)
one_level r low high c e le ge = grind (arith, nat_tests)

same_level : (rs : Ranges) (low high c : ℕ) → level rs low high ≡ true → low ≤ c → c ≤ high → within rs c ≡ within rs low
same_level [] low high c e le ge = refl
same_level (r ∷ rs) low high c e le ge =
    let (f, g) = and_true (nat_lt r.1 low || (nat_lt high r.0 || (nat_le r.0 low && nat_le high r.1))) (level rs low high) e in
    let first = one_level r low high c f le ge in
    let rest = same_level rs low high c g le ge in cc

none_passed : (rs : Ranges) (low c : ℕ) → passed rs low ≡ true → low ≤ c → within rs c ≡ false
none_passed [] low c e le = refl
none_passed (r ∷ rs) low c e le =
    let (f, g) = and_true (nat_lt r.1 low) (passed rs low) e in
    let rest = none_passed rs low c g le in
    let first = past_range r low c f le in cc
  where
    past_range : (r : ℕ × ℕ) (low c : ℕ) → nat_lt r.1 low ≡ true → low ≤ c → (nat_le r.0 c && nat_le c r.1) ≡ false
    past_range r low c f le = grind (arith, nat_tests)

is_false : (b : Bool) → not b ≡ true → b ≡ false
is_false true e = absurd cc
is_false false e = refl

by_bound : (rs : Ranges) (low c h k : ℕ) (bs : Bounds) (b : Bool) → nat_le c h ≡ b → level rs low h ≡ true → within rs low ≡ within rs k → low ≤ c
    → (h < c → within rs c ≡ within rs (sample_in bs c)) → within rs c ≡ within rs (cond b k (sample_in bs c))
by_bound rs low c h k bs true e l w le rest = same_level rs low h c l le (leb-true c h e) ∙ w
by_bound rs low c h k bs false e l w le rest = rest (grind (arith, nat_tests))

pub within_sample : (rs : Ranges) (low c : ℕ) (bs : Bounds) → steady_ranges rs low bs ≡ true → low ≤ c → within rs c ≡ within rs (sample_in bs c)
within_sample rs low c [] e le =
    let (f, g) = and_true (passed rs low) (not (within rs 127)) e in
    none_passed rs low c f le ∙ sym (is_false (within rs 127) g)
within_sample rs low c (b ∷ bs) e le =
    let (f, g) = and_true (level rs low b.0 && both_or_none (within rs low) (within rs b.1)) (steady_ranges rs (suc b.0) bs) e in
    let (l, w) = and_true (level rs low b.0) (both_or_none (within rs low) (within rs b.1)) f in
    by_bound rs low c b.0 b.1 bs (nat_le c b.0) refl l (alike_bools (within rs low) (within rs b.1) w) le (λ lt. within_sample rs (suc b.0) c bs g lt)

-- whether a class holds what it holds of the sample of a character
abbrev pub plain_class : Class → Bool
plain_class (Only d) = steady_ranges ((d, d) ∷ []) 0 bounds
plain_class (Among rs) = steady_ranges rs 0 bounds
plain_class (Except rs) = steady_ranges rs 0 bounds

only_within : (d c : ℕ) → nat_eq c d ≡ within ((d, d) ∷ []) c
only_within d c = grind (arith, nat_tests)

pub has_sample : (q : Class) (c : ℕ) → plain_class q ≡ true → has q c ≡ has q (sample c)
has_sample (Only d) c e = only_within d c ∙ within_sample ((d, d) ∷ []) 0 c bounds e (omega arith) ∙ sym (only_within d (sample c))
has_sample (Among rs) c e = within_sample rs 0 c bounds e (omega arith)
has_sample (Except rs) c e = ap not (within_sample rs 0 c bounds e (omega arith))

-- phrases
abbrev pub plain : Phrase → Bool
plain nothing = true
plain empty = true
plain (one q) = plain_class q
plain (p ⨾ q) = plain p && plain q
plain (p ∣ q) = plain p && plain q
plain (each p) = plain p

-- its classes do not tell a character from its sample
abbrev pub Plain : Phrase → ℕ → Type 0
Plain nothing c = Unit {0}
Plain empty c = Unit {0}
Plain (one q) c = has q c ≡ has q (sample c)
Plain (p ⨾ q) c = Plain p c × Plain q c
Plain (p ∣ q) c = Plain p c × Plain q c
Plain (each p) c = Plain p c

pub is_plain : (p : Phrase) (c : ℕ) → plain p ≡ true → Plain p c
is_plain nothing c e = tt
is_plain empty c e = tt
is_plain (one q) c e = has_sample q c e
is_plain (p ⨾ q) c e = let (f, g) = and_true (plain p) (plain q) e in (is_plain p c f, is_plain q c g)
is_plain (p ∣ q) c e = let (f, g) = and_true (plain p) (plain q) e in (is_plain p c f, is_plain q c g)
is_plain (each p) c e = is_plain p c e

pub past_sample : (p : Phrase) (c : ℕ) → Plain p c → past c p ≡ past (sample c) p
past_sample nothing c h = refl
past_sample empty c h = refl
past_sample (one q) c h = ap (λ (b : Bool). when b empty) h
past_sample (p ⨾ q) c (h, k) = let f = past_sample p c h in let g = past_sample q c k in
    ap (λ (r : Phrase). either (both r q) (when (ends p) (past c q))) f ∙ ap (λ (r : Phrase). either (both (past (sample c) p) q) (when (ends p) r)) g
past_sample (p ∣ q) c (h, k) = let f = past_sample p c h in let g = past_sample q c k in
    ap (λ (r : Phrase). either r (past c q)) f ∙ ap (λ (r : Phrase). either (past (sample c) p) r) g
past_sample (each p) c h = ap (λ (r : Phrase). both r (each p)) (past_sample p c h)

plain_beside : (p q : Phrase) (c : ℕ) → Plain p c → Plain q c → Plain (beside p q) c
plain_beside p nothing c h k = h
plain_beside p empty c h k = (h, k)
plain_beside p (one a) c h k = (h, k)
plain_beside p (a ⨾ b) c h k = (h, k)
plain_beside p (a ∣ b) c h k = (h, k)
plain_beside p (each a) c h k = (h, k)

plain_either : (p q : Phrase) (c : ℕ) → Plain p c → Plain q c → Plain (either p q) c
plain_either nothing q c h k = k
plain_either empty q c h k = plain_beside empty q c h k
plain_either (one a) q c h k = plain_beside (one a) q c h k
plain_either (a ⨾ b) q c h k = plain_beside (a ⨾ b) q c h k
plain_either (a ∣ b) q c h k = plain_beside (a ∣ b) q c h k
plain_either (each a) q c h k = plain_beside (each a) q c h k

plain_follow : (a q : Phrase) (c : ℕ) → Plain a c → Plain q c → Plain (follow a q) c
plain_follow a nothing c h k = tt
plain_follow a empty c h k = h
plain_follow a (one b) c h k = (h, k)
plain_follow a (b ⨾ d) c h k = (h, k)
plain_follow a (b ∣ d) c h (k, l) = (plain_follow a b c h k, plain_follow a d c h l)
plain_follow a (each b) c h k = (h, k)

plain_both : (p q : Phrase) (c : ℕ) → Plain p c → Plain q c → Plain (both p q) c
plain_both nothing q c h k = tt
plain_both empty q c h k = k
plain_both (one a) q c h k = plain_follow (one a) q c h k
plain_both (a ⨾ b) q c (h, l) k = plain_follow a (both b q) c h (plain_both b q c l k)
plain_both (a ∣ b) q c (h, l) k = plain_either (both a q) (both b q) c (plain_both a q c h k) (plain_both b q c l k)
plain_both (each a) q c h k = plain_follow (each a) q c h k

pub plain_normal : (p : Phrase) (c : ℕ) → Plain p c → Plain (normal p) c
plain_normal nothing c h = h
plain_normal empty c h = h
plain_normal (one q) c h = h
plain_normal (p ⨾ q) c (h, k) = plain_both (normal p) (normal q) c (plain_normal p c h) (plain_normal q c k)
plain_normal (p ∣ q) c (h, k) = plain_either (normal p) (normal q) c (plain_normal p c h) (plain_normal q c k)
plain_normal (each p) c h = plain_normal p c h

plain_when : (b : Bool) (p : Phrase) (c : ℕ) → Plain p c → Plain (when b p) c
plain_when true p c h = h
plain_when false p c h = tt

plain_past : (d : ℕ) (p : Phrase) (c : ℕ) → Plain p c → Plain (past d p) c
plain_past d nothing c h = h
plain_past d empty c h = h
plain_past d (one q) c h = plain_when (has q d) empty c tt
plain_past d (p ⨾ q) c (h, k) = plain_either (both (past d p) q) (when (ends p) (past d q)) c (plain_both (past d p) q c (plain_past d p c h) k) (plain_when (ends p) (past d q) c (plain_past d q c k))
plain_past d (p ∣ q) c (h, k) = plain_either (past d p) (past d q) c (plain_past d p c h) (plain_past d q c k)
plain_past d (each p) c h = plain_both (past d p) (each p) c (plain_past d p c h) h

pub plain_past_all : (ds : List ℕ) (p : Phrase) (c : ℕ) → Plain p c → Plain (past_all ds p) c
plain_past_all [] p c h = h
plain_past_all (d ∷ ds) p c h = plain_past_all ds (past d p) c (plain_past d p c h)
