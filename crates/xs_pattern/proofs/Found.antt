-- What the reading of a text says of the language of the pattern.
use Rattle.std.proofs.Common.{◌≡◌, ℕ, zero, suc, ◌*◌, ◌≤◌, ◌↔◌, List, [], length, refl, arith, sym, subst, Bool, true, false, max, length-append}
use Rattle.std.specs.Prelude.{Option, Some, None, Result, Ok, Err, IfOk, IsTrue}
use Rattle.std.proofs.Math.Nat.{mul-le-mul_right}
use Rattle.std.proofs.lemmas.List.{append-nil}
use Rattle.xs_pattern.specs.declared.expression.Flags.{Flags}
use Rattle.xs_pattern.specs.Language.{IsFound}
use Rattle.xs_pattern.specs.Limits.{positions, all_positions, written}
use Rattle.xs_pattern.specs.Regex.{Chars, Regex, start, finish, one, group, branch, choice, repeat, Regexes, none, more}
use Rattle.xs_pattern.specs.Unrolling.{exits_at, kept, sets, all_sets, unroll, edge_at, has_at}
use Rattle.xs_pattern.specs.Marked.{AreWords}
use Rattle.xs_pattern.specs.Way.{Way, Runs}
use Rattle.xs_pattern.specs.declared.words.Words.{Words}
use Rattle.xs_pattern.proofs.SameLanguage.{same}
use Rattle.xs_pattern.proofs.Search.{exits_found, found_exits}

at_least_once : (k n : ℕ) → 1 ≤ k → n ≤ k * n
at_least_once k n h = let m : 1 * n ≤ k * n = mul-le-mul_right n h in omega arith

kept_within : (least : ℕ) (most : Option ℕ) (ss : List Chars) (n : ℕ) → length ss ≤ n → length (kept most ss) ≤ written least most * n
kept_within least None ss n h = let m = at_least_once (max least 1) n (omega arith) in omega arith
kept_within least (Some zero) ss n h = omega arith
kept_within least (Some (suc k)) ss n h = let m = at_least_once (suc k) n (omega arith) in omega arith

mutual
  -- each set has a position
  pub sets_within : (e : Regex) → length (sets e) ≤ positions e
  sets_within start = omega arith
  sets_within finish = omega arith
  sets_within (one s) = omega arith
  sets_within (group e) = sets_within e
  sets_within (branch es) = all_within es
  sets_within (choice es) = all_within es
  sets_within (repeat least most e) = kept_within least most (sets e) (positions e) (sets_within e)

  all_within : (es : Regexes) → length (all_sets es) ≤ all_positions es
  all_within none = omega arith
  all_within (more e es) = omega (arith, sets_within e, all_within es, length-append (sets e) (all_sets es))

-- the reading finds a part of the text exactly where there is one of the language
pub found_exact :
    (f : Flags) (text : List ℕ) (e : Regex) (w : Way) (b : Bool) → w ≡ unroll 0 e →
    (b ≡ true → (j : ℕ) × (j ≤ length text) × (exits_at f (sets e) text w j ≡ true)) →
    (b ≡ false → (j : ℕ) → j ≤ length text → exits_at f (sets e) text w j ≡ false) →
    IsTrue b ↔ IsFound f text e
found_exact f text e w b is found missed = (λ h. out (found h), λ p. into b refl p)
  where
    out : (j : ℕ) × (j ≤ length text) × (exits_at f (sets e) text w j ≡ true) → IsFound f text e
    out (j, le, h) =
        let r = exits_found f (sets e) text w j h in
        (r.0, j, r.1, le, (same f text (sets e) 0 e ([], sym (append-nil (sets e))) r.0 j).0 (subst (λ v. Runs (edge_at text) (has_at f (sets e) text) v r.0 j) is r.2))

    into : (c : Bool) → b ≡ c → IsFound f text e → b ≡ true
    into true at p = at
    into false at (i, j, le, within, h) =
        let r = (same f text (sets e) 0 e ([], sym (append-nil (sets e))) i j).1 h in
        let up = found_exits f (sets e) text w i j (subst (λ v. Runs (edge_at text) (has_at f (sets e) text) v i j) (sym is) r) in
        let down = missed at j within in
        absurd (cc)

-- the same of what a call answers
pub found_result :
    {E : Type 0} (r : Result Bool E) (f : Flags) (text : List ℕ) (e : Regex) (ss : List Chars) (w : Way) → ss ≡ sets e → w ≡ unroll 0 e →
    IfOk r (λ b. b ≡ true → (j : ℕ) × (j ≤ length text) × (exits_at f ss text w j ≡ true)) →
    IfOk r (λ b. b ≡ false → (j : ℕ) → j ≤ length text → exits_at f ss text w j ≡ false) →
    IfOk r (λ b. IsTrue b ↔ IsFound f text e)
found_result (Ok b) f text e ss w of is found missed =
    found_exact f text e w b is
    (subst (λ ts. b ≡ true → (j : ℕ) × (j ≤ length text) × (exits_at f ts text w j ≡ true)) of found)
    (subst (λ ts. b ≡ false → (j : ℕ) → j ≤ length text → exits_at f ts text w j ≡ false) of missed)
found_result (Err x) f text e ss w of is found missed = tt

-- the same of what a call answers by words
pub found_by_words :
    {E : Type 0} (r : Result Bool E) (f : Flags) (text : List ℕ) (e : Regex) (words : Words) → AreWords (sets e) (unroll 0 e) words →
    IfOk r (λ b. (ss : List Chars) (w : Way) → AreWords ss w words → b ≡ true → (j : ℕ) × (j ≤ length text) × (exits_at f ss text w j ≡ true)) →
    IfOk r (λ b. (ss : List Chars) (w : Way) → AreWords ss w words → b ≡ false → (j : ℕ) → j ≤ length text → exits_at f ss text w j ≡ false) →
    IfOk r (λ b. IsTrue b ↔ IsFound f text e)
found_by_words (Ok b) f text e words are found missed =
    found_exact f text e (unroll 0 e) b refl (found (sets e) (unroll 0 e) are) (missed (sets e) (unroll 0 e) are)
found_by_words (Err x) f text e words are found missed = tt
