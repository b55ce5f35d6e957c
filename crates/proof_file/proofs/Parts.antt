-- The parts of a line.
use Rattle.std.proofs.Common.{◌≡◌, ℕ, ◌<◌, ◌≤◌, ◌≢◌, ◌==◌, Bool, false, Option, Some, None, Bor, MatchOption, subst, lit<, List, [], ◌∷◌, ◌++◌, refl, ap, sym, ◌∙◌, length, get_or, true≢false, arith, Err, map, encode_utf8_all}
use Rattle.std.proofs.Common.{eq-eqb}
use Rattle.std.proofs.lemmas.Fmt.{decimal_nonempty}
use Rattle.std.proofs.lemmas.List.{length-append}
use Rattle.std.proofs.lemmas.Str.{encodes-chars, scalars-chars}
use Rattle.std.proofs.lemmas.Str.Pattern.{IsSplitOnceResult, split_after}
use Rattle.std.specs.Fmt.{decimal}
use Rattle.std.specs.List.{AllByRecursion, flat_map, join_with_byte}
use Rattle.std.specs.Str.{chars, IsUtf8}
use Rattle.schema_tree.specs.declared.verdicts.Place.{Place}
use Rattle.schema_tree.specs.declared.verdicts.State.{State}
use Rattle.proof_file.specs.declared.RecordKind.{RecordKind}
use Rattle.proof_file.specs.declared.RecordKind.TheVariants.{Plus, Minus}
use Rattle.proof_file.specs.declared.Record.{Record}
use Rattle.proof_file.specs.declared.Claim.{Claim}
use Rattle.schema_tree.specs.Targets.{target_text, IsTextTarget}
use Rattle.schema_tree.specs.Rising.{Rises}
use Rattle.schema_tree.specs.States.{IsStateBefore}
use Rattle.proof_file.specs.Text.{place_text, state_text, kind_fields, record_fields, IsNumber, IsPlace, IsState, IsKind}
use Rattle.proof_file.specs.Reading.{Reads, fields, IsScalars, IsPlus, IsMinus, IsPlusKind, IsMinusKind, IsClaim, claim_rest}
use Rattle.proof_file.specs.declared.fields.Stop.{Stop}
use Rattle.proof_file.proofs.Numbers.{digit_of}
use Rattle.proof_file.proofs.Gathered.{blames, cons_head, cons_tail, same_number, cut_joined, clean_decimal, clean_decimals}
use Rattle.proof_file.proofs.Joined.{joined_map}
use Rattle.std.proofs.lemmas.List.Elements.{recursion_from_All}

-- ---- texts

pub owned_text : (text copy : List ℕ) → IsUtf8 text → copy ≡ chars text → (text ≡ encode_utf8_all copy) × IsScalars copy
owned_text text copy utf8 is = (sym (encodes-chars text utf8) ∙ ap encode_utf8_all (sym is), subst IsScalars (sym is) (scalars-chars text utf8))

-- ---- claims

no_space : (n i : ℕ) → IsNumber n → i < length (decimal n) → get_or (decimal n) i 0 ≢ 32
no_space n i h lt e = let digit = digit_of n i h lt in omega (arith, digit.0, e)

claim_parts : (holds : Bool) (text : List ℕ) (r : Option (Bor (List ℕ) × Bor (List ℕ))) → IsSplitOnceResult 32 text r → (c : Claim) → IsClaim holds c → text ≡ claim_rest c →
    MatchOption r ⊥ (λ p. (p.0.now ≡ decimal c.node) × (p.1.now ≡ target_text c.target))
claim_parts holds text r h c good e = split_after 32 text (decimal c.node) (target_text c.target) r h (lit< tt) e (λ i lt. no_space c.node i good.1.0 lt)

pub no_claim : (holds : Bool) (text : List ℕ) (r : Option (Bor (List ℕ) × Bor (List ℕ))) → IsSplitOnceResult 32 text r → r ≡ None → (c : Claim) → IsClaim holds c → text ≡ claim_rest c → ⊥
no_claim holds text r h is c good e = subst (λ o. MatchOption o ⊥ (λ p. (p.0.now ≡ decimal c.node) × (p.1.now ≡ target_text c.target))) is (claim_parts holds text r h c good e)

claim_is : (holds : Bool) (text : List ℕ) (r : Option (Bor (List ℕ) × Bor (List ℕ))) (p : Bor (List ℕ) × Bor (List ℕ)) → IsSplitOnceResult 32 text r →
    r ≡ Some p → (c : Claim) → IsClaim holds c → text ≡ claim_rest c →
    (p.0.now ≡ decimal c.node) × (p.1.now ≡ target_text c.target)
claim_is holds text r p h is c good e = subst (λ o. MatchOption o ⊥ (λ p. (p.0.now ≡ decimal c.node) × (p.1.now ≡ target_text c.target))) is (claim_parts holds text r h c good e)

pub node_stops : (holds : Bool) (text : List ℕ) (r : Option (Bor (List ℕ) × Bor (List ℕ))) (p : Bor (List ℕ) × Bor (List ℕ)) (e : Stop) → IsSplitOnceResult 32 text r → r ≡ Some p →
    Reads decimal IsNumber p.0.now (Err e) → Reads claim_rest (IsClaim holds) text (Err e)
node_stops holds text r p e h is = blames decimal IsNumber p.0.now claim_rest (IsClaim holds) text e (λ c good k. (c.node, (good.1.0, (claim_is holds text r p h is c good k).0)))

pub target_stops : (holds : Bool) (text : List ℕ) (r : Option (Bor (List ℕ) × Bor (List ℕ))) (p : Bor (List ℕ) × Bor (List ℕ)) (e : Stop) → IsSplitOnceResult 32 text r → r ≡ Some p →
    Reads target_text IsTextTarget p.1.now (Err e) → Reads claim_rest (IsClaim holds) text (Err e)
target_stops holds text r p e h is = blames target_text IsTextTarget p.1.now claim_rest (IsClaim holds) text e (λ c good k. (c.target, (good.1.1, (claim_is holds text r p h is c good k).1)))

-- ---- records

pub places_stop : (fs : List (List ℕ)) (node shape : List ℕ) (source : List (List ℕ)) (e : Stop) → fs ≡ node ∷ shape ∷ source →
    Reads (λ ps. map place_text ps) (AllByRecursion IsPlace) source (Err e) → Reads record_fields IsPlus fs (Err e)
places_stop fs node shape source e is = blames (λ ps. map place_text ps)
    (AllByRecursion IsPlace) source record_fields IsPlus fs e (λ r good k. part r.kind good.0.1.1 good.1 (cons_tail _ _ _ _ (cons_tail _ _ _ _ (sym is ∙ k))))
  where
    part : (k : RecordKind) → IsKind k → IsPlusKind k → source ≡ kind_fields k → (ps : List Place) × (AllByRecursion IsPlace ps × (source ≡ map place_text ps))
    part (Plus ps) good plus e = (ps, (good, e))
    part (Minus rank xs) good plus e = absurd plus

pub numbers_same : (ms ns : List ℕ) → AllByRecursion IsNumber ms → AllByRecursion IsNumber ns → map decimal ms ≡ map decimal ns → ms ≡ ns
numbers_same [] [] h k e = refl
numbers_same [] (n ∷ ns) h k e = cc
numbers_same (m ∷ ms) [] h k e = cc
numbers_same (m ∷ ms) (n ∷ ns) (h, hs) (k, ks) e =
    let a = same_number m n h k (cons_head (decimal m) (decimal n) (map decimal ms) (map decimal ns) e) in
    let b = numbers_same ms ns hs ks (cons_tail (decimal m) (decimal n) (map decimal ms) (map decimal ns) e) in
    λ i. a i ∷ b i

no_comma : (b : ℕ) → 48 ≤ b → b ≤ 57 → b ≢ 44
no_comma b h k e = omega arith

counts_cut : (n : ℕ) (ns : List ℕ) → AllByRecursion IsNumber (n ∷ ns) → fields 44 (join_with_byte 44 (map decimal (n ∷ ns))) ≡ map decimal (n ∷ ns)
counts_cut n ns (h, hs) = cut_joined 44 (decimal n) (map decimal ns) (clean_decimal 44 n no_comma h) (clean_decimals 44 no_comma ns hs)

counts_some : (n : ℕ) (ns : List ℕ) → IsNumber n → 0 < length (join_with_byte 44 (map decimal (n ∷ ns)))
counts_some n ns h =
    let some : 0 < length (decimal n) = decimal_nonempty n (omega arith) in
    omega (arith, ap length (joined_map 44 decimal (decimal n) ns), length-append (decimal n) (flat_map (λ y. 44 ∷ decimal y) ns))

counts_same : (ms ns : List ℕ) → AllByRecursion IsNumber ms → AllByRecursion IsNumber ns → join_with_byte 44 (map decimal ms) ≡ join_with_byte 44 (map decimal ns) → ms ≡ ns
counts_same [] [] h k e = refl
counts_same [] (n ∷ ns) h k e = absurd (omega (arith, ap length e, counts_some n ns k.0))
counts_same (m ∷ ms) [] h k e = absurd (omega (arith, ap length e, counts_some m ms h.0))
counts_same (m ∷ ms) (n ∷ ns) h k e = numbers_same (m ∷ ms) (n ∷ ns) h k (sym (counts_cut m ms h) ∙ ap (fields 44) e ∙ counts_cut n ns k)

-- what stands before the first of a byte is known, and what follows it
pub once : (c : ℕ) (a b r s : List ℕ) → AllByRecursion (λ x. (x == c) ≡ false) a → AllByRecursion (λ x. (x == c) ≡ false) b → a ++ c ∷ r ≡ b ++ c ∷ s → (a ≡ b) × (r ≡ s)
once c [] [] r s h k e = (refl, cons_tail c c r s e)
once c [] (y ∷ b) r s h (k, ks) e = absurd (true≢false (sym (eq-eqb y c (sym (cons_head c y r (b ++ c ∷ s) e))) ∙ k))
once c (x ∷ a) [] r s (h, hs) k e = absurd (true≢false (sym (eq-eqb x c (cons_head x c (a ++ c ∷ r) s e)) ∙ h))
once c (x ∷ a) (y ∷ b) r s (h, hs) (k, ks) e =
    let p = cons_head x y (a ++ c ∷ r) (b ++ c ∷ s) e in
    let q = once c a b r s hs ks (cons_tail x y (a ++ c ∷ r) (b ++ c ∷ s) e) in
    (λ i. p i ∷ q.0 i, q.1)

no_colon : (b : ℕ) → 48 ≤ b → b ≤ 57 → b ≢ 58
no_colon b h k e = omega arith

state_same : (x y : State) → IsState x → IsState y → state_text x ≡ state_text y → x ≡ y
state_same x y h k e =
    let p = once 58 (decimal x.done) (decimal y.done) (join_with_byte 44 (map decimal x.counts)) (join_with_byte 44 (map decimal y.counts))
    (recursion_from_All (λ b. (b == 58) ≡ false) (decimal x.done) (clean_decimal 58 x.done no_colon h.0))
    (recursion_from_All (λ b. (b == 58) ≡ false) (decimal y.done) (clean_decimal 58 y.done no_colon k.0)) e in
    let done = same_number x.done y.done h.0 k.0 p.0 in
    let counts = counts_same x.counts y.counts h.1 k.1 p.1 in
    λ i. record { done = done i; counts = counts i }

pub states_same : (xs ys : List State) → AllByRecursion IsState xs → AllByRecursion IsState ys → map state_text xs ≡ map state_text ys → xs ≡ ys
states_same [] [] h k e = refl
states_same [] (y ∷ ys) h k e = cc
states_same (x ∷ xs) [] h k e = cc
states_same (x ∷ xs) (y ∷ ys) (h, hs) (k, ks) e =
    let a = state_same x y h k (cons_head (state_text x) (state_text y) (map state_text xs) (map state_text ys) e) in
    let b = states_same xs ys hs ks (cons_tail (state_text x) (state_text y) (map state_text xs) (map state_text ys) e) in
    λ i. a i ∷ b i

pub not_rising : (fs : List (List ℕ)) (node shape rank : List ℕ) (source : List (List ℕ)) (xs : List State) → fs ≡ node ∷ shape ∷ rank ∷ source →
    source ≡ map state_text xs → AllByRecursion IsState xs → ¬ (Rises IsStateBefore xs) →
    (r : Record) → IsMinus r → fs ≡ record_fields r → ⊥
not_rising fs node shape rank source xs is made states falls r good e = part r.kind good.0.1.1 good.1 (cons_tail _ _ _ _ (cons_tail _ _ _ _ (sym is ∙ e)))
  where
    part : (k : RecordKind) → IsKind k → IsMinusKind k → rank ∷ source ≡ kind_fields k → ⊥
    part (Plus ps) good minus e = minus
    part (Minus n ys) good minus e =
        let same : xs ≡ ys = states_same xs ys states good.1.0 (sym made ∙ cons_tail _ _ _ _ e) in
        falls (subst (Rises IsStateBefore) (sym same) good.1.1)
