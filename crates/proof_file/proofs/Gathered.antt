-- Fields that are read one after the other.
use Rattle.std.proofs.Common.{◌≡◌, ℕ, ◌<◌, ◌≤◌, ◌≢◌, ◌==◌, false, Option, Some, None, Bor, MatchOption, subst, lit<, List, [], ◌∷◌, ◌++◌, refl, ap, sym, ◌∙◌, length, get_or, arith, Err, map}
use Rattle.std.proofs.Common.{eq-eqb}
use Rattle.std.proofs.lemmas.Bool.{ne_eqb}
use Rattle.std.proofs.lemmas.Fmt.{decimal_injective, decimal_nonempty}
use Rattle.std.proofs.lemmas.List.{get_or_default, length-append}
use Rattle.std.proofs.lemmas.List.Splits.{slice_split_none, slice_split_at, join_with_byte-slice_split}
use Rattle.std.proofs.lemmas.Str.Pattern.{IsSplitOnceResult, split_after, split_parts}
use Rattle.proof_file.proofs.Joined.{joined_map}
use Rattle.std.specs.Fmt.{decimal}
use Rattle.std.specs.List.{All, AllByRecursion, flat_map, join_with_byte}
use Rattle.schema_tree.specs.declared.verdicts.Place.{Place}
use Rattle.schema_tree.specs.declared.verdicts.Place.TheVariants.{At, Rest}
use Rattle.schema_tree.specs.declared.verdicts.State.{State}
use Rattle.proof_file.specs.Text.{place_text, state_text, IsNumber, IsPlace, IsState}
use Rattle.proof_file.specs.Reading.{Reads, fields, fields_left, IsGiven}
use Rattle.proof_file.specs.declared.fields.Stop.{Stop}
use Rattle.proof_file.specs.declared.fields.Stop.TheVariants.{Bad, Memory}
use Rattle.proof_file.proofs.Numbers.{first_digit, digit_of}

pub cons_head : {X : Type 0} (x y : X) (xs ys : List X) → x ∷ xs ≡ y ∷ ys → x ≡ y
cons_head x y xs ys e = cc

pub cons_tail : {X : Type 0} (x y : X) (xs ys : List X) → x ∷ xs ≡ y ∷ ys → xs ≡ ys
cons_tail x y xs ys e = cc

pub same_number : (m n : ℕ) → IsNumber m → IsNumber n → decimal m ≡ decimal n → m ≡ n
same_number m n h k e = decimal_injective m n (omega arith) (omega arith) e

pub far_place : (field : List ℕ) (n : ℕ) → 65534 < n → IsNumber n → field ≡ decimal n → (p : Place) → IsPlace p → field ≡ place_text p → ⊥
far_place field n far number is (At m) h e =
    let same : n ≡ m = same_number n m number (omega arith) (sym is ∙ e) in
    omega arith
far_place field n far number is Rest h e =
    let lt : 48 ≤ get_or (decimal n) 0 0 = first_digit n number in
    let one : decimal n ≡ 114 ∷ [] = sym is ∙ e in
    let some : 0 < length (decimal n) = omega (arith, ap length one) in
    let digit = digit_of n 0 number some in
    omega (arith, digit.1, ap (λ z. get_or z 0 0) one)

never : {X : Type 0} (g : X → List ℕ) (P : X → Type 0) (field : List ℕ) (fs : List (List ℕ)) → ((x : X) → P x → ¬ (field ≡ g x)) →
    (ps xs : List X) → AllByRecursion P xs → map g ps ++ field ∷ fs ≡ map g xs → ⊥
never g P field fs none [] [] h e = cc
never g P field fs none [] (x ∷ xs) (h, hs) e = none x h (cons_head field (g x) fs (map g xs) e)
never g P field fs none (p ∷ ps) [] h e = cc
never g P field fs none (p ∷ ps) (x ∷ xs) (h, hs) e = never g P field fs none ps xs hs (cons_tail (g p) (g x) (map g ps ++ field ∷ fs) (map g xs) e)

-- the next item is not read
pub gather_stops : {X : Type 0} (g : X → List ℕ) (P : X → Type 0) (ps : List X) (field : List ℕ) (fs now all : List (List ℕ)) (e : Stop) →
    now ≡ field ∷ fs → map g ps ++ now ≡ all → Reads g P field (Err e) → Reads (λ xs. map g xs) (AllByRecursion P) all (Err e)
gather_stops g P ps field fs now all Bad n h none = λ xs good is. never g P field fs none ps xs good (ap (λ z. map g ps ++ z) (sym n) ∙ h ∙ is)
gather_stops g P ps field fs now all Memory n h none = tt

-- what is not read is nothing that the whole is made of
pub blames : {X Y T U : Type 0} (f : X → T) (P : X → Type 0) (s : T) (g : Y → U) (Q : Y → Type 0) (whole : U) (e : Stop) →
    ((y : Y) → Q y → whole ≡ g y → (x : X) × (P x × (s ≡ f x))) → Reads f P s (Err e) → Reads g Q whole (Err e)
blames f P s g Q whole Bad part none = λ y good is. let k = part y good is in none k.0 k.1.0 k.1.1
blames f P s g Q whole Memory part none = tt

-- fields without the byte are cut where they were joined
pub cut_joined : (c : ℕ) (f : List ℕ) (fs : List (List ℕ)) → All (λ b. (b == c) ≡ false) f → AllByRecursion (λ f. All (λ b. (b == c) ≡ false) f) fs → fields c (join_with_byte c (f ∷ fs)) ≡ f ∷ fs
cut_joined c f [] clean h = slice_split_none (λ b. b == c) f clean
cut_joined c f (g ∷ fs) clean (h, hs) = slice_split_at (λ b. b == c) f c (join_with_byte c (g ∷ fs)) clean (eq-eqb c c refl) ∙ ap (λ z. f ∷ z) (cut_joined c g fs h hs)

pub clean_decimal : (c n : ℕ) → ((b : ℕ) → 48 ≤ b → b ≤ 57 → b ≢ c) → IsNumber n → All (λ b. (b == c) ≡ false) (decimal n)
clean_decimal c n apart h k d lt =
    let digit = digit_of n k h lt in
    let same : get_or (decimal n) k d ≡ get_or (decimal n) k 0 = get_or_default (decimal n) k d 0 lt in
    ne_eqb (get_or (decimal n) k d) c (λ e. apart (get_or (decimal n) k 0) digit.0 digit.1 (sym same ∙ e))

pub clean_decimals : (c : ℕ) → ((b : ℕ) → 48 ≤ b → b ≤ 57 → b ≢ c) → (ns : List ℕ) → AllByRecursion IsNumber ns → AllByRecursion (λ f. All (λ b. (b == c) ≡ false) f) (map decimal ns)
clean_decimals c apart [] h = tt
clean_decimals c apart (n ∷ ns) (h, hs) = (clean_decimal c n apart h, clean_decimals c apart ns hs)

no_comma : (b : ℕ) → 48 ≤ b → b ≤ 57 → b ≢ 44
no_comma b h k e = omega arith

-- the counts of a state
pub counts_left : (o : Option (Bor (List ℕ))) (text : List ℕ) (ns : List ℕ) → IsGiven o text → AllByRecursion IsNumber ns →
    text ≡ join_with_byte 44 (map decimal ns) → fields_left 44 o ≡ map decimal ns
counts_left None text [] given h e = refl
counts_left None text (n ∷ ns) given (h, hs) e =
    let some : 0 < length (decimal n) = decimal_nonempty n (omega arith) in
    absurd (omega (arith, ap length (sym given ∙ e ∙ joined_map 44 decimal (decimal n) ns), length-append (decimal n) (flat_map (λ y. 44 ∷ decimal y) ns)))
counts_left (Some x) text [] given h e = absurd (omega (arith, given.1, ap length e))
counts_left (Some x) text (n ∷ ns) given (h, hs) e =
    ap (fields 44) (given.0 ∙ e) ∙ cut_joined 44 (decimal n) (map decimal ns) (clean_decimal 44 n no_comma h) (clean_decimals 44 no_comma ns hs)

pub counts_text : (o : Option (Bor (List ℕ))) (text : List ℕ) (ns : List ℕ) → IsGiven o text → fields_left 44 o ≡ map decimal ns → text ≡ join_with_byte 44 (map decimal ns)
counts_text None text [] given e = given
counts_text None text (n ∷ ns) given e = absurd (omega (arith, ap length e))
counts_text (Some x) text ns given e = sym given.0 ∙ sym (join_with_byte-slice_split 44 x.now) ∙ ap (join_with_byte 44) e

no_colon : (n i : ℕ) → IsNumber n → i < length (decimal n) → get_or (decimal n) i 0 ≢ 58
no_colon n i h lt e = let digit = digit_of n i h lt in omega (arith, digit.1, e)

state_parts : (field : List ℕ) (r : Option (Bor (List ℕ) × Bor (List ℕ))) → IsSplitOnceResult 58 field r → (x : State) → IsState x → field ≡ state_text x →
    MatchOption r ⊥ (λ p. (p.0.now ≡ decimal x.done) × (p.1.now ≡ join_with_byte 44 (map decimal x.counts)))
state_parts field r h x good e = split_after 58 field (decimal x.done) (join_with_byte 44 (map decimal x.counts)) r h (lit< tt) e (λ i lt. no_colon x.done i good.0 lt)

pub no_state : (field : List ℕ) (r : Option (Bor (List ℕ) × Bor (List ℕ))) → IsSplitOnceResult 58 field r → r ≡ None → (x : State) → IsState x → field ≡ state_text x → ⊥
no_state field r h is x good e = subst (λ o. MatchOption o ⊥ (λ p. (p.0.now ≡ decimal x.done) × (p.1.now ≡ join_with_byte 44 (map decimal x.counts)))) is (state_parts field r h x good e)

state_is : (field : List ℕ) (r : Option (Bor (List ℕ) × Bor (List ℕ))) (p : Bor (List ℕ) × Bor (List ℕ)) → IsSplitOnceResult 58 field r → r ≡ Some p → (x : State) → IsState x → field ≡ state_text x →
    (p.0.now ≡ decimal x.done) × (p.1.now ≡ join_with_byte 44 (map decimal x.counts))
state_is field r p h is x good e = subst (λ o. MatchOption o ⊥ (λ p. (p.0.now ≡ decimal x.done) × (p.1.now ≡ join_with_byte 44 (map decimal x.counts)))) is (state_parts field r h x good e)

pub done_stops : (field : List ℕ) (r : Option (Bor (List ℕ) × Bor (List ℕ))) (p : Bor (List ℕ) × Bor (List ℕ)) (e : Stop) → IsSplitOnceResult 58 field r → r ≡ Some p →
    Reads decimal IsNumber p.0.now (Err e) → Reads state_text IsState field (Err e)
done_stops field r p e h is = blames decimal IsNumber p.0.now state_text IsState field e (λ x good k. (x.done, (good.0, (state_is field r p h is x good k).0)))

pub counts_stop : (field : List ℕ) (r : Option (Bor (List ℕ) × Bor (List ℕ))) (p : Bor (List ℕ) × Bor (List ℕ)) (o : Option (Bor (List ℕ))) (e : Stop) →
    IsSplitOnceResult 58 field r → r ≡ Some p → IsGiven o p.1.now →
    Reads (λ ns. map decimal ns) (AllByRecursion IsNumber) (fields_left 44 o) (Err e) → Reads state_text IsState field (Err e)
counts_stop field r p o e h is given = blames (λ ns. map decimal ns) (AllByRecursion IsNumber) (fields_left 44 o) state_text IsState field e
    (λ x good k. (x.counts, (good.1, counts_left o p.1.now x.counts given good.1 (state_is field r p h is x good k).1)))

pub state_found : (field : List ℕ) (r : Option (Bor (List ℕ) × Bor (List ℕ))) (p : Bor (List ℕ) × Bor (List ℕ)) (o : Option (Bor (List ℕ))) (n : ℕ) (ns : List ℕ) →
    IsSplitOnceResult 58 field r → r ≡ Some p → IsGiven o p.1.now → p.0.now ≡ decimal n → fields_left 44 o ≡ map decimal ns → field ≡ decimal n ++ (58 ∷ join_with_byte 44 (map decimal ns))
state_found field r p o n ns h is given done counts =
    (subst (λ q. MatchOption q ((i : ℕ) → i < length field → get_or field i 0 ≢ 58) (λ x. (field ≡ x.0.now ++ (58 ∷ x.1.now)) ×
    ((i : ℕ) → i < length x.0.now → get_or x.0.now i 0 ≢ 58))) is (split_parts 58 field r h (lit< tt))).0
    ∙ ap (λ z. z ++ 58 ∷ p.1.now) done ∙ ap (λ z. decimal n ++ 58 ∷ z) (counts_text o p.1.now ns given counts)
