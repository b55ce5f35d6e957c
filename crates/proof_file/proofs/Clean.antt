-- Which bytes the texts of fields and lines do not hold.
use Rattle.std.proofs.Common.{◌≡◌, ℕ, ◌<◌, ◌≢◌, ◌==◌, Bool, true, false, subst, List, [], ◌∷◌, ◌++◌, refl, ap, sym, ◌∙◌, get_or, arith, Err, map, codes}
use Rattle.std.proofs.lemmas.Bool.{ne_eqb}
use Rattle.std.proofs.lemmas.List.{append_cancel_left}
use Rattle.std.proofs.lemmas.List.Splits.{join_with_byte-slice_split}
use Rattle.std.specs.Fmt.{decimal}
use Rattle.std.specs.List.{All, AllByRecursion, flat_map, join_with_byte}
use Rattle.schema_tree.specs.declared.verdicts.Place.{Place}
use Rattle.schema_tree.specs.declared.verdicts.Place.TheVariants.{At, Rest}
use Rattle.schema_tree.specs.declared.verdicts.State.{State}
use Rattle.proof_file.specs.declared.RecordKind.{RecordKind}
use Rattle.proof_file.specs.declared.RecordKind.TheVariants.{Plus, Minus}
use Rattle.proof_file.specs.declared.Record.{Record}
use Rattle.proof_file.specs.declared.line.Line.{Line}
use Rattle.proof_file.specs.declared.line.Line.TheVariants as Lines
use Rattle.proof_file.specs.declared.fields.Stop.{Stop}
use Rattle.proof_file.specs.Text.{place_text, state_text, kind_fields, kind_mark, claim_mark, record_fields, line_text, IsNumber, IsPlace, IsState, IsKind, IsLine}
use Rattle.proof_file.specs.Reading.{Reads, fields, strata_fields, IsPlus, IsMinus, IsPlusKind, IsMinusKind, IsWholeLine}
use Rattle.proof_file.proofs.Gathered.{blames, cut_joined, clean_decimal}
use Rattle.proof_file.proofs.Joined.{joined_map}
use Rattle.lists.proofs.Quantifiers.{all_append}
use Rattle.std.proofs.lemmas.List.Elements.{recursion_from_All, All-from_recursion}

abbrev pub IsClean : ℕ → List ℕ → Type 0
IsClean c xs = AllByRecursion (λ b. (b == c) ≡ false) xs

pub clean_number : (c n : ℕ) → c < 44 → IsNumber n → IsClean c (decimal n)
clean_number c n low h = recursion_from_All (λ b. (b == c) ≡ false) (decimal n) (clean_decimal c n (λ b above below e. omega arith) h)

clean_join : (c s : ℕ) → (s == c) ≡ false → (fs : List (List ℕ)) → AllByRecursion (IsClean c) fs → IsClean c (join_with_byte s fs)
clean_join c s other [] h = tt
clean_join c s other (f ∷ []) (h, hs) = h
clean_join c s other (f ∷ g ∷ fs) (h, hs) = all_append (λ b. (b == c) ≡ false) f (s ∷ join_with_byte s (g ∷ fs)) h (other, clean_join c s other (g ∷ fs) hs)

clean_numbers : (c : ℕ) → c < 44 → (ns : List ℕ) → AllByRecursion IsNumber ns → AllByRecursion (IsClean c) (map decimal ns)
clean_numbers c low [] h = tt
clean_numbers c low (n ∷ ns) (h, hs) = (clean_number c n low h, clean_numbers c low ns hs)

clean_place : (c : ℕ) → c < 44 → (p : Place) → IsPlace p → IsClean c (place_text p)
clean_place c low (At n) h = clean_number c n low (omega arith)
clean_place c low Rest h = (ne_eqb 114 c (λ e. omega arith), tt)

clean_places : (c : ℕ) → c < 44 → (ps : List Place) → AllByRecursion IsPlace ps → AllByRecursion (IsClean c) (map place_text ps)
clean_places c low [] h = tt
clean_places c low (p ∷ ps) (h, hs) = (clean_place c low p h, clean_places c low ps hs)

clean_state : (c : ℕ) → c < 44 → (x : State) → IsState x → IsClean c (state_text x)
clean_state c low x h = all_append (λ b. (b == c) ≡ false) (decimal x.done) (58 ∷ join_with_byte 44 (map decimal x.counts)) (clean_number c x.done low h.0)
    (ne_eqb 58 c (λ e. omega arith), clean_join c 44 (ne_eqb 44 c (λ e. omega arith)) (map decimal x.counts) (clean_numbers c low x.counts h.1))

clean_states : (c : ℕ) → c < 44 → (xs : List State) → AllByRecursion IsState xs → AllByRecursion (IsClean c) (map state_text xs)
clean_states c low [] h = tt
clean_states c low (x ∷ xs) (h, hs) = (clean_state c low x h, clean_states c low xs hs)

clean_kind : (c : ℕ) → c < 44 → (k : RecordKind) → IsKind k → AllByRecursion (IsClean c) (kind_fields k)
clean_kind c low (Plus ps) h = clean_places c low ps h
clean_kind c low (Minus rank xs) h = (clean_number c rank low h.0, clean_states c low xs h.1.0)

pub clean_fields : (c : ℕ) → c < 44 → (r : Record) → IsLine (Lines.Record r) → AllByRecursion (IsClean c) (record_fields r)
clean_fields c low r h = (clean_number c r.node low h.0, (clean_number c r.shape low h.1.0, clean_kind c low r.kind h.1.1))

pub clean_record : (c : ℕ) → c < 44 → (32 == c) ≡ false → (r : Record) → IsLine (Lines.Record r) → IsClean c (join_with_byte 32 (record_fields r))
clean_record c low other r h = clean_join c 32 other (record_fields r) (clean_fields c low r h)

by_places : (c : ℕ) (fs : List (List ℕ)) → AllByRecursion (IsClean c) fs → AllByRecursion (λ f. All (λ b. (b == c) ≡ false) f) fs
by_places c [] h = tt
by_places c (f ∷ fs) (h, hs) = (All-from_recursion (λ b. (b == c) ≡ false) f h, by_places c fs hs)

-- the fields of a record are cut where they were joined
pub record_cut : (r : Record) → IsLine (Lines.Record r) → fields 32 (join_with_byte 32 (record_fields r)) ≡ record_fields r
record_cut r h =
    let clean = by_places 32 (record_fields r) (clean_fields 32 (omega arith) r h) in
    cut_joined 32 (decimal r.node) (decimal r.shape ∷ kind_fields r.kind) clean.0 clean.1

-- ---- the strata of a head

pub strata_joined : (ns : List ℕ) → line_text (Lines.Strata ns) ≡ join_with_byte 32 (strata_fields ns)
strata_joined ns = sym (joined_map 32 decimal (codes "k") ns)

-- the numbers of a line of strata are cut where they were joined
pub strata_cut : (ns : List ℕ) → AllByRecursion IsNumber ns → fields 32 (line_text (Lines.Strata ns)) ≡ strata_fields ns
strata_cut ns h =
    ap (fields 32) (strata_joined ns)
    ∙ cut_joined 32 (codes "k") (map decimal ns) (All-from_recursion (λ b. (b == 32) ≡ false) (codes "k") (refl, tt)) (by_places 32 (map decimal ns) (clean_numbers 32 (omega arith) ns h))

-- the numbers are apart by spaces
pub clean_strata : (ns : List ℕ) → AllByRecursion IsNumber ns → IsClean 10 (flat_map (λ n. 32 ∷ decimal n) ns)
clean_strata [] h = tt
clean_strata (n ∷ ns) (h, hs) = (refl, all_append (λ b. (b == 10) ≡ false) (decimal n) (flat_map (λ n. 32 ∷ decimal n) ns) (clean_number 10 n (omega arith) h) (clean_strata ns hs))

-- ---- records by their marks

tail_two : (a b : ℕ) (xs ys : List ℕ) → a ∷ b ∷ xs ≡ a ∷ b ∷ ys → xs ≡ ys
tail_two a b xs ys e = append_cancel_left (a ∷ b ∷ []) xs ys e

not_claim : (a : ℕ) (xs ys : List ℕ) (holds : Bool) → a ≢ 99 → a ∷ xs ≡ claim_mark holds ++ ys → ⊥
not_claim a xs ys true other e = other (ap (λ z. get_or z 0 0) e)
not_claim a xs ys false other e = other (ap (λ z. get_or z 0 0) e)

plus_part : (text rest : List ℕ) → text ≡ codes "+ " ++ rest → (l : Line) → IsWholeLine l → text ≡ line_text l → (r : Record) × (IsPlus r × (fields 32 rest ≡ record_fields r))
plus_part text rest is (Lines.Digest part d) h e = absurd (omega (arith, ap (λ z. get_or z 0 0) (sym is ∙ e)))
plus_part text rest is (Lines.Strata ns) h e = absurd (omega (arith, ap (λ z. get_or z 0 0) (sym is ∙ e)))
plus_part text rest is (Lines.Node t) h e = absurd (omega (arith, ap (λ z. get_or z 0 0) (sym is ∙ e)))
plus_part text rest is (Lines.Section k) h e = absurd (omega (arith, ap (λ z. get_or z 0 0) (sym is ∙ e)))
plus_part text rest is (Lines.Claim c) h e = absurd (not_claim 43 (32 ∷ rest) _ c.holds (λ o. omega (arith, o)) (sym is ∙ e))
plus_part text rest is (Lines.Record r) h e = by r.kind refl
  where
    by : (k : RecordKind) → r.kind ≡ k → (r : Record) × (IsPlus r × (fields 32 rest ≡ record_fields r))
    by (Plus ps) kind =
        let same : rest ≡ join_with_byte 32 (record_fields r) = tail_two 43 32 rest (join_with_byte 32 (record_fields r))
        (sym is ∙ e ∙ ap (λ k. kind_mark k ++ join_with_byte 32 (record_fields r)) kind) in
        (r, ((h.0, subst IsPlusKind (sym kind) tt), ap (fields 32) same ∙ record_cut r h.0))
    by (Minus rank xs) kind = absurd (omega (arith, ap (λ z. get_or z 0 0) (sym is ∙ e ∙ ap (λ k. kind_mark k ++ join_with_byte 32 (record_fields r)) kind)))

pub plus_stops : (text rest : List ℕ) (e : Stop) → text ≡ codes "+ " ++ rest → Reads record_fields IsPlus (fields 32 rest) (Err e) → Reads line_text IsWholeLine text (Err e)
plus_stops text rest e is = blames record_fields IsPlus (fields 32 rest) line_text IsWholeLine text e (λ l good k. plus_part text rest is l good k)

plus_mark : (k : RecordKind) → IsPlusKind k → codes "+ " ≡ kind_mark k
plus_mark (Plus ps) h = refl
plus_mark (Minus rank xs) h = absurd h

pub plus_found : (text rest : List ℕ) (r : Record) → text ≡ codes "+ " ++ rest → fields 32 rest ≡ record_fields r → IsPlus r → text ≡ line_text (Lines.Record r)
plus_found text rest r is made h = is ∙ ap (λ m. m ++ rest) (plus_mark r.kind h.1) ∙ ap (λ z. kind_mark r.kind ++ z) (sym (join_with_byte-slice_split 32 rest) ∙ ap (join_with_byte 32) made)

minus_part : (text rest : List ℕ) → text ≡ codes "- " ++ rest → (l : Line) → IsWholeLine l → text ≡ line_text l → (r : Record) × (IsMinus r × (fields 32 rest ≡ record_fields r))
minus_part text rest is (Lines.Digest part d) h e = absurd (omega (arith, ap (λ z. get_or z 0 0) (sym is ∙ e)))
minus_part text rest is (Lines.Strata ns) h e = absurd (omega (arith, ap (λ z. get_or z 0 0) (sym is ∙ e)))
minus_part text rest is (Lines.Node t) h e = absurd (omega (arith, ap (λ z. get_or z 0 0) (sym is ∙ e)))
minus_part text rest is (Lines.Section k) h e = absurd (omega (arith, ap (λ z. get_or z 0 0) (sym is ∙ e)))
minus_part text rest is (Lines.Claim c) h e = absurd (not_claim 45 (32 ∷ rest) _ c.holds (λ o. omega (arith, o)) (sym is ∙ e))
minus_part text rest is (Lines.Record r) h e = by r.kind refl
  where
    by : (k : RecordKind) → r.kind ≡ k → (r : Record) × (IsMinus r × (fields 32 rest ≡ record_fields r))
    by (Plus ps) kind = absurd (omega (arith, ap (λ z. get_or z 0 0) (sym is ∙ e ∙ ap (λ k. kind_mark k ++ join_with_byte 32 (record_fields r)) kind)))
    by (Minus rank xs) kind =
        let same : rest ≡ join_with_byte 32 (record_fields r) = tail_two 45 32 rest (join_with_byte 32 (record_fields r))
        (sym is ∙ e ∙ ap (λ k. kind_mark k ++ join_with_byte 32 (record_fields r)) kind) in
        (r, ((h.0, subst IsMinusKind (sym kind) tt), ap (fields 32) same ∙ record_cut r h.0))

pub minus_stops : (text rest : List ℕ) (e : Stop) → text ≡ codes "- " ++ rest → Reads record_fields IsMinus (fields 32 rest) (Err e) → Reads line_text IsWholeLine text (Err e)
minus_stops text rest e is = blames record_fields IsMinus (fields 32 rest) line_text IsWholeLine text e (λ l good k. minus_part text rest is l good k)

minus_mark : (k : RecordKind) → IsMinusKind k → codes "- " ≡ kind_mark k
minus_mark (Minus rank xs) h = refl
minus_mark (Plus ps) h = absurd h

pub minus_found : (text rest : List ℕ) (r : Record) → text ≡ codes "- " ++ rest → fields 32 rest ≡ record_fields r → IsMinus r → text ≡ line_text (Lines.Record r)
minus_found text rest r is made h = is ∙ ap (λ m. m ++ rest) (minus_mark r.kind h.1) ∙ ap (λ z. kind_mark r.kind ++ z) (sym (join_with_byte-slice_split 32 rest) ∙ ap (join_with_byte 32) made)
