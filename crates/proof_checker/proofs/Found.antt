-- The first check that fails, and the first item that is not accepted.
use Rattle.std.proofs.Common.{◌≡◌, ℕ, zero, suc, ◌+◌, ◌^◌, ◌<◌, ◌≤◌, inl, inr, length, get_or, take, drop, map, List, [], ◌∷◌, ◌++◌, refl, arith, ap, sym, subst, ◌∙◌, Bool, true, false, true≢false, not}
use Rattle.std.proofs.lemmas.List.{take_all, take_more, take-append-drop, append_assoc, append-nil, length-append}
use Rattle.std.proofs.lemmas.Grind.{flat_map-append}
use Rattle.std.proofs.lemmas.Option.{slice_get-get_or}
use Rattle.std.specs.Prelude.{Option, Some, None, IfSome, IsTrue, ◌↔◌, slice_get}
use Rattle.std.specs.Bool.{then_some}
use Rattle.std.specs.List.{AllByRecursion}
use Rattle.rdf_terms.specs.declared.terms.TermId.{TermId}
use Rattle.schema_tree.specs.declared.schema.ExprId.{ExprId}
use Rattle.schema_tree.specs.declared.schema.Shape.{Shape}
use Rattle.schema_tree.specs.Edges.{level}
use Rattle.schema_tree.specs.Loaded.{IsTarget}
use Rattle.schema_tree.specs.Sure.{IsSure}
use Rattle.proof_file.specs.declared.RecordKind.{RecordKind}
use Rattle.proof_file.specs.declared.RecordKind.TheVariants.{Plus, Minus}
use Rattle.proof_file.specs.declared.Record.{Record}
use Rattle.proof_file.specs.declared.Section.{Section}
use Rattle.proof_file.specs.declared.Claim.{Claim}
use Rattle.proof_file.specs.declared.Proof.{Proof}
use Rattle.proof_file.specs.declared.Why.{Why}
use Rattle.proof_file.specs.declared.Why.TheVariants as Whys
use Rattle.proof_file.specs.Views.{whole_view}
use Rattle.proof_file.specs.Accepts.{FailsAt, FailsBy, IsAccepted, Item, Passes, PassesClaim, PassesKind, Setting, checks_of, in_section, is_claim, items_of, kind_checks, no_of, verdict_of, yes_of}
use Rattle.proof_checker.specs.declared.items.Fault.{Fault}
use Rattle.proof_checker.specs.Faults.{FirstFault, FoundBy, proof_of, section_items}

add_none : (i : ℕ) → i + 0 ≡ i
add_none i = omega arith

add_suc : (i k : ℕ) → i + suc k ≡ suc (i + k)
add_suc i k = omega arith

take_none : {A : Type 0} (xs : List A) → take 0 xs ≡ []
take_none [] = refl
take_none (x ∷ xs) = refl

slice_get_map : {A B : Type 0} (f : A → B) (xs : List A) (i : ℕ) (d : A) → i < length xs → slice_get (map f xs) i ≡ Some (f (get_or xs i d))
slice_get_map f [] i d within = absurd (omega (arith, within))
slice_get_map f (x ∷ xs) zero d within = refl
slice_get_map f (x ∷ xs) (suc i) d within = slice_get_map f xs i d (omega (arith, within))

get_or_map : {A B : Type 0} (f : A → B) (xs : List A) (i : ℕ) (d : A) → get_or (map f xs) i (f d) ≡ f (get_or xs i d)
get_or_map f [] i d = refl
get_or_map f (x ∷ xs) zero d = refl
get_or_map f (x ∷ xs) (suc i) d = get_or_map f xs i d

pub map_long : {A B : Type 0} (f : A → B) (xs : List A) → length (map f xs) ≡ length xs
map_long f [] = refl
map_long f (x ∷ xs) = ap (λ k. suc k) (map_long f xs)

take_left : {A : Type 0} (xs ys : List A) (i : ℕ) → i ≤ length xs → take i (xs ++ ys) ≡ take i xs
take_left xs ys zero le = take_none (xs ++ ys) ∙ sym (take_none xs)
take_left [] ys (suc i) le = absurd (omega (arith, le))
take_left (x ∷ xs) ys (suc i) le = ap (λ z. x ∷ z) (take_left xs ys i (omega (arith, le)))

get_left : {A : Type 0} (xs ys : List A) (i : ℕ) → i < length xs → slice_get (xs ++ ys) i ≡ slice_get xs i
get_left [] ys i lt = absurd (omega (arith, lt))
get_left (x ∷ xs) ys zero lt = refl
get_left (x ∷ xs) ys (suc i) lt = get_left xs ys i (omega (arith, lt))

take_right : {A : Type 0} (xs ys : List A) (i : ℕ) → take (i + length xs) (xs ++ ys) ≡ xs ++ take i ys
take_right [] ys i = ap (λ k. take k ys) (add_none i)
take_right (x ∷ xs) ys i = ap (λ k. take k (x ∷ xs ++ ys)) (add_suc i (length xs)) ∙ ap (λ z. x ∷ z) (take_right xs ys i)

get_right : {A : Type 0} (xs ys : List A) (i : ℕ) → slice_get (xs ++ ys) (i + length xs) ≡ slice_get ys i
get_right [] ys i = ap (λ k. slice_get ys k) (add_none i)
get_right (x ∷ xs) ys i = ap (λ k. slice_get (x ∷ xs ++ ys) k) (add_suc i (length xs)) ∙ get_right xs ys i

-- what is said of a result
pub some_of : {T : Type 0} (o : Option T) (x : T) (P : T → Type 0) → o ≡ Some x → IfSome o P → P x
some_of o x P is held = subst (λ z. IfSome z P) is held

-- what stands at a place that is inside
pub entry_there : {A : Type 0} (xs ys : List A) (i : ℕ) (a : A) → xs ≡ ys → i < length xs → a ≡ get_or xs i a → slice_get ys i ≡ Some a
entry_there xs ys i a same within is = subst (λ z. slice_get z i ≡ Some a) same (slice_get-get_or xs i a within ∙ ap (λ z. Some z) (sym is))

-- where the items of more sections end
pub next_items : (xs : List Section) (i : ℕ) (y : Section) → i < length xs → y ≡ get_or xs i y →
    section_items (take (i + 1) xs) ≡ section_items (take i xs) ++ map (λ r. in_section y.stratum r) y.records
next_items xs i y within is =
    ap (λ z. section_items z) (take_more xs i y within ∙ ap (λ z. take i xs ++ z ∷ []) (sym is)) ∙ flat_map-append (λ z. map (λ r. in_section z.stratum r) z.records) (take i xs) (y ∷ [])
    ∙ ap (λ z. section_items (take i xs) ++ z) (append-nil (map (λ r. in_section y.stratum r) y.records))

-- all items are those up to a section and the others
pub items_split : (xs : List Section) (i : ℕ) → section_items xs ≡ section_items (take i xs) ++ section_items (drop i xs)
items_split xs i = ap (λ z. section_items z) (sym (take-append-drop i xs)) ∙ flat_map-append (λ z. map (λ r. in_section z.stratum r) z.records) (take i xs) (drop i xs)

module _ (x : Setting) (p : Proof) where
  -- the checks of a record whose node and Shape are there
  pub record_found :
      (k a b : ℕ) (kind : RecordKind) (n : TermId) (sh : Shape) → slice_get x.nodes a ≡ Some n → slice_get x.schema.shapes b ≡ Some sh →
      a < length x.nodes → b < length x.schema.shapes → level x.strata (record { 0 = b }) ≡ k →
      (r : Option Why) → FoundBy (PassesKind x p k kind (Some n) (Some sh)) (kind_checks kind) r →
      FoundBy (Passes x p (in_section k (record { node = a; shape = b; kind = kind }))) (checks_of (in_section k (record { node = a; shape = b; kind = kind }))) r
  record_found k a b kind n sh at on within inside lev r found = go kind r
      (subst (λ y. FoundBy (PassesKind x p k kind y (slice_get x.schema.shapes b)) (kind_checks kind) r) (sym at)
      (subst (λ z. FoundBy (PassesKind x p k kind (Some n) z) (kind_checks kind) r) (sym on) found))
    where
      go : (kind : RecordKind) (r : Option Why) → FoundBy (PassesKind x p k kind (slice_get x.nodes a) (slice_get x.schema.shapes b)) (kind_checks kind) r →
          FoundBy (Passes x p (in_section k (record { node = a; shape = b; kind = kind }))) (checks_of (in_section k (record { node = a; shape = b; kind = kind }))) r
      go (Plus places) None h = (within, (inside, (lev, h)))
      go (Plus places) (Some w) h = inr (within, inr (inside, inr (lev, h)))
      go (Minus rank states) None h = (within, (inside, (lev, h)))
      go (Minus rank states) (Some w) h = inr (within, inr (inside, inr (lev, h)))

  -- a claim whose target's expression has not the verdict
  claim_fails :
      (c : Claim) (n : TermId) (e : ExprId) → slice_get x.nodes c.node ≡ Some n → c.node < length x.nodes →
      ((d : ExprId) → IsTarget x.schema c.target d → d ≡ e) →
      (¬ IsSure x.schema x.terms (whole_view (yes_of x p) (no_of x p)) n e (verdict_of c.holds)) →
      FoundBy (Passes x p (is_claim c)) (checks_of (is_claim c)) (Some Whys.Claim)
  claim_fails c n e at within one not_sure = inr (within, inl (refl, subst (λ y. ¬ PassesClaim x p c y) (sym at) fails))
    where
      fails : ¬ PassesClaim x p c (Some n)
      fails (d, target, held) = not_sure (subst (λ z. IsSure x.schema x.terms (whole_view (yes_of x p) (no_of x p)) n z (verdict_of c.holds)) (one d target) held)

  claim_passes :
      (c : Claim) (n : TermId) (e : ExprId) → slice_get x.nodes c.node ≡ Some n → c.node < length x.nodes → IsTarget x.schema c.target e →
      IsSure x.schema x.terms (whole_view (yes_of x p) (no_of x p)) n e (verdict_of c.holds) →
      FoundBy (Passes x p (is_claim c)) (checks_of (is_claim c)) None
  claim_passes c n e at within target held = (within, (subst (λ y. PassesClaim x p c y) (sym at) (e, target, held), tt))

  -- whether the claim's verdict is the one that is sure decides on its last check
  pub claim_found :
      (c : Claim) (n : TermId) (e : ExprId) → slice_get x.nodes c.node ≡ Some n → c.node < length x.nodes → IsTarget x.schema c.target e →
      ((d : ExprId) → IsTarget x.schema c.target d → d ≡ e) → (b : Bool) →
      (IsTrue b ↔ IsSure x.schema x.terms (whole_view (yes_of x p) (no_of x p)) n e (verdict_of c.holds)) →
      FoundBy (Passes x p (is_claim c)) (checks_of (is_claim c)) (then_some (not b) Whys.Claim)
  claim_found c n e at within target one true same = claim_passes c n e at within target (same.0 refl)
  claim_found c n e at within target one false same = claim_fails c n e at within one (λ sure. true≢false (sym (same.1 sure)))

  pub found_some : (item : Item) (o : Option Why) (w : Why) → o ≡ Some w → FoundBy (Passes x p item) (checks_of item) o → FailsAt (Passes x p item) (checks_of item) w
  found_some item o w is found = subst (λ z. FoundBy (Passes x p item) (checks_of item) z) is found

  pub found_none : (item : Item) (o : Option Why) → ((w : Why) → ¬ (o ≡ Some w)) → FoundBy (Passes x p item) (checks_of item) o → IsAccepted x p item
  found_none item None other found = found
  found_none item (Some w) other found = absurd (other w refl)

  pub fault_some : (items : List Item) (o : Option Fault) (f : Fault) → o ≡ Some f → FirstFault x p items o → FirstFault x p items (Some f)
  fault_some items o f is found = subst (λ z. FirstFault x p items z) is found

  pub fault_none : (items : List Item) (o : Option Fault) → ((f : Fault) → ¬ (o ≡ Some f)) → FirstFault x p items o → FirstFault x p items None
  fault_none items None other found = found
  fault_none items (Some f) other found = absurd (other f refl)

  all_push : (xs : List Item) (y : Item) → AllByRecursion (IsAccepted x p) xs → IsAccepted x p y → AllByRecursion (IsAccepted x p) (xs ++ y ∷ [])
  all_push [] y h own = (own, tt)
  all_push (z ∷ xs) y h own = (h.0, all_push xs y h.1 own)

  all_both : (xs ys : List Item) → AllByRecursion (IsAccepted x p) xs → AllByRecursion (IsAccepted x p) ys → AllByRecursion (IsAccepted x p) (xs ++ ys)
  all_both [] ys h k = k
  all_both (z ∷ xs) ys h k = (h.0, all_both xs ys h.1 k)

  -- a loop over what gives the items
  module _ {R : Type 0} (f : R → Item) (rs : List R) (i : ℕ) where
    long : length (map f rs) ≡ length rs
    long = map_long f rs

    at_is : (d : R) → i < length rs → slice_get (map f rs) i ≡ Some (f (get_or rs i d))
    at_is d within = slice_get_map f rs i d within

    pub next_accepted : (d : R) → i < length rs → AllByRecursion (IsAccepted x p) (take i (map f rs)) → IsAccepted x p (f (get_or rs i d)) →
        AllByRecursion (IsAccepted x p) (take (i + 1) (map f rs))
    next_accepted d within h own =
        subst (λ zs. AllByRecursion (IsAccepted x p) zs) (sym (take_more (map f rs) i (f d) (subst (λ k. i < k) (sym long) within)))
        (all_push (take i (map f rs)) (get_or (map f rs) i (f d)) h (subst (λ z. IsAccepted x p z) (sym (get_or_map f rs i d)) own))

    pub next_fault : (d : R) (w : Why) → i < length rs → AllByRecursion (IsAccepted x p) (take i (map f rs)) →
        FailsAt (Passes x p (f (get_or rs i d))) (checks_of (f (get_or rs i d))) w → FirstFault x p (map f rs) (Some (record { item = i; why = w }))
    next_fault d w within h fails =
        (subst (λ k. i < k) (sym long) within, h, subst (λ o. FailsBy x p o w) (sym (at_is d within)) fails)

    pub no_fault : length rs ≤ i → AllByRecursion (IsAccepted x p) (take i (map f rs)) → FirstFault x p (map f rs) None
    no_fault past h = subst (λ zs. AllByRecursion (IsAccepted x p) zs) (take_all i (map f rs) (subst (λ k. k ≤ i) (sym long) past)) h

  -- a fault stays where more items follow
  pub fault_before : (xs ys : List Item) (f : Fault) → FirstFault x p xs (Some f) → FirstFault x p (xs ++ ys) (Some f)
  fault_before xs ys f (within, h, fails) =
      let total = length-append xs ys in (
        omega (arith, within, total),
        subst (λ zs. AllByRecursion (IsAccepted x p) zs) (sym (take_left xs ys f.item (omega (arith, within)))) h,
        subst (λ o. FailsBy x p o f.why) (sym (get_left xs ys f.item within)) fails,
      )

  -- and moves where accepted items come before
  pub fault_after : (xs ys : List Item) (f : Fault) → AllByRecursion (IsAccepted x p) xs → FirstFault x p ys (Some f) →
      FirstFault x p (xs ++ ys) (Some (record { item = f.item + length xs; why = f.why }))
  fault_after xs ys f all (within, h, fails) =
      let total = length-append xs ys in (
        omega (arith, within, total),
        subst (λ zs. AllByRecursion (IsAccepted x p) zs) (sym (take_right xs ys f.item)) (all_both xs (take f.item ys) all h),
        subst (λ o. FailsBy x p o f.why) (sym (get_right xs ys f.item)) fails,
      )

  pub all_after : (xs ys : List Item) → AllByRecursion (IsAccepted x p) xs → FirstFault x p ys None → FirstFault x p (xs ++ ys) None
  all_after xs ys all h = all_both xs ys all h

-- the items of a section among all items
module _ (x : Setting) (p : Proof) (xs : List Section) (cs : List Claim) (i : ℕ) (y : Section) (within : i < length xs) (is : y ≡ get_or xs i y)
    (records : List Record) (same : records ≡ y.records) (before : ℕ) (count : before ≡ length (section_items (take i xs))) where
  abbrev here : List Item
  here = map (λ r. in_section y.stratum r) records

  abbrev earlier : List Item
  earlier = section_items (take i xs)

  abbrev later : List Item
  later = section_items (drop (i + 1) xs) ++ map (λ c. is_claim c) cs

  upto : section_items (take (i + 1) xs) ≡ earlier ++ here
  upto = next_items xs i y within is ∙ ap (λ rs. earlier ++ map (λ r. in_section y.stratum r) rs) (sym same)

  whole : items_of (proof_of xs cs) ≡ (earlier ++ here) ++ later
  whole =
      ap (λ z. z ++ map (λ c. is_claim c) cs) (items_split xs (i + 1) ∙ ap (λ z. z ++ section_items (drop (i + 1) xs)) upto)
      ∙ append_assoc (earlier ++ here) (section_items (drop (i + 1) xs)) (map (λ c. is_claim c) cs)

  here_long : length here ≡ length records
  here_long = map_long (λ r. in_section y.stratum r) records

  total : length (items_of (proof_of xs cs)) ≡ (before + length records) + length later
  total =
      let a = length-append (earlier ++ here) later in
      let b = length-append earlier here in
      let c = here_long in
      let d : length (items_of (proof_of xs cs)) ≡ length ((earlier ++ here) ++ later) = ap (λ z. length z) whole in
      omega (arith, a, b, c, d, count)

  pub fault_fits : (f : Fault) → length (items_of (proof_of xs cs)) < 2 ^ 64 → FirstFault x p here (Some f) → f.item + before < 2 ^ 64
  fault_fits f few fault = let t = total in let l = here_long in let w = fault.0 in omega (arith, t, l, w, few)

  pub count_fits : length (items_of (proof_of xs cs)) < 2 ^ 64 → before + length records < 2 ^ 64
  count_fits few = let t = total in omega (arith, t, few)

  pub fault_here : (f : Fault) → AllByRecursion (IsAccepted x p) earlier → FirstFault x p here (Some f) →
      FirstFault x p (items_of (proof_of xs cs)) (Some (record { item = f.item + before; why = f.why }))
  fault_here f all fault =
      subst (λ zs. FirstFault x p zs (Some (record { item = f.item + before; why = f.why }))) (sym whole)
      (fault_before x p (earlier ++ here) later (record { item = f.item + before; why = f.why })
      (subst (λ k. FirstFault x p (earlier ++ here) (Some (record { item = f.item + k; why = f.why }))) (sym count) (fault_after x p earlier here f all fault)))

  pub none_here : AllByRecursion (IsAccepted x p) earlier → FirstFault x p here None → AllByRecursion (IsAccepted x p) (section_items (take (i + 1) xs))
  none_here all fault = subst (λ zs. AllByRecursion (IsAccepted x p) zs) (sym upto) (all_after x p earlier here all fault)

  pub count_here : before + length records ≡ length (section_items (take (i + 1) xs))
  count_here =
      let a = length-append earlier here in
      let b : length (section_items (take (i + 1) xs)) ≡ length (earlier ++ here) = ap (λ z. length z) upto in
      let c = here_long in
      omega (arith, a, b, c, count)

-- the claims after all sections
module _ (x : Setting) (p : Proof) (xs : List Section) (cs : List Claim) (i : ℕ) (past : length xs ≤ i) (before : ℕ) (count : before ≡ length (section_items (take i xs))) where
  all_sections : section_items (take i xs) ≡ section_items xs
  all_sections = ap (λ z. section_items z) (take_all i xs past)

  claims_long : length (items_of (proof_of xs cs)) ≡ before + length (map (λ c. is_claim c) cs)
  claims_long =
      let a = length-append (section_items xs) (map (λ c. is_claim c) cs) in
      let b : length (section_items (take i xs)) ≡ length (section_items xs) = ap (λ z. length z) all_sections in
      omega (arith, a, b, count)

  pub claim_fits : (f : Fault) → length (items_of (proof_of xs cs)) < 2 ^ 64 → FirstFault x p (map (λ c. is_claim c) cs) (Some f) → f.item + before < 2 ^ 64
  claim_fits f few fault = let t = claims_long in let w = fault.0 in omega (arith, t, w, few)

  pub fault_claims : (f : Fault) → AllByRecursion (IsAccepted x p) (section_items (take i xs)) → FirstFault x p (map (λ c. is_claim c) cs) (Some f) →
      FirstFault x p (items_of (proof_of xs cs)) (Some (record { item = f.item + before; why = f.why }))
  fault_claims f all fault =
      let at : length (section_items xs) ≡ before = ap (λ z. length z) (sym all_sections) ∙ sym count in
      subst (λ k. FirstFault x p (items_of (proof_of xs cs)) (Some (record { item = f.item + k; why = f.why }))) at
      (fault_after x p (section_items xs) (map (λ c. is_claim c) cs) f (subst (λ zs. AllByRecursion (IsAccepted x p) zs) all_sections all) fault)

  pub none_claims : AllByRecursion (IsAccepted x p) (section_items (take i xs)) → FirstFault x p (map (λ c. is_claim c) cs) None → FirstFault x p (items_of (proof_of xs cs)) None
  none_claims all fault = all_after x p (section_items xs) (map (λ c. is_claim c) cs) (subst (λ zs. AllByRecursion (IsAccepted x p) zs) all_sections all) fault
