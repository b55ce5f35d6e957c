-- One character of white space.
use Rattle.std.proofs.Common.{◌≡◌, ℕ, ◌+◌, ◌≤◌, Bool, true, false, List, ◌++◌, length, drop, Option, Some, None, refl, sym, subst, ◌∙◌, cond, arith}
use Rattle.std.specs.Prelude.{nat_eq, ◌&&◌}
use Rattle.std.specs.Char.{len_utf8}
use Rattle.std.specs.Str.{chars, IsUtf8, IsCharBoundary}
use Rattle.std.proofs.lemmas.Str.{chars_past_char, IsUtf8-past_char, chars-nil, drop_past_char, IsCharBoundary-from_drop}
use Rattle.std.proofs.lemmas.List.{nil_from_length}
use lib.Utf8.{encode}
use Rattle.rdf_lex.specs.declared.kinds.Mode.{Mode}
use Rattle.rdf_lex.specs.declared.lexed.Blank.{Blank}
use Rattle.rdf_lex.specs.declared.lexed.Blank.TheVariants as blank
use Rattle.rdf_lex.specs.Tokens.{is_white, ends_line, has_blocks}
use Rattle.rdf_lex.specs.Scan.{between_step, blank_step, blank_from, held}
use Rattle.rdf_lex.proofs.Scanning.{size_char}

abbrev pub Skips : Mode → List ℕ → Blank → ℕ → List ℕ → Type 0
Skips m bs b n src = (blank_from m (chars bs) b n ≡ blank_from m (chars src) blank.Between 0) × IsUtf8 bs × (n + length bs ≡ length src) × (drop n src ≡ bs) × IsCharBoundary src (held b n)

-- the place at which white space may end stays a boundary
some_is : (x d : Blank) → Path (Option Blank) (Some x) (Some d) → x ≡ d
some_is x d e = cc

same_held : (src : List ℕ) (k : ℕ) (x d : Blank) → Path (Option Blank) (Some x) (Some d) → IsCharBoundary src (held x k) → IsCharBoundary src (held d k)
same_held src k x d e h = subst (λ (y : Blank). IsCharBoundary src (held y k)) (some_is x d e) h

none_some : (d : Blank) → Path (Option Blank) None (Some d) → ⊥
none_some d e = cc

between_bound : (m : Mode) (n k c : ℕ) (d : Blank) (src : List ℕ) (p q r : Bool) → is_white m c ≡ p → nat_eq c 35 ≡ q → (has_blocks m && nat_eq c 47) ≡ r → between_step m n c ≡ Some d
    → IsCharBoundary src n → IsCharBoundary src k → IsCharBoundary src (held d k)
between_bound m n k c d src true q r e f g is at to = let h : between_step m n c ≡ Some blank.Between = rw e refl in same_held src k blank.Between d (sym h ∙ is) to
between_bound m n k c d src false true r e f g is at to = let h : between_step m n c ≡ Some blank.Line = rw (e, f) refl in same_held src k blank.Line d (sym h ∙ is) to
between_bound m n k c d src false false true e f g is at to = let h : between_step m n c ≡ Some (blank.Slash n) = rw (e, f, g) refl in same_held src k (blank.Slash n) d (sym h ∙ is) at
between_bound m n k c d src false false false e f g is at to = let h : between_step m n c ≡ None = rw (e, f, g) refl in absurd (none_some d (sym h ∙ is))

step_bound : (m : Mode) (b d : Blank) (n k c : ℕ) (src : List ℕ) → blank_step m b n c ≡ Some d → IsCharBoundary src n → IsCharBoundary src k →
    IsCharBoundary src (held b n) → IsCharBoundary src (held d k)
step_bound m blank.Between d n k c src is at to h = between_bound m n k c d src (is_white m c) (nat_eq c 35) (has_blocks m && nat_eq c 47) refl refl refl is at to
step_bound m blank.Line d n k c src is at to h = by (ends_line c) is
  where
    by : (p : Bool) → (cond p (between_step m n c) (Some blank.Line)) ≡ Some d → IsCharBoundary src (held d k)
    by true f = between_bound m n k c d src (is_white m c) (nat_eq c 35) (has_blocks m && nat_eq c 47) refl refl refl f at to
    by false f = same_held src k blank.Line d f to
step_bound m (blank.Slash s) d n k c src is at to h = by (nat_eq c 42) is
  where
    by : (p : Bool) → (cond p (Some (blank.Block s)) None) ≡ Some d → IsCharBoundary src (held d k)
    by true f = same_held src k (blank.Block s) d f h
    by false f = absurd cc
step_bound m (blank.Block s) d n k c src is at to h = by (nat_eq c 42) is
  where
    by : (p : Bool) → (cond p (Some (blank.Star s)) (Some (blank.Block s))) ≡ Some d → IsCharBoundary src (held d k)
    by true f = same_held src k (blank.Star s) d f h
    by false f = same_held src k (blank.Block s) d f h
step_bound m (blank.Star s) d n k c src is at to h = by (nat_eq c 47) (nat_eq c 42) is
  where
    by : (p q : Bool) → (cond p (Some blank.Between) (cond q (Some (blank.Star s)) (Some (blank.Block s)))) ≡ Some d → IsCharBoundary src (held d k)
    by true q f = same_held src k blank.Between d f to
    by false true f = same_held src k (blank.Star s) d f h
    by false false f = same_held src k (blank.Block s) d f h

pub skips_goes : (m : Mode) (bs rest src : List ℕ) (c k : ℕ) (b d : Blank) (n : ℕ) → bs ≡ encode c ++ rest → k ≡ n + len_utf8 c → blank_step m b n c ≡ Some d →
    Skips m bs b n src → Skips m rest d k src
skips_goes m bs rest src c k b d n e is st (total, u, len, dr, bd) =
    let one : blank_from m (chars bs) b n ≡ blank_from m (chars rest) d k = rw (chars_past_char bs rest c u e, st, is) refl in
    let size = size_char bs rest c e in
    let u2 = IsUtf8-past_char bs rest c u e in
    let dr2 : drop k src ≡ rest = rw is (drop_past_char src rest n c (dr ∙ e)) in (
      sym one ∙ total,
      u2,
      omega arith,
      dr2,
      step_bound m b d n k c src st (IsCharBoundary-from_drop src n (omega arith) (rw dr u)) (IsCharBoundary-from_drop src k (omega arith) (rw dr2 u2)) bd,
    )

pub skips_stops : (m : Mode) (bs rest src : List ℕ) (c : ℕ) (b : Blank) (n k : ℕ) → bs ≡ encode c ++ rest → blank_step m b n c ≡ None → k ≡ held b n →
    Skips m bs b n src → k ≡ blank_from m (chars src) blank.Between 0
skips_stops m bs rest src c b n k e st is (total, u, len, dr, bd) =
    let one : blank_from m (chars bs) b n ≡ held b n = rw (chars_past_char bs rest c u e, st) refl in is ∙ sym one ∙ total

pub skips_ends : (m : Mode) (bs src : List ℕ) (b : Blank) (n k : ℕ) → length bs ≡ 0 → k ≡ held b n → Skips m bs b n src → k ≡ blank_from m (chars src) blank.Between 0
skips_ends m bs src b n k e is (total, u, len, dr, bd) =
    let one : blank_from m (chars bs) b n ≡ held b n = rw (nil_from_length bs e, chars-nil) refl in is ∙ sym one ∙ total

pub skips_bound : (m : Mode) (bs src : List ℕ) (b : Blank) (n k : ℕ) → k ≡ held b n → Skips m bs b n src → IsCharBoundary src k
skips_bound m bs src b n k is (total, u, len, dr, bd) = subst (IsCharBoundary src) (sym is) bd

pub skips_room : (m : Mode) (bs rest src : List ℕ) (c : ℕ) (b : Blank) (n : ℕ) → bs ≡ encode c ++ rest → Skips m bs b n src → n + len_utf8 c ≤ length src
skips_room m bs rest src c b n e (total, u, len, dr, bd) = let size = size_char bs rest c e in omega arith
