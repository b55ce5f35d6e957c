-- One character of a scan.
use Rattle.std.proofs.Common.{◌≡◌, ℕ, ◌+◌, ◌≤◌, List, ◌++◌, length, drop, Option, Some, None, refl, sym, ap, ◌∙◌, arith, length-append}
use Rattle.std.specs.Char.{len_utf8}
use Rattle.std.specs.Option.{IfSome}
use Rattle.std.specs.Str.{chars, IsUtf8, IsCharBoundary}
use Rattle.std.proofs.lemmas.Str.{chars_past_char, IsUtf8-past_char, length-encode, chars-nil, drop_past_char, IsCharBoundary-from_drop}
use Rattle.std.proofs.lemmas.List.{nil_from_length}
use lib.Utf8.{encode}
use Rattle.rdf_lex.specs.declared.kinds.Kind.{Kind}
use Rattle.rdf_lex.specs.declared.kinds.Mode.{Mode}
use Rattle.rdf_lex.specs.declared.machine.State.{State}
use Rattle.rdf_lex.specs.declared.machine.State.TheVariants.{Start}
use Rattle.rdf_lex.specs.Machine.{step_of, label_of}
use Rattle.rdf_lex.specs.Scan.{scan_from, best_of}

abbrev pub Scans : Mode → List ℕ → State → Option (Kind × ℕ) → ℕ → List ℕ → Type 0
Scans m bs s best n src = (scan_from m (chars bs) s best n ≡ scan_from m (chars src) Start None 0) × IsUtf8 bs × (n + length bs ≡ length src) ×
    (drop n src ≡ bs) × IfSome best (λ x. IsCharBoundary src x.1)

pub size_char : (bs rest : List ℕ) (c : ℕ) → bs ≡ encode c ++ rest → length bs ≡ len_utf8 c + length rest
size_char bs rest c e = ap length e ∙ length-append (encode c) rest ∙ ap (λ (n : ℕ). n + length rest) (length-encode c)

best_bound : (l : Option Kind) (best : Option (Kind × ℕ)) (k : ℕ) (src : List ℕ) → IsCharBoundary src k → IfSome best (λ x. IsCharBoundary src x.1) →
    IfSome (best_of l best k) (λ x. IsCharBoundary src x.1)
best_bound None best k src b bd = bd
best_bound (Some l) best k src b bd = b

pub bound : (m : Mode) (bs src : List ℕ) (s : State) (best : Option (Kind × ℕ)) (n : ℕ) → Scans m bs s best n src → IfSome best (λ x. IsCharBoundary src x.1)
bound m bs src s best n (total, u, len, dr, bd) = bd

pub goes : (m : Mode) (bs rest src : List ℕ) (c k : ℕ) (s t : State) (best : Option (Kind × ℕ)) (n : ℕ) (l : Option Kind) → bs ≡ encode c ++ rest →
    k ≡ n + len_utf8 c → step_of s c ≡ Some t → label_of m t ≡ l
    → Scans m bs s best n src → Scans m rest t (best_of l best k) k src
goes m bs rest src c k s t best n l e is st la (total, u, len, dr, bd) =
    let one : scan_from m (chars bs) s best n ≡ scan_from m (chars rest) t (best_of l best k) k = rw (chars_past_char bs rest c u e, st, ← la, is) refl in
    let size = size_char bs rest c e in
    let u2 = IsUtf8-past_char bs rest c u e in
    let dr2 : drop k src ≡ rest = rw is (drop_past_char src rest n c (dr ∙ e)) in
    (sym one ∙ total, u2, omega arith, dr2, best_bound l best k src (IsCharBoundary-from_drop src k (omega arith) (rw dr2 u2)) bd)

pub stops : (m : Mode) (bs rest src : List ℕ) (c : ℕ) (s : State) (best : Option (Kind × ℕ)) (n : ℕ) → bs ≡ encode c ++ rest → step_of s c ≡ None →
    Scans m bs s best n src → best ≡ scan_from m (chars src) Start None 0
stops m bs rest src c s best n e st (total, u, len, dr, bd) =
    let one : scan_from m (chars bs) s best n ≡ best = rw (chars_past_char bs rest c u e, st) refl in sym one ∙ total

pub ends : (m : Mode) (bs src : List ℕ) (s : State) (best : Option (Kind × ℕ)) (n : ℕ) → length bs ≡ 0 → Scans m bs s best n src → best ≡ scan_from m (chars src) Start None 0
ends m bs src s best n e (total, u, len, dr, bd) =
    let one : scan_from m (chars bs) s best n ≡ best = rw (nil_from_length bs e, chars-nil) refl in sym one ∙ total

pub room : (m : Mode) (bs rest src : List ℕ) (c : ℕ) (s : State) (best : Option (Kind × ℕ)) (n : ℕ) → bs ≡ encode c ++ rest → Scans m bs s best n src → n + len_utf8 c ≤ length src
room m bs rest src c s best n e (total, u, len, dr, bd) = let size = size_char bs rest c e in omega arith
