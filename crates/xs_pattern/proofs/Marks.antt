-- The marks of the parts of a way, one after the other.
use Rattle.std.proofs.Common.{◌≡◌, ℕ, ◌+◌, List, ◌++◌, drop, sym, ap, ◌∙◌, Bool, false, ◌||◌, ◌&&◌, append_assoc}
use Rattle.std.specs.Prelude.{replicate, Result, OnOk}
use Rattle.std.proofs.lemmas.List.{replicate-append-replicate, drop-drop}
use Rattle.xs_pattern.specs.declared.walk.Edge.{Edge}
use Rattle.xs_pattern.specs.Way.{Way, then, either, plus, size, passes, ends, next}
use Rattle.xs_pattern.proofs.Ways.{on_ok}

pub blank_more : (old one two : List Bool) (a b : ℕ) → one ≡ old ++ replicate a false → two ≡ one ++ replicate b false → two ≡ old ++ replicate (a + b) false
blank_more old one two a b p q =
    q ∙ (ap (λ v. v ++ replicate b false) p ∙ (append_assoc old (replicate a false) (replicate b false) ∙ ap (λ v. old ++ v) (replicate-append-replicate a b false)))

pub handed_is : (r f p e g q : Bool) → r ≡ (f || (e && p)) → f ≡ g → p ≡ q → r ≡ (g || (e && q))
handed_is r f p e g q h a b = h ∙ (ap (λ v. v || (e && p)) a ∙ ap (λ v. g || (e && v)) b)

pub plus_marks : {T E : Type 0} (r : Result T E) (edge : Edge) (has : ℕ → Bool) (w a : Way) (marks new old : List Bool) (enters again : Bool) → w ≡ plus a →
    again ≡ (enters || ends edge a marks) → OnOk r (new ≡ old ++ next edge has a again marks) → OnOk r (new ≡ old ++ next edge has w enters marks)
plus_marks r edge has w a marks new old enters again is q h = on_ok r new old _ _ (ap (λ v. next edge has a v marks) q ∙ ap (λ v. next edge has v enters marks) (sym is)) h

module _ (edge : Edge) (has : ℕ → Bool) (w a b : Way) (marks : List Bool) (n m : ℕ) (behind : m ≡ n + size a) where
  further : drop m marks ≡ drop (size a) (drop n marks)
  further = ap (λ v. drop v marks) behind ∙ sym (drop-drop (size a) n marks)

  pub then_marks :
      (old one two : List Bool) (enters handed : Bool) → w ≡ then a b → handed ≡ (ends edge a (drop n marks) || (enters && passes edge a)) →
      one ≡ old ++ next edge has a enters (drop n marks) → two ≡ one ++ next edge has b handed (drop m marks) →
      two ≡ old ++ next edge has w enters (drop n marks)
  then_marks old one two enters handed is h p q =
      q ∙ (ap (λ v. v ++ next edge has b handed (drop m marks)) p
      ∙ (append_assoc old (next edge has a enters (drop n marks)) (next edge has b handed (drop m marks))
      ∙ (ap (λ v. old ++ (next edge has a enters (drop n marks) ++ next edge has b handed v)) further
      ∙ (ap (λ v. old ++ (next edge has a enters (drop n marks) ++ next edge has b v (drop (size a) (drop n marks)))) h
      ∙ ap (λ v. old ++ next edge has v enters (drop n marks)) (sym is)))))

  pub either_marks :
      (old one two : List Bool) (enters : Bool) → w ≡ either a b →
      one ≡ old ++ next edge has a enters (drop n marks) → two ≡ one ++ next edge has b enters (drop m marks) →
      two ≡ old ++ next edge has w enters (drop n marks)
  either_marks old one two enters is p q =
      q ∙ (ap (λ v. v ++ next edge has b enters (drop m marks)) p
      ∙ (append_assoc old (next edge has a enters (drop n marks)) (next edge has b enters (drop m marks))
      ∙ (ap (λ v. old ++ (next edge has a enters (drop n marks) ++ next edge has b enters v)) further
      ∙ ap (λ v. old ++ next edge has v enters (drop n marks)) (sym is))))

  pub then_ends :
      (x y z r : Bool) → w ≡ then a b → r ≡ (y || (x && z)) → x ≡ ends edge a (drop n marks) → y ≡ ends edge b (drop m marks) → z ≡ passes edge b →
      r ≡ ends edge w (drop n marks)
  then_ends x y z r is h p q o =
      h ∙ (ap (λ v. v || (x && z)) (q ∙ ap (ends edge b) further)
      ∙ (ap (λ v. ends edge b (drop (size a) (drop n marks)) || (v && z)) p
      ∙ (ap (λ v. ends edge b (drop (size a) (drop n marks)) || (ends edge a (drop n marks) && v)) o
      ∙ ap (λ v. ends edge v (drop n marks)) (sym is))))

  pub either_ends :
      (x y r : Bool) → w ≡ either a b → r ≡ (x || y) → x ≡ ends edge a (drop n marks) → y ≡ ends edge b (drop m marks) →
      r ≡ ends edge w (drop n marks)
  either_ends x y r is h p q =
      h ∙ (ap (λ v. x || v) (q ∙ ap (ends edge b) further)
      ∙ (ap (λ v. v || ends edge b (drop (size a) (drop n marks))) p
      ∙ ap (λ v. ends edge v (drop n marks)) (sym is)))
