-- The way of each form of expression.
use Rattle.std.proofs.Common.{◌≡◌, rules, ◌∙◌, sym, ap, List, ◌++◌}
use Rattle.std.specs.Prelude.{Result, Ok, Err, IfOk, OnOk, Option, Some, ℕ}
use Rattle.std.specs.declared.alloc.AllocError.{AllocError}
use Rattle.std.specs.declared.alloc.Global.{Global}
use Rattle.std.specs.declared.boxed.Box.{Box}
use Rattle.xs_pattern.specs.declared.unrolled.Unrolled.{Unrolled, Nothing, Then, Either, Plus, the_lemmas}
use Rattle.xs_pattern.specs.Way.{Way, way_of, nothing, then, either, plus}
use Rattle.xs_pattern.specs.Unrolling.{repeated}
use Rattle.xs_pattern.proofs.Repeated.{repeated_none}

pub way_nothing : way_of Nothing ≡ nothing
way_nothing = search (rules, the_lemmas)

way_then : (a b : Box Unrolled Global) → way_of (Then a b) ≡ then (way_of a.value) (way_of b.value)
way_then a b = search (rules, the_lemmas)

way_either : (a b : Box Unrolled Global) → way_of (Either a b) ≡ either (way_of a.value) (way_of b.value)
way_either a b = search (rules, the_lemmas)

way_plus : (a : Box Unrolled Global) → way_of (Plus a) ≡ plus (way_of a.value)
way_plus a = search (rules, the_lemmas)

pub is_then : (e : Unrolled) (a b : Box Unrolled Global) (x y : Unrolled) → e ≡ Then a b → x ≡ a.value → y ≡ b.value → way_of e ≡ then (way_of x) (way_of y)
is_then e a b x y is p q = ap way_of is ∙ (way_then a b ∙ (ap (λ v. then (way_of v) (way_of b.value)) (sym p) ∙ ap (λ v. then (way_of x) (way_of v)) (sym q)))

pub is_either : (e : Unrolled) (a b : Box Unrolled Global) (x y : Unrolled) → e ≡ Either a b → x ≡ a.value → y ≡ b.value → way_of e ≡ either (way_of x) (way_of y)
is_either e a b x y is p q = ap way_of is ∙ (way_either a b ∙ (ap (λ v. either (way_of v) (way_of b.value)) (sym p) ∙ ap (λ v. either (way_of x) (way_of v)) (sym q)))

pub is_plus : (e : Unrolled) (a : Box Unrolled Global) (x : Unrolled) → e ≡ Plus a → x ≡ a.value → way_of e ≡ plus (way_of x)
is_plus e a x is p = ap way_of is ∙ (way_plus a ∙ ap (λ v. plus (way_of v)) (sym p))

-- what a call added, under an equal name
pub on_ok : {T E A : Type 0} (r : Result T E) (new old made same : List A) → made ≡ same → OnOk r (new ≡ old ++ made) → OnOk r (new ≡ old ++ same)
on_ok (Ok t) new old made same is h = h ∙ ap (λ v. old ++ v) is
on_ok (Err e) new old made same is h = tt

-- a result with an equal way
same_way : (r : Result Unrolled AllocError) (v u : Way) → v ≡ u → IfOk r (λ w. way_of w ≡ v) → IfOk r (λ w. way_of w ≡ u)
same_way (Ok w) v u is h = h ∙ is
same_way (Err e) v u is h = tt

-- of what is repeated 0 times nothing matters
pub never_repeated : (r : Result Unrolled AllocError) (least : ℕ) (most : Option ℕ) (v w : Way) → most ≡ Some 0 → v ≡ nothing →
    IfOk r (λ u. way_of u ≡ repeated least most v) → IfOk r (λ u. way_of u ≡ repeated least most w)
never_repeated r least most v w is none h = same_way r _ _ (ap (λ m. repeated least m v) is
    ∙ (ap (λ x. repeated least (Some 0) x) none ∙ (sym (repeated_none least w) ∙ ap (λ m. repeated least m w) (sym is)))) h
