-- What tests and choices by them give.
use Rattle.std.proofs.Common.{◌≡◌, ◌⊎◌, inl, inr, refl, Bool, true, false, cond, not, ◌&&◌, ◌||◌}
use Rattle.std.specs.Prelude.{Option, Some}

pub skip : {A : Type 0} (b : Bool) (x y : A) → b ≡ false → cond b x y ≡ y
skip true x y h = absurd (cc)
skip false x y h = refl

pub chosen : {A : Type 0} (b : Bool) (x y : Option A) (v : A) (P : Type 0) → cond b x y ≡ Some v → (b ≡ true → x ≡ Some v → P) → (b ≡ false → y ≡ Some v → P) → P
chosen true x y v P h f g = f refl h
chosen false x y v P h f g = g refl h

pub not_true : (b : Bool) → not b ≡ true → b ≡ false
not_true true h = absurd (cc)
not_true false h = refl

pub and_no : (b : Bool) → (b && false) ≡ false
and_no true = refl
and_no false = refl

pub or_yes : (b : Bool) → (b || true) ≡ true
or_yes true = refl
or_yes false = refl

pub or_no : (b : Bool) → (b || false) ≡ b
or_no true = refl
or_no false = refl

pub or_true : (a b : Bool) → (a ≡ true) ⊎ (b ≡ true) → (a || b) ≡ true
or_true true b h = refl
or_true false b (inl h) = absurd (cc)
or_true false b (inr h) = h
