-- What a walk over the members of an EachOf or a OneOf knows at each of them.
use Rattle.std.proofs.Common.{◌≡◌, ℕ, ◌+◌, ◌<◌, refl, sym, ap, ◌∙◌, arith, Bool, true, false, cond, min, max}
use Rattle.std.proofs.lemmas.Bool.Decides.{nat_tests}
use Rattle.std.specs.Prelude.{Option, Some, None, nat_le}
use Rattle.tally.specs.declared.Interval.{Interval}
use Rattle.tally.specs.Span.{IsBelow, IsProper, add_ends, all, meet, meet_ends, plus, proper}

pub improper : (lo h : ℕ) → h < lo → proper lo (Some h) ≡ None
improper lo h above = go (nat_le lo h) refl
  where
    go :
        (b : Bool) → nat_le lo h ≡ b →
        cond {A = Option Interval} b (Some (record { lo = lo; hi = Some h })) None ≡ None
    go true is = absurd (grind (arith, nat_tests))
    go false is = refl

pub proper_self : (lo : ℕ) (hi : Option ℕ) → IsBelow lo hi → proper lo hi ≡ Some (record { lo = lo; hi = hi })
proper_self lo None below = refl
proper_self lo (Some h) below = go (nat_le lo h) refl
  where
    go :
        (b : Bool) → nat_le lo h ≡ b →
        cond {A = Option Interval} b (Some (record { lo = lo; hi = Some h })) None ≡
        Some (record { lo = lo; hi = Some h })
    go true is = refl
    go false is = absurd (grind (arith, nat_tests))

-- the ends of a proper interval
pub proper_ends : (lo : ℕ) (hi : Option ℕ) (r : Interval) → proper lo hi ≡ Some r → (r.lo ≡ lo) × (r.hi ≡ hi)
proper_ends lo None r is = (cc, cc)
proper_ends lo (Some h) r is = go (nat_le lo h) is
  where
    go :
        (b : Bool) → cond b (Some (record { lo = lo; hi = Some h })) None ≡ Some r →
        (r.lo ≡ lo) × (r.hi ≡ Some h)
    go true e = (cc, cc)
    go false e = cc

pub meet_none : (x : Option Interval) → meet x None ≡ None
meet_none None = refl
meet_none (Some a) = refl

pub meet_proper_left :
    (lo : ℕ) (hi : Option ℕ) (c : Interval) →
    meet (proper lo hi) (Some c) ≡ proper (max lo c.lo) (meet_ends hi c.hi)
meet_proper_left lo None c = refl
meet_proper_left lo (Some h) c = go (nat_le lo h) refl
  where
    none : (end : Option ℕ) → h < lo → None ≡ proper (max lo c.lo) (meet_ends (Some h) end)
    none None above = sym (improper (max lo c.lo) h (omega arith))
    none (Some e) above = sym (improper (max lo c.lo) (min h e) (omega arith))

    go : (b : Bool) → nat_le lo h ≡ b →
        meet (cond b (Some (record { lo = lo; hi = Some h })) None) (Some c) ≡ proper (max lo c.lo)
        (meet_ends (Some h) c.hi)
    go true is = refl
    go false is = none c.hi (grind (arith, nat_tests))

pub meet_proper_right :
    (a : Interval) (lo : ℕ) (hi : Option ℕ) →
    meet (Some a) (proper lo hi) ≡ proper (max a.lo lo) (meet_ends a.hi hi)
meet_proper_right a lo None = refl
meet_proper_right a lo (Some h) = go (nat_le lo h) refl
  where
    none : (end : Option ℕ) → h < lo → None ≡ proper (max a.lo lo) (meet_ends end (Some h))
    none None above = sym (improper (max a.lo lo) h (omega arith))
    none (Some e) above = sym (improper (max a.lo lo) (min e h) (omega arith))

    go : (b : Bool) → nat_le lo h ≡ b →
        meet (Some a) (cond b (Some (record { lo = lo; hi = Some h })) None) ≡ proper (max a.lo lo)
        (meet_ends a.hi (Some h))
    go true is = refl
    go false is = none a.hi (grind (arith, nat_tests))

pub meet_ends_assoc : (x y z : Option ℕ) → meet_ends (meet_ends x y) z ≡ meet_ends x (meet_ends y z)
meet_ends_assoc None y z = refl
meet_ends_assoc (Some x) None z = refl
meet_ends_assoc (Some x) (Some y) None = refl
meet_ends_assoc (Some x) (Some y) (Some z) = ap Some (omega arith)

pub meet_assoc : (a b c : Option Interval) → meet (meet a b) c ≡ meet a (meet b c)
meet_assoc None b c = refl
meet_assoc (Some a) None c = refl
meet_assoc (Some a) (Some b) None = meet_none (meet (Some a) (Some b))
meet_assoc (Some a) (Some b) (Some c) =
    let lows : max (max a.lo b.lo) c.lo ≡ max a.lo (max b.lo c.lo) = omega arith in
    meet_proper_left (max a.lo b.lo) (meet_ends a.hi b.hi) c
    ∙ (ap (λ x. proper x (meet_ends (meet_ends a.hi b.hi) c.hi)) lows
    ∙ (ap (proper (max a.lo (max b.lo c.lo))) (meet_ends_assoc a.hi b.hi c.hi)
    ∙ sym (meet_proper_right a (max b.lo c.lo) (meet_ends b.hi c.hi))))

pub meet_all : (x : Option Interval) → IsProper x → meet (Some all) x ≡ x
meet_all None is = refl
meet_all (Some b) is = (let e : max 0 b.lo ≡ b.lo = omega arith in ap (λ lo. proper lo b.hi) e
    ∙ proper_self b.lo b.hi is)

pub meet_with_all : (x : Interval) → IsProper (Some x) → meet (Some x) (Some all) ≡ Some x
meet_with_all x is = go x.hi is
  where
    go :
        (hi : Option ℕ) → IsBelow x.lo hi →
        proper (max x.lo 0) (meet_ends hi None) ≡ Some (record { lo = x.lo; hi = hi })
    go None below = (let e : max x.lo 0 ≡ x.lo = omega arith in rw e refl)
    go (Some h) below = (let e : max x.lo 0 ≡ x.lo = omega arith in rw e (proper_self x.lo (Some h) below))

pub add_ends_assoc : (x y z : Option ℕ) → add_ends (add_ends x y) z ≡ add_ends x (add_ends y z)
add_ends_assoc None y z = refl
add_ends_assoc (Some x) None z = refl
add_ends_assoc (Some x) (Some y) None = refl
add_ends_assoc (Some x) (Some y) (Some z) = ap Some (omega arith)

pub same_interval :
    {x y : ℕ} {u v : Option ℕ} → x ≡ y → u ≡ v →
    ◌≡◌ {A = Option Interval} (Some (record { lo = x; hi = u })) (Some (record { lo = y; hi = v }))
same_interval e f = cc

pub plus_none : (x : Option Interval) → plus x None ≡ None
plus_none None = refl
plus_none (Some a) = refl

pub plus_assoc : (a b c : Option Interval) → plus (plus a b) c ≡ plus a (plus b c)
plus_assoc None b c = refl
plus_assoc (Some a) None c = refl
plus_assoc (Some a) (Some b) None = refl
plus_assoc (Some a) (Some b) (Some c) =
    let lows : (a.lo + b.lo) + c.lo ≡ a.lo + (b.lo + c.lo) = omega arith in
    let highs = add_ends_assoc a.hi b.hi c.hi in
    same_interval lows highs

-- adding the numbers {0} changes nothing
pub plus_zero : (x : Option Interval) → plus (Some (record { lo = 0; hi = Some 0 })) x ≡ x
plus_zero None = refl
plus_zero (Some a) = same_interval (omega arith) (ends a.hi)
  where
    ends : (x : Option ℕ) → add_ends (Some 0) x ≡ x
    ends None = refl
    ends (Some h) = ap Some (omega arith)

pub zero_plus : (a : Interval) → plus (Some a) (Some (record { lo = 0; hi = Some 0 })) ≡ Some a
zero_plus a = same_interval (omega arith) (ends a.hi)
  where
    ends : (x : Option ℕ) → add_ends x (Some 0) ≡ x
    ends None = refl
    ends (Some h) = ap Some (omega arith)
