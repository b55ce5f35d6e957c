-- How the bytes that a sink got add up.
use Rattle.std.proofs.Common.{◌≡◌, ℕ, ◌+◌, List, [], ◌++◌, sym, take, drop, length, append_assoc, ◌-◌, length-drop}
use Rattle.std.proofs.lemmas.List.{take-append-drop, take_rest}
use Rattle.std.proofs.Math.Seq.{take-add}
use Rattle.std.specs.Prelude.{Option, Some, None, Result, Ok, Err, OnErr}
use Rattle.shex_io.specs.Sinks.{Gains, GainsPrefix}

pub gains_more : (a b c : Option (List ℕ)) (xs ys : List ℕ) → Gains a b xs → Gains b c ys → Gains a c (xs ++ ys)
gains_more None None None xs ys h k = tt
gains_more (Some a) (Some b) (Some c) xs ys h k = simp (k, h, append_assoc)
gains_more None (Some b) c xs ys h k = absurd h
gains_more (Some a) None c xs ys h k = absurd h
gains_more None None (Some c) xs ys h k = absurd k
gains_more (Some a) (Some b) None xs ys h k = absurd k

pub prefix_at_error : (a b c : Option (List ℕ)) (at : ℕ) (whole : List ℕ) → Gains a b (take at whole) → c ≡ b → GainsPrefix a c whole
prefix_at_error a b c at whole h e = (take at whole, (drop at whole, sym (take-append-drop at whole)), rw e h)

pub on_err_any : {T E P : Type 0} (r : Result T E) → P → OnErr r P
on_err_any (Ok x) p = tt
on_err_any (Err e) p = p

pub rest_length : (at : ℕ) (whole : List ℕ) → length (take (length whole - at) (drop at whole)) ≡ length whole - at
rest_length at whole = rw (take_rest, length-drop)

pub gains_step :
    (a b c : Option (List ℕ)) (at k : ℕ) (whole : List ℕ) →
    Gains a b (take at whole) → Gains b c (take k (take (length whole - at) (drop at whole))) → Gains a c (take (at + k) whole)
gains_step a b c at k whole h more =
    let more' = rw take_rest at more in
    rw take-add (gains_more a b c (take at whole) (take k (drop at whole)) h more')
