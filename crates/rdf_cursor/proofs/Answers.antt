-- Answers: what a value came from, and that values and faults are apart.
use Rattle.std.proofs.Common.{◌≡◌, Result, Ok, Err, refl}
use Rattle.rdf_cursor.specs.Ahead.{Ahead}
use Rattle.rdf_cursor.specs.Readers.{Answer, Reader, and_then}

-- what a success came from
pub then_ok : {T F A B : Type 0} (a : Answer T F A) (f : A → Reader T F B) (y : B × Ahead T) → and_then a f ≡ Ok y → (x : A × Ahead T) × (a ≡ Ok x) × (f x.0 x.1 ≡ Ok y)
then_ok (Ok x) f y e = (x, refl, e)
then_ok (Err d) f y e = absurd cc

pub apart : {X E : Type 0} (x : X) (y : E) → Path (Result X E) (Ok x) (Err y) → ⊥
apart x y e = cc

pub err_is : {X E : Type 0} (x y : E) → Path (Result X E) (Err x) (Err y) → x ≡ y
err_is x y e = cc

pub ok_is : {X E : Type 0} (x y : X) → Path (Result X E) (Ok x) (Ok y) → x ≡ y
ok_is x y e = cc
