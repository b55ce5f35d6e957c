-- The place of a fault.
use Rattle.std.proofs.Common.{◌≡◌, Ok, Err, sym, subst, ◌∙◌}
use Rattle.rdf_cursor.specs.Ahead.{Ahead, finished, prepend}
use Rattle.rdf_cursor.specs.Readers.{Answer, Reader}
use Rattle.rdf_cursor.specs.Properties.{IsLocalAt, IsLocal, Blocked}
use Rattle.rdf_cursor.proofs.Answers.{apart, err_is}

blocked_at : {T F A : Type 0} (p : Reader T F A) (Spells : A → Ahead T → Type 0) → ((x : A) (ts : Ahead T) → Spells x ts → p ts ≡ Ok (x, finished))
    → (ts : Ahead T) (a : Answer T F A) (f : F) (rest : Ahead T) → a ≡ Err (f, rest) → IsLocalAt p ts a → Blocked Spells ts rest
blocked_at p Spells complete ts (Ok y) f rest e l = absurd cc
blocked_at {T = T} {F = F} {A = A} p Spells complete ts (Err d) f rest e l =
    let same : d ≡ (f, rest) = err_is d (f, rest) e in
    subst (λ (d : F × Ahead T). Blocked Spells ts d.1) same (record {
      front = l.0;
      parts = l.1;
      none = λ x other h s. apart (x, finished) (d.0, other) (sym (complete x (prepend l.0 other) s) ∙ l.2 other h);
    })

-- Where a local reader reads each document that is spelled, no document goes on as the text does at a fault.
pub blocked : {T F A : Type 0} (p : Reader T F A) (Spells : A → Ahead T → Type 0) → IsLocal p → ((x : A) (ts : Ahead T) → Spells x ts → p ts ≡ Ok (x, finished))
    → (ts : Ahead T) (f : F) (rest : Ahead T) → p ts ≡ Err (f, rest) → Blocked Spells ts rest
blocked p Spells l complete ts f rest e = blocked_at p Spells complete ts (p ts) f rest e (l ts)
