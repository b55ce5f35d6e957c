-- The tokens that are passed before a place.
use Rattle.std.proofs.Common.{◌≡◌, List, ◌++◌, Ok, Err, sym, ap, ◌∙◌}
use Rattle.rdf_cursor.specs.Ahead.{Ahead, prepend}
use Rattle.rdf_cursor.specs.Properties.{IsLocalAt}
use Rattle.rdf_cursor.specs.Readers.{Answer, Reader}
use Rattle.rdf_cursor.proofs.Answers.{ok_is, err_is}
use Rattle.rdf_cursor.proofs.Locality.{prepend-append}

-- what lies ahead is some tokens, and behind them what lies ahead there
abbrev pub Front : {T : Type 0} → Ahead T → Ahead T → Type 0
Front {T = T} ts rest = (front : List T) × (ts ≡ prepend front rest)

-- those that are passed before a value
pub front_ok : {T F A : Type 0} (p : Reader T F A) (ts : Ahead T) (a : Answer T F A) (x : A) (rest : Ahead T) → a ≡ Ok (x, rest) → IsLocalAt p ts a → Front ts rest
front_ok {T = T} {A = A} p ts (Ok y) x rest e l = (l.0, l.1 ∙ ap (λ (v : A × Ahead T). prepend l.0 v.1) (ok_is y (x, rest) e))
front_ok p ts (Err y) x rest e l = absurd cc

-- those that are passed before a fault
pub front_err : {T F A : Type 0} (p : Reader T F A) (ts : Ahead T) (a : Answer T F A) (f : F) (rest : Ahead T) → a ≡ Err (f, rest) → IsLocalAt p ts a → Front ts rest
front_err p ts (Ok y) f rest e l = absurd cc
front_err {T = T} {F = F} p ts (Err y) f rest e l = (l.0, l.1 ∙ ap (λ (v : F × Ahead T). prepend l.0 v.1) (err_is y (f, rest) e))

-- some tokens, and behind them others
pub both_fronts : {T : Type 0} (ts mid rest : Ahead T) → Front ts mid → Front mid rest → Front ts rest
both_fronts ts mid rest (a, e) (b, f) = (a ++ b, e ∙ ap (prepend a) f ∙ sym (prepend-append a b rest))
