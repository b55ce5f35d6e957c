-- Tests that decide equality.
use Rattle.std.proofs.Common.{◌≡◌, true≢false, is_none, is_some, unwrap_or, Bool, refl, sym, ap, Option, Some, None}
use Rattle.std.specs.Bool.{Decides}
use Rattle.std.specs.Cmp.{IsEquivalence, both_ways}
use Rattle.std.specs.Option.{option_eq}

-- a test that decides equality is an equivalence
pub decided_equiv : {X : Type 0} (same : X → X → Bool) → ((a b : X) → Decides (same a b) (a ≡ b)) → IsEquivalence same
decided_equiv same d = record {
  refl = λ a. (d a a).1 refl;
  symm = λ a b. both_ways (same a b) (same b a) (λ h. (d b a).1 (sym ((d a b).0 h))) (λ h. (d a b).1 (sym ((d b a).0 h)));
  congr = λ a b c h. ap (λ x. same x c) ((d a b).0 h);
}

pub option_decides : {X : Type 0} (same : X → X → Bool) → ((a b : X) → Decides (same a b) (a ≡ b)) → (a b : Option X) → Decides (option_eq same a b) (a ≡ b)
option_decides same d None None = (λ h. refl, λ e. refl)
option_decides same d None (Some b) = (λ h. absurd (true≢false (sym h)), λ e. absurd (true≢false (ap is_none e)))
option_decides same d (Some a) None = (λ h. absurd (true≢false (sym h)), λ e. absurd (true≢false (ap is_some e)))
option_decides same d (Some a) (Some b) = (λ h. ap (λ x. Some x) ((d a b).0 h), λ e. (d a b).1 (ap (λ x. unwrap_or x a) e))
