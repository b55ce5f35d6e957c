-- Things that go one after another, each where those before it are gone.
use Rattle.std.proofs.Common.{◌≡◌, ℕ, ◌<◌, inl, inr, List, [], ◌∷◌, ◌++◌, arith, sym, subst, ap, ◌∙◌, length, take, get_or}
use Rattle.std.proofs.Math.Seq.{get_or-append_seam, take-append_seam}
use Rattle.std.proofs.lemmas.Bool.{cases_lt}
use Rattle.std.proofs.lemmas.List.{get_or_append_left, length-append, take-append-le}
use Rattle.std.proofs.lemmas.Option.{get_or_from_slice_get, slice_get-get_or, slice_get_within}
use Rattle.std.specs.Prelude.{Some, slice_get}

module _ {A : Type 0} (Goes : List A → A → Type 0) where
  -- each went in its turn
  abbrev pub InTurn : List A → Type 0
  InTurn gone = (r : ℕ) (p : A) → slice_get gone r ≡ Some p → Goes (take r gone) p

  -- where each went in its turn, so did one more that goes next
  pub in_turn_more : (gone : List A) (p : A) → InTurn gone → Goes gone p → InTurn (gone ++ p ∷ [])
  in_turn_more gone p turns next r q is = elim (cases_lt r (length gone)) [
    | inl lt ↦ earlier lt
    | inr ge ↦ last (let w = slice_get_within (gone ++ p ∷ []) r q is in let l = length-append gone (p ∷ []) in omega arith)
  ]
    where
      item : get_or (gone ++ p ∷ []) r q ≡ q
      item = get_or_from_slice_get (gone ++ p ∷ []) r q q is

      earlier : r < length gone → Goes (take r (gone ++ p ∷ [])) q
      earlier lt =
          subst (λ ps. Goes ps q) (sym (take-append-le r gone (p ∷ []) (omega arith)))
          (turns r q (slice_get-get_or gone r q lt ∙ ap (λ u. Some u) (sym (get_or_append_left gone (p ∷ []) q r lt) ∙ item)))

      last : r ≡ length gone → Goes (take r (gone ++ p ∷ [])) q
      last e =
          let same : p ≡ q = sym (get_or-append_seam gone p [] q) ∙ (ap (λ i. get_or (gone ++ p ∷ []) i q) (sym e) ∙ item) in
          let before : take r (gone ++ p ∷ []) ≡ gone = ap (λ i. take i (gone ++ p ∷ [])) e ∙ take-append_seam gone (p ∷ []) in
          subst (λ ps. Goes ps q) (sym before) (subst (λ u. Goes gone u) same next)
