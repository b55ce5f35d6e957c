use Rattle.std.proofs.Common.{◌≡◌, ◌++◌, ◌∷◌, [], ap, sym, append_assoc, ◌∙◌}
use Rattle.std.proofs.lemmas.List.Folds.{flat_map-map}
use Rattle.std.specs.Fmt.{decimal}
use Rattle.std.specs.List.{flat_map}
use Rattle.proof_file.specs.Text.{kind_fields, place_text, state_text}
use Rattle.proof_file.proofs.write.push_kind.Goals as goal

pub returns-in_ok-push_places-in-Plus : goal.returns-in_ok-push_places-in-Plus
returns-in_ok-push_places-in-Plus c =
    c.in_ok-push_places-in-Plus.ensures ∙ ap (λ z. c.args.out.now.items ++ z)
    (ap (λ z. flat_map (λ p. 32 ∷ place_text p) z) c.as_slice.ensures ∙ sym (flat_map-map (λ f. 32 ∷ f) place_text c.in-Plus.places)
    ∙ ap (λ z. flat_map (λ f. 32 ∷ f) (kind_fields z)) (sym c.in-Plus.is))

pub returns-in_ok-push_states-in-Minus : goal.returns-in_ok-push_states-in-Minus
returns-in_ok-push_states-in-Minus c =
    let a : c.push_number.new.out.items ≡ c.args.out.now.items ++ 32 ∷ decimal c.in-Minus.rank =
    c.in_ok-push_number-in-Minus.ensures ∙ ap (λ z. z ++ decimal c.in-Minus.rank) c.in_ok-push-in-Minus.ensures.items ∙ append_assoc c.args.out.now.items (32 ∷ []) (decimal c.in-Minus.rank) in
    c.in_ok-push_states-in-Minus.ensures ∙ ap (λ z. z ++ flat_map (λ x. 32 ∷ state_text x) c.as_slice-in-Minus.result.now) a
    ∙ append_assoc c.args.out.now.items (32 ∷ decimal c.in-Minus.rank) (flat_map (λ x. 32 ∷ state_text x) c.as_slice-in-Minus.result.now)
    ∙ ap (λ z. c.args.out.now.items ++ z)
    (ap (λ z. (32 ∷ decimal c.in-Minus.rank) ++ flat_map (λ x. 32 ∷ state_text x) z) c.as_slice-in-Minus.ensures
    ∙ ap (λ z. (32 ∷ decimal c.in-Minus.rank) ++ z) (sym (flat_map-map (λ f. 32 ∷ f) state_text c.in-Minus.states))
    ∙ ap (λ z. flat_map (λ f. 32 ∷ f) (kind_fields z)) (sym c.in-Minus.is))
