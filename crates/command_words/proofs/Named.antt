-- Names among others.
use Rattle.std.proofs.Common.{◌≡◌, ◌∙◌, ◌||◌, ◌++◌, Bool, false, List, [], ◌∷◌, refl, sym, ap, map}
use Rattle.std.specs.List.{list_any}
use Rattle.std.proofs.lemmas.List.Folds.{list_any-append}
use Rattle.std.specs.Str.{bytes_eq}
use Rattle.clap.specs.Words.{Text}
use Rattle.input_names.specs.Names.{is_among}

any_mapped : {X Y : Type 0} (f : X → Y) (p : Y → Bool) (xs : List X) → list_any (λ x. p (f x)) xs ≡ list_any p (map f xs)
any_mapped f p [] = refl
any_mapped f p (x ∷ xs) = ap (λ (b : Bool). p (f x) || b) (any_mapped f p xs)

-- among some names, or those of some things
pub among_both : {X : Type 0} (name : Text) (names : List Text) (f : X → Text) (xs : List X) → is_among name (names ++ map f xs) ≡ (is_among name names || list_any (λ x. bytes_eq (f x) name) xs)
among_both name names f xs =
    list_any-append (λ other. bytes_eq other name) names (map f xs)
    ∙ ap (λ (b : Bool). is_among name names || b) (sym (any_mapped f (λ other. bytes_eq other name) xs))

-- a name that is none of these is among all where it is that of one of some things
pub named_by : {X Y : Type 0} (name schema source : Text) (maps : List Text) (f : Y → Text) (g : X → Y) (xs : List X) (r : Bool)
    → bytes_eq schema name ≡ false → bytes_eq source name ≡ false → is_among name maps ≡ false → r ≡ list_any (λ x. bytes_eq (f (g x)) name) xs → r ≡
    is_among name (schema ∷ source ∷ maps ++ map f (map g xs))
named_by name schema source maps f g xs r a b m e = e ∙ sym whole
  where
    mapped : is_among name (maps ++ map f (map g xs)) ≡ (is_among name maps || list_any (λ x. bytes_eq (f (g x)) name) xs)
    mapped = among_both name maps f (map g xs) ∙ ap (λ (c : Bool). is_among name maps || c) (sym (any_mapped g (λ y. bytes_eq (f y) name) xs))

    whole : is_among name (schema ∷ source ∷ maps ++ map f (map g xs)) ≡ list_any (λ x. bytes_eq (f (g x)) name) xs
    whole =
        ap (λ (c : Bool). c || (bytes_eq source name || is_among name (maps ++ map f (map g xs)))) a
        ∙ ap (λ (c : Bool). c || is_among name (maps ++ map f (map g xs))) b
        ∙ mapped
        ∙ ap (λ (c : Bool). c || list_any (λ x. bytes_eq (f (g x)) name) xs) m
