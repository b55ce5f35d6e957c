-- Import words by their numbers.
use Rattle.std.proofs.Common.{◌≡◌, ◌∙◌, ap, sym, refl, ℕ, ◌+◌, ◌<◌, Bool, cond, not, List, [], ◌∷◌, arith, get_or, length, map}
use Rattle.std.specs.Prelude.{nat_lt, Option, Some, None, option_map}
use Rattle.std.specs.Str.{bytes_eq}
use Rattle.std.specs.List.{position, position_or_len}
use Rattle.std.proofs.lemmas.List.{get_or-map, length-map}
use Rattle.input_names.specs.Lent.{import_of}
use Rattle.input_names.specs.declared.inputs.Import.{Import as Lent}
use Rattle.schema_files.specs.declared.error.SchemaFile.TheVariants.{Imported}
use Rattle.schema_files.specs.Named.{file_for}

module _ {X Y : Type 0} (f : X → Y) (p : Y → Bool) where
  place_in_map : (xs : List X) → position_or_len p (map f xs) ≡ position_or_len (λ x. p (f x)) xs
  place_in_map [] = refl
  place_in_map (x ∷ xs) = ap (λ (n : ℕ). cond (not (p (f x))) (1 + n) 0) (place_in_map xs)

  pub position_in_map : (xs : List X) → position p (map f xs) ≡ position (λ x. p (f x)) xs
  position_in_map xs =
      ap (λ (n : ℕ). cond (nat_lt n (length (map f xs))) (Some n) None) (place_in_map xs)
      ∙ ap (λ (n : ℕ). cond (nat_lt (position_or_len (λ x. p (f x)) xs) n) (Some (position_or_len (λ x. p (f x)) xs)) None) (length-map xs f)

-- the item at a place, seen twice
pub seen_twice : {X Y Z : Type 0} (f : X → Y) (g : Y → Z) (xs : List X) (n : ℕ) (x : X) (d : Z) → n < length xs → x ≡ get_or xs n x → g (f x) ≡ get_or (map g (map f xs)) n d
seen_twice f g xs n x d inside is =
    let within : n < length (map f xs) = omega (arith, inside, length-map xs f) in
    ap (λ y. g (f y)) is ∙ ap g (sym (get_or-map f xs n x (f x) inside)) ∙ sym (get_or-map g (map f xs) n (f x) d within)

-- the number of the first word with an IRI, by the words as they are lent
pub numbered : (words : List Lent) (iri bytes : List ℕ) (o : Option ℕ) → iri ≡ bytes → o ≡ position (λ w. bytes_eq w.iri.now iri) words →
    option_map (λ n. Imported n) o ≡ file_for (map import_of words) bytes
numbered words iri bytes o same is =
    ap (option_map (λ n. Imported n)) (is ∙ ap (λ t. position (λ w. bytes_eq w.iri.now t) words) same ∙ sym (position_in_map import_of (λ w. bytes_eq w.iri bytes) words))
