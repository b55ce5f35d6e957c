-- Categories by their names of one letter or of two.
use Rattle.std.proofs.Common.{◌≡◌, ℕ, List, [], ◌∷◌, refl, sym, ap, ◌∙◌, Bool, true, false, cond, ◌&&◌}
use Rattle.std.specs.Prelude.{Option, Some, None, option_map, nat_eq}
use Rattle.std.specs.List.{find}
use Rattle.std.proofs.Math.Bool.{and-true}
use Rattle.ucd_category.specs.declared.GeneralCategory.{GeneralCategory}
use Rattle.ucd_category.specs.declared.GeneralCategoryGroup.{GeneralCategoryGroup}
use Rattle.xs_pattern.specs.declared.categories.TheConstants.{GROUPS, CATEGORIES}
use Rattle.xs_pattern.specs.declared.expression.Kind.{Kind}
use Rattle.xs_pattern.specs.declared.expression.Kind.TheVariants as Kinds
use Rattle.xs_pattern.specs.Spelling.{categories, is_same, named}
use Rattle.xs_pattern.proofs.Choices.{and_no}

-- names of one letter
abbrev with_one : List ℕ → Kind → List (ℕ × Kind) → List (ℕ × Kind)
with_one (a ∷ []) k rest = (a, k) ∷ rest
with_one _ k rest = rest

abbrev ones : List (List ℕ × Kind) → List (ℕ × Kind)
ones [] = []
ones (entry ∷ entries) = with_one entry.0 entry.1 (ones entries)

abbrev look : ℕ → List (ℕ × Kind) → Option Kind
look c [] = None
look c (e ∷ es) = cond (nat_eq e.0 c) (Some e.1) (look c es)

one_step : (name : List ℕ) (k : Kind) (c : ℕ) (rest : Option Kind) (others : List (ℕ × Kind)) → rest ≡ look c others → cond (is_same name (c ∷ [])) (Some k) rest ≡ look c (with_one name k others)
one_step [] k c rest others e = e
one_step (a ∷ []) k c rest others e = ap (λ b. cond b (Some k) rest) (and-true (nat_eq a c)) ∙ ap (cond (nat_eq a c) (Some k)) e
one_step (a ∷ (b ∷ bs)) k c rest others e = ap (λ v. cond v (Some k) rest) (and_no (nat_eq a c)) ∙ e

named_one : (entries : List (List ℕ × Kind)) (c : ℕ) → named entries (c ∷ []) ≡ look c (ones entries)
named_one [] c = refl
named_one (entry ∷ entries) c = one_step entry.0 entry.1 c (named entries (c ∷ [])) (ones entries) (named_one entries c)

abbrev group_entries : List (ℕ × GeneralCategoryGroup) → List (ℕ × Kind)
group_entries [] = []
group_entries (e ∷ es) = (e.0, Kinds.Group e.1) ∷ group_entries es

abbrev group_kind : Option (ℕ × GeneralCategoryGroup) → Option Kind
group_kind None = None
group_kind (Some e) = Some (Kinds.Group e.1)

found_group : (table : List (ℕ × GeneralCategoryGroup)) (c : ℕ) → group_kind (find (λ e. nat_eq e.0 c) table) ≡ look c (group_entries table)
found_group [] c = refl
found_group (e ∷ es) c = go (nat_eq e.0 c) (found_group es c)
  where
    go : (b : Bool) → group_kind (find (λ d. nat_eq d.0 c) es) ≡ look c (group_entries es) →
        group_kind (cond b (Some e) (find (λ d. nat_eq d.0 c) es)) ≡ cond b (Some (Kinds.Group e.1)) (look c (group_entries es))
    go true rest = refl
    go false rest = rest

all_ones : ones categories ≡ group_entries GROUPS
unfolding categories
all_ones = refl

-- the group of a letter
pub group_named : (c : ℕ) → group_kind (find (λ e. nat_eq e.0 c) GROUPS) ≡ named categories (c ∷ [])
group_named c = found_group GROUPS c ∙ (ap (look c) (sym all_ones) ∙ sym (named_one categories c))

-- names of two letters
abbrev with_two : List ℕ → Kind → List (ℕ × ℕ × Kind) → List (ℕ × ℕ × Kind)
with_two (a ∷ (b ∷ [])) k rest = (a, b, k) ∷ rest
with_two _ k rest = rest

abbrev twos : List (List ℕ × Kind) → List (ℕ × ℕ × Kind)
twos [] = []
twos (entry ∷ entries) = with_two entry.0 entry.1 (twos entries)

abbrev look_two : ℕ → ℕ → List (ℕ × ℕ × Kind) → Option Kind
look_two c d [] = None
look_two c d (e ∷ es) = cond (nat_eq e.0 c && nat_eq e.1 d) (Some e.2) (look_two c d es)

two_step : (name : List ℕ) (k : Kind) (c d : ℕ) (rest : Option Kind) (others : List (ℕ × ℕ × Kind)) → rest ≡ look_two c d others →
    cond (is_same name (c ∷ (d ∷ []))) (Some k) rest ≡ look_two c d (with_two name k others)
two_step [] k c d rest others e = e
two_step (a ∷ []) k c d rest others e = ap (λ v. cond v (Some k) rest) (and_no (nat_eq a c)) ∙ e
two_step (a ∷ (b ∷ [])) k c d rest others e =
    ap (λ v. cond (nat_eq a c && v) (Some k) rest) (and-true (nat_eq b d)) ∙ ap (cond (nat_eq a c && nat_eq b d) (Some k)) e
two_step (a ∷ (b ∷ (x ∷ xs))) k c d rest others e =
    ap (λ v. cond (nat_eq a c && v) (Some k) rest) (and_no (nat_eq b d)) ∙ (ap (λ v. cond v (Some k) rest) (and_no (nat_eq a c)) ∙ e)

named_two : (entries : List (List ℕ × Kind)) (c d : ℕ) → named entries (c ∷ (d ∷ [])) ≡ look_two c d (twos entries)
named_two [] c d = refl
named_two (entry ∷ entries) c d = two_step entry.0 entry.1 c d (named entries (c ∷ (d ∷ []))) (twos entries) (named_two entries c d)

abbrev category_entries : List (ℕ × ℕ × GeneralCategory) → List (ℕ × ℕ × Kind)
category_entries [] = []
category_entries (e ∷ es) = (e.0, e.1, Kinds.Category e.2) ∷ category_entries es

abbrev category_kind : Option (ℕ × ℕ × GeneralCategory) → Option Kind
category_kind None = None
category_kind (Some e) = Some (Kinds.Category e.2)

found_category : (table : List (ℕ × ℕ × GeneralCategory)) (c d : ℕ) → category_kind (find (λ e. nat_eq e.0 c && nat_eq e.1 d) table) ≡ look_two c d (category_entries table)
found_category [] c d = refl
found_category (e ∷ es) c d = go (nat_eq e.0 c && nat_eq e.1 d) (found_category es c d)
  where
    go : (b : Bool) → category_kind (find (λ x. nat_eq x.0 c && nat_eq x.1 d) es) ≡ look_two c d (category_entries es) →
        category_kind (cond b (Some e) (find (λ x. nat_eq x.0 c && nat_eq x.1 d) es)) ≡ cond b (Some (Kinds.Category e.2)) (look_two c d (category_entries es))
    go true rest = refl
    go false rest = rest

all_twos : twos categories ≡ category_entries CATEGORIES
unfolding categories
all_twos = refl

-- the category of two letters
pub category_named : (c d : ℕ) → category_kind (find (λ e. nat_eq e.0 c && nat_eq e.1 d) CATEGORIES) ≡ named categories (c ∷ (d ∷ []))
category_named c d = found_category CATEGORIES c d ∙ (ap (look_two c d) (sym all_twos) ∙ sym (named_two categories c d))

pub group_of : (o : Option GeneralCategoryGroup) (f : Option (ℕ × GeneralCategoryGroup)) → o ≡ option_map (λ (e : ℕ × GeneralCategoryGroup). e.1) f → option_map Kinds.Group o ≡ group_kind f
group_of o None h = ap (option_map Kinds.Group) h
group_of o (Some e) h = ap (option_map Kinds.Group) h

pub category_of : (o : Option GeneralCategory) (f : Option (ℕ × ℕ × GeneralCategory)) → o ≡ option_map (λ (e : ℕ × ℕ × GeneralCategory). e.2) f → option_map Kinds.Category o ≡ category_kind f
category_of o None h = ap (option_map Kinds.Category) h
category_of o (Some e) h = ap (option_map Kinds.Category) h
