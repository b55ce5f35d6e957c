-- The reasons that the text of an explanation leaves out, since others say the same (own).
use Rattle.std.specs.Prelude.{ℕ, Bool, false, List, [], ◌∷◌, ◌-◌, ◌==◌, Option, Some, None, length, nat_eq, if◌then◌else◌, slice_get}
use Rattle.std.specs.List.{filter, flat_map, list_any}
use Rattle.nonconformance.specs.declared.reason.Reason.{Reason}
use Rattle.nonconformance.specs.declared.reason.Reason.TheVariants.{Forbidden, Unmatched, TooFew, TooMany, NoMatchingCounts, NoMatchingPlaces}
use Rattle.explanations.specs.declared.explanation.ToldReason.{ToldReason}

-- the constraint, where it is the only one
abbrev pub single : List ℕ → Option ℕ
single constraints = if length constraints == 1 then slice_get constraints 0 else None

-- the constraint is one of these
abbrev pub is_among : List ℕ → ℕ → Bool
is_among constraints i = list_any (nat_eq i) constraints

-- the reason is an unmatched triple that one of these constraints fits
abbrev pub fits_one : List ℕ → ToldReason → Bool
fits_one constraints told = list_any (λ m. is_among constraints m.constraint) told.misfits

-- how many unmatched triples one of these constraints fits
abbrev pub fitting : List ℕ → List ToldReason → ℕ
fitting constraints told = length (filter (fits_one constraints) told)

-- the number, if the constraint is there and is one of these
abbrev pub if_among : List ℕ → Option ℕ → ℕ → ℕ
if_among constraints None k = 0
if_among constraints (Some i) k = if is_among constraints i then k else 0

-- how many triples one of these constraints lacks by itself beyond the unmatched triples that it fits
abbrev pub lack_among : List ToldReason → List ℕ → Reason → ℕ
lack_among told constraints (TooFew own least found) = if_among constraints (single own) ((least - length found) - fitting own told)
lack_among told constraints (Forbidden t) = 0
lack_among told constraints (Unmatched t) = 0
lack_among told constraints (TooMany own most found) = 0
lack_among told constraints (NoMatchingCounts low high) = 0
lack_among told constraints NoMatchingPlaces = 0

-- how many of so many triples none of these constraints lacks by itself, as far as these reasons say
abbrev pub lack_beyond : List ToldReason → List ℕ → ℕ → List ToldReason → ℕ
lack_beyond told constraints k [] = k
lack_beyond told constraints k (r ∷ more) = lack_beyond told constraints (k - lack_among told constraints r.reason) more

-- at least as many unmatched triples as the constraints lack are fitted by one of them, or, where there are several, these triples and
-- what each lacks by itself are as many
abbrev pub is_lack_told : List ToldReason → List ℕ → ℕ → Bool
is_lack_told told constraints k =
    if length constraints == 1 then (k - fitting constraints told) == 0 else lack_beyond told constraints (k - fitting constraints told) told == 0

-- among these reasons others say the same
abbrev pub is_told_already : List ToldReason → Reason → Bool
is_told_already told (TooFew own least found) = is_lack_told told own (least - length found)
is_told_already told (Forbidden t) = false
is_told_already told (Unmatched t) = false
is_told_already told (TooMany own most found) = false
is_told_already told (NoMatchingCounts low high) = false
is_told_already told NoMatchingPlaces = false

-- the reason, unless others among these say the same
abbrev pub unless_told : List ToldReason → ToldReason → List ToldReason
unless_told told r = if is_told_already told r.reason then [] else r ∷ []

-- the reasons that the text shows
abbrev pub shown_reasons : List ToldReason → List ToldReason
shown_reasons told = flat_map (unless_told told) told
