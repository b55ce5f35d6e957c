-- What named files hold.
use Rattle.std.specs.Prelude.{ℕ, List, ◌≡◌, ◌≢◌, ◌+◌, ◌⊎◌, length, min, Option, Some, None, ⊤}
use Rattle.shex_io.specs.Bytes.{IsPrefix}

-- what each name holds, where this is told; an absent name holds `None`
abbrev pub Told : Type 0
Told = Option (List ℕ → Option (List ℕ))

-- the name holds this, if contents are told
abbrev pub Holds : Told → List ℕ → Option (List ℕ) → Type 0
Holds None name held = ⊤
Holds (Some contents) name held = contents name ≡ held

-- contents are told, and the name is absent
abbrev pub Lacks : Told → List ℕ → Type 0
Lacks None name = ⊥
Lacks (Some contents) name = contents name ≡ None

-- bytes are held, and taken is the lesser of their number and the limit plus one
abbrev pub IsTakenOfHeld : Option (List ℕ) → ℕ → ℕ → Type 0
IsTakenOfHeld None limit taken = ⊥
IsTakenOfHeld (Some bytes) limit taken = taken ≡ min (length bytes) (limit + 1)

-- if contents are told, this is how many bytes a fetch of the name under this limit takes
abbrev pub IsTakenOf : Told → List ℕ → ℕ → ℕ → Type 0
IsTakenOf None name limit taken = ⊤
IsTakenOf (Some contents) name limit taken = IsTakenOfHeld (contents name) limit taken

-- every name but this one holds what it held
abbrev pub KeepsOtherNames : (List ℕ → Option (List ℕ)) → (List ℕ → Option (List ℕ)) → List ℕ → Type 0
KeepsOtherNames old new name = (other : List ℕ) → other ≢ name → new other ≡ old other

-- every name but this one holds what it held, and contents stay told or untold
abbrev pub KeepsOthers : Told → Told → List ℕ → Type 0
KeepsOthers None None name = ⊤
KeepsOthers (Some old) (Some new) name = KeepsOtherNames old new name
KeepsOthers old new name = ⊥

-- a prefix of the bytes is held
abbrev pub IsPart : Option (List ℕ) → List ℕ → Type 0
IsPart held bytes = (part : List ℕ) × IsPrefix part bytes × (held ≡ Some part)

-- if contents are told, the name holds what it held, or a prefix of the bytes
abbrev pub HoldsPart : Told → Told → List ℕ → List ℕ → Type 0
HoldsPart None None name bytes = ⊤
HoldsPart (Some old) (Some new) name bytes = (new name ≡ old name) ⊎ IsPart (new name) bytes
HoldsPart old new name bytes = ⊥
