-- What a caller is handed back.
use Rattle.std.specs.Prelude.{List, MatchOption, Option, drop, length, ℕ, ◌++◌, ◌<◌, ◌≡◌, ◌≤◌}
use Rattle.call_parts.specs.declared.handed.Place.{Place}
use Rattle.call_parts.specs.declared.handed.Reply.{Reply}

-- the bytes are counted, and stand at the front of the place where there is room for them; all else there stays as it was
pub record IsHanded (before after : Place) (bytes : List ℕ) : Type 0 where
  pub count_is : after.count ≡ length bytes
  pub fits : length bytes ≤ length before.bytes.now → after.bytes.now ≡ bytes ++ drop (length bytes) before.bytes.now
  pub short : length before.bytes.now < length bytes → after.bytes.now ≡ before.bytes.now

-- nothing is handed over
pub record IsEmpty (before after : Place) : Type 0 where
  pub count_is : after.count ≡ 0
  pub stays : after.bytes.now ≡ before.bytes.now

-- what is printed, what is said and what the wanted file holds are handed over
pub record IsHandedOver (file : Option (List ℕ)) (printed said : List ℕ) (before after : Reply) : Type 0 where
  pub output_is : IsHanded before.output after.output printed
  pub errors_are : IsHanded before.errors after.errors said
  pub file_is : MatchOption file (IsEmpty before.file after.file) (IsHanded before.file after.file)

-- nothing is handed over at all
pub record IsLeft (before after : Reply) : Type 0 where
  pub output_is : IsEmpty before.output after.output
  pub errors_are : IsEmpty before.errors after.errors
  pub file_is : IsEmpty before.file after.file
