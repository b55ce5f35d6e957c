-- What words ask for, by `clap`'s definition of the matches, before it is checked.
use Rattle.std.specs.Prelude.{◌≡◌, ◌≢◌, ◌∷◌, ◌++◌, ◌||◌, ◌&&◌, Bool, true, false, ℕ, List, [], Option, Some, None, codes, nat_eq, not, unwrap_or}
use Rattle.std.specs.Char.{is_ascii_alphanumeric, is_ascii_digit}
use Rattle.std.specs.List.{AllZip, list_all}
use Rattle.clap.specs.Words.{App, Row, Text, all_of, first_of}
use Rattle.iri_resolve.specs.Text.{Lacks}
use Rattle.command_words.specs.Commands.{faults, rows}
use Rattle.command_words.specs.Requests.{Given, IsBudget, IsGiven, default_base}

-- a schema's file and its base
pub record Converting : Type 0 where
  pub schema : Text
  pub schema_base : Text

-- what every command of files is given, and a budget
pub record Budgeted : Type 0 where
  pub given : Given
  pub budget : ℕ

-- and the file of a script
pub record Scripted : Type 0 where
  pub budgeted : Budgeted
  pub script : Text

-- the file of a map, how much is printed under one line, and whether it is printed as JSON
pub record Explained : Type 0 where
  pub budgeted : Budgeted
  pub map_file : Text
  pub limit : ℕ
  pub json : Bool

-- a data file, what goes before the names of its blank nodes, if they are not kept as they are, and the base of the data
pub record Lining : Type 0 where
  pub data_file : Text
  pub prefix : Option Text
  pub data_base : Text

-- a schema's file, its base, and the import words
pub record Schemed : Type 0 where
  pub schema : Text
  pub schema_base : Text
  pub import_words : List Text

-- what every command of files is given, and the file of a map
pub record Mapped : Type 0 where
  pub given : Given
  pub map_file : Text

-- the file of a shard, and that of the nodes at which it is to have what is read
pub record ShardFiles : Type 0 where
  pub nodes : Text
  pub shard : Text

-- the file of the ways that a schema reads, that of a part of the data, and those of shards
pub record Covering : Type 0 where
  pub ways : Text
  pub part : Text
  pub shards : List ShardFiles

-- how much is printed under one line where nothing is said of it (own)
abbrev pub default_limit : ℕ
default_limit = 20

-- the limit that is given, which is a number as budgets are
abbrev pub IsLimit : Option Text → ℕ → Type 0
IsLimit None n = n ≡ default_limit
IsLimit (Some text) n = IsBudget (Some text) n

-- whether a flag is given, by the value that `clap` finds for it
abbrev pub IsFlag : Option Text → Bool → Type 0
IsFlag value true = value ≡ Some (codes "true")
IsFlag value false = value ≢ Some (codes "true")

-- a prefix is letters, digits and `_`, and begins with no digit; it may be empty (own)
abbrev pub is_prefix_character : ℕ → Bool
is_prefix_character b = is_ascii_alphanumeric b || nat_eq b 95

abbrev pub begins_with_digit : Text → Bool
begins_with_digit [] = false
begins_with_digit (b ∷ bs) = is_ascii_digit b

unfoldable pub is_prefix : Text → Bool
is_prefix text = not (begins_with_digit text) && list_all is_prefix_character text

-- the prefix that is given, if there is one
abbrev pub IsPrefix : Option Text → Option Text → Type 0
IsPrefix None prefix = prefix ≡ None
IsPrefix (Some text) prefix = (prefix ≡ Some text) × (is_prefix text ≡ true)

-- the last `=` of a word divides it into the names of both files, and neither is empty
pub record NamesBoth (word : Text) (s : ShardFiles) : Type 0 where
  pub whole : word ≡ s.nodes ++ (codes "=" ++ s.shard)
  pub last : Lacks 61 s.shard
  pub nodes : s.nodes ≢ []
  pub shard : s.shard ≢ []

-- the values, among those that `clap` finds
pub record IsNamed (found : List Row) (c : Converting) : Type 0 where
  pub schema : first_of (codes "schema") found ≡ Some c.schema
  pub schema_base : unwrap_or (first_of (codes "schema-base") found) default_base ≡ c.schema_base

pub record IsBudgeted (found : List Row) (b : Budgeted) : Type 0 where
  pub given : IsGiven found b.given
  pub is_budget : IsBudget (first_of (codes "budget") found) b.budget

pub record IsScripted (found : List Row) (s : Scripted) : Type 0 where
  pub budgeted : IsBudgeted found s.budgeted
  pub script : first_of (codes "script") found ≡ Some s.script

pub record IsExplained (found : List Row) (e : Explained) : Type 0 where
  pub budgeted : IsBudgeted found e.budgeted
  pub map_file : first_of (codes "map") found ≡ Some e.map_file
  pub limit : IsLimit (first_of (codes "limit") found) e.limit
  pub json : IsFlag (first_of (codes "json") found) e.json

pub record IsLining (found : List Row) (l : Lining) : Type 0 where
  pub data_file : first_of (codes "data") found ≡ Some l.data_file
  pub prefix : IsPrefix (first_of (codes "prefix") found) l.prefix
  pub data_base : unwrap_or (first_of (codes "data-base") found) default_base ≡ l.data_base

pub record IsSchemed (found : List Row) (s : Schemed) : Type 0 where
  pub schema : first_of (codes "schema") found ≡ Some s.schema
  pub schema_base : unwrap_or (first_of (codes "schema-base") found) default_base ≡ s.schema_base
  pub import_words : unwrap_or (all_of (codes "imports") found) [] ≡ s.import_words

pub record IsMapped (found : List Row) (m : Mapped) : Type 0 where
  pub given : IsGiven found m.given
  pub map_file : first_of (codes "map") found ≡ Some m.map_file

pub record IsCovering (found : List Row) (c : Covering) : Type 0 where
  pub ways : first_of (codes "followed") found ≡ Some c.ways
  pub part : first_of (codes "part") found ≡ Some c.part
  pub shards : AllZip NamesBoth (unwrap_or (all_of (codes "shards") found) []) c.shards

-- `clap` takes the words by a command, and these are the values that it finds
pub record Asks {R : Type 0} (app : App) (Are : List Row → R → Type 0) (words : List Text) (request : R) : Type 0 where
  pub taken : faults app words ≡ []
  pub found : Are (rows app words) request
