-- The lines that tell which ways a schema reads (own).
use Rattle.std.specs.Prelude.{ℕ, Bool, true, List, [], ◌∷◌, ◌++◌, ◌&&◌, ◌≡◌, ◌↔◌, Contains, None, codes, filter, map, not}
use Rattle.std.specs.List.{flat_map}
use Rattle.std.specs.List.Sorted.{IsStrictlySortedBy}
use Rattle.rdf_terms.specs.declared.terms.Term.{Term}
use Rattle.rdf_terms.specs.declared.terms.TermId.{TermId}
use Rattle.rdf_terms.specs.Order.{compare_at}
use Rattle.schema_tree.specs.declared.schema.Schema.{Schema}
use Rattle.shard_checks.specs.declared.way_lines.Reading.{Reading}
use Rattle.shard_checks.specs.declared.way_lines.Reading.TheVariants.{Followed, FollowedBack, Back}
use Rattle.shard_checks.specs.declared.ways.Way.{Way}
use Rattle.shard_checks.specs.Ways.{IsWay}
use Rattle.shard_checks.specs.Written.{number_on_line}

-- a way is followed along its triples or against them, or is read back
abbrev pub reads_so : Reading → Way → Bool
reads_so Followed w = w.followed && not w.inverse
reads_so FollowedBack w = w.followed && w.inverse
reads_so Back w = w.inverse

-- the predicates of those of the ways that are read so
abbrev pub predicates_in : Reading → List Way → List TermId
predicates_in reading ways = map (λ w. w.predicate) (filter (reads_so reading) ways)

-- these are the ways of a schema
abbrev pub HasWays : Schema → List Way → Type 0
HasWays s ways = (w : Way) → Contains ways w ↔ IsWay s w

-- what stands before the predicate
abbrev pub word_of : Reading → List ℕ
word_of Followed = codes "follow "
word_of FollowedBack = codes "follow ^"
word_of Back = codes "read ^"

abbrev pub way_line : List Term → Reading → TermId → List ℕ
way_line terms reading p = word_of reading ++ (number_on_line None terms p ++ 10 ∷ [])

-- the predicates of the ways of a schema that are read so, each once, in the order of their texts
pub record AreReadSo (s : Schema) (terms : List Term) (reading : Reading) (predicates : List TermId) : Type 0 where
  pub sorted : IsStrictlySortedBy (compare_at terms) predicates
  pub exactly : (p : TermId) → Contains predicates p ↔ ((w : Way) × IsWay s w × (reads_so reading w ≡ true) × (w.predicate ≡ p))

-- the text has a line for each of these: first the ways that are followed along their triples, then those against them, then what is read back
pub record TellsWays (s : Schema) (terms : List Term) (text : List ℕ) : Type 0 where
  pub followed : List TermId
  pub are_followed : AreReadSo s terms Followed followed
  pub followed_back : List TermId
  pub are_followed_back : AreReadSo s terms FollowedBack followed_back
  pub back : List TermId
  pub are_back : AreReadSo s terms Back back
  pub text_is : text ≡ flat_map (way_line terms Followed) followed ++ (flat_map (way_line terms FollowedBack) followed_back ++ flat_map (way_line terms Back) back)
