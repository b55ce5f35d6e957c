-- Removal of dot segments in the words of RFC 3986 section 5.2.4: an input buffer, an output buffer, and the rules 2A to 2E, of which the first that fits is applied until the input is empty.
use Rattle.std.specs.Prelude.{◌≡◌, ◌≢◌, ℕ, ◌↔◌, ◌⊎◌, true, false, List, [], ◌∷◌, ◌++◌, codes}
use Rattle.iri_resolve.specs.Text.{slash, Lacks, BeginsWith, until_last}
use Rattle.iri_resolve.specs.Dots.{is_dot_segment, without_dot_segments}

-- what rule 2E moves: a segment that is no dot segment, behind which the input ends or goes on with `/`
pub record IsMoved (segment input : List ℕ) : Type 0 where
  pub no_slash : Lacks slash segment
  pub ends : (input ≡ []) ⊎ BeginsWith input (codes "/")
  pub no_dot_segment : is_dot_segment segment ≡ false

-- an input and an output lead to a result
pub data Removes : List ℕ → List ℕ → List ℕ → Type 0 where
  -- 3: the input is empty, and the output is the result
  ends : {output : List ℕ} → Removes [] output output
  -- 2A: a prefix `../` or `./` is removed from the input
  drops_prefix : (dots : List ℕ) {input output result : List ℕ} → is_dot_segment dots ≡ true → Removes input output result → Removes (dots ++ slash ∷ input) output result
  -- 2B: a prefix `/./`, or the whole input `/.`, is replaced by `/`
  drops_dot : {input output result : List ℕ} → Removes (slash ∷ input) output result → Removes (codes "/./" ++ input) output result
  drops_last_dot : {output result : List ℕ} → Removes (codes "/") output result → Removes (codes "/.") output result
  -- 2C: a prefix `/../`, or the whole input `/..`, is replaced by `/`, and the last segment is removed from the output
  takes_back : {input output result : List ℕ} → Removes (slash ∷ input) (until_last slash output) result → Removes (codes "/../" ++ input) output result
  takes_last_back : {output result : List ℕ} → Removes (codes "/") (until_last slash output) result → Removes (codes "/..") output result
  -- 2D: the whole input `.` or `..` is removed
  drops_all : {dots output result : List ℕ} → is_dot_segment dots ≡ true → Removes [] output result → Removes dots output result
  -- 2E: else the first segment of the input, with its initial `/` if it has one, is moved to the output
  moves : (segment input : List ℕ) {output result : List ℕ} → IsMoved segment input → Removes input (output ++ slash ∷ segment) result → Removes (slash ∷ (segment ++ input)) output result
  moves_first : (segment input : List ℕ) {output result : List ℕ} → segment ≢ [] → IsMoved segment input → Removes input (output ++ segment) result → Removes (segment ++ input) output result

-- from a path and an empty output the rules lead to the path without its dot segments, and to nothing else
abbrev pub RemovalIsByTheRules : Type 0
RemovalIsByTheRules = (path result : List ℕ) → Removes path [] result ↔ (result ≡ without_dot_segments path)
