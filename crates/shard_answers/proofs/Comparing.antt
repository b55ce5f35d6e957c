-- Shards are compared with a part one after the other.
use Rattle.std.proofs.Common.{◌≡◌, ◌∙◌, ◌<◌, ◌≤◌, ◌+◌, ◌++◌, ◌∷◌, Bool, true, false, true≢false, ℕ, suc, List, [], ap, arith, drop, get_or, inl, inr, length, map, refl, subst, sym, take}
use Rattle.std.proofs.lemmas.List.{length-map, length-take-le, map-append, take-append-drop, take_all, take_more}
use Rattle.std.proofs.Math.Seq.{drop-cons}
use Rattle.std.specs.List.{AllByRecursion}
use Rattle.std.specs.Option.{option_map}
use Rattle.std.specs.Prelude.{None, Option, Some, is_some, slice_get}
use Rattle.shex_io.specs.Fetching.{IsFile}
use Rattle.shard_checks.specs.Cover.{read_back_in}
use Rattle.shard_checks.specs.Lines.{lines_of}
use Rattle.shex_io.specs.Files.{Told}
use Rattle.shex_io.specs.declared.files.Act.{Act}
use Rattle.tool_words.specs.declared.call.ShardFiles.{ShardFiles as Lent}
use Rattle.tool_words.specs.Asked.{ShardCall, of_cover}
use Rattle.tool_words.specs.Lent.{shard_of}
use Rattle.tool_words.specs.Requests.{Covering, ShardFiles}
use Rattle.shard_answers.specs.declared.error.CoverFile.TheVariants.{Nodes, Shard}
use Rattle.shard_answers.specs.declared.error.ShardError.{ShardError}
use Rattle.shard_answers.specs.declared.error.CallFile.TheVariants.{Cover}
use Rattle.shard_answers.specs.Answers.{AreCompared, CoversTo, Finds, FindsFirst, LackNothing}
use Rattle.shard_answers.specs.declared.error.CallFile.{CallFile}
use Rattle.shard_answers.specs.Refusals.{ComesTo, Reaches}
use Rattle.shard_answers.specs.Sources.{name_of, nodes_name, shard_name}
use Rattle.shard_answers.specs.Stops.{ComparingStops, Explains, FaultsAs, FetchStops, PairStops}
use Rattle.shard_answers.proofs.Stopping.{fetch_explains, fetch_faults}

-- the item behind some items
pub behind : {X : Type 0} (xs ys : List X) (y : X) → slice_get (xs ++ y ∷ ys) (length xs) ≡ Some y
behind [] ys y = refl
behind (x ∷ xs) ys y = behind xs ys y

module _ (told : Told) (c : Covering) (ways part : List ℕ) (are : AreCompared told c ways part) (before after : ℕ) (blame : List ℕ) (act : Act) (e : ShardError) where
  abbrev Stops : Type 0
  Stops = ComparingStops told (lines_of part) (read_back_in (lines_of ways)) c.shards before after blame act e

  abbrev come : (h : Stops) → ComesTo told c (length h.those)
  come h = record {
    before = h.those;
    shard = h.one;
    behind = h.others;
    shards_are = h.shards_are;
    place = refl;
    comes = record { ways = ways; part = part; are_compared = are; lack_nothing = h.lack_nothing };
  }

  place : (h : Stops) → slice_get c.shards (length h.those) ≡ Some h.one
  place h = ap (λ ss. slice_get ss (length h.those)) h.shards_are ∙ behind h.those h.others h.one

  nodes_stop : (h : Stops) → FetchStops told h.one.nodes (Cover (Nodes (length h.those))) before after blame act e →
      FetchStops told (nodes_name (slice_get c.shards (length h.those))) (Cover (Nodes (length h.those))) before after blame act e
  nodes_stop h stops = subst (λ o. FetchStops told (nodes_name o) (Cover (Nodes (length h.those))) before after blame act e) (sym (place h)) stops

  shard_stop : (h : Stops) → FetchStops told h.one.shard (Cover (Shard (length h.those))) before after blame act e →
      FetchStops told (shard_name (slice_get c.shards (length h.those))) (Cover (Shard (length h.those))) before after blame act e
  shard_stop h stops = subst (λ o. FetchStops told (shard_name o) (Cover (Shard (length h.those))) before after blame act e) (sym (place h)) stops

  -- shards that are not compared
  explained_by : (h : Stops) → PairStops told h.one (length h.those) before after blame act e → Explains told (of_cover c) e
  explained_by h (inl stops) = fetch_explains told (of_cover c) (Cover (Nodes (length h.those))) before after blame act e (come h) (nodes_stop h stops)
  explained_by h (inr (nodes, file, stops)) = fetch_explains told (of_cover c) (Cover (Shard (length h.those))) before after blame act e (come h, nodes, file) (shard_stop h stops)

  faults_by : (h : Stops) → PairStops told h.one (length h.those) before after blame act e → FaultsAs (of_cover c) before after blame act e
  faults_by h (inl stops) = fetch_faults told (of_cover c) (Cover (Nodes (length h.those))) before after blame act e (nodes_stop h stops)
  faults_by h (inr (nodes, file, stops)) = fetch_faults told (of_cover c) (Cover (Shard (length h.those))) before after blame act e (shard_stop h stops)

  comparing_explains : Stops → Explains told (of_cover c) e
  comparing_explains h = explained_by h h.stops

  comparing_faults : Stops → FaultsAs (of_cover c) before after blame act e
  comparing_faults h = faults_by h h.stops

-- what holds of items holds of them with one more
all_push : {X : Type 0} (P : X → Type 0) (xs : List X) (x : X) → AllByRecursion P xs → P x → AllByRecursion P (xs ++ x ∷ [])
all_push P [] x h p = (p, tt)
all_push P (y ∷ xs) x h p = (h.0, all_push P xs x h.1 p)

module _ (told : Told) (lines back : List (List ℕ)) (shards : List Lent) (i : ℕ) (d : Lent) (inside : i < length shards) where
  -- the shards up to the next
  upto : map shard_of (take (i + 1) shards) ≡ map shard_of (take i shards) ++ (shard_of (get_or shards i d) ∷ [])
  upto = ap (map shard_of) (take_more shards i d inside) ∙ map-append shard_of (take i shards) (get_or shards i d ∷ [])

  -- the next among all
  around : map shard_of shards ≡ map shard_of (take i shards) ++ (shard_of (get_or shards i d) ∷ map shard_of (drop (suc i) shards))
  around =
      ap (map shard_of) (sym (take-append-drop i shards) ∙ ap (λ zs. take i shards ++ zs) (drop-cons shards i d inside))
      ∙ map-append shard_of (take i shards) (get_or shards i d ∷ drop (suc i) shards)

  -- where the next lacks nothing
  pub lack_next : (found : Option (List ℕ)) → is_some found ≡ false → LackNothing told lines back (map shard_of (take i shards)) → Finds told lines back (shard_of (get_or shards i d)) found →
      LackNothing told lines back (map shard_of (take (i + 1) shards))
  lack_next None is h one =
      subst (LackNothing told lines back) (sym upto) (all_push (λ s. Finds told lines back s None) (map shard_of (take i shards)) (shard_of (get_or shards i d)) h one)
  lack_next (Some text) is h one = absurd (true≢false is)

  -- where it lacks something
  pub lacks_here : (found : Option (List ℕ)) → is_some found ≡ true → LackNothing told lines back (map shard_of (take i shards)) → Finds told lines back (shard_of (get_or shards i d)) found →
      FindsFirst told lines back (map shard_of shards) found
  lacks_here None is h one = absurd (true≢false (sym is))
  lacks_here (Some text) is h one = record {
    before = map shard_of (take i shards);
    shard = shard_of (get_or shards i d);
    behind = map shard_of (drop (suc i) shards);
    shards_are = around;
    lack_nothing = h;
    lacks = one;
  }

  passed : length (map shard_of (take i shards)) ≡ i
  passed = length-map (take i shards) shard_of ∙ length-take-le i shards (omega (arith, inside))

  -- where it is not compared
  pub stops_here : (before after : ℕ) (blame : List ℕ) (act : Act) (e : ShardError) → LackNothing told lines back (map shard_of (take i shards)) →
      PairStops told (shard_of (get_or shards i d)) i before after blame act e → ComparingStops told lines back (map shard_of shards) before after blame act e
  stops_here before after blame act e h stops = record {
    those = map shard_of (take i shards);
    one = shard_of (get_or shards i d);
    others = map shard_of (drop (suc i) shards);
    shards_are = around;
    lack_nothing = h;
    stops = subst (λ n. PairStops told (shard_of (get_or shards i d)) n before after blame act e) (sym passed) stops;
  }

-- where all are passed
pub lack_all : (told : Told) (lines back : List (List ℕ)) (shards : List Lent) (i : ℕ) → length shards ≤ i →
    LackNothing told lines back (map shard_of (take i shards)) → LackNothing told lines back (map shard_of shards)
lack_all told lines back shards i past h = subst (λ ss. LackNothing told lines back (map shard_of ss)) (take_all i shards past) h

-- whether there is a text is whether there are its bytes
pub some_kept : {X Y : Type 0} (f : X → Y) (o : Option X) (b : Bool) → b ≡ is_some o → is_some (option_map f o) ≡ b
some_kept f None b is = sym is
some_kept f (Some x) b is = sym is

-- ---- a file that is fetched behind others

pub finds_behind : (told seen : Told) → seen ≡ told → (lines back : List (List ℕ)) (s : ShardFiles) (found : Option (List ℕ)) → Finds seen lines back s found → Finds told lines back s found
finds_behind told seen same lines back s found h = subst (λ t. Finds t lines back s found) same h

module _ (told seen : Told) (before between after : ℕ) (blame : List ℕ) (act : Act) (e : ShardError) (same : seen ≡ told) (still : between ≡ before) where
  pub fetch_behind : (name : List ℕ) (file : CallFile) → FetchStops seen name file between after blame act e → FetchStops told name file before after blame act e
  fetch_behind name file stops =
      subst (λ n. FetchStops told name file n after blame act e) still (subst (λ t. FetchStops t name file between after blame act e) same stops)

  -- the file with the lines of a shard is not fetched, and that with its nodes is
  pub second_stops : (s : ShardFiles) (at : ℕ) (nodes : List ℕ) → IsFile told s.nodes nodes → FetchStops seen s.shard (Cover (Shard at)) between after blame act e →
      PairStops told s at before after blame act e
  second_stops s at nodes file stops = inr (nodes, file, fetch_behind s.shard (Cover (Shard at)) stops)

  pub behind_explains : (call : ShardCall) (file : CallFile) → Reaches told call file → FetchStops seen (name_of call file) file between after blame act e → Explains told call e
  behind_explains call file reached stops = fetch_explains told call file before after blame act e reached (fetch_behind (name_of call file) file stops)

  pub behind_faults : (call : ShardCall) (file : CallFile) → FetchStops seen (name_of call file) file between after blame act e → FaultsAs call before after blame act e
  behind_faults call file stops = fetch_faults told call file before after blame act e (fetch_behind (name_of call file) file stops)

  -- shards that are not compared are not compared with the files as they were before
  pub pair_behind : (s : ShardFiles) (at : ℕ) → PairStops seen s at between after blame act e → PairStops told s at before after blame act e
  pair_behind s at stops = subst (λ n. PairStops told s at n after blame act e) still (subst (λ t. PairStops t s at between after blame act e) same stops)

  comparing_behind : (lines back : List (List ℕ)) (shards : List ShardFiles) → ComparingStops seen lines back shards between after blame act e →
      ComparingStops told lines back shards before after blame act e
  comparing_behind lines back shards stops =
      subst (λ n. ComparingStops told lines back shards n after blame act e) still (subst (λ t. ComparingStops t lines back shards between after blame act e) same stops)

-- ---- what is found of all shards

module _ (told seen : Told) (c : Covering) (ways part lent_ways lent_part : List ℕ) (shards : List ShardFiles) (are : AreCompared told c ways part) (same : seen ≡ told)
    (ways_lent : lent_ways ≡ ways) (part_lent : lent_part ≡ part) (shards_are : shards ≡ c.shards) where
  pub covers_to : (found : Option (List ℕ)) → FindsFirst seen (lines_of lent_part) (read_back_in (lines_of lent_ways)) shards found → CoversTo told c found
  covers_to found finds = record {
    ways = ways;
    part = part;
    are_compared = are;
    finds =
        subst (λ t. FindsFirst t (lines_of part) (read_back_in (lines_of ways)) c.shards found) same
        (subst (λ w. FindsFirst seen (lines_of part) (read_back_in (lines_of w)) c.shards found) ways_lent
        (subst (λ p. FindsFirst seen (lines_of p) (read_back_in (lines_of lent_ways)) c.shards found) part_lent
        (subst (λ ss. FindsFirst seen (lines_of lent_part) (read_back_in (lines_of lent_ways)) ss found) shards_are finds)));
  }

  module _ (before between after : ℕ) (blame : List ℕ) (act : Act) (still : between ≡ before) (e : ShardError) where
    stops_to : ComparingStops seen (lines_of lent_part) (read_back_in (lines_of lent_ways)) shards between after blame act e →
        ComparingStops told (lines_of part) (read_back_in (lines_of ways)) c.shards before after blame act e
    stops_to stops =
        comparing_behind told seen before between after blame act e same still (lines_of part) (read_back_in (lines_of ways)) c.shards
        (subst (λ w. ComparingStops seen (lines_of part) (read_back_in (lines_of w)) c.shards between after blame act e) ways_lent
        (subst (λ p. ComparingStops seen (lines_of p) (read_back_in (lines_of lent_ways)) c.shards between after blame act e) part_lent
        (subst (λ ss. ComparingStops seen (lines_of lent_part) (read_back_in (lines_of lent_ways)) ss between after blame act e) shards_are stops)))

    pub all_explain : ComparingStops seen (lines_of lent_part) (read_back_in (lines_of lent_ways)) shards between after blame act e → Explains told (of_cover c) e
    all_explain stops = comparing_explains told c ways part are before after blame act e (stops_to stops)

    pub all_fault : ComparingStops seen (lines_of lent_part) (read_back_in (lines_of lent_ways)) shards between after blame act e → FaultsAs (of_cover c) before after blame act e
    all_fault stops = comparing_faults told c ways part are before after blame act e (stops_to stops)
