-- The steps of `covers` come to one file after the other.
use Rattle.std.proofs.Common.{◌≡◌, ◌∙◌, ◌++◌, ℕ, suc, List, [], ◌∷◌, ap, length, refl, subst, sym}
use Rattle.std.specs.List.{AllByRecursion}
use Rattle.std.specs.Prelude.{None, Option, Some, slice_get}
use Rattle.shex_io.specs.Fetching.{IsFile, IsTooLong}
use Rattle.schema_files.proofs.Contents.{held_there, not_too_long, same_bytes}
use Rattle.shard_checks.specs.Cover.{read_back_in}
use Rattle.shard_checks.specs.Lines.{lines_of}
use Rattle.shex_io.specs.Files.{Lacks, Told}
use Rattle.tool_words.specs.Requests.{Covering, ShardFiles}
use Rattle.shard_answers.specs.declared.error.CoverFile.{CoverFile}
use Rattle.shard_answers.specs.declared.error.CoverFile.TheVariants.{Followed, Part, Nodes, Shard}
use Rattle.shard_answers.specs.Answers.{AreCompared, CoversTo, Finds, FindsFirst, LackNothing, told_of}
use Rattle.shard_answers.specs.Refusals.{ComesTo, ReachesCover}
use Rattle.shard_answers.specs.Sources.{cover_name, nodes_name, shard_name}
use Rattle.shard_answers.proofs.Comparing.{behind}

heads : {X : Type 0} (x y : X) (xs ys : List X) → x ∷ xs ≡ y ∷ ys → x ≡ y
heads x y xs ys e = cc

tails : {X : Type 0} (x y : X) (xs ys : List X) → x ∷ xs ≡ y ∷ ys → xs ≡ ys
tails x y xs ys e = cc

-- what holds of all items holds of one among them
all_at : {X : Type 0} (P : X → Type 0) (xs ys : List X) (y : X) → AllByRecursion P (xs ++ y ∷ ys) → P y
all_at P [] ys y h = h.0
all_at P (x ∷ xs) ys y h = all_at P xs ys y h.1

module _ (contents : List ℕ → Option (List ℕ)) where
  abbrev pub told : Told
  told = Some contents

  -- the files of a shard are there
  record AreThere (s : ShardFiles) : Type 0 where
    nodes : List ℕ
    nodes_file : IsFile told s.nodes nodes
    bytes : List ℕ
    shard_file : IsFile told s.shard bytes

  there : (lines back : List (List ℕ)) (s : ShardFiles) (found : Option (List ℕ)) → Finds told lines back s found → AreThere s
  there lines back s found h = record { nodes = h.nodes; nodes_file = h.nodes_file; bytes = h.bytes; shard_file = h.shard_file }

  -- what is found of a shard is one thing
  one_found : (lines back : List (List ℕ)) (s : ShardFiles) (a b : Option (List ℕ)) → Finds told lines back s a → Finds told lines back s b → a ≡ b
  one_found lines back s a b h k =
      let nodes : h.nodes ≡ k.nodes = same_bytes contents s.nodes h.nodes k.nodes h.nodes_file.held k.nodes_file.held in
      let bytes : h.bytes ≡ k.bytes = same_bytes contents s.shard h.bytes k.bytes h.shard_file.held k.shard_file.held in
      h.found_is ∙ ap (λ z. told_of lines back s.shard z h.bytes) nodes ∙ ap (told_of lines back s.shard k.nodes) bytes ∙ sym k.found_is

  not_none : (text : List ℕ) → None ≡ Some text → ⊥
  not_none text e = cc

  -- two shards are one, or one of them comes before the other and lacks nothing
  data Meet (lines back lines_b back_b : List (List ℕ)) (s t : ShardFiles) (m n : ℕ) : Type 0 where
    is_one : s ≡ t → m ≡ n → Meet lines back lines_b back_b s t m n
    first : Finds told lines_b back_b s None → Meet lines back lines_b back_b s t m n
    second : Finds told lines back t None → Meet lines back lines_b back_b s t m n

  later : (lines back lines_b back_b : List (List ℕ)) (s t : ShardFiles) (m n : ℕ) → Meet lines back lines_b back_b s t m n → Meet lines back lines_b back_b s t (suc m) (suc n)
  later lines back lines_b back_b s t m n (is_one e at) = is_one e (ap (λ k. suc k) at)
  later lines back lines_b back_b s t m n (first is) = first is
  later lines back lines_b back_b s t m n (second is) = second is

  meet : (lines back lines_b back_b : List (List ℕ)) (before rest before_b rest_b : List ShardFiles) (s t : ShardFiles) → before ++ s ∷ rest ≡ before_b ++ t ∷ rest_b →
      LackNothing told lines back before → LackNothing told lines_b back_b before_b → Meet lines back lines_b back_b s t (length before) (length before_b)
  meet lines back lines_b back_b [] rest [] rest_b s t e h k = is_one (heads s t rest rest_b e) refl
  meet lines back lines_b back_b [] rest (x ∷ xs) rest_b s t e h k = first (subst (λ z. Finds told lines_b back_b z None) (sym (heads s x rest (xs ++ t ∷ rest_b) e)) k.0)
  meet lines back lines_b back_b (y ∷ ys) rest [] rest_b s t e h k = second (subst (λ z. Finds told lines back z None) (heads y t (ys ++ s ∷ rest) rest_b e) h.0)
  meet lines back lines_b back_b (y ∷ ys) rest (x ∷ xs) rest_b s t e h k =
      later lines back lines_b back_b s t (length ys) (length xs)
      (meet lines back lines_b back_b ys rest xs rest_b s t (tails y x (ys ++ s ∷ rest) (xs ++ t ∷ rest_b) e) h.1 k.1)

  module _ (c : Covering) where
    -- the file of this name is there
    abbrev pub IsThere : CoverFile → Type 0
    IsThere file = (bytes : List ℕ) × IsFile told (cover_name c file) bytes

    place : (at : ℕ) (came : ComesTo told c at) → slice_get c.shards at ≡ Some came.shard
    place at came = ap (λ ss. slice_get ss at) came.shards_are ∙ ap (λ n. slice_get (came.before ++ came.shard ∷ came.behind) n) came.place ∙ behind came.before came.behind came.shard

    nodes_there : (at : ℕ) (came : ComesTo told c at) (bytes : List ℕ) → IsFile told came.shard.nodes bytes → IsThere (Nodes at)
    nodes_there at came bytes file = (bytes, subst (λ o. IsFile told (nodes_name o) bytes) (sym (place at came)) file)

    shard_there : (at : ℕ) (came : ComesTo told c at) (bytes : List ℕ) → IsFile told came.shard.shard bytes → IsThere (Shard at)
    shard_there at came bytes file = (bytes, subst (λ o. IsFile told (shard_name o) bytes) (sym (place at came)) file)

    abbrev MeetAt : (m n : ℕ) → ComesTo told c m → ComesTo told c n → ℕ → ℕ → Type 0
    MeetAt m n a b k l =
        Meet (lines_of a.comes.part) (read_back_in (lines_of a.comes.ways)) (lines_of b.comes.part) (read_back_in (lines_of b.comes.ways)) a.shard b.shard k l

    both_meet : (m n : ℕ) (a : ComesTo told c m) (b : ComesTo told c n) → MeetAt m n a b m n
    both_meet m n a b =
        subst (λ l. MeetAt m n a b m l) (sym b.place) (subst (λ k. MeetAt m n a b k (length b.before)) (sym a.place)
        (meet (lines_of a.comes.part) (read_back_in (lines_of a.comes.ways)) (lines_of b.comes.part) (read_back_in (lines_of b.comes.ways))
        a.before a.behind b.before b.behind a.shard b.shard (sym a.shards_are ∙ b.shards_are) a.comes.lack_nothing b.comes.lack_nothing))

    -- of two files to which the steps come one is there, or they are one
    data Order (a b : CoverFile) : Type 0 where
      same : a ≡ b → Order a b
      this_there : IsThere a → Order a b
      that_there : IsThere b → Order a b

    order : (a b : CoverFile) → ReachesCover told c a → ReachesCover told c b → Order a b
    order Followed Followed x y = same refl
    order Followed Part x y = this_there y
    order Followed (Nodes n) x y = this_there (y.comes.ways, y.comes.are_compared.ways_file)
    order Followed (Shard n) x y = this_there (y.0.comes.ways, y.0.comes.are_compared.ways_file)
    order Part Followed x y = that_there x
    order Part Part x y = same refl
    order Part (Nodes n) x y = this_there (y.comes.part, y.comes.are_compared.part_file)
    order Part (Shard n) x y = this_there (y.0.comes.part, y.0.comes.are_compared.part_file)
    order (Nodes m) Followed x y = that_there (x.comes.ways, x.comes.are_compared.ways_file)
    order (Nodes m) Part x y = that_there (x.comes.part, x.comes.are_compared.part_file)
    order (Nodes m) (Nodes n) x y = by (both_meet m n x y)
      where
        by : MeetAt m n x y m n → Order (Nodes m) (Nodes n)
        by (is_one s e) = same (ap (λ k. Nodes k) e)
        by (first h) = this_there (nodes_there m x h.nodes h.nodes_file)
        by (second h) = that_there (nodes_there n y h.nodes h.nodes_file)
    order (Nodes m) (Shard n) x y = by (both_meet m n x y.0)
      where
        by : MeetAt m n x y.0 m n → Order (Nodes m) (Shard n)
        by (is_one s e) = this_there (nodes_there m x y.1 (subst (λ z. IsFile told z.nodes y.1) (sym s) y.2))
        by (first h) = this_there (nodes_there m x h.nodes h.nodes_file)
        by (second h) = that_there (shard_there n y.0 h.bytes h.shard_file)
    order (Shard m) Followed x y = that_there (x.0.comes.ways, x.0.comes.are_compared.ways_file)
    order (Shard m) Part x y = that_there (x.0.comes.part, x.0.comes.are_compared.part_file)
    order (Shard m) (Nodes n) x y = by (both_meet m n x.0 y)
      where
        by : MeetAt m n x.0 y m n → Order (Shard m) (Nodes n)
        by (is_one s e) = that_there (nodes_there n y x.1 (subst (λ z. IsFile told z.nodes x.1) s x.2))
        by (first h) = this_there (shard_there m x.0 h.bytes h.shard_file)
        by (second h) = that_there (nodes_there n y h.nodes h.nodes_file)
    order (Shard m) (Shard n) x y = by (both_meet m n x.0 y.0)
      where
        by : MeetAt m n x.0 y.0 m n → Order (Shard m) (Shard n)
        by (is_one s e) = same (ap (λ k. Shard k) e)
        by (first h) = this_there (shard_there m x.0 h.bytes h.shard_file)
        by (second h) = that_there (shard_there n y.0 h.bytes h.shard_file)

    -- where a file is too long, none is absent
    pub long_not_absent : (a b : CoverFile) → ReachesCover told c a → IsTooLong told (cover_name c a) → ReachesCover told c b → Lacks told (cover_name c b) → ⊥
    long_not_absent a b x long y lacks = by (order a b x y)
      where
        by : Order a b → ⊥
        by (same e) = held_there contents (cover_name c a) long.bytes long.held (subst (λ z. Lacks told (cover_name c z)) (sym e) lacks)
        by (this_there (bytes, file)) = not_too_long contents (cover_name c a) bytes file long
        by (that_there (bytes, file)) = held_there contents (cover_name c b) bytes file.held lacks

    -- the ways and the part are one
    same_lack : (ways part ways_b part_b : List ℕ) → AreCompared told c ways part → AreCompared told c ways_b part_b → (ss : List ShardFiles) →
        LackNothing told (lines_of part) (read_back_in (lines_of ways)) ss → LackNothing told (lines_of part_b) (read_back_in (lines_of ways_b)) ss
    same_lack ways part ways_b part_b a b ss h =
        subst (λ z. LackNothing told (lines_of part_b) (read_back_in (lines_of z)) ss) (same_bytes contents c.ways ways ways_b a.ways_file.held b.ways_file.held)
        (subst (λ z. LackNothing told (lines_of z) (read_back_in (lines_of ways)) ss) (same_bytes contents c.part part part_b a.part_file.held b.part_file.held) h)

    -- where shards are compared, the files of each to which the steps come are there
    module _ (found : Option (List ℕ)) (h : CoversTo told c found) where
      abbrev lines : List (List ℕ)
      lines = lines_of h.part

      abbrev back : List (List ℕ)
      back = read_back_in (lines_of h.ways)

      found_there : (n : ℕ) (came : ComesTo told c n) (f : Option (List ℕ)) → FindsFirst told lines back c.shards f → AreThere came.shard
      found_there n came None all =
          there lines back came.shard None
          (all_at (λ s. Finds told lines back s None) came.before came.behind came.shard (subst (LackNothing told lines back) came.shards_are all))
      found_there n came (Some text) one =
          by (meet lines back lines back came.before came.behind one.before one.behind came.shard one.shard (sym came.shards_are ∙ one.shards_are)
          (same_lack came.comes.ways came.comes.part h.ways h.part came.comes.are_compared h.are_compared came.before came.comes.lack_nothing) one.lack_nothing)
        where
          by : Meet lines back lines back came.shard one.shard (length came.before) (length one.before) → AreThere came.shard
          by (is_one s e) = there lines back came.shard (Some text) (subst (λ z. Finds told lines back z (Some text)) (sym s) one.lacks)
          by (first is) = there lines back came.shard None is
          by (second is) = absurd (not_none text (one_found lines back one.shard None (Some text) is one.lacks))

      pub covered_there : (file : CoverFile) → ReachesCover told c file → IsThere file
      covered_there Followed x = (h.ways, h.are_compared.ways_file)
      covered_there Part x = (h.part, h.are_compared.part_file)
      covered_there (Nodes n) x = let is = found_there n x found h.finds in nodes_there n x is.nodes is.nodes_file
      covered_there (Shard n) x = let is = found_there n x.0 found h.finds in shard_there n x.0 is.bytes is.shard_file
