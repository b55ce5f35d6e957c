-- Words ask by a command for one thing at most, and have one first fault at most, and none where they ask for something.
use Rattle.std.specs.Prelude.{ℕ, Option, Some, None}
use Rattle.std.proofs.Common.{◌≡◌, ◌∙◌, Bool, true, false, List, [], ◌∷◌, ap, codes, refl, subst, sym}
use Rattle.std.specs.List.{AllZip}
use Rattle.clap.specs.Words.{App, Row, Text}
use Rattle.command_words.specs.Checks.{AreImports, AreInputs, Fault, HasEndings, IsGivenFault, import_words, inputs_by, schema_base as given_base, schema_ending as given_ending}
use Rattle.input_names.specs.Names.{Import, Inputs, is_data_name}
use Rattle.command_words.specs.Commands.{rows}
use Rattle.command_words.specs.Requests.{Given}
use Rattle.command_words.proofs.Once.{apart, no_given_fault, no_import_fault, one_given_fault, one_list, one_split}
use Rattle.command_words.proofs.Requested.{one_budget, one_given, one_value}
use Rattle.tool_words.specs.Asked.{FailsConverting, FailsCovering, FailsEditing, FailsExplaining, FailsFollowing, FailsLining, FailsListing, FailsReaching, Following, IsFirstFault, LeadsTo, PassesConverting, PassesCovering, PassesEditing, PassesExplaining, PassesFollowing, PassesLining, PassesListing, PassesReaching, failing, line_base, line_ending, schema_base, schema_ending, unasked, way_base, way_ending, way_imports}
use Rattle.tool_words.specs.Requests.{Asks, Budgeted, Converting, IsBudgeted, IsCovering, IsExplained, IsFlag, IsLimit, IsLining, IsMapped, IsNamed, IsPrefix, IsSchemed, IsScripted, Lining, NamesBoth, Schemed, ShardFiles}

-- what is known of the values and of the checks of a command
pub record IsSingle {R C : Type 0} (Are : List Row → R → Type 0) (Passes : R → C → Type 0) (Fails : R → Fault → Type 0) : Type 0 where
  pub one_request : (found : List Row) (r s : R) → Are found r → Are found s → r ≡ s
  pub one_answer : (r : R) (c d : C) → Passes r c → Passes r d → c ≡ d
  pub no_fault : (r : R) (c : C) (f : Fault) → Passes r c → ¬ Fails r f
  pub one_fault : (r : R) (f g : Fault) → Fails r f → Fails r g → f ≡ g

module _ {R C : Type 0} (app : App) (Are : List Row → R → Type 0) (Passes : R → C → Type 0) (Fails : R → Fault → Type 0) (single : IsSingle Are Passes Fails) (words : List Text) where
  same : (r s : R) → Asks app Are words r → Asks app Are words s → r ≡ s
  same r s a b = single.one_request (rows app words) r s a.found b.found

  pub one : (c d : C) → LeadsTo app Are Passes words c → LeadsTo app Are Passes words d → c ≡ d
  one c d a b = single.one_answer b.request c d (subst (λ (r : R). Passes r c) (same a.request b.request a.asks b.asks) a.passes) b.passes

  pub never : (c : C) (f : Fault) → LeadsTo app Are Passes words c → IsFirstFault app Are Fails words f → ⊥
  never c _ a (unasked none) = none a.request a.asks
  never c _ a (failing r asks f h) = single.no_fault r c f (subst (λ (s : R). Passes s c) (same a.request r a.asks asks) a.passes) h

  pub first : (f g : Fault) → IsFirstFault app Are Fails words f → IsFirstFault app Are Fails words g → f ≡ g
  first _ _ (unasked none) (unasked more) = refl
  first _ _ (unasked none) (failing r asks g h) = absurd (none r asks)
  first _ _ (failing r asks f h) (unasked none) = absurd (none r asks)
  first _ _ (failing r asks f h) (failing s other g k) = single.one_fault r f g h (subst (λ (x : R). Fails x g) (same s r other asks) k)

no_converting_fault : (r c : Converting) (f : Fault) → PassesConverting r c → FailsConverting r f → ⊥
no_converting_fault r c _ p (schema_ending x) = apart p.schema x
no_converting_fault r c _ p (schema_base x y) = apart p.schema_base y

one_converting_fault : (r : Converting) (f g : Fault) → FailsConverting r f → FailsConverting r g → f ≡ g
one_converting_fault r _ _ (schema_ending x) (schema_ending y) = refl
one_converting_fault r _ _ (schema_ending x) (schema_base y z) = absurd (apart y x)
one_converting_fault r _ _ (schema_base x y) (schema_ending z) = absurd (apart x z)
one_converting_fault r _ _ (schema_base x y) (schema_base z w) = refl

pub converting_single : IsSingle IsNamed PassesConverting FailsConverting
converting_single = record {
  one_request = λ found r s a b k. record { schema = one_value _ r.schema s.schema a.schema b.schema k; schema_base = (sym a.schema_base ∙ b.schema_base) k };
  one_answer = λ r c d a b. a.leads ∙ sym b.leads;
  no_fault = no_converting_fault;
  one_fault = one_converting_fault;
}

one_inputs : (g : Given) (i j : Inputs) → AreInputs g i → AreInputs g j → i ≡ j
one_inputs g i j a b = a.leads ∙ ap (inputs_by g) (one_list [] g.import_words i.imports j.imports a.passes.inputs.imports_given b.passes.inputs.imports_given) ∙ sym b.leads

one_budgeted : (found : List Row) (r s : Budgeted) → IsBudgeted found r → IsBudgeted found s → r ≡ s
one_budgeted found r s a b = λ k. record { given = one_given found r.given s.given a.given b.given k; budget = one_budget _ r.budget s.budget a.is_budget b.is_budget k }

pub listing_single : IsSingle IsBudgeted PassesListing FailsListing
listing_single = record {
  one_request = one_budgeted;
  one_answer = λ r c d a b k. record { inputs = one_inputs r.given c.inputs d.inputs a.inputs b.inputs k; budget = (a.budget ∙ sym b.budget) k };
  no_fault = λ r c f a. no_given_fault r.given c.inputs.imports f a.inputs.passes;
  one_fault = λ r. one_given_fault r.given;
}

pub editing_single : IsSingle IsScripted PassesEditing FailsEditing
editing_single = record {
  one_request = λ found r s a b k. record { budgeted = one_budgeted found r.budgeted s.budgeted a.budgeted b.budgeted k; script = one_value _ r.script s.script a.script b.script k };
  one_answer = λ r c d a b k. record {
    inputs = one_inputs r.budgeted.given c.inputs d.inputs a.inputs b.inputs k;
    script = (a.script ∙ sym b.script) k;
    budget = (a.budget ∙ sym b.budget) k;
  };
  no_fault = λ r c f a. no_given_fault r.budgeted.given c.inputs.imports f a.inputs.passes;
  one_fault = λ r. one_given_fault r.budgeted.given;
}

one_limit : (o : Option Text) (m n : ℕ) → IsLimit o m → IsLimit o n → m ≡ n
one_limit None m n a b = a ∙ sym b
one_limit (Some text) m n a b = one_budget (Some text) m n a b

one_flag : (o : Option Text) (b c : Bool) → IsFlag o b → IsFlag o c → b ≡ c
one_flag o true true p q = refl
one_flag o true false p q = absurd (q p)
one_flag o false true p q = absurd (p q)
one_flag o false false p q = refl

pub explaining_single : IsSingle IsExplained PassesExplaining FailsExplaining
explaining_single = record {
  one_request = λ found r s a b k. record {
    budgeted = one_budgeted found r.budgeted s.budgeted a.budgeted b.budgeted k;
    map_file = one_value _ r.map_file s.map_file a.map_file b.map_file k;
    limit = one_limit _ r.limit s.limit a.limit b.limit k;
    json = one_flag _ r.json s.json a.json b.json k;
  };
  one_answer = λ r c d a b k. record {
    inputs = one_inputs r.budgeted.given c.inputs d.inputs a.inputs b.inputs k;
    map_file = (a.map_file ∙ sym b.map_file) k;
    budget = (a.budget ∙ sym b.budget) k;
    limit = (a.limit ∙ sym b.limit) k;
    json = (a.json ∙ sym b.json) k;
  };
  no_fault = λ r c f a. no_given_fault r.budgeted.given c.inputs.imports f a.inputs.passes;
  one_fault = λ r. one_given_fault r.budgeted.given;
}

one_prefix : (o p q : Option Text) → IsPrefix o p → IsPrefix o q → p ≡ q
one_prefix None p q a b = a ∙ sym b
one_prefix (Some text) p q a b = a.0 ∙ sym b.0

no_lining_fault : (r l : Lining) (f : Fault) → PassesLining r l → FailsLining r f → ⊥
no_lining_fault r l _ p (line_ending x) = apart p.data_file x
no_lining_fault r l _ p (line_base x y) = apart p.data_base y

one_lining_fault : (r : Lining) (f g : Fault) → FailsLining r f → FailsLining r g → f ≡ g
one_lining_fault r _ _ (line_ending x) (line_ending y) = refl
one_lining_fault r _ _ (line_ending x) (line_base y z) = absurd (apart y x)
one_lining_fault r _ _ (line_base x y) (line_ending z) = absurd (apart x z)
one_lining_fault r _ _ (line_base x y) (line_base z w) = refl

pub lining_single : IsSingle IsLining PassesLining FailsLining
lining_single = record {
  one_request = λ found r s a b k. record {
    data_file = one_value _ r.data_file s.data_file a.data_file b.data_file k;
    prefix = one_prefix _ r.prefix s.prefix a.prefix b.prefix k;
    data_base = (sym a.data_base ∙ b.data_base) k;
  };
  one_answer = λ r c d a b. a.leads ∙ sym b.leads;
  no_fault = no_lining_fault;
  one_fault = one_lining_fault;
}

-- what is given of a schema, with data whose name has an ending
abbrev with_data : Schemed → Given
with_data r = record { schema = r.schema; data_file = codes ".nt"; schema_base = r.schema_base; data_base = []; import_words = r.import_words }

is_data : is_data_name (codes ".nt") ≡ true
unfolding is_data_name
is_data = refl

as_given : (r : Schemed) (f : Fault) → FailsFollowing r f → IsGivenFault (with_data r) f
as_given r _ (way_ending x) = given_ending x
as_given r _ (way_imports f x y) = import_words f (record { schema = x; data_file = is_data }) y
as_given r _ (way_base imports x y z) = given_base imports (record { endings = record { schema = x; data_file = is_data }; imports_given = y }) z

no_following_fault : (r : Schemed) (c : Following) (f : Fault) → PassesFollowing r c → FailsFollowing r f → ⊥
no_following_fault r c _ p (way_ending x) = apart p.schema x
no_following_fault r c _ p (way_imports f x y) = no_import_fault [] r.import_words c.imports f p.imports_given y
no_following_fault r c _ p (way_base imports x y z) = apart p.schema_base z

pub following_single : IsSingle IsSchemed PassesFollowing FailsFollowing
following_single = record {
  one_request = λ found r s a b k. record {
    schema = one_value _ r.schema s.schema a.schema b.schema k;
    schema_base = (sym a.schema_base ∙ b.schema_base) k;
    import_words = (sym a.import_words ∙ b.import_words) k;
  };
  one_answer = λ r c d a b.
      a.leads
      ∙ ap (λ (is : List Import). record { schema = r.schema; schema_base = r.schema_base; imports = is }) (one_list [] r.import_words c.imports d.imports a.imports_given b.imports_given)
      ∙ sym b.leads;
  no_fault = no_following_fault;
  one_fault = λ r f g h k. one_given_fault (with_data r) f g (as_given r f h) (as_given r g k);
}

pub reaching_single : IsSingle IsMapped PassesReaching FailsReaching
reaching_single = record {
  one_request = λ found r s a b k. record { given = one_given found r.given s.given a.given b.given k; map_file = one_value _ r.map_file s.map_file a.map_file b.map_file k };
  one_answer = λ r c d a b k. record { inputs = one_inputs r.given c.inputs d.inputs a.inputs b.inputs k; map_file = (a.map_file ∙ sym b.map_file) k };
  no_fault = λ r c f a. no_given_fault r.given c.inputs.imports f a.inputs.passes;
  one_fault = λ r. one_given_fault r.given;
}

one_pair : (word : Text) (s t : ShardFiles) → NamesBoth word s → NamesBoth word t → s ≡ t
one_pair word s t p q =
    let parts : (s.nodes ≡ t.nodes) × (s.shard ≡ t.shard) = one_split s.nodes s.shard t.nodes t.shard p.last q.last (sym p.whole ∙ q.whole) in
    λ k. record { nodes = parts.0 k; shard = parts.1 k }

one_shards : (words : List Text) (ss ts : List ShardFiles) → AllZip NamesBoth words ss → AllZip NamesBoth words ts → ss ≡ ts
one_shards [] [] [] a b = refl
one_shards [] [] (t ∷ ts) a b = absurd b
one_shards [] (s ∷ ss) ts a b = absurd a
one_shards (w ∷ ws) [] ts a b = absurd a
one_shards (w ∷ ws) (s ∷ ss) [] a b = absurd b
one_shards (w ∷ ws) (s ∷ ss) (t ∷ ts) a b = λ k. one_pair w s t a.0 b.0 k ∷ one_shards ws ss ts a.1 b.1 k

pub covering_single : IsSingle IsCovering PassesCovering FailsCovering
covering_single = record {
  one_request = λ found r s a b k. record {
    ways = one_value _ r.ways s.ways a.ways b.ways k;
    part = one_value _ r.part s.part a.part b.part k;
    shards = one_shards _ r.shards s.shards a.shards b.shards k;
  };
  one_answer = λ r c d a b. a ∙ sym b;
  no_fault = λ r c f a h. h;
  one_fault = λ r f g h k. absurd h;
}
