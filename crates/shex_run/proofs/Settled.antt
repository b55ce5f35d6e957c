-- The bytes of a proof are accepted, rejected in one way, or too many for the table, and not two of these.
use Rattle.std.proofs.Common.{◌≡◌, ◌≤◌, ◌<◌, ◌∙◌, ap, sym, subst, refl, ℕ, List, [], ◌∷◌, arith, length, map}
use Rattle.std.specs.Prelude.{Option, Some, None, Contains, slice_get, option_map}
use Rattle.std.proofs.lemmas.Option.{slice_get_within}
use Rattle.lists.specs.Distinct.{AreDistinct}
use Rattle.rdf_terms.specs.Tables.{max_terms}
use Rattle.rdf_terms.specs.declared.terms.Term.{Term}
use Rattle.rdf_terms.specs.declared.terms.TermId.{TermId}
use Rattle.lists.proofs.Additions.{adds_distinct, adds_grows, adds_one, kept_at}
use Rattle.schema_tree.specs.declared.schema.Answer.{Answer}
use Rattle.lists.proofs.Members.{got_in, from_map, in_map}
use Rattle.proof_file.specs.declared.Claim.{Claim}
use Rattle.proof_file.specs.declared.Proof.{Proof}
use Rattle.proof_file.specs.declared.head.Digests.{Digests}
use Rattle.proof_file.specs.declared.head.Head.{Head}
use Rattle.proof_file.specs.declared.head.Part.{Part}
use Rattle.proof_file.specs.declared.head.Part.TheVariants as Parts
use Rattle.proof_file.specs.Text.{ProofText}
use Rattle.proof_file.specs.Accepts.{AreAccepted, AreNumbers, setting_of}
use Rattle.proof_file.proofs.Apart.{proofs_same}
use Rattle.proof_file.proofs.Rejected.{not_both}
use Rattle.proof_file.specs.Answers.{AreClaimed, answer_with}
use Rattle.proof_checker.specs.declared.checking.CheckError.{CheckError}
use Rattle.proof_checker.specs.declared.checking.CheckError.TheVariants as CheckErrors
use Rattle.proof_checker.specs.Checks.{IsFullFor, IsReadAs, IsStaleFor, IsUnstratified, KeepsTerms, TakesUp}
use Rattle.proof_checker.specs.Current.{AreUsed, IsCurrent, IsStale}
use Rattle.shex_inputs.specs.Held.{Held}
use Rattle.shex_run.specs.Checking.{Rejects}
use Rattle.shex_run.specs.Proofs.{Accepted}
use Rattle.schema_tree.specs.declared.schema.Schema.{Schema}
use Rattle.schema_tree.specs.Edges.{IsStratified}
use Rattle.schema_tree.proofs.OneStrata.{strata_one}

-- ---- tables

taken_distinct : (ts old new : List Term) → AreDistinct old → TakesUp old ts new → AreDistinct new
taken_distinct [] old new d e = subst (λ z. AreDistinct z) (sym e) d
taken_distinct (t ∷ ts) old new d (mid, adds, more) = taken_distinct ts mid new (adds_distinct old mid t d adds) more

taken_keeps : (ts old new : List Term) → TakesUp old ts new → KeepsTerms old new
taken_keeps [] old new e i t h = ap (λ z. slice_get z i) e ∙ h
taken_keeps (x ∷ ts) old new (mid, adds, more) i t h = taken_keeps ts mid new more i t (kept_at old mid i t (adds_grows old mid x adds) h)

taken_one : (ts old a b : List Term) → TakesUp old ts a → TakesUp old ts b → a ≡ b
taken_one [] old a b h k = h ∙ sym k
taken_one (t ∷ ts) old a b (m, adds, h) (n, adds', k) = taken_one ts n a b (subst (λ z. TakesUp z ts a) (adds_one old m n t adds adds') h) k

-- the numbers of lines are one list
numbers_one : (terms lines : List Term) (a b : List TermId) → AreDistinct terms → AreNumbers terms lines a → AreNumbers terms lines b → a ≡ b
numbers_one terms [] [] [] d h k = refl
numbers_one terms [] [] (y ∷ b) d h k = cc
numbers_one terms [] (x ∷ a) b d h k = cc
numbers_one terms (l ∷ lines) [] b d h k = cc
numbers_one terms (l ∷ lines) (x ∷ a) [] d h k = cc
numbers_one terms (l ∷ lines) (x ∷ a) (y ∷ b) d h k =
    let xs : slice_get terms x.0 ≡ Some l = cc in
    let ys : slice_get terms y.0 ≡ Some l = cc in
    let rest_a : AreNumbers terms lines a = cc in
    let rest_b : AreNumbers terms lines b = cc in
    let id : x.0 ≡ y.0 = d x.0 y.0 l xs ys in
    let rest = numbers_one terms lines a b d rest_a rest_b in
    λ i. record { 0 = id i } ∷ rest i

-- the lines with numbers are held
pub numbered_held : (terms lines : List Term) (nodes : List TermId) → AreNumbers terms lines nodes → (t : Term) → Contains lines t → Contains terms t
numbered_held terms lines nodes numbers t h =
    let there : Contains (map (λ i. slice_get terms i.0) nodes) (Some t) = subst (λ xs. Contains xs (Some t)) (sym numbers) (in_map (λ u. Some u) lines t h) in
    let (i, held, at) = from_map (λ i. slice_get terms i.0) nodes (Some t) there in
    got_in terms i.0 t at

-- each answer's node has a number of the table
some_number : (terms lines : List Term) (nodes : List TermId) → AreNumbers terms lines nodes → (n : TermId) → Contains nodes n → n.0 < length terms
some_number terms lines nodes numbers n h =
    let there : Contains (map (λ t. Some t) lines) (slice_get terms n.0) = subst (λ xs. Contains xs (slice_get terms n.0)) numbers (in_map (λ i. slice_get terms i.0) nodes n h) in
    let (t, held, at) = from_map (λ t. Some t) lines (slice_get terms n.0) there in
    slice_get_within terms n.0 t (sym at)

answered_at : (nodes : List TermId) (c : Claim) (a : Answer) (n : Option TermId) → option_map (answer_with c) n ≡ Some a → n ≡ Some a.node
answered_at nodes c a None h = cc
answered_at nodes c a (Some m) h =
    let e : answer_with c m ≡ a = cc in
    ap (λ x. Some x) (ap (λ x. x.node) e)

pub answers_there : (terms lines : List Term) (nodes : List TermId) (claims : List Claim) (answers : List Answer) → AreNumbers terms lines nodes →
    AreClaimed nodes claims answers → (a : Answer) → Contains answers a → a.node.0 < length terms
answers_there terms lines nodes claims answers numbers are a h =
    let there : Contains (map (λ c. option_map (answer_with c) (slice_get nodes c.node)) claims) (Some a) = subst (λ xs. Contains xs (Some a)) (sym are) (in_map (λ x. Some x) answers a h) in
    let (c, held, at) = from_map (λ c. option_map (answer_with c) (slice_get nodes c.node)) claims (Some a) there in
    some_number terms lines nodes numbers a.node (got_in nodes c.node a.node (answered_at nodes c a (slice_get nodes c.node) at))

-- ---- one reading

-- bytes are read as one proof, with one table and numbers of its lines
pub record SameReading (terms terms' : List Term) (p q : Proof) (nodes nodes' : List TermId) : Type 0 where
  pub proof : p ≡ q
  pub table : terms ≡ terms'
  pub numbers : nodes ≡ nodes'

pub reading_one : (old terms terms' : List Term) (bytes : List ℕ) (p q : Proof) (nodes nodes' : List TermId) → AreDistinct old →
    IsReadAs old terms bytes p nodes → IsReadAs old terms' bytes q nodes' → SameReading terms terms' p q nodes nodes'
reading_one old terms terms' bytes p q nodes nodes' d h k =
    let same : p ≡ q = proofs_same p q bytes h.text k.text in
    let table : terms ≡ terms' = taken_one q.nodes old terms terms' (subst (λ x. TakesUp old x.nodes terms) same h.table) k.table in
    record {
      proof = same;
      table = table;
      numbers = numbers_one terms' q.nodes nodes nodes' (taken_distinct q.nodes old terms' d k.table)
          (subst (λ ts. AreNumbers ts q.nodes nodes) table (subst (λ x. AreNumbers terms x.nodes nodes) same h.numbers)) k.numbers;
    }

-- ---- heads

-- the strata that a proof uses are one list
used_one : (s : Schema) (head : Option Head) (f h : List ℕ) → AreUsed s head f → AreUsed s head h → f ≡ h
used_one s None f h first second = strata_one s f h first second
used_one s (Some head) f h first second = first ∙ sym second

-- digests that are the same are not stale
not_stale : (named files : Digests) → named ≡ files → (part : Part) → ¬ IsStale named files part
not_stale named files same Parts.Schema stale = stale (ap (λ (d : Digests). d.schema) same)
not_stale named files same Parts.Import (schema, stale) = stale (ap (λ (d : Digests). d.imports) same)
not_stale named files same Parts.Data (schema, imports, stale) = stale (ap (λ (d : Digests). d.graph) same)

-- what is current by a head names the files, and brings a stratification
with_head : (s : Schema) (files : Digests) (o : Option Head) (head : Head) → o ≡ Some head → IsCurrent s files o → (head.files ≡ files) × IsStratified s head.strata
with_head s files o head is current = subst (IsCurrent s files) is current

module _ (b : Held) (bytes : List ℕ) (p : Proof) (text : ProofText p bytes) (current : IsCurrent b.schema b.files p.head) where
  current_not_stale : (part : Part) → ¬ IsStaleFor b.files bytes part
  current_not_stale part r =
      let same : p ≡ r.proof = proofs_same p r.proof bytes text r.text in
      let (files, strata) = with_head b.schema b.files p.head r.head (ap (λ (x : Proof). x.head) same ∙ r.is_head) current in
      not_stale r.head.files b.files files part r.stale

  current_stratified : ¬ IsUnstratified b.schema b.files bytes
  current_stratified r =
      let same : p ≡ r.proof = proofs_same p r.proof bytes text r.text in
      let (files, strata) = with_head b.schema b.files p.head r.head (ap (λ (x : Proof). x.head) same ∙ r.is_head) current in
      r.rises strata

module _ (b : Held) (d : AreDistinct b.terms) (bytes : List ℕ) where
  -- what is accepted is not rejected
  pub accepted_not_rejected : (terms : List Term) (answers : List Answer) (r : CheckError) → Accepted b bytes terms answers → ¬ Rejects b bytes r
  accepted_not_rejected terms answers (CheckErrors.Syntax at) a = λ fault. fault.none a.found.found.proof a.found.found.read.text
  accepted_not_rejected terms answers (CheckErrors.Stale part) a = λ r. current_not_stale b bytes a.found.found.proof a.found.found.read.text a.found.current part r
  accepted_not_rejected terms answers CheckErrors.Strata a = λ r. current_stratified b bytes a.found.found.proof a.found.found.read.text a.found.current r
  accepted_not_rejected terms answers CheckErrors.Full a = λ r. r
  accepted_not_rejected terms answers CheckErrors.Memory a = λ r. r
  accepted_not_rejected terms answers (CheckErrors.Rejected i w) a = λ r.
      let x = a.found.found in
      let y = r.found.found in
      let f = r.found.strata in
      let one = reading_one b.terms terms r.terms bytes x.proof y.proof x.nodes y.nodes d x.read y.read in
      let used : AreUsed b.schema y.proof.head a.found.strata = subst (λ (p : Proof). AreUsed b.schema p.head a.found.strata) one.proof a.found.used in
      let A : List ℕ → List Term → List TermId → Proof → Type 0 = λ h ts ns p. AreAccepted (setting_of h b.schema ts b.graph ns) p in
      let on_one : A f terms x.nodes x.proof = subst (λ h. A h terms x.nodes x.proof) (used_one b.schema y.proof.head a.found.strata f used r.found.used) x.accepted in
      let first : A f r.terms x.nodes x.proof = subst (λ ts. A f ts x.nodes x.proof) one.table on_one in
      let second : A f r.terms y.nodes x.proof = subst (λ ns. A f r.terms ns x.proof) one.numbers first in
      let third : A f r.terms y.nodes y.proof = subst (λ p. A f r.terms y.nodes p) one.proof second in
      not_both (setting_of f b.schema r.terms b.graph y.nodes) y.proof i w y.rejected third

  -- a table that takes the lines up is not full for them
  not_full : (terms : List Term) (p : Proof) (nodes : List TermId) → IsReadAs b.terms terms bytes p nodes → length terms ≤ max_terms → ¬ IsFullFor b.schema b.files b.terms bytes
  not_full terms p nodes read few = λ full.
      let same : full.proof ≡ p = proofs_same full.proof p bytes full.text read.text in
      let much : max_terms < length terms = full.full terms (taken_distinct p.nodes b.terms terms d read.table) (taken_keeps p.nodes b.terms terms read.table)
      (λ t h. numbered_held terms p.nodes nodes read.numbers t (subst (λ x. Contains x.nodes t) same h)) in
      absurd (omega (arith, few, much))

  pub accepted_not_full : (terms : List Term) (answers : List Answer) → Accepted b bytes terms answers → ¬ IsFullFor b.schema b.files b.terms bytes
  accepted_not_full terms answers a = not_full terms a.found.found.proof a.found.found.nodes a.found.found.read a.few

  pub rejected_not_full : (r : CheckError) → Rejects b bytes r → ¬ IsFullFor b.schema b.files b.terms bytes
  rejected_not_full (CheckErrors.Syntax at) fault = λ full. fault.none full.proof full.text
  rejected_not_full (CheckErrors.Stale part) stale = λ full. current_not_stale b bytes full.proof full.text full.current part stale
  rejected_not_full CheckErrors.Strata unstratified = λ full. current_stratified b bytes full.proof full.text full.current unstratified
  rejected_not_full CheckErrors.Full h = absurd h
  rejected_not_full CheckErrors.Memory h = absurd h
  rejected_not_full (CheckErrors.Rejected i w) r = not_full r.terms r.found.found.proof r.found.found.nodes r.found.found.read r.few
