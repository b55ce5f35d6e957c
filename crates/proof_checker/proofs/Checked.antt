-- What the check of a whole proof rests on.
use Rattle.std.proofs.Common.{◌≡◌, ℕ, suc, ◌^◌, ◌<◌, ◌≤◌, length, map, List, [], ◌∷◌, ◌++◌, refl, arith, ap, sym, subst, ◌∙◌}
use Rattle.std.proofs.lemmas.List.{map-append, length-append}
use Rattle.std.specs.Prelude.{All, Contains, Option, Some, None, slice_get, option_map}
use Rattle.std.specs.List.{flat_map}
use Rattle.rdf_terms.specs.declared.terms.TermId.{TermId}
use Rattle.rdf_terms.specs.declared.terms.Term.{Term}
use Rattle.rdf_terms.specs.declared.terms.Triple.{Triple}
use Rattle.schema_tree.specs.declared.schema.Answer.{Answer}
use Rattle.schema_tree.specs.declared.schema.Schema.{Schema}
use Rattle.lists.proofs.Members.{in_flat_map, in_map, is_later}
use Rattle.lists.proofs.Quantifiers.{all_at}
use Rattle.std.proofs.lemmas.List.Elements.{Contains-append_left, Contains-append_right}
use Rattle.proof_file.specs.declared.Claim.{Claim}
use Rattle.graph_index.specs.Contents.{Contents, IsSealedWith}
use Rattle.graph_index.specs.Laws.{IsOfTable, SealingOutlivesGrowth}
use Rattle.proof_file.specs.declared.Record.{Record}
use Rattle.proof_file.specs.declared.RecordKind.{RecordKind}
use Rattle.proof_file.specs.declared.RecordKind.TheVariants.{Plus, Minus}
use Rattle.proof_file.specs.declared.Section.{Section}
use Rattle.proof_file.specs.declared.Proof.{Proof}
use Rattle.proof_file.specs.declared.head.Digests.{Digests}
use Rattle.proof_file.specs.Accepts.{AreAccepted, IsAccepted, Setting, in_section, is_claim, items_of, setting_of}
use Rattle.proof_file.specs.Laws.{LinesAreFew}
use Rattle.proof_file.specs.Text.{IsKind, IsLine, ProofText, body_lines, head_lines, lines_of, section_lines}
use Rattle.proof_file.specs.declared.line.Line.TheVariants as Lines
use Rattle.proof_checker.specs.declared.items.Fault.{Fault}
use Rattle.proof_checker.specs.Checks.{IsReadAs, IsRejectedFor, KeepsTerms}
use Rattle.proof_checker.specs.Current.{AreUsed, IsCurrent}
use Rattle.proof_file.specs.Answers.{AreClaimed, answer_with}
use Rattle.proof_checker.specs.Faults.{AreRising, FirstFault, StatesRise, proof_of, section_items}
use Rattle.proof_checker.proofs.Found.{fault_none, fault_some, map_long}

pub answers_push : (nodes : List TermId) (claims : List Claim) (claim : Claim) (given : List Answer) (a : Answer) →
    option_map (answer_with claim) (slice_get nodes claim.node) ≡ Some a → AreClaimed nodes claims given → AreClaimed nodes (claims ++ claim ∷ []) (given ++ a ∷ [])
answers_push nodes claims claim given a own before =
    map-append (λ c. option_map (answer_with c) (slice_get nodes c.node)) claims (claim ∷ [])
    ∙ ap (λ zs. zs ++ option_map (answer_with claim) (slice_get nodes claim.node) ∷ []) before
    ∙ ap (λ o. map (λ z. Some z) given ++ o ∷ []) own ∙ sym (map-append (λ z. Some z) given (a ∷ []))

-- a proof has no more items than lines
sections_few : (xs : List Section) → length (section_items xs) ≤ length (flat_map section_lines xs)
sections_few [] = omega arith
sections_few (x ∷ xs) =
    let a = length-append (map (λ r. in_section x.stratum r) x.records) (section_items xs) in
    let b = length-append (section_lines x) (flat_map section_lines xs) in
    let c = map_long (λ r. in_section x.stratum r) x.records in
    let d = map_long (λ r. Lines.Record r) x.records in
    let e = sections_few xs in
    omega (arith, a, b, c, d, e)

items_few : (p : Proof) → length (items_of p) ≤ length (lines_of p)
items_few p =
    let a = length-append (section_items p.sections) (map (λ c. is_claim c) p.claims) in
    let h = length-append (head_lines p.head) (body_lines p) in
    let b = length-append (map (λ t. Lines.Node t) p.nodes) (flat_map section_lines p.sections ++ map (λ c. Lines.Claim c) p.claims) in
    let c = length-append (flat_map section_lines p.sections) (map (λ c. Lines.Claim c) p.claims) in
    let d = map_long (λ c. is_claim c) p.claims in
    let e = map_long (λ c. Lines.Claim c) p.claims in
    let f = sections_few p.sections in
    omega (arith, a, b, c, d, e, f, h)

kind_rises : (kind : RecordKind) → IsKind kind → StatesRise kind
kind_rises (Plus places) h = tt
kind_rises (Minus rank states) h = h.1.1

-- a graph that is sealed with a table is so with each that keeps its terms
prefix_of : (old new : List Term) → KeepsTerms old new → (more : List Term) × (new ≡ old ++ more)
prefix_of [] new keeps = (new, refl)
prefix_of (t ∷ old) [] keeps = absurd (nothing (keeps 0 t refl))
  where
    nothing : {X : Type 0} {x : X} → None ≡ Some x → ⊥
    nothing h = cc
prefix_of (t ∷ old) (u ∷ new) keeps =
    let first : u ≡ t = one (keeps 0 t refl) in
    let (more, rest) = prefix_of old new (λ i x at. keeps (suc i) x at) in
    (more, λ i. first i ∷ rest i)
  where
    one : {X : Type 0} {x y : X} → Some x ≡ Some y → x ≡ y
    one h = cc

pub still_sealed : SealingOutlivesGrowth → (old new : List Term) (g : Contents) → KeepsTerms old new → All (IsOfTable old) g.triples → IsSealedWith old g → IsSealedWith new g
still_sealed law old new g keeps numbers sealed =
    let (more, is) = prefix_of old new keeps in
    subst (λ ts. IsSealedWith ts g) (sym is) (law old more g numbers sealed)

module _ (p : Proof) (sections : List Section) (claims : List Claim) (same : sections ≡ p.sections) (alike : claims ≡ p.claims) where
  pub items_fit : LinesAreFew → (bytes : List ℕ) → ProofText p bytes → length bytes < 2 ^ 64 → length (items_of (proof_of sections claims)) < 2 ^ 64
  items_fit law bytes text long =
      subst (λ xs. length (items_of (proof_of xs claims)) < 2 ^ 64) (sym same)
      (subst (λ cs. length (items_of (proof_of p.sections cs)) < 2 ^ 64) (sym alike)
      (let a = law p bytes text in let b = items_few p in omega (arith, a, b, long)))

  whole : (x : Setting) (o : Option Fault) → FirstFault x (proof_of sections claims) (items_of (proof_of sections claims)) o → FirstFault x p (items_of p) o
  whole x o found =
      subst (λ cs. FirstFault x (proof_of p.sections cs) (items_of (proof_of p.sections cs)) o) alike
      (subst (λ xs. FirstFault x (proof_of xs claims) (items_of (proof_of xs claims)) o) same found)

  -- what the first fault says of the proof as it was read
  pub rejected_for : (f : List ℕ) (s : Schema) (files : Digests) (old terms : List Term) (g : List Triple) (bytes : List ℕ) (nodes lent : List TermId) → lent ≡ nodes →
      IsReadAs old terms bytes p nodes → IsCurrent s files p.head → AreUsed s p.head f → (o : Option Fault) (fault : Fault) → o ≡ Some fault →
      FirstFault (setting_of f s terms g lent) (proof_of sections claims) (items_of (proof_of sections claims)) o →
      IsRejectedFor s files old terms g bytes fault.item fault.why
  rejected_for f s files old terms g bytes nodes lent one read current used o fault is found =
      let at : FirstFault (setting_of f s terms g nodes) p (items_of p) (Some fault) =
      subst (λ ns. FirstFault (setting_of f s terms g ns) p (items_of p) (Some fault)) one
      (fault_some (setting_of f s terms g lent) p (items_of p) o fault is (whole (setting_of f s terms g lent) o found)) in
      let (within, all, fails) = at in
      record { strata = f; found = record { proof = p; nodes = nodes; read = read; rejected = (all, fails) }; current = current; used = used }

  pub accepted_all : (f : List ℕ) (s : Schema) (terms : List Term) (g : List Triple) (lent : List TermId) (o : Option Fault) → ((fault : Fault) → ¬ (o ≡ Some fault)) →
      FirstFault (setting_of f s terms g lent) (proof_of sections claims) (items_of (proof_of sections claims)) o → AreAccepted (setting_of f s terms g lent) p
  accepted_all f s terms g lent o none found =
      fault_none (setting_of f s terms g lent) p (items_of p) o none (whole (setting_of f s terms g lent) o found)

  pub claims_in : (x : Setting) → AreAccepted x p → (c : Claim) → Contains claims c → c.node < length x.nodes
  claims_in x all c held =
      let item = all_at (IsAccepted x p) (items_of p) (is_claim c) all
      (Contains-append_right (section_items p.sections) (map (λ d. is_claim d) p.claims) (is_claim c)
      (in_map (λ d. is_claim d) p.claims c (subst (λ cs. Contains cs c) alike held))) in
      item.0

  -- the states of each record strictly rise
  rises_at : (bytes : List ℕ) → ProofText p bytes → (x : Section) → Contains sections x → (r : Record) → Contains x.records r → StatesRise r.kind
  rises_at bytes text x held r there = kind_rises r.kind line.1.1
    where
      line : IsLine (Lines.Record r)
      line =
          all_at IsLine (lines_of p) (Lines.Record r) text.keeps.lines
          (Contains-append_right (head_lines p.head) (body_lines p) (Lines.Record r)
          (Contains-append_right (map (λ t. Lines.Node t) p.nodes) (flat_map section_lines p.sections ++ map (λ c. Lines.Claim c) p.claims) (Lines.Record r)
          (Contains-append_left (flat_map section_lines p.sections) (map (λ c. Lines.Claim c) p.claims) (Lines.Record r)
          (in_flat_map section_lines p.sections x (Lines.Record r) (subst (λ xs. Contains xs x) same held)
          (is_later (Lines.Section x.stratum) (map (λ r. Lines.Record r) x.records) (Lines.Record r) (in_map (λ r. Lines.Record r) x.records r there))))))

  pub sections_rise : (bytes : List ℕ) → ProofText p bytes → AreRising sections
  sections_rise bytes text = rises_at bytes text
