-- Sections of records, and what they show.
use Rattle.std.proofs.Common.{◌≡◌, ◌∙◌, ℕ, zero, suc, ◌<◌, ◌+◌, ◌⊎◌, inl, inr, List, [], ◌∷◌, ◌++◌, arith, refl, sym, subst, length}
use Rattle.std.proofs.lemmas.List.Elements.{Contains-append_cases, Contains-append_right}
use Rattle.std.proofs.lemmas.Option.{slice_get_within}
use Rattle.std.specs.Prelude.{Contains, Option, Some, None, slice_get}
use Rattle.lists.proofs.Members.{in_one, is_first, not_in_none}
use Rattle.rdf_terms.specs.declared.terms.Term.{Term}
use Rattle.rdf_terms.specs.declared.terms.TermId.{TermId}
use Rattle.schema_tree.specs.declared.schema.Pair.{Pair}
use Rattle.schema_tree.specs.Edges.{level}
use Rattle.schema_tree.specs.Rising.{Rises, RisesFrom}
use Rattle.proof_file.specs.declared.Record.{Record}
use Rattle.proof_file.specs.declared.RecordKind.{RecordKind}
use Rattle.proof_file.specs.declared.Section.{Section}
use Rattle.proof_file.specs.Text.{IsSectionBefore}
use Rattle.removal_laws.proofs.Known.{held_at}
use Rattle.typing_refiner.specs.Evidence.{IsListed}
use Rattle.typing_refiner.specs.Filing.{AreFiled, HasRecord, IsFiled, section_of, sections_from}

-- a section is that of a list that has records
abbrev pub IsSectionOf : ℕ → List (List Record) → Section → Type 0
IsSectionOf n lists x = (j : ℕ) × (slice_get lists j ≡ Some x.records) × (x.stratum ≡ n + j) × ((r : Record) × Contains x.records r)

section_in : (n : ℕ) (lists : List (List Record)) (x : Section) → Contains (sections_from n lists) x → IsSectionOf n lists x
section_in n [] x c = absurd (not_in_none x c)
section_in n (rs ∷ lists) x c = go rs (Contains-append_cases (section_of n rs) (sections_from (suc n) lists) x c) (λ d. section_in (suc n) lists x d)
  where
    go : (rs : List Record) → Contains (section_of n rs) x ⊎ Contains (sections_from (suc n) lists) x →
        (Contains (sections_from (suc n) lists) x → IsSectionOf (suc n) lists x) → IsSectionOf n (rs ∷ lists) x
    go [] (inl h) deeper = absurd (not_in_none x h)
    go (r ∷ rs) (inl h) deeper =
        let e : record { stratum = n; records = r ∷ rs } ≡ x = in_one (record { stratum = n; records = r ∷ rs }) x h in
        subst (IsSectionOf n ((r ∷ rs) ∷ lists)) e (0, refl, (let z : n ≡ n + 0 = omega arith in z), (r, is_first r rs))
    go rs (inr l) deeper = let (j, at, is, some) = deeper l in (suc j, at, (let z : x.stratum ≡ n + suc j = omega (arith, is) in z), some)

listed_in : (n : ℕ) (lists : List (List Record)) (k : ℕ) (r : Record) → IsListed (sections_from n lists) k r → (j : ℕ) × (k ≡ n + j) × HasRecord lists j r
listed_in n lists k r (x, held, is, c) = let (j, at, st, some) = section_in n lists x held in (j, sym is ∙ st, (x.records, at, c))

in_listed : (n : ℕ) (lists : List (List Record)) (j : ℕ) (r : Record) → HasRecord lists j r → IsListed (sections_from n lists) (n + j) r
in_listed n [] j r (rs, at, c) = absurd (let e : None ≡ Some rs = at in cc)
in_listed n (rs ∷ lists) zero r (ss, at, c) = go rs (subst (λ xs. Contains xs r) (let f : Some rs ≡ Some ss = at in let e : ss ≡ rs = cc in e) c)
  where
    go : (rs : List Record) → Contains rs r → IsListed (section_of n rs ++ sections_from (suc n) lists) (n + 0) r
    go [] d = absurd (not_in_none r d)
    go (a ∷ as_) d = (
      record { stratum = n; records = a ∷ as_ },
      is_first (record { stratum = n; records = a ∷ as_ }) (sections_from (suc n) lists),
      (let z : n ≡ n + 0 = omega arith in z),
      d,
    )
in_listed n (rs ∷ lists) (suc j) r (ss, at, c) =
    let (x, held, is, d) = in_listed (suc n) lists j r (ss, at, c) in
    (x, Contains-append_right (section_of n rs) (sections_from (suc n) lists) x held, (let z : x.stratum ≡ n + suc j = omega (arith, is) in z), d)

rises_from : (n : ℕ) (lists : List (List Record)) (x : Section) → x.stratum < n → RisesFrom IsSectionBefore x (sections_from n lists)
rises_from n [] x lt = tt
rises_from n ([] ∷ lists) x lt = rises_from (suc n) lists x (let l : x.stratum < suc n = omega (arith, lt) in l)
rises_from n ((r ∷ rs) ∷ lists) x lt = (lt, rises_from (suc n) lists (record { stratum = n; records = r ∷ rs }) (let l : n < suc n = omega arith in l))

rises : (n : ℕ) (lists : List (List Record)) → Rises IsSectionBefore (sections_from n lists)
rises n [] = tt
rises n ([] ∷ lists) = rises (suc n) lists
rises n ((r ∷ rs) ∷ lists) = rises_from (suc n) lists (record { stratum = n; records = r ∷ rs }) (let l : n < suc n = omega arith in l)

at_zero : (sections : List Section) (k : ℕ) (r : Record) → IsListed sections (0 + k) r → IsListed sections k r
at_zero sections k r h = subst (λ j. IsListed sections j r) (let e : 0 + k ≡ k = omega arith in e) h

-- all records are in their sections
pub filed_end : (terms : List Term) (f : List ℕ) (table : List Pair) (kinds : List (Option RecordKind)) (nodes : List TermId) (lists : List (List Record)) (sections : List Section) → length kinds ≡
    length table →
    IsFiled terms f table kinds (length kinds) nodes lists → sections ≡ sections_from 0 lists → AreFiled terms f table kinds nodes sections
filed_end terms f table kinds nodes lists sections same filed is = subst (AreFiled terms f table kinds nodes) (sym is) (record {
  each = λ k r h. (let (j, e, has) = listed_in 0 lists k r h in
      let (i, q, lt, at_q, of, on, kd) = filed.each j r has in (i, q, at_q, of, (let z : level f q.shape ≡ k = omega (arith, on, e) in z), kd));
  whole = λ i q kd at_q said. (let inside = slice_get_within table i q at_q in
      let (r, has, of) = filed.whole i q kd (let l : i < length kinds = omega (arith, inside, same) in l) at_q said in
      (r, at_zero (sections_from 0 lists) (level f q.shape) r (in_listed 0 lists (level f q.shape) r has), of));
  used = λ n c. (let (j, e) = held_at nodes n c in let (k, r, has, is_j) = filed.used j n e in
      (k, r, at_zero (sections_from 0 lists) k r (in_listed 0 lists k r has), subst (λ z. slice_get nodes z ≡ Some n) (sym is_j) e));
  some = λ x c. (let (j, at, st, some) = section_in 0 lists x c in some);
  sections_rise = rises 0 lists;
  records_rise = λ x c. (let (j, at, st, some) = section_in 0 lists x c in filed.rising j x.records at);
  order = filed.order;
})
