-- Blocks that are made one after the other, and answers.
use Rattle.std.proofs.Common.{◌≡◌, ◌∙◌, ℕ, ◌<◌, ◌≤◌, ◌+◌, refl, arith, sym, subst, ap, get_or, take, length, List, [], ◌∷◌, ◌++◌}
use Rattle.std.proofs.Math.Seq.{take-length}
use Rattle.std.proofs.lemmas.Grind.{flat_map-append}
use Rattle.std.proofs.lemmas.List.{append-nil, append_assoc, length-append}
use Rattle.std.proofs.lemmas.List.Concat.{flat_map-cons}
use Rattle.std.proofs.lemmas.Option.{get_or_from_slice_get, slice_get_within}
use Rattle.std.specs.Prelude.{Some, slice_get}
use Rattle.std.specs.List.{AllByRecursion, AllZip, flat_map}
use Rattle.lists.specs.Distinct.{AreDistinct}
use Rattle.lists.proofs.Additions.{kept_at}
use Rattle.lists.proofs.Beside.{zip_more, zip_on}
use Rattle.rdf_terms.specs.declared.terms.Term.{Term}
use Rattle.rdf_terms.specs.declared.terms.Triple.{Triple}
use Rattle.schema_tree.specs.declared.schema.Schema.{Schema}
use Rattle.schema_tree.specs.Sure.{Known}
use Rattle.shape_map.specs.declared.resolve.Association.{Association}
use Rattle.explanations.specs.declared.explanation.Block.{Block}
use Rattle.explanations.specs.declared.explanation.Told.{Told}
use Rattle.explanations.specs.declared.subject.Subject.{Subject}
use Rattle.explanations.specs.Blocks.{IsBlock}
use Rattle.explanations.specs.Explanations.{IsExplanation, IsTold}
use Rattle.explanations.specs.Finding.{AreTold}
use Rattle.explanations.specs.Mentions.{AreNumbered, block_mentions, blocks_in, told_mentions}
use Rattle.explanations.specs.Numbers.{AreInTurn, Fails, GoesOn, Numbers}
use Rattle.explanations.proofs.Numbering.{goes_itself, goes_on, numbers_more, numbers_none}

blocks_more : (answers : List Told) (t : Told) → blocks_in (answers ++ t ∷ []) ≡ blocks_in answers ++ t.blocks
blocks_more answers t =
    flat_map-append (λ x. x.blocks) answers (t ∷ []) ∙ ap (λ z. blocks_in answers ++ z) (flat_map-cons (λ x. x.blocks) t [] ∙ append-nil t.blocks)

-- one more answer with its blocks
numbered_more : (n m : ℕ) (answers : List Told) (t : Told) → AreNumbered n answers → m ≡ n + length (blocks_in answers) →
    AreInTurn m (told_mentions t) (m + length t.blocks) → AreNumbered n (answers ++ t ∷ [])
numbered_more n m [] t h is turn = (subst (λ z. AreInTurn z (told_mentions t) (z + length t.blocks)) (let e = is in omega (arith, e)) turn, tt)
numbered_more n m (a ∷ answers) t h is turn = (h.0, numbered_more (n + length a.blocks) m answers t h.1 (is ∙ size) turn)
  where
    size : n + length (blocks_in (a ∷ answers)) ≡ (n + length a.blocks) + length (blocks_in answers)
    size =
        let e = ap (λ z. length z) (flat_map-cons (λ x. x.blocks) a answers) in
        let l = length-append a.blocks (blocks_in answers) in
        omega (arith, e, l)

module _ (s : Schema) (terms : List Term) (view : Known) (g : List Triple) where
  -- the blocks of the subjects from one place up to another are made, and the subjects are numbered as they mention them
  pub record IsWalked (start : List Subject) (from : ℕ) (seen : List Subject) (at : ℕ) (blocks : List Block) : Type 0 where
    pub numbers : Numbers s terms view start (flat_map block_mentions blocks) seen
    pub place : at ≡ from + length blocks
    pub inside : at ≤ length seen
    pub are : (all : List Subject) (front : List Block) → GoesOn seen all → AllZip (IsBlock s terms view all g) (take from all) front →
        AllZip (IsBlock s terms view all g) (take at all) (front ++ blocks)

  pub walk_none : (start : List Subject) (from : ℕ) (blocks : List Block) → blocks ≡ [] → from ≤ length start → IsWalked start from start from blocks
  walk_none start from blocks is inside = subst (λ z. IsWalked start from start from z) (sym is) (record {
    numbers = numbers_none s terms view start;
    place = omega arith;
    inside = inside;
    are = λ all front on zip. subst (λ z. AllZip (IsBlock s terms view all g) (take from all) z) (sym (append-nil front)) zip;
  })

  pub walk_next : (start : List Subject) (from : ℕ) (seen new : List Subject) (at : ℕ) (blocks more : List Block) (subject : Subject) (b : Block) →
      IsWalked start from seen at blocks → slice_get seen at ≡ Some subject → Numbers s terms view seen (block_mentions b) new →
      ((all : List Subject) → GoesOn new all → IsBlock s terms view all g subject b) → more ≡ blocks ++ b ∷ [] → IsWalked start from new (at + 1) more
  walk_next start from seen new at blocks more subject b before there numbers is same = record {
    numbers = numbers_more s terms view block_mentions blocks more b start seen new before.numbers numbers same;
    place =
        let p = before.place in let e = ap (λ z. length z) same in let l = length-append blocks (b ∷ []) in
        omega (arith, p, e, l);
    inside = within (slice_get_within new at subject (kept_at seen new at subject numbers.grown there));
    are = λ all front on zip. next all front on (before.are all front (goes_on seen new all numbers.grown on) zip);
  }
    where
      within : at < length new → at + 1 ≤ length new
      within lt = omega (arith, lt)

      next : (all : List Subject) (front : List Block) → GoesOn new all → AllZip (IsBlock s terms view all g) (take at all) (front ++ blocks) →
          AllZip (IsBlock s terms view all g) (take (at + 1) all) (front ++ more)
      next all front on zip =
          let held = kept_at seen all at subject (goes_on seen new all numbers.grown on) there in
          zip_on (IsBlock s terms view all g) all (front ++ blocks) (front ++ more) at subject b (slice_get_within all at subject held) zip
          (subst (λ z. IsBlock s terms view all g z b) (sym (get_or_from_slice_get all at subject subject held)) (is all on))
          (ap (λ z. front ++ z) same ∙ sym (append_assoc front blocks (b ∷ [])))

  pub walk_place : (start : List Subject) (from : ℕ) (seen : List Subject) (at : ℕ) (blocks : List Block) → IsWalked start from seen at blocks →
      length seen ≤ at → at ≡ length seen
  walk_place start from seen at blocks walked past = let i = walked.inside in omega (arith, i, past)

  -- subjects that go on are no fewer
  pub no_fewer : (old new : List Subject) → GoesOn old new → length old ≤ length new
  no_fewer old new (behind, e) = let l = length-append old behind in let k = ap (λ z. length z) e in omega (arith, l, k)

  -- associations are told, and what was seen has its blocks
  pub record AreToldSoFar (seen : List Subject) (asked : List Association) (answers : List Told) : Type 0 where
    pub fail : AllByRecursion (Fails s terms view) seen
    pub count : length seen ≡ length (blocks_in answers)
    pub told : (all : List Subject) → GoesOn seen all → AllZip (IsTold s terms view all) asked answers
    pub blocks : (all : List Subject) → GoesOn seen all → AllZip (IsBlock s terms view all g) (take (length seen) all) (blocks_in answers)
    pub numbered : AreNumbered 0 answers

  pub told_none : (seen : List Subject) (answers : List Told) → seen ≡ [] → answers ≡ [] → AreToldSoFar seen [] answers
  told_none seen answers none empty =
      subst (λ z. AreToldSoFar z [] answers) (sym none) (subst (λ z. AreToldSoFar [] [] z) (sym empty)
      (record { fail = tt; count = refl; told = λ all on. tt; blocks = λ all on. tt; numbered = tt }))

  pub told_next : (seen new : List Subject) (asked : List Association) (i : ℕ) (a : Association) (answers more : List Told) (t : Told) → i < length asked → a ≡ get_or asked i a →
      AreToldSoFar seen (take i asked) answers → Numbers s terms view seen (told_mentions t) new → length new ≡ length seen + length t.blocks →
      ((all : List Subject) → GoesOn new all → IsTold s terms view all a t) →
      ((all : List Subject) (front : List Block) → GoesOn new all → AllZip (IsBlock s terms view all g) (take (length seen) all) front →
      AllZip (IsBlock s terms view all g) (take (length new) all) (front ++ t.blocks)) →
      more ≡ answers ++ t ∷ [] → AreToldSoFar new (take (i + 1) asked) more
  told_next seen new asked i a answers more t inside read before numbers count is blocks same = record {
    fail = numbers.fail before.fail;
    count =
        let b = before.count in let m = ap (λ z. length z) joined in let l = length-append (blocks_in answers) t.blocks in
        omega (arith, b, count, m, l);
    told = λ all on. subst (λ z. AllZip (IsTold s terms view all) (take (i + 1) asked) z) (sym same)
        (zip_more (IsTold s terms view all) asked answers i a t inside read (before.told all (goes_on seen new all numbers.grown on)) (is all on));
    blocks = λ all on. subst (λ z. AllZip (IsBlock s terms view all g) (take (length new) all) z) (sym joined)
        (blocks all (blocks_in answers) on (before.blocks all (goes_on seen new all numbers.grown on)));
    numbered = subst (λ z. AreNumbered 0 z) (sym same)
        (numbered_more 0 (length seen) answers t before.numbered (let b = before.count in omega (arith, b))
        (subst (λ z. AreInTurn (length seen) (told_mentions t) z) count numbers.in_turn));
  }
    where
      joined : blocks_in more ≡ blocks_in answers ++ t.blocks
      joined = ap (λ z. blocks_in z) same ∙ blocks_more answers t

  pub told_all : (seen : List Subject) (asked : List Association) (answers : List Told) → AreToldSoFar seen asked answers → AreTold s terms view g seen asked answers
  told_all seen asked answers so_far = record {
    fail = so_far.fail;
    told = so_far.told seen (goes_itself seen);
    blocks = subst (λ z. AllZip (IsBlock s terms view seen g) z (blocks_in answers)) (take-length seen) (so_far.blocks seen (goes_itself seen));
    numbered = so_far.numbered;
    count = sym so_far.count;
  }

  -- what is told is an explanation, the subjects being distinct
  pub explained : (seen : List Subject) (asked : List Association) (answers given : List Told) → given ≡ answers → AreTold s terms view g seen asked answers →
      AreDistinct seen → IsExplanation s terms view g asked (record { answers = given })
  explained seen asked answers given is told once = subst (λ z. IsExplanation s terms view g asked (record { answers = z })) (sym is) (record {
    subjects = seen;
    once = once;
    fail = told.fail;
    told = told.told;
    blocks = told.blocks;
    numbered = told.numbered;
  })
