-- Triples deal into so many parts that match an expression exactly where places for them spell so many copies of it.
use Rattle.std.proofs.Common.{◌≡◌, ℕ, List, [], ◌∷◌, refl, sym, subst, ap, ◌∙◌, map, true}
use Rattle.std.proofs.lemmas.List.Sorted.{IsPermutation-map, IsPermutation-sym, IsPermutation-trans}
use Rattle.std.specs.Prelude.{slice_get}
use Rattle.std.specs.List.{AllByRecursion}
use Rattle.std.specs.List.Sorted.{IsPermutation}
use Rattle.rdf_terms.specs.declared.terms.TermId.{TermId}
use Rattle.rdf_terms.specs.declared.terms.Triple.{Triple}
use Rattle.tally.specs.Copies.{Copies}
use Rattle.tally.specs.Plan.{Plan}
use Rattle.tally.specs.Span.{IsSound}
use Rattle.tally.specs.Symbols.{has_symbol, IsDistinct}
use Rattle.tally.proofs.CopyLaws.{copies_agree}
use Rattle.schema_tree.specs.declared.schema.ExprId.{ExprId}
use Rattle.schema_tree.specs.declared.schema.Occurrence.{Occurrence}
use Rattle.schema_tree.specs.declared.verdicts.Place.{Place}
use Rattle.schema_tree.specs.declared.verdicts.Place.TheVariants.{At, Rest}
use Rattle.schema_tree.specs.Copied.{AreDealt, ArePlaced, AreTaken}
use Rattle.schema_tree.specs.Matches.{Takes}
use Rattle.schema_tree.specs.Places.{add_place, times}
use Rattle.schema_tree.proofs.Lifted.{lift}
use Rattle.lists.proofs.Quantifiers.{all_both, all_permuted, all_weaker}
use Rattle.lists.proofs.Joined.{flat}
use Rattle.schema_tree.proofs.Parted.{parts_of}
use Rattle.schema_tree.proofs.Placed.{Placed, count_of, many_placing, placing_of, triples}
use Rattle.schema_tree.proofs.ToPlaces.{times_permuted}

-- the places of triples that all have one
abbrev places_of : List Placed → List Place
places_of qs = map (λ q. At q.1) qs

times_of : (qs : List Placed) (i : ℕ) → times (places_of qs) i ≡ count_of qs i
times_of [] i = refl
times_of (q ∷ qs) i = ap (add_place i (At q.1)) (times_of qs i)

module _ (sat : TermId → ExprId → Type 0) (occs : List Occurrence) (n : TermId) (c : Plan) where
  -- an occurrence that stands in c takes the triple
  abbrev IsTaken : Placed → Type 0
  IsTaken q = (has_symbol q.1 c ≡ true) × Takes sat n (slice_get occs q.1) q.0

  taken_in : (qs : List Placed) → AllByRecursion IsTaken qs → AreTaken sat occs n c (triples qs) (places_of qs)
  taken_in [] h = tt
  taken_in (q ∷ qs) h = (h.0.0, h.0.1, taken_in qs h.1)

  -- from parts to places
  pub placed_from : IsDistinct c → (k : ℕ) (ts : List Triple) → AreDealt sat occs n c k ts → ArePlaced sat occs n c k ts
  placed_from distinct k ts d =
      let r = many_placing sat occs n c (λ part m. placing_of sat occs n c distinct part m) d.parts d.each in
      let whole : IsPermutation ts (triples r.placed) = IsPermutation-trans _ _ _ d.deals r.deals in
      let l = lift (λ q. q.0) r.placed ts (IsPermutation-sym _ _ whole) in
      record {
        places = places_of l.lifted;
        taken = subst (λ us. AreTaken sat occs n c us (places_of l.lifted)) l.is
            (taken_in l.lifted (all_permuted IsTaken r.placed l.lifted l.moved (all_both _ _ r.placed r.within r.taken)));
        spelled = copies_agree c (count_of r.placed) (times (places_of l.lifted)) k (λ i e. same r.placed l.lifted l.moved i)
            (subst (λ m. Copies c (count_of r.placed) m) d.many r.spelled);
      }
    where
      same : (qs rs : List Placed) → IsPermutation qs rs → (i : ℕ) → count_of qs i ≡ times (places_of rs) i
      same qs rs moved i = sym (times_of qs i) ∙ sym (times_permuted (places_of qs) (places_of rs) i (IsPermutation-map (λ q. At q.1) qs rs moved))

  -- triples and their places as pairs
  record Zipped (ts : List Triple) (ps : List Place) : Type 0 where
    pub pairs : List Placed
    pub firsts : triples pairs ≡ ts
    pub seconds : places_of pairs ≡ ps
    pub taken : AllByRecursion IsTaken pairs

  zipped : (ts : List Triple) (ps : List Place) → AreTaken sat occs n c ts ps → Zipped ts ps
  zipped [] [] h = record { pairs = []; firsts = refl; seconds = refl; taken = tt }
  zipped [] (p ∷ ps) h = absurd h
  zipped (t ∷ ts) [] h = absurd h
  zipped (t ∷ ts) (Rest ∷ ps) h = absurd h
  zipped (t ∷ ts) (At i ∷ ps) h =
      let r = zipped ts ps h.2 in
      record {
        pairs = (t, i) ∷ r.pairs;
        firsts = ap (λ us. t ∷ us) r.firsts;
        seconds = ap (λ qs. At i ∷ qs) r.seconds;
        taken = ((h.0, h.1), r.taken);
      }

  -- from places to parts
  pub dealt_from : IsDistinct c → IsSound c → (k : ℕ) (ts : List Triple) → ArePlaced sat occs n c k ts → AreDealt sat occs n c k ts
  dealt_from distinct sound k ts h =
      let z = zipped ts h.places h.taken in
      let r = parts_of sat occs n c distinct sound k z.pairs (all_weaker IsTaken _ z.pairs (λ q i m. m.1) z.taken)
      (all_weaker IsTaken _ z.pairs (λ q i m. m.0) z.taken)
      (copies_agree c (times h.places) (count_of z.pairs) k (λ i e. ap (λ ps. times ps i) (sym z.seconds) ∙ times_of z.pairs i) h.spelled) in
      record { parts = r.parts; many = r.many; deals = subst (λ us. IsPermutation us (flat r.parts)) z.firsts r.deals; each = r.all }
