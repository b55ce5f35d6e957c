-- The reading of a text from place to place.
use Rattle.std.proofs.Common.{◌≡◌, ℕ, zero, suc, ◌+◌, ◌<◌, ◌≤◌, ◌⊎◌, inl, inr, List, [], ◌∷◌, ◌++◌, length, drop, get_or, refl, arith, sym, subst, ap, ◌∙◌, Bool, true, false, ◌&&◌, ◌||◌, add-one, below_more, length-append, append_assoc}
use Rattle.std.specs.Prelude.{replicate, slice_index, slice_index_or, nat_eq}
use Rattle.std.proofs.lemmas.Bool.{lt-ltb, eqb-true, eq-eqb, cases_lt}
use Rattle.std.proofs.Math.Seq.{get_or-append_seam}
use Rattle.std.proofs.lemmas.List.{length-replicate, get_or_default, append-nil, nil_from_length}
use Rattle.std.proofs.lemmas.Str.{chars_past_char, IsUtf8-past_char, chars-nil}
use Rattle.std.specs.Str.{chars, IsUtf8}
use lib.Utf8.{encode}
use Rattle.xs_pattern.specs.declared.expression.Flags.{Flags}
use Rattle.xs_pattern.specs.declared.walk.Edge.{Edge}
use Rattle.xs_pattern.specs.Regex.{Chars}
use Rattle.xs_pattern.specs.Unrolling.{edge_at, having, has_at, exits, exits_at, marks_at}
use Rattle.xs_pattern.specs.Way.{Way, size, passes, ends, next, Runs}
use Rattle.xs_pattern.proofs.Reading.{length-next, IsRun, Came, exact, passes_holds, holds_passes, forward, or_left, or_right, or_cases}

not_true : (b : Bool) → (b ≡ true → ⊥) → b ≡ false
not_true true h = absurd (h refl)
not_true false h = refl

module _ (f : Flags) (ss : List Chars) (text : List ℕ) (w : Way) where
  pub length-marks_at : (i : ℕ) → length (marks_at f ss text w i) ≡ size w
  unfolding marks_at
  length-marks_at zero = length-replicate (size w) false
  length-marks_at (suc i) = length-next (edge_at text i) (has_at f ss text i) w true (marks_at f ss text w i)

  -- within the text the place is no end
  pub edge_within : (i : ℕ) → i < length text → (edge : Edge) → edge ≡ record { start = nat_eq i 0; end = false } → edge ≡ edge_at text i
  edge_within i lt edge is =
      is ∙ ap (λ b. record { start = nat_eq i 0; end = b }) (sym (not_true (nat_eq i (length text)) (λ h. let e = eqb-true i (length text) h in omega arith)))

  has_within : (i c : ℕ) → i < length text → c ≡ slice_index text i → has_at f ss text i ≡ (λ k. slice_index_or (having f ss c) k false)
  has_within i c lt is =
      ap (λ b. λ k. b && slice_index_or (having f ss (slice_index text i)) k false) (lt-ltb i (length text) lt)
      ∙ ap (λ d. λ k. slice_index_or (having f ss d) k false) (sym is)

  element : (i c : ℕ) → i < length text → c ≡ get_or text i c → c ≡ slice_index text i
  element i c lt is = is ∙ get_or_default text i c 0 lt

  -- one character further
  pub read_on : (i c : ℕ) (edge : Edge) (before behind : List Bool) → i < length text → c ≡ get_or text i c →
      edge ≡ record { start = nat_eq i 0; end = false } → before ≡ marks_at f ss text w i →
      behind ≡ next edge (λ k. slice_index_or (having f ss c) k false) w true before → behind ≡ marks_at f ss text w (i + 1)
  unfolding marks_at
  read_on i c edge before behind lt at is b h =
      rw add-one (h ∙ (ap (λ e. next e (λ k. slice_index_or (having f ss c) k false) w true before) (edge_within i lt edge is)
      ∙ (ap (λ g. next (edge_at text i) g w true before) (sym (has_within i c lt (element i c lt at)))
      ∙ ap (λ m. next (edge_at text i) (has_at f ss text i) w true m) b)))

  pub read_exits : (i : ℕ) (edge : Edge) (before : List Bool) (r : Bool) → edge ≡ edge_at text i → before ≡ marks_at f ss text w i → r ≡ exits edge w before → r ≡ exits_at f ss text w i
  read_exits i edge before r is b h = h ∙ (ap (λ e. exits e w before) is ∙ ap (λ m. exits (edge_at text i) w m) b)

  -- The characters so far are read, and these bytes of the text are left.
  pub record IsReadUpTo (so_far left : List ℕ) (none : Bool) (set : List Bool) : Type 0 where
    pub utf8 : IsUtf8 left
    pub split : so_far ++ chars left ≡ text
    pub start : none ≡ nat_eq (length so_far) 0
    pub marks : set ≡ marks_at f ss text w (length so_far)
    pub missed : (k : ℕ) → k < length so_far → exits_at f ss text w k ≡ false

  -- nothing is read yet
  pub begun : (bytes : List ℕ) (marks : List Bool) → IsUtf8 bytes → chars bytes ≡ text → marks ≡ replicate (size w) false → IsReadUpTo [] bytes true marks
  unfolding marks_at
  begun bytes marks u is blank = record { utf8 = u; split = is; start = refl; marks = blank; missed = λ k lt. absurd (omega arith) }

  -- the next character: where it stands, and what a place before it is
  split_next : (so_far left rest : List ℕ) (c : ℕ) (start : Bool) (before : List Bool) → left ≡ encode c ++ rest → IsReadUpTo so_far left start before → text ≡ so_far ++ c ∷ chars rest
  split_next so_far left rest c start before ahead read = sym read.split ∙ ap (λ v. so_far ++ v) (chars_past_char left rest c read.utf8 ahead)

  is_within : (so_far rest : List ℕ) (c : ℕ) → text ≡ so_far ++ c ∷ chars rest → length so_far < length text
  is_within so_far rest c split =
      let whole : length text ≡ length so_far + suc (length (chars rest)) = ap length split ∙ length-append so_far (c ∷ chars rest) in
      omega arith

  is_edge : (so_far : List ℕ) (start : Bool) (edge : Edge) → start ≡ nat_eq (length so_far) 0 → edge ≡ record { start = start; end = false } →
      edge ≡ record { start = nat_eq (length so_far) 0; end = false }
  is_edge so_far start edge from is = is ∙ ap (λ b. record { start = b; end = false }) from

  -- a part of the text ends before the next character, or none does
  pub exits_next : (so_far left rest : List ℕ) (c : ℕ) (start exited : Bool) (edge : Edge) (before : List Bool) →
      left ≡ encode c ++ rest → edge ≡ record { start = start; end = false } → exited ≡ exits edge w before →
      IsReadUpTo so_far left start before → (length so_far < length text) × (exited ≡ exits_at f ss text w (length so_far))
  exits_next so_far left rest c start exited edge before ahead is exit read =
      let within = is_within so_far rest c (split_next so_far left rest c start before ahead read) in
      (within, read_exits (length so_far) edge before exited (edge_within (length so_far) within edge (is_edge so_far start edge read.start is)) read.marks exit)

  pub found_next : (so_far left rest : List ℕ) (c : ℕ) (start exited : Bool) (edge : Edge) (before : List Bool) →
      left ≡ encode c ++ rest → edge ≡ record { start = start; end = false } → exited ≡ exits edge w before → exited ≡ true →
      IsReadUpTo so_far left start before → (j : ℕ) × (j ≤ length text) × (exits_at f ss text w j ≡ true)
  found_next so_far left rest c start exited edge before ahead is exit out read =
      let (within, at) = exits_next so_far left rest c start exited edge before ahead is exit read in
      (length so_far, omega arith, sym at ∙ out)

  -- one character further
  pub goes_on : (so_far left rest : List ℕ) (c : ℕ) (start exited : Bool) (edge : Edge) (before behind lent : List Bool) →
      left ≡ encode c ++ rest → edge ≡ record { start = start; end = false } → lent ≡ having f ss c →
      behind ≡ next edge (λ k. slice_index_or lent k false) w true before → exited ≡ exits edge w before → exited ≡ false →
      IsReadUpTo so_far left start before → IsReadUpTo (so_far ++ c ∷ []) rest false behind
  goes_on so_far left rest c start exited edge before behind lent ahead is has step exit out read =
      let split = split_next so_far left rest c start before ahead read in
      let (within, missed) = exits_next so_far left rest c start exited edge before ahead is exit read in
      let at : c ≡ get_or text (length so_far) c = sym (ap (λ v. get_or v (length so_far) c) split ∙ get_or-append_seam so_far c (chars rest) c) in
      let more : length (so_far ++ c ∷ []) ≡ length so_far + 1 = length-append so_far (c ∷ []) in
      record {
        utf8 = IsUtf8-past_char left rest c read.utf8 ahead;
        split = append_assoc so_far (c ∷ []) (chars rest) ∙ sym split;
        start = sym (not_true (nat_eq (length (so_far ++ c ∷ [])) 0) (λ h. let e = eqb-true (length (so_far ++ c ∷ [])) 0 h in omega arith));
        marks = read_on (length so_far) c edge before behind within at (is_edge so_far start edge read.start is) read.marks (step
            ∙ ap (λ v. next edge (λ k. slice_index_or v k false) w true before) has) ∙ ap (marks_at f ss text w) (sym more);
        missed = subst (λ n. (k : ℕ) → k < n → exits_at f ss text w k ≡ false) (sym more) (below_more _ _ read.missed (sym missed ∙ out));
      }

  -- the end of the text
  pub edge_last : (i : ℕ) → i ≡ length text → (edge : Edge) (none : Bool) → none ≡ nat_eq (length text) 0 → edge ≡ record { start = none; end = true } → edge ≡ edge_at text i
  edge_last i at edge none e is =
      is ∙ (ap (λ b. record { start = b; end = true }) (e ∙ ap (λ v. nat_eq v 0) (sym at))
      ∙ ap (λ b. record { start = nat_eq i 0; end = b }) (sym (eq-eqb i (length text) at)))

  -- what a call answers on the way as a whole
  pub left_is : (r a b : Bool) (edge : Edge) (lent marks : List Bool) → r ≡ (a || b) → a ≡ ends edge w (drop 0 lent) → b ≡ passes edge w → lent ≡ marks → r ≡ exits edge w marks
  left_is r a b edge lent marks is p q same = is ∙ (ap (λ v. v || b) p ∙ (ap (λ v. ends edge w lent || v) q ∙ ap (λ v. exits edge w v) same))

  -- all characters are read
  exits_last : (so_far left : List ℕ) (start exited : Bool) (edge : Edge) (before : List Bool) →
      length left ≡ 0 → edge ≡ record { start = start; end = true } → exited ≡ exits edge w before →
      IsReadUpTo so_far left start before → (length so_far ≡ length text) × (exited ≡ exits_at f ss text w (length so_far))
  exits_last so_far left start exited edge before none is exit read =
      let split : text ≡ so_far = sym read.split ∙ (ap (λ v. so_far ++ chars v) (nil_from_length left none) ∙ (ap (λ v. so_far ++ v) chars-nil ∙ append-nil so_far)) in
      let all : length so_far ≡ length text = sym (ap length split) in
      (all, read_exits (length so_far) edge before exited (edge_last (length so_far) all edge start (read.start ∙ ap (λ n. nat_eq n 0) all) is) read.marks exit)

  pub found_last : (so_far left : List ℕ) (start exited : Bool) (edge : Edge) (before : List Bool) →
      length left ≡ 0 → edge ≡ record { start = start; end = true } → exited ≡ exits edge w before →
      IsReadUpTo so_far left start before → exited ≡ true → (j : ℕ) × (j ≤ length text) × (exits_at f ss text w j ≡ true)
  found_last so_far left start exited edge before none is exit read out =
      let (all, at) = exits_last so_far left start exited edge before none is exit read in
      (length so_far, omega arith, sym at ∙ out)

  pub missed_last : (so_far left : List ℕ) (start exited : Bool) (edge : Edge) (before : List Bool) →
      length left ≡ 0 → edge ≡ record { start = start; end = true } → exited ≡ exits edge w before →
      IsReadUpTo so_far left start before → exited ≡ false → (j : ℕ) → j ≤ length text → exits_at f ss text w j ≡ false
  missed_last so_far left start exited edge before none is exit read out j le =
      let (all, at) = exits_last so_far left start exited edge before none is exit read in go all at (cases_lt j (length so_far))
    where
      go : length so_far ≡ length text → exited ≡ exits_at f ss text w (length so_far) → (j < length so_far) ⊎ (length so_far ≤ j) → exits_at f ss text w j ≡ false
      go all at (inl lt) = read.missed j lt
      go all at (inr from) = let same : length so_far ≡ j = omega arith in subst (λ k. exits_at f ss text w k ≡ false) same (sym at ∙ out)

  -- what is exact of the whole run
  run : IsRun (edge_at text) (has_at f ss text) w (λ i. true) (marks_at f ss text w)
  unfolding marks_at
  run = record {
    blank = ([], sym (append-nil (replicate (size w) false)));
    goes = λ j. ([], sym (append-nil (next (edge_at text j) (has_at f ss text j) w true (marks_at f ss text w j))));
  }

  pub exits_found : (j : ℕ) → exits_at f ss text w j ≡ true → (i : ℕ) × (i ≤ j) × Runs (edge_at text) (has_at f ss text) w i j
  exits_found j h = elim (or_cases (ends (edge_at text j) w (marks_at f ss text w j)) (passes (edge_at text j) w) h) [
    | inl x ↦ earlier ((exact (edge_at text) (has_at f ss text) w (λ i. true) (marks_at f ss text w) run j).0 x)
    | inr y ↦ (j, omega arith, passes_holds (edge_at text) (has_at f ss text) w j y)
  ]
    where
      earlier : Came (edge_at text) (has_at f ss text) w (λ i. true) j → (i : ℕ) × (i ≤ j) × Runs (edge_at text) (has_at f ss text) w i j
      earlier (i, lt, e, r) = (i, omega arith, r)

  pub found_exits : (i j : ℕ) → Runs (edge_at text) (has_at f ss text) w i j → exits_at f ss text w j ≡ true
  found_exits i j r = go (cases_lt i j)
    where
      go : (i < j) ⊎ (j ≤ i) → exits_at f ss text w j ≡ true
      go (inl lt) = or_left (ends (edge_at text j) w (marks_at f ss text w j)) (passes (edge_at text j) w)
          ((exact (edge_at text) (has_at f ss text) w (λ i. true) (marks_at f ss text w) run j).1 (i, lt, refl, r))
      go (inr le) =
          let up = forward (edge_at text) (has_at f ss text) w i j r in
          let same : i ≡ j = omega arith in
          or_right (ends (edge_at text j) w (marks_at f ss text w j)) (passes (edge_at text j) w)
          (holds_passes (edge_at text) (has_at f ss text) w j (subst (λ v. Runs (edge_at text) (has_at f ss text) w v j) same r))
