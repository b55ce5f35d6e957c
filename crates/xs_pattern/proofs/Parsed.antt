-- The reader of tokens is exact: it answers the expression whose tokens they are.
use Rattle.std.proofs.Common.{◌≡◌, ℕ, suc, ◌+◌, ◌-◌, List, [], ◌∷◌, ◌++◌, length, refl, arith, sym, subst, ap, ◌∙◌, Bool, true, false, ◌&&◌, append_assoc}
use Rattle.std.specs.Prelude.{⊤, ◌↔◌, IsTrue, Option, Some, None, IfSome, IfNone, Result, Ok, Err, IfOk, option_map, option_to_list, is_some, nat_eq, nat_lt}
use Rattle.xs_pattern.specs.declared.expression.Expression.{Expression}
use Rattle.std.proofs.lemmas.Bool.{lt-ltb}
use Rattle.std.proofs.lemmas.Bool.Decides.{nat_tests}
use Rattle.std.proofs.lemmas.List.{append-nil}
use Rattle.xs_pattern.specs.Parsing.{Frame, blank, all_pieces, with_piece, with_atom, with_bar, with_times, whole, behind_times, parse, is_spelled, IsSpelled}
use Rattle.xs_pattern.specs.Regex.{Regex, start, finish, one, group, branch, choice, repeat, Regexes, none, more, row, regex_of}
use Rattle.xs_pattern.specs.Tokens.{Token, open_bracket, close_bracket, bar, start_anchor, end_anchor, one_of, times, tokens, tokens_of_pieces, tokens_behind_bars, IsPattern, AreBranches, IsBranch, ArePieces, IsPiece, IsAtom}

-- children as a list
abbrev pub listed : Regexes → List Regex
listed none = []
listed (more e es) = e ∷ listed es

row_listed : (es : Regexes) → row (listed es) ≡ es
row_listed none = refl
row_listed (more e es) = ap (more e) (row_listed es)

-- what a reader has read of a branch: the same branches, and these pieces behind the others
pub record Reads (f : Frame) (es : List Regex) (g : Frame) : Type 0 where
  pub branches : g.branches ≡ f.branches
  pub pieces : all_pieces g ≡ all_pieces f ++ es

reads_none : (f : Frame) → Reads f [] f
reads_none f = record { branches = refl; pieces = sym (append-nil (all_pieces f)) }

reads_more : (f g h : Frame) (es ds : List Regex) → Reads f es g → Reads g ds h → Reads f (es ++ ds) h
reads_more f g h es ds a b = record {
  branches = b.branches ∙ a.branches;
  pieces = b.pieces ∙ (ap (λ v. v ++ ds) a.pieces ∙ append_assoc (all_pieces f) es ds);
}

reads_piece : (f : Frame) (e : Regex) → Reads f (e ∷ []) (with_piece f e)
reads_piece f e = record { branches = refl; pieces = append-nil (all_pieces f ++ e ∷ []) }

reads_atom : (f : Frame) (e : Regex) → Reads f (e ∷ []) (with_atom f e)
reads_atom f e = record { branches = refl; pieces = refl }

-- reading these tokens leads to a frame with these pieces
abbrev pub Leads : List Frame → Frame → List Token → List Regex → List Token → Type 0
Leads os f read es ts = (g : Frame) × Reads f es g × (parse os f (read ++ ts) ≡ parse os g ts)

-- an atom is read into its place
abbrev pub AtomLeads : List Frame → Frame → Regex → List Token → Type 0
AtomLeads os f e ts = parse os f (tokens e ++ ts) ≡ parse os (with_atom f e) ts

-- two branches that are read make one list of branches
bars : (f g : Frame) (e : Regex) (es : Regexes) (ds : List Regex) → Reads (with_bar f) ds g → e ≡ branch (row ds) →
    choice (row (g.branches ++ branch (row (all_pieces g)) ∷ listed es)) ≡ choice (row (f.branches ++ branch (row (all_pieces f)) ∷ listed (more e es)))
bars f g e es ds reads is =
    ap (λ v. choice (row (v ++ branch (row (all_pieces g)) ∷ listed es))) reads.branches
    ∙ (ap (λ v. choice (row ((f.branches ++ branch (row (all_pieces f)) ∷ []) ++ branch (row v) ∷ listed es))) reads.pieces
    ∙ (ap (λ v. choice (row ((f.branches ++ branch (row (all_pieces f)) ∷ []) ++ v ∷ listed es))) (sym is)
    ∙ ap (λ v. choice (row v)) (append_assoc f.branches (branch (row (all_pieces f)) ∷ []) (e ∷ listed es))))

mutual
  pub atom_leads : (e : Regex) → IsAtom e → (os : List Frame) (f : Frame) (ts : List Token) → AtomLeads os f e ts
  atom_leads start h os f ts = absurd h
  atom_leads finish h os f ts = absurd h
  atom_leads (one s) h os f ts = refl
  atom_leads (group e) h os f ts =
      (let p = pattern_leads e h (f ∷ os) (close_bracket ∷ ts) in
      ap (parse (f ∷ os) blank) (append_assoc (tokens e) (close_bracket ∷ []) ts)
      ∙ (p.2 ∙ ap (λ v. parse os (with_atom f (group v)) ts) p.1))
  atom_leads (branch es) h os f ts = absurd h
  atom_leads (choice es) h os f ts = absurd h
  atom_leads (repeat least most e) h os f ts = absurd h

  -- a whole pattern is read from the start
  pub pattern_leads : (e : Regex) → IsPattern e → (os : List Frame) (ts : List Token) → (g : Frame) × (whole g ≡ e) × (parse os blank (tokens e ++ ts) ≡ parse os g ts)
  pattern_leads start h os ts = absurd h
  pattern_leads finish h os ts = absurd h
  pattern_leads (one s) h os ts = absurd h
  pattern_leads (group e) h os ts = absurd h
  pattern_leads (branch es) h os ts = absurd h
  pattern_leads (choice none) h os ts = absurd h
  pattern_leads (choice (more e es)) h os ts =
      (let a = branch_leads e h.0 os blank (tokens_behind_bars es ++ ts) in
      let b = branches_lead es h.1 os a.2.0 ts in (
        b.0,
        b.1 ∙ (ap (λ v. choice (row (v ++ branch (row (all_pieces a.2.0)) ∷ listed es))) a.2.1.branches
            ∙ (ap (λ v. choice (row (branch (row v) ∷ listed es))) a.2.1.pieces
            ∙ (ap (λ v. choice (row (v ∷ listed es))) (sym a.1) ∙ ap (λ v. choice (more e v)) (row_listed es)))),
        ap (parse os blank) (append_assoc (tokens e) (tokens_behind_bars es) ts) ∙ (a.2.2 ∙ b.2),
      ))
  pattern_leads (repeat least most e) h os ts = absurd h

  -- further branches, with a bar before each
  branches_lead : (es : Regexes) → AreBranches es → (os : List Frame) (f : Frame) (ts : List Token) → (g : Frame) ×
      (whole g ≡ choice (row (f.branches ++ branch (row (all_pieces f)) ∷ listed es))) × (parse os f (tokens_behind_bars es ++ ts) ≡ parse os g ts)
  branches_lead none h os f ts = (f, refl, refl)
  branches_lead (more e es) h os f ts =
      (let a = branch_leads e h.0 os (with_bar f) (tokens_behind_bars es ++ ts) in
      let b = branches_lead es h.1 os a.2.0 ts in (
        b.0,
        b.1 ∙ bars f a.2.0 e es a.0 a.2.1 a.1,
        ap (parse os (with_bar f)) (append_assoc (tokens e) (tokens_behind_bars es) ts) ∙ (a.2.2 ∙ b.2),
      ))

  branch_leads : (e : Regex) → IsBranch e → (os : List Frame) (f : Frame) (ts : List Token) → (es : List Regex) × (e ≡ branch (row es)) × Leads os f (tokens e) es ts
  branch_leads start h os f ts = absurd h
  branch_leads finish h os f ts = absurd h
  branch_leads (one s) h os f ts = absurd h
  branch_leads (group e) h os f ts = absurd h
  branch_leads (branch es) h os f ts = (listed es, ap branch (sym (row_listed es)), pieces_lead es h os f ts)
  branch_leads (choice es) h os f ts = absurd h
  branch_leads (repeat least most e) h os f ts = absurd h

  pieces_lead : (es : Regexes) → ArePieces es → (os : List Frame) (f : Frame) (ts : List Token) → Leads os f (tokens_of_pieces es) (listed es) ts
  pieces_lead none h os f ts = (f, reads_none f, refl)
  pieces_lead (more e es) h os f ts =
      (let a = piece_leads e h.0 os f (tokens_of_pieces es ++ ts) in
      let b = pieces_lead es h.1 os a.0 ts in
      (b.0, reads_more f a.0 b.0 (e ∷ []) (listed es) a.1 b.1, ap (parse os f) (append_assoc (tokens e) (tokens_of_pieces es) ts) ∙ (a.2 ∙ b.2)))

  piece_leads : (e : Regex) → IsPiece e → (os : List Frame) (f : Frame) (ts : List Token) → Leads os f (tokens e) (e ∷ []) ts
  piece_leads start h os f ts = (with_piece f start, reads_piece f start, refl)
  piece_leads finish h os f ts = (with_piece f finish, reads_piece f finish, refl)
  piece_leads (one s) h os f ts = (with_atom f (one s), reads_atom f (one s), refl)
  piece_leads (group e) h os f ts =
      (let p = pattern_leads e h (f ∷ os) (close_bracket ∷ ts) in (
        with_atom f (group e),
        reads_atom f (group e),
        ap (parse (f ∷ os) blank) (append_assoc (tokens e) (close_bracket ∷ []) ts)
            ∙ (p.2 ∙ ap (λ v. parse os (with_atom f (group v)) ts) p.1),
      ))
  piece_leads (branch es) h os f ts = absurd h
  piece_leads (choice es) h os f ts = absurd h
  piece_leads (repeat least most e) h os f ts = (
    with_piece f (repeat least most e),
    reads_piece f (repeat least most e),
    ap (parse os f) (append_assoc (tokens e) (times least most ∷ []) ts) ∙ atom_leads e h os f (times least most ∷ ts),
  )

-- the tokens of a pattern are read as the pattern
pub parse_complete : (e : Regex) → IsPattern e → parse [] blank (tokens e) ≡ Some e
parse_complete e h =
    let p = pattern_leads e h [] [] in
    ap (parse [] blank) (sym (append-nil (tokens e))) ∙ (p.2 ∙ ap Some p.1)

-- tokens of what was read
abbrev tokens_of_list : List Regex → List Token
tokens_of_list [] = []
tokens_of_list (e ∷ es) = tokens e ++ tokens_of_list es

abbrev tokens_with_bars : List Regex → List Token
tokens_with_bars [] = []
tokens_with_bars (e ∷ es) = tokens e ++ (bar ∷ tokens_with_bars es)

abbrev tokens_of_frame : Frame → List Token
tokens_of_frame f = tokens_with_bars f.branches ++ tokens_of_list (all_pieces f)

abbrev tokens_of_stack : List Frame → Frame → List Token
tokens_of_stack [] f = tokens_of_frame f
tokens_of_stack (o ∷ os) f = tokens_of_stack os o ++ (open_bracket ∷ tokens_of_frame f)

-- what was read is of the grammar
abbrev AllPieces : List Regex → Type 0
AllPieces [] = ⊤
AllPieces (e ∷ es) = IsPiece e × AllPieces es

abbrev AllBranches : List Regex → Type 0
AllBranches [] = ⊤
AllBranches (e ∷ es) = IsBranch e × AllBranches es

abbrev MaybeAtom : Option Regex → Type 0
MaybeAtom None = ⊤
MaybeAtom (Some e) = IsAtom e

record IsMade (f : Frame) : Type 0 where
  pub branches : AllBranches f.branches
  pub pieces : AllPieces f.pieces
  pub atom : MaybeAtom f.atom

abbrev AllMade : List Frame → Type 0
AllMade [] = ⊤
AllMade (f ∷ fs) = IsMade f × AllMade fs

list_append : (es ds : List Regex) → tokens_of_list (es ++ ds) ≡ tokens_of_list es ++ tokens_of_list ds
list_append [] ds = refl
list_append (e ∷ es) ds = ap (λ v. tokens e ++ v) (list_append es ds) ∙ sym (append_assoc (tokens e) (tokens_of_list es) (tokens_of_list ds))

bars_append : (es ds : List Regex) → tokens_with_bars (es ++ ds) ≡ tokens_with_bars es ++ tokens_with_bars ds
bars_append [] ds = refl
bars_append (e ∷ es) ds = ap (λ v. tokens e ++ (bar ∷ v)) (bars_append es ds) ∙ sym (append_assoc (tokens e) (bar ∷ tokens_with_bars es) (tokens_with_bars ds))

pieces_append : (es ds : List Regex) → AllPieces es → AllPieces ds → AllPieces (es ++ ds)
pieces_append [] ds p q = q
pieces_append (e ∷ es) ds p q = (p.0, pieces_append es ds p.1 q)

branches_append : (es ds : List Regex) → AllBranches es → AllBranches ds → AllBranches (es ++ ds)
branches_append [] ds p q = q
branches_append (e ∷ es) ds p q = (p.0, branches_append es ds p.1 q)

pieces_row : (ps : List Regex) → tokens_of_pieces (row ps) ≡ tokens_of_list ps
pieces_row [] = refl
pieces_row (e ∷ es) = ap (λ v. tokens e ++ v) (pieces_row es)

last_branch : (ps : List Regex) → tokens_of_pieces (row ps) ++ [] ≡ tokens_of_list ps
last_branch ps = append-nil (tokens_of_pieces (row ps)) ∙ pieces_row ps

behind_bars : (bs ps : List Regex) → tokens_behind_bars (row (bs ++ branch (row ps) ∷ [])) ≡ bar ∷ (tokens_with_bars bs ++ tokens_of_list ps)
behind_bars [] ps = ap (λ v. bar ∷ v) (last_branch ps)
behind_bars (b ∷ bs) ps =
    ap (λ v. bar ∷ (tokens b ++ v)) (behind_bars bs ps)
    ∙ ap (λ v. bar ∷ v) (sym (append_assoc (tokens b) (bar ∷ tokens_with_bars bs) (tokens_of_list ps)))

whole_list : (bs ps : List Regex) → tokens (choice (row (bs ++ branch (row ps) ∷ []))) ≡ tokens_with_bars bs ++ tokens_of_list ps
whole_list [] ps = last_branch ps
whole_list (b ∷ bs) ps =
    ap (λ v. tokens b ++ v) (behind_bars bs ps)
    ∙ sym (append_assoc (tokens b) (bar ∷ tokens_with_bars bs) (tokens_of_list ps))

pieces_are : (ps : List Regex) → AllPieces ps → ArePieces (row ps)
pieces_are [] h = tt
pieces_are (e ∷ es) h = (h.0, pieces_are es h.1)

branches_are : (bs ps : List Regex) → AllBranches bs → AllPieces ps → AreBranches (row (bs ++ branch (row ps) ∷ []))
branches_are [] ps h p = (pieces_are ps p, tt)
branches_are (b ∷ bs) ps h p = (h.0, branches_are bs ps h.1 p)

pattern_is : (bs ps : List Regex) → AllBranches bs → AllPieces ps → IsPattern (choice (row (bs ++ branch (row ps) ∷ [])))
pattern_is [] ps h p = (pieces_are ps p, tt)
pattern_is (b ∷ bs) ps h p = (h.0, branches_are bs ps h.1 p)

atom_is_piece : (e : Regex) → IsAtom e → IsPiece e
atom_is_piece start h = absurd h
atom_is_piece finish h = absurd h
atom_is_piece (one s) h = tt
atom_is_piece (group e) h = h
atom_is_piece (branch es) h = absurd h
atom_is_piece (choice es) h = absurd h
atom_is_piece (repeat least most e) h = absurd h

with_maybe : (ps : List Regex) (a : Option Regex) → AllPieces ps → MaybeAtom a → AllPieces (ps ++ option_to_list a)
with_maybe ps None p h = pieces_append ps [] p tt
with_maybe ps (Some e) p h = pieces_append ps (e ∷ []) p (atom_is_piece e h, tt)

every_piece : (f : Frame) → IsMade f → AllPieces (all_pieces f)
every_piece f made = with_maybe f.pieces f.atom made.pieces made.atom

whole_is : (f : Frame) → IsMade f → IsPattern (whole f)
whole_is f made = pattern_is f.branches (all_pieces f) made.branches (every_piece f made)

made_piece : (f : Frame) (e : Regex) → IsMade f → IsPiece e → IsMade (with_piece f e)
made_piece f e made h = record { branches = made.branches; pieces = pieces_append (all_pieces f) (e ∷ []) (every_piece f made) (h, tt); atom = tt }

made_atom : (f : Frame) (e : Regex) → IsMade f → IsAtom e → IsMade (with_atom f e)
made_atom f e made h = record { branches = made.branches; pieces = every_piece f made; atom = h }

made_bar : (f : Frame) → IsMade f → IsMade (with_bar f)
made_bar f made = record { branches = branches_append f.branches (branch (row (all_pieces f)) ∷ []) made.branches (pieces_are (all_pieces f) (every_piece f made), tt); pieces = tt; atom = tt }

made_times : (f : Frame) (least : ℕ) (most : Option ℕ) (e : Regex) → IsMade f → IsAtom e → IsMade (with_times f least most e)
made_times f least most e made h = record { branches = made.branches; pieces = pieces_append f.pieces (repeat least most e ∷ []) made.pieces (h, tt); atom = tt }

-- a frame grows by tokens
one_more : (bs : List Token) (es : List Regex) (e : Regex) → bs ++ tokens_of_list (es ++ e ∷ []) ≡ (bs ++ tokens_of_list es) ++ tokens e
one_more bs es e =
    ap (λ v. bs ++ v) (list_append es (e ∷ []))
    ∙ (ap (λ v. bs ++ (tokens_of_list es ++ v)) (append-nil (tokens e))
    ∙ sym (append_assoc bs (tokens_of_list es) (tokens e)))

grown_piece : (f : Frame) (e : Regex) → tokens_of_frame (with_piece f e) ≡ tokens_of_frame f ++ tokens e
grown_piece f e =
    ap (λ v. tokens_with_bars f.branches ++ tokens_of_list v) (append-nil (all_pieces f ++ e ∷ []))
    ∙ one_more (tokens_with_bars f.branches) (all_pieces f) e

grown_atom : (f : Frame) (e : Regex) → tokens_of_frame (with_atom f e) ≡ tokens_of_frame f ++ tokens e
grown_atom f e = one_more (tokens_with_bars f.branches) (all_pieces f) e

grown_bar : (f : Frame) → tokens_of_frame (with_bar f) ≡ tokens_of_frame f ++ bar ∷ []
grown_bar f =
    append-nil (tokens_with_bars (f.branches ++ branch (row (all_pieces f)) ∷ []))
    ∙ (bars_append f.branches (branch (row (all_pieces f)) ∷ [])
    ∙ (ap (λ v. tokens_with_bars f.branches ++ (v ++ (bar ∷ []))) (pieces_row (all_pieces f))
    ∙ sym (append_assoc (tokens_with_bars f.branches) (tokens_of_list (all_pieces f)) (bar ∷ []))))

grown_times : (bs : List Token) (ps : List Regex) (least : ℕ) (most : Option ℕ) (e : Regex) →
    bs ++ tokens_of_list ((ps ++ repeat least most e ∷ []) ++ []) ≡ (bs ++ tokens_of_list (ps ++ e ∷ [])) ++ times least most ∷ []
grown_times bs ps least most e =
    ap (λ v. bs ++ tokens_of_list v) (append-nil (ps ++ repeat least most e ∷ []))
    ∙ (one_more bs ps (repeat least most e)
    ∙ (sym (append_assoc (bs ++ tokens_of_list ps) (tokens e) (times least most ∷ []))
    ∙ ap (λ v. v ++ times least most ∷ []) (sym (one_more bs ps e))))

grown_stack : (os : List Frame) (f g : Frame) (x : List Token) → tokens_of_frame g ≡ tokens_of_frame f ++ x → tokens_of_stack os g ≡ tokens_of_stack os f ++ x
grown_stack [] f g x is = is
grown_stack (o ∷ os) f g x is =
    ap (λ v. tokens_of_stack os o ++ (open_bracket ∷ v)) is
    ∙ sym (append_assoc (tokens_of_stack os o) (open_bracket ∷ tokens_of_frame f) x)

-- what the rest spells behind a step is what all spelled before it
before_step : (os ps : List Frame) (f g : Frame) (x ts all : List Token) → tokens_of_stack ps g ≡ tokens_of_stack os f ++ x → all ≡ tokens_of_stack ps g ++ ts → all ≡ tokens_of_stack os f ++ (x ++ ts)
before_step os ps f g x ts all is h = h ∙ (ap (λ v. v ++ ts) is ∙ append_assoc (tokens_of_stack os f) x ts)

abbrev Spelled : List Frame → Frame → List Token → Regex → Type 0
Spelled os f ts e = (tokens e ≡ tokens_of_stack os f ++ ts) × IsPattern e

-- the answer of the reader has the tokens that were read and those that are left
sound : (ts : List Token) (os : List Frame) (f : Frame) (e : Regex) → parse os f ts ≡ Some e → IsMade f → AllMade os → Spelled os f ts e
sound [] [] f e h made all =
    let is : whole f ≡ e = cc in
    subst (λ v. Spelled [] f [] v) is
    (whole_list f.branches (all_pieces f) ∙ sym (append-nil (tokens_of_frame f)), whole_is f made)
sound [] (o ∷ os) f e h made all = absurd (cc)
sound (open_bracket ∷ ts) os f e h made all =
    let p = sound ts (f ∷ os) blank e h (record { branches = tt; pieces = tt; atom = tt }) (made, all) in
    (p.0 ∙ append_assoc (tokens_of_stack os f) (open_bracket ∷ []) ts, p.1)
sound (close_bracket ∷ ts) [] f e h made all = absurd (cc)
sound (close_bracket ∷ ts) (o ∷ os) f e h made all =
    let p = sound ts os (with_atom o (group (whole f))) e h (made_atom o (group (whole f)) all.0 (whole_is f made)) all.1 in
    let grown = grown_stack os o (with_atom o (group (whole f))) (tokens (group (whole f))) (grown_atom o (group (whole f))) in (
      before_step os os o (with_atom o (group (whole f))) (tokens (group (whole f))) ts (tokens e) grown p.0
          ∙ closed_up (tokens_of_stack os o) (tokens (whole f)) (tokens_of_frame f) ts (whole_list f.branches (all_pieces f)),
      p.1,
    )
  where
    closed_up : (s w x ts : List Token) → w ≡ x → s ++ ((open_bracket ∷ (w ++ close_bracket ∷ [])) ++ ts) ≡ (s ++ (open_bracket ∷ x)) ++ (close_bracket ∷ ts)
    closed_up s w x ts is =
        ap (λ v. s ++ (open_bracket ∷ v)) (append_assoc w (close_bracket ∷ []) ts)
        ∙ (ap (λ v. s ++ (open_bracket ∷ (v ++ close_bracket ∷ ts))) is
        ∙ sym (append_assoc s (open_bracket ∷ x) (close_bracket ∷ ts)))
sound (bar ∷ ts) os f e h made all =
    let p = sound ts os (with_bar f) e h (made_bar f made) all in
    (before_step os os f (with_bar f) (bar ∷ []) ts (tokens e) (grown_stack os f (with_bar f) (bar ∷ []) (grown_bar f)) p.0, p.1)
sound (start_anchor ∷ ts) os f e h made all =
    let p = sound ts os (with_piece f start) e h (made_piece f start made tt) all in
    (before_step os os f (with_piece f start) (start_anchor ∷ []) ts (tokens e) (grown_stack os f (with_piece f start) (start_anchor ∷ []) (grown_piece f start)) p.0, p.1)
sound (end_anchor ∷ ts) os f e h made all =
    let p = sound ts os (with_piece f finish) e h (made_piece f finish made tt) all in
    (before_step os os f (with_piece f finish) (end_anchor ∷ []) ts (tokens e) (grown_stack os f (with_piece f finish) (end_anchor ∷ []) (grown_piece f finish)) p.0, p.1)
sound (one_of s ∷ ts) os f e h made all =
    let p = sound ts os (with_atom f (one s)) e h (made_atom f (one s) made tt) all in
    (before_step os os f (with_atom f (one s)) (one_of s ∷ []) ts (tokens e) (grown_stack os f (with_atom f (one s)) (one_of s ∷ []) (grown_atom f (one s))) p.0, p.1)
sound (times least most ∷ ts) os f e h made all = counted f.atom refl h made.atom (λ a. sound ts os (with_times f least most a) e)
  where
    counted : (o : Option Regex) → f.atom ≡ o → behind_times (λ g. parse os g ts) f least most o ≡ Some e → MaybeAtom o →
        ((a : Regex) → parse os (with_times f least most a) ts ≡ Some e → IsMade (with_times f least most a) → AllMade os →
        Spelled os (with_times f least most a) ts e) → Spelled os f (times least most ∷ ts) e
    counted None is k atom ih = absurd (cc)
    counted (Some a) is k atom ih =
        let p = ih a k (made_times f least most a made atom) all in
        let grown = grown_times (tokens_with_bars f.branches) f.pieces least most a
        ∙ ap (λ v. (tokens_with_bars f.branches ++ tokens_of_list (f.pieces ++ option_to_list v)) ++ times least most ∷ []) (sym is) in
        (before_step os os f (with_times f least most a) (times least most ∷ []) ts (tokens e) (grown_stack os f (with_times f least most a) (times least most ∷ []) grown) p.0, p.1)

-- what is read is a pattern with these tokens
pub parse_sound : (ts : List Token) (e : Regex) → parse [] blank ts ≡ Some e → (tokens e ≡ ts) × IsPattern e
parse_sound ts e h = sound ts [] blank e h (record { branches = tt; pieces = tt; atom = tt }) tt

more_open : (n : ℕ) → nat_eq (suc n) 0 ≡ false
more_open n = go (nat_eq (suc n) 0) refl
  where
    go : (b : Bool) → nat_eq (suc n) 0 ≡ b → b ≡ false
    go true e = absurd (grind (arith, nat_tests))
    go false e = refl

some_open : (n : ℕ) → nat_lt 0 (suc n) ≡ true
some_open n = lt-ltb 0 (suc n) (omega arith)

-- whether there is a pattern is told without it
pub is_spelled_told : (ts : List Token) (os : List Frame) (f : Frame) → is_some (parse os f ts) ≡ is_spelled (length os) (is_some f.atom) ts
is_spelled_told [] [] f = refl
is_spelled_told [] (o ∷ os) f = sym (more_open (length os))
is_spelled_told (open_bracket ∷ ts) os f = is_spelled_told ts (f ∷ os) blank ∙ ap (λ n. is_spelled n false ts) (let e : suc (length os) ≡ length os + 1 = omega arith in e)
is_spelled_told (close_bracket ∷ ts) [] f = refl
is_spelled_told (close_bracket ∷ ts) (o ∷ os) f =
    is_spelled_told ts os (with_atom o (group (whole f)))
    ∙ (ap (λ n. is_spelled n true ts) (let e : length os ≡ suc (length os) - 1 = omega arith in e)
    ∙ ap (λ b. b && is_spelled (suc (length os) - 1) true ts) (sym (some_open (length os))))
is_spelled_told (bar ∷ ts) os f = is_spelled_told ts os (with_bar f)
is_spelled_told (start_anchor ∷ ts) os f = is_spelled_told ts os (with_piece f start)
is_spelled_told (end_anchor ∷ ts) os f = is_spelled_told ts os (with_piece f finish)
is_spelled_told (one_of s ∷ ts) os f = is_spelled_told ts os (with_atom f (one s))
is_spelled_told (times least most ∷ ts) os f = counted f.atom (λ a. is_spelled_told ts os (with_times f least most a))
  where
    counted : (o : Option Regex) → ((a : Regex) → is_some (parse os (with_times f least most a) ts) ≡ is_spelled (length os) false ts) →
        is_some (behind_times (λ g. parse os g ts) f least most o) ≡ (is_some o && is_spelled (length os) false ts)
    counted None ih = refl
    counted (Some a) ih = ih a

some_is : (o : Option Regex) → is_some o ≡ true → (e : Regex) × (o ≡ Some e)
some_is None h = absurd (cc)
some_is (Some e) h = (e, refl)

read_back : (ts : List Token) → IsSpelled ts → (e : Regex) × (parse [] blank ts ≡ Some e)
read_back ts (e, same, made) = (e, ap (parse [] blank) (sym same) ∙ parse_complete e made)

-- the test says whether there is a pattern with these tokens
pub spelled_meaning : (ts : List Token) (b : Bool) → b ≡ is_spelled 0 false ts → IsTrue b ↔ IsSpelled ts
spelled_meaning ts b is = (
  λ h. (let p = some_is (parse [] blank ts) (is_spelled_told ts [] blank ∙ (sym is ∙ h)) in let q = parse_sound ts p.0 p.1 in (p.0, q.0, q.1)),
  λ h. is ∙ (sym (is_spelled_told ts [] blank) ∙ ap is_some (read_back ts h).1),
)

-- what a call answers is the pattern with these tokens, or there is none
pub found_pattern : {E : Type 0} (r : Result (Option Expression) E) (ts : List Token) → IfOk r (λ o. option_map regex_of o ≡ parse [] blank ts) →
    IfOk r (λ o. IfSome o (λ e. (tokens (regex_of e) ≡ ts) × IsPattern (regex_of e)))
found_pattern (Ok (Some e)) ts h = parse_sound ts (regex_of e) (sym h)
found_pattern (Ok None) ts h = tt
found_pattern (Err x) ts h = tt

pub missed_pattern : {E : Type 0} (r : Result (Option Expression) E) (ts : List Token) → IfOk r (λ o. option_map regex_of o ≡ parse [] blank ts) → IfOk r (λ o. IfNone o (¬ IsSpelled ts))
missed_pattern (Ok (Some e)) ts h = tt
missed_pattern (Ok None) ts h = λ s. let p = (read_back ts s).1 in absurd (cc)
missed_pattern (Err x) ts h = tt
