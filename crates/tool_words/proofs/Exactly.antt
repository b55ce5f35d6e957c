-- What words ask of each program, exactly.
use Rattle.std.proofs.Common.{◌≡◌, ◌≢◌, ◌∙◌, ◌==◌, Bool, ℕ, List, ◌∷◌, ap, cond, get_or, refl, subst, sym}
use Rattle.std.specs.Prelude.{IfErr, IfOk, Result}
use Rattle.clap.specs.Words.{Text}
use Rattle.command_words.specs.declared.error.WordsError.{WordsError}
use Rattle.command_words.specs.Checks.{Fault}
use Rattle.command_words.specs.Lent.{Because}
use Rattle.command_words.proofs.Exact.{IsExact, exact_by}
use Rattle.command_words.proofs.Seen.{heads, tails}
use Rattle.tool_words.specs.declared.call.Editing.{Editing as LentEditing}
use Rattle.tool_words.specs.declared.call.ToolCall.{ToolCall as LentCall}
use Rattle.tool_words.specs.Asked.{Behind, Command, Editing, Explaining, FailsConverting, FailsCovering, FailsEditing, FailsExplaining, FailsFollowing, FailsLining, FailsListing, FailsReaching, Following, IsAsked, IsEditing, IsEditingFault, IsFaultOf, IsToolCall, IsToolFault, Listing, PassesConverting, PassesCovering, PassesEditing, PassesExplaining, PassesFollowing, PassesLining, PassesListing, PassesReaching, Reaching, ToolCall, command_of, name_of, of_cover, of_labels, of_lines, of_nodes, of_reasons, of_schema, of_shards, of_ways, to_convert, to_cover, to_explain, to_follow, to_line, to_list, to_reach, unnamed, wrong_behind}
use Rattle.tool_words.specs.Commands.{convert, covers, explain, extents, followed, lines, reached, session}
use Rattle.tool_words.specs.Lent.{editing_of, tool_call_of}
use Rattle.tool_words.specs.Requests.{Converting, Covering, IsBudgeted, IsCovering, IsExplained, IsLining, IsMapped, IsNamed, IsSchemed, IsScripted, Lining}
use Rattle.tool_words.proofs.Once.{converting_single, covering_single, editing_single, explaining_single, first, following_single, lining_single, listing_single, never, one, reaching_single}

pub one_editing : (words : List Text) (c d : Editing) → IsEditing words c → IsEditing words d → c ≡ d
one_editing words = one session IsScripted PassesEditing FailsEditing editing_single words

pub no_editing : (words : List Text) (c : Editing) (f : Fault) → IsEditing words c → IsEditingFault words f → ⊥
no_editing words = never session IsScripted PassesEditing FailsEditing editing_single words

pub first_editing : (words : List Text) (f g : Fault) → IsEditingFault words f → IsEditingFault words g → f ≡ g
first_editing words = first session IsScripted PassesEditing FailsEditing editing_single words

pub exact_editing : (words : List Text) (r : Result LentEditing WordsError) → IfOk r (λ e. IsEditing words (editing_of e)) → IfErr r (Because (IsEditingFault words))
    → IsExact LentEditing Editing editing_of (IsEditing words) (IsEditingFault words) r
exact_editing words = exact_by LentEditing Editing editing_of (IsEditing words) (IsEditingFault words) (one_editing words) (no_editing words) (first_editing words)

-- what the command for a call asks for, and the call for it
abbrev Wanted : Command → Type 0
Wanted to_convert = Converting
Wanted to_list = Listing
Wanted to_explain = Explaining
Wanted to_line = Lining
Wanted to_follow = Following
Wanted to_reach = Reaching
Wanted to_cover = Covering

abbrev call_for : (c : Command) → Wanted c → ToolCall
call_for to_convert x = of_schema x
call_for to_list x = of_labels x
call_for to_explain x = of_reasons x
call_for to_line x = of_shards (of_lines x)
call_for to_follow x = of_shards (of_ways x)
call_for to_reach x = of_shards (of_nodes x)
call_for to_cover x = of_shards (of_cover x)

-- the words behind one command ask for one thing at most
one_asked : (c : Command) (words : List Text) (x y : Wanted c) → IsAsked words (call_for c x) → IsAsked words (call_for c y) → x ≡ y
one_asked to_convert words x y a b = one convert IsNamed PassesConverting FailsConverting converting_single words x y a b
one_asked to_list words x y a b = one extents IsBudgeted PassesListing FailsListing listing_single words x y a b
one_asked to_explain words x y a b = one explain IsExplained PassesExplaining FailsExplaining explaining_single words x y a b
one_asked to_line words x y a b = one lines IsLining PassesLining FailsLining lining_single words x y a b
one_asked to_follow words x y a b = one followed IsSchemed PassesFollowing FailsFollowing following_single words x y a b
one_asked to_reach words x y a b = one reached IsMapped PassesReaching FailsReaching reaching_single words x y a b
one_asked to_cover words x y a b = one covers IsCovering PassesCovering FailsCovering covering_single words x y a b

-- and have no fault then
never_at_fault : (c : Command) (words : List Text) (x : Wanted c) (f : Fault) → IsAsked words (call_for c x) → IsFaultOf c words f → ⊥
never_at_fault to_convert words x f a b = never convert IsNamed PassesConverting FailsConverting converting_single words x f a b
never_at_fault to_list words x f a b = never extents IsBudgeted PassesListing FailsListing listing_single words x f a b
never_at_fault to_explain words x f a b = never explain IsExplained PassesExplaining FailsExplaining explaining_single words x f a b
never_at_fault to_line words x f a b = never lines IsLining PassesLining FailsLining lining_single words x f a b
never_at_fault to_follow words x f a b = never followed IsSchemed PassesFollowing FailsFollowing following_single words x f a b
never_at_fault to_reach words x f a b = never reached IsMapped PassesReaching FailsReaching reaching_single words x f a b
never_at_fault to_cover words x f a b = never covers IsCovering PassesCovering FailsCovering covering_single words x f a b

-- they have one first fault at most
one_fault_of : (c : Command) (words : List Text) (f g : Fault) → IsFaultOf c words f → IsFaultOf c words g → f ≡ g
one_fault_of to_convert words f g a b = first convert IsNamed PassesConverting FailsConverting converting_single words f g a b
one_fault_of to_list words f g a b = first extents IsBudgeted PassesListing FailsListing listing_single words f g a b
one_fault_of to_explain words f g a b = first explain IsExplained PassesExplaining FailsExplaining explaining_single words f g a b
one_fault_of to_line words f g a b = first lines IsLining PassesLining FailsLining lining_single words f g a b
one_fault_of to_follow words f g a b = first followed IsSchemed PassesFollowing FailsFollowing following_single words f g a b
one_fault_of to_reach words f g a b = first reached IsMapped PassesReaching FailsReaching reaching_single words f g a b
one_fault_of to_cover words f g a b = first covers IsCovering PassesCovering FailsCovering covering_single words f g a b

-- the command of a name, by its first and third letters: `convert` and `covers` begin with c, `extents` and `explain` with e
abbrev letter : Text → ℕ → ℕ → Bool
letter name i b = get_or name i 0 == b

abbrev with_c : Text → Command
with_c name = cond (letter name 2 110) to_convert to_cover

abbrev with_e : Text → Command
with_e name = cond (letter name 2 116) to_list to_explain

abbrev named_by : Text → Command
named_by name =
    cond (letter name 0 99) (with_c name) (cond (letter name 0 101) (with_e name) (cond (letter name 0 108) to_line (cond (letter name 0 102) to_follow to_reach)))

named : (c : Command) → named_by (name_of c) ≡ c
named to_convert = refl
named to_list = refl
named to_explain = refl
named to_line = refl
named to_follow = refl
named to_reach = refl
named to_cover = refl

-- the words behind the name of one command are not behind that of another
module _ (words : List Text) (c d : Command) (P Q : List Text → Type 0) (a : Behind (name_of c) words P) (b : Behind (name_of d) words Q) where
  same_command : d ≡ c
  same_command = sym (named d) ∙ ap named_by (heads (sym b.named ∙ a.named)) ∙ named c

  moved : Q a.behind
  moved = subst Q (tails (sym b.named ∙ a.named)) b.holds

called : (call : ToolCall) → (x : Wanted (command_of call)) × (call_for (command_of call) x ≡ call)
called (of_schema x) = (x, refl)
called (of_labels x) = (x, refl)
called (of_reasons x) = (x, refl)
called (of_shards (of_lines x)) = (x, refl)
called (of_shards (of_ways x)) = (x, refl)
called (of_shards (of_nodes x)) = (x, refl)
called (of_shards (of_cover x)) = (x, refl)

-- behind one name two calls are one
one_behind : (words : List Text) (c e : Command) → e ≡ c → (x : Wanted c) (y : Wanted e) → IsAsked words (call_for c x) → IsAsked words (call_for e y) → call_for c x ≡ call_for e y
one_behind words c e is x y a b =
    subst (λ (k : Command). (z : Wanted k) → IsAsked words (call_for k z) → call_for c x ≡ call_for k z) (sym is)
    (λ z h. ap (call_for c) (one_asked c words x z a h)) y b

pub one_call : (words : List Text) (c d : ToolCall) → IsToolCall words c → IsToolCall words d → c ≡ d
one_call words c d a b =
    let (x, at_x) = called c in
    let (y, at_y) = called d in
    let here : IsAsked a.behind d = moved words (command_of c) (command_of d) (λ ws. IsAsked ws c) (λ ws. IsAsked ws d) a b in
    let same : command_of d ≡ command_of c = same_command words (command_of c) (command_of d) (λ ws. IsAsked ws c) (λ ws. IsAsked ws d) a b in
    sym at_x
    ∙ one_behind a.behind (command_of c) (command_of d) same x y (subst (IsAsked a.behind) (sym at_x) a.holds) (subst (IsAsked a.behind) (sym at_y) here)
    ∙ at_y

pub no_call : (words : List Text) (c : ToolCall) (f : Fault) → IsToolCall words c → IsToolFault words f → ⊥
no_call words c _ a (unnamed none) = none (command_of c) a.behind a.named
no_call words c f a (wrong_behind d _ b) =
    let (x, at_x) = called c in
    let here : IsFaultOf d a.behind f = moved words (command_of c) d (λ ws. IsAsked ws c) (λ ws. IsFaultOf d ws f) a b in
    let same : d ≡ command_of c = same_command words (command_of c) d (λ ws. IsAsked ws c) (λ ws. IsFaultOf d ws f) a b in
    never_at_fault (command_of c) a.behind x f (subst (IsAsked a.behind) (sym at_x) a.holds) (subst (λ (k : Command). IsFaultOf k a.behind f) same here)

pub first_call : (words : List Text) (f g : Fault) → IsToolFault words f → IsToolFault words g → f ≡ g
first_call words _ _ (unnamed x) (unnamed y) = refl
first_call words _ g (unnamed x) (wrong_behind c _ b) = absurd (x c b.behind b.named)
first_call words f _ (wrong_behind c _ a) (unnamed x) = absurd (x c a.behind a.named)
first_call words f g (wrong_behind c _ a) (wrong_behind d _ b) =
    let here : IsFaultOf d a.behind g = moved words c d (λ ws. IsFaultOf c ws f) (λ ws. IsFaultOf d ws g) a b in
    let same : d ≡ c = same_command words c d (λ ws. IsFaultOf c ws f) (λ ws. IsFaultOf d ws g) a b in
    one_fault_of c a.behind f g a.holds (subst (λ (k : Command). IsFaultOf k a.behind g) same here)

pub exact_call : (words : List Text) (r : Result LentCall WordsError) → IfOk r (λ c. IsToolCall words (tool_call_of c)) → IfErr r (Because (IsToolFault words))
    → IsExact LentCall ToolCall tool_call_of (IsToolCall words) (IsToolFault words) r
exact_call words = exact_by LentCall ToolCall tool_call_of (IsToolCall words) (IsToolFault words) (one_call words) (no_call words) (first_call words)
