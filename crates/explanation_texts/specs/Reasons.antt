-- The blocks of an explanation in its text (own).
use Rattle.std.specs.Prelude.{ℕ, suc, Bool, true, false, List, [], ◌∷◌, ◌++◌, ◌+◌, ◌-◌, ◌==◌, Option, Some, None, codes, if◌then◌else◌, length, slice_get, take}
use Rattle.std.specs.Fmt.{decimal}
use Rattle.std.specs.List.{flat_map, list_any}
use Rattle.rdf_terms.specs.declared.terms.Term.{Term}
use Rattle.rdf_terms.specs.declared.terms.TermId.{TermId}
use Rattle.rdf_terms.specs.declared.terms.Triple.{Triple}
use Rattle.rdf_terms.specs.Order.{text_at}
use Rattle.schema_tree.specs.declared.schema.ExprId.{ExprId}
use Rattle.schema_tree.specs.declared.schema.Occurrence.{Occurrence}
use Rattle.schema_tree.specs.declared.schema.Shape.{Shape}
use Rattle.schema_tree.specs.declared.verdicts.Place.{Place}
use Rattle.schema_tree.specs.declared.verdicts.Place.TheVariants.{At, Rest}
use Rattle.schema_tree.specs.Entries.{entry, shape_at}
use Rattle.nonconformance.specs.declared.cause.Cause.{Cause}
use Rattle.nonconformance.specs.declared.cause.Cause.TheVariants as Causes
use Rattle.nonconformance.specs.declared.offers.Offer.{Offer}
use Rattle.nonconformance.specs.declared.reason.Reason.{Reason}
use Rattle.nonconformance.specs.declared.reason.Reason.TheVariants as Reasons
use Rattle.explanations.specs.declared.explanation.Block.{Block}
use Rattle.explanations.specs.declared.explanation.Block.TheVariants as Blocks
use Rattle.explanations.specs.declared.explanation.Misfit.{Misfit}
use Rattle.explanations.specs.declared.explanation.ToldCause.{ToldCause}
use Rattle.explanations.specs.declared.explanation.ToldReason.{ToldReason}
use Rattle.explanations.specs.declared.explanation.Why.{Why}
use Rattle.explanation_texts.specs.declared.setting.Setting.{Setting}
use Rattle.explanation_texts.specs.Names.{expr_name, shape_name}
use Rattle.explanation_texts.specs.Words.{constraint_text, constraints_text, limited, more_text, triple_text}
use Rattle.explanation_texts.specs.Conditions.{block_number, satisfied_expr, why_text}
use Rattle.explanation_texts.specs.Folding.{shown_reasons}

-- lines of a block stand two spaces in, and what is below them four
abbrev pub margin : List ℕ
margin = codes "  "

abbrev pub inner_margin : List ℕ
inner_margin = codes "    "

-- the triple constraints of a Shape, if there is one
abbrev pub occs_of : Option Shape → List Occurrence
occs_of None = []
occs_of (Some sh) = sh.occs

-- a triple below a line
abbrev pub triple_line : List Term → Triple → List ℕ
triple_line terms t = inner_margin ++ (triple_text terms t ++ codes "\n")

-- how many triples were found, and the triples
abbrev pub found_text : Setting → List Triple → List ℕ
found_text s found = codes ", found " ++ (decimal (length found) ++ (codes "\n" ++ limited s.limit inner_margin (triple_line s.terms.now) found))

-- why a triple constraint does not take a triple
abbrev pub misfit_line : Setting → List Occurrence → Misfit → List ℕ
misfit_line s occs m =
    inner_margin ++ (constraint_text s.terms.now occs m.constraint ++ (codes ": " ++ (why_text s m.node m.value m.why ++ codes "\n")))

-- a number, or two of which the first is less
abbrev pub range_text : ℕ → Option ℕ → List ℕ
range_text low None = decimal low
range_text low (Some high) = if low == high then decimal low else decimal low ++ (codes " to " ++ decimal high)

-- what stands before item i of a list
abbrev pub separator : ℕ → List ℕ
separator i = if i == 0 then [] else codes ", "

-- how many triples the triple constraint of number i takes
abbrev pub count_text : List Term → List Occurrence → ℕ → ℕ → Option ℕ → List ℕ
count_text terms occs i low high = separator i ++ (constraint_text terms occs i ++ (codes " " ++ range_text low high))

-- how many triples each triple constraint from number i on takes
abbrev pub counts_text : List Term → List Occurrence → List ℕ → ℕ → List ℕ → List ℕ
counts_text terms occs high i [] = []
counts_text terms occs high i (low ∷ more) = count_text terms occs i low (slice_get high i) ++ counts_text terms occs high (suc i) more

-- the triple constraint of a place, if it is not the remainder
abbrev pub constraint_at : Place → List ℕ
constraint_at (At i) = i ∷ []
constraint_at Rest = []

-- the place is the remainder
abbrev pub is_rest : Place → Bool
is_rest (At i) = false
is_rest Rest = true

-- what is said of a triple that no triple constraint may take
abbrev pub untaken : Bool → List ℕ
untaken left = if left then codes " may be left over" else codes " fits nothing"

-- what stands behind the triple constraints that may take a triple
abbrev pub or_left : Bool → List ℕ
or_left left = if left then codes ", or may be left over" else []

-- which triple constraints may take a triple, and whether it may be left over
abbrev pub fits_text : List Term → List Occurrence → Bool → List ℕ → List ℕ
fits_text terms occs left numbers =
    if length numbers == 0 then untaken left else codes " fits " ++ (constraints_text terms occs numbers ++ or_left left)

-- a triple with what may be done with it
abbrev pub offer_line : List Term → List Occurrence → Offer → List ℕ
offer_line terms occs o =
    inner_margin ++ (triple_text terms o.triple ++ (fits_text terms occs (list_any is_rest o.places) (flat_map constraint_at o.places) ++ codes "\n"))

-- a reason why a node does not have a Shape with these triple constraints, with what it rests on
abbrev pub reason_text : Setting → List Occurrence → List Misfit → List Offer → Reason → List ℕ
reason_text s occs misfits offers (Reasons.Forbidden t) = codes "  closed: " ++ (triple_text s.terms.now t ++ codes "\n")
reason_text s occs misfits offers (Reasons.Unmatched t) =
    codes "  unmatched: " ++ (triple_text s.terms.now t ++ (codes "\n" ++ limited s.limit inner_margin (misfit_line s occs) misfits))
reason_text s occs misfits offers (Reasons.TooFew own least found) =
    codes "  too few: " ++ (constraints_text s.terms.now occs own ++ (codes " at least " ++ (decimal least ++ found_text s found)))
reason_text s occs misfits offers (Reasons.TooMany own most found) =
    codes "  too many: " ++ (constraints_text s.terms.now occs own ++ (codes " at most " ++ (decimal most ++ found_text s found)))
reason_text s occs misfits offers (Reasons.NoMatchingCounts low high) =
    codes "  no match with these numbers: " ++ (counts_text s.terms.now occs high 0 low ++ codes "\n")
reason_text s occs misfits offers Reasons.NoMatchingPlaces =
    codes "  no way to match\n" ++ limited s.limit inner_margin (offer_line s.terms.now occs) offers

abbrev pub told_reason_text : Setting → List Occurrence → ToldReason → List ℕ
told_reason_text s occs told = reason_text s occs told.misfits told.offers told.reason

-- why a node does not satisfy a member, if that is told
abbrev pub member_line : Setting → TermId → ExprId → Option Why → List ℕ
member_line s n e None = []
member_line s n e (Some why) = inner_margin ++ (why_text s n e why ++ codes "\n")

-- why a node does not satisfy each of these members, of which the first has the number i
abbrev pub member_lines : Setting → TermId → List Why → ℕ → List ExprId → List ℕ
member_lines s n whys i [] = []
member_lines s n whys i (e ∷ es) = member_line s n e (slice_get whys i) ++ member_lines s n whys (suc i) es

-- how many members there are, none of which a node satisfies, and why it does not
abbrev pub no_member_text : Setting → TermId → List ExprId → List Why → List ℕ
no_member_text s n es whys =
    codes "  none of " ++ (decimal (length es) ++ (codes ":\n" ++
    (member_lines s n whys 0 (take s.limit es) ++ more_text inner_margin (length es - s.limit))))

-- the only member that a cause is about
abbrev pub member_text : Setting → TermId → ExprId → Option Why → List ℕ
member_text s n e None = []
member_text s n e (Some why) = codes "  member: " ++ (why_text s n e why ++ codes "\n")

-- the member of a ShapeNot, which a node satisfies
abbrev pub negated_text : Setting → TermId → ExprId → List ℕ
negated_text s n e = codes "  not: " ++ (text_at s.terms.now n ++ (satisfied_expr s e (entry s.schema.now e) ++ codes "\n"))

-- a cause why a node does not satisfy an expression, with what it rests on
abbrev pub cause_text : Setting → TermId → List Why → Cause → List ℕ
cause_text s n members (Causes.Member e) = member_text s n e (slice_get members 0)
cause_text s n members (Causes.NoMember es) = no_member_text s n es members
cause_text s n members (Causes.Negated e) = negated_text s n e
cause_text s n members (Causes.FailedPart part) = []
cause_text s n members (Causes.Lacks i) = []

abbrev pub told_cause_text : Setting → TermId → ToldCause → List ℕ
told_cause_text s n told = cause_text s n told.members told.cause

-- what a block is about
abbrev pub heading : Setting → Block → List ℕ
heading s (Blocks.Reasons p told) = text_at s.terms.now p.node ++ (codes " is not " ++ shape_name s.names.now p.shape)
heading s (Blocks.Causes n e told) = text_at s.terms.now n ++ (codes " does not satisfy " ++ expr_name s.names.now e)

-- the reasons of a node with a Shape, at most so many
abbrev pub reason_lines : Setting → List Occurrence → List ToldReason → List ℕ
reason_lines s occs told = limited s.limit margin (told_reason_text s occs) (shown_reasons told)

-- the causes of a node with an expression, at most so many
abbrev pub cause_lines : Setting → TermId → List ToldCause → List ℕ
cause_lines s n told = limited s.limit margin (told_cause_text s n) told

-- the lines below what a block is about
abbrev pub block_lines : Setting → Block → List ℕ
block_lines s (Blocks.Reasons p told) = reason_lines s (occs_of (shape_at s.schema.now p.shape)) told
block_lines s (Blocks.Causes n e told) = cause_lines s n told

-- the block of number k
abbrev pub block_text : Setting → ℕ → Block → List ℕ
block_text s k b = block_number k ++ (codes " " ++ (heading s b ++ (codes "\n" ++ block_lines s b)))

-- blocks of which the first has the number k + i
abbrev pub blocks_text : Setting → ℕ → ℕ → List Block → List ℕ
blocks_text s k i [] = []
blocks_text s k i (b ∷ bs) = block_text s (k + i) b ++ blocks_text s k (suc i) bs
