-- The data of an explanation: no floating-point number stands there, and they do not nest deeply.
use Rattle.std.proofs.Common.{◌≡◌, ◌≤◌, ◌∷◌, ◌++◌, ◌+◌, ℕ, suc, Bool, true, false, List, [], arith, codes, length, map}
use Rattle.std.specs.List.{flat_map, list_any}
use Rattle.std.specs.Prelude.{◌==◌, if◌then◌else◌, Option, Some, None, slice_get}
use Rattle.std.specs.Str.Lossy.{utf8_lossy}
use Rattle.rdf_terms.specs.declared.terms.Term.{Term}
use Rattle.rdf_terms.specs.declared.terms.TermId.{TermId}
use Rattle.rdf_terms.specs.declared.terms.Triple.{Triple}
use Rattle.rdf_terms.specs.Order.{text_at}
use Rattle.schema_tree.specs.declared.schema.ExprId.{ExprId}
use Rattle.schema_tree.specs.declared.schema.Occurrence.{Occurrence}
use Rattle.schema_tree.specs.Entries.{entry, shape_at}
use Rattle.schema_tree.specs.Targets.{target_text}
use Rattle.serde_json.specs.Data.{Data, Members, depth, no_members, put, string}
use Rattle.serde_json.specs.Read.{max_depth}
use Rattle.serde_json.specs.Written.{has_float}
use Rattle.shape_map.specs.declared.resolve.Association.{Association}
use Rattle.nonconformance.specs.declared.cause.Cause.{Cause}
use Rattle.nonconformance.specs.declared.cause.Cause.TheVariants as Causes
use Rattle.nonconformance.specs.declared.offers.Offer.{Offer}
use Rattle.nonconformance.specs.declared.reason.Reason.{Reason}
use Rattle.nonconformance.specs.declared.reason.Reason.TheVariants as Reasons
use Rattle.explanations.specs.declared.explanation.Block.{Block}
use Rattle.explanations.specs.declared.explanation.Block.TheVariants as Blocks
use Rattle.explanations.specs.declared.explanation.Misfit.{Misfit}
use Rattle.explanations.specs.declared.explanation.Told.{Told}
use Rattle.explanations.specs.declared.explanation.ToldCause.{ToldCause}
use Rattle.explanations.specs.declared.explanation.ToldReason.{ToldReason}
use Rattle.explanations.specs.declared.explanation.Why.{Why}
use Rattle.explanations.specs.declared.explanation.Why.TheVariants.{Part, See}
use Rattle.explanation_texts.specs.declared.setting.Setting.{Setting}
use Rattle.explanation_texts.specs.Answers.{below_text}
use Rattle.explanation_texts.specs.Conditions.{why_text}
use Rattle.explanation_texts.specs.Data.{answer_data, answers_data, explanation_data, put_tree, status_word, told_data}
use Rattle.explanation_texts.specs.Folding.{shown_reasons}
use Rattle.explanation_texts.specs.Names.{expr_name, shape_name}
use Rattle.explanation_texts.specs.Reasons.{constraint_at, is_rest, occs_of}
use Rattle.explanation_texts.specs.Trees.{blocks_data, called, cause_data, constraint_data, count_data, counts_data, list_data, members_data, misfit_data, number_data, offer_data, part_word, put_block, put_bound, put_cause, put_kind, put_member, put_most, put_subject, put_told, put_why, put_why_if, reason_data, text_data, tree_data, triple_data}
use Rattle.explanation_texts.specs.Words.{constraint_text, triple_text}
use Rattle.explanation_texts.proofs.Plain.{AreItemsPlain, AreMembersPlain, IsPlain, boolean_plain, deeper, empty_plain, item_plain, list_plain, mapped_plain, members_deeper, none_plain, number_plain, object_plain, put_plain, string_plain}

-- bytes as a string, put at a key
text_put : (n : ℕ) (key bytes : List ℕ) (ms : Members) → AreMembersPlain n ms → AreMembersPlain n (put key (text_data bytes) ms)
text_put n key bytes ms h = put_plain n key (text_data bytes) ms (string_plain n (utf8_lossy bytes)) h

-- a word, put at a key
word_put : (n : ℕ) (key word : List ℕ) (ms : Members) → AreMembersPlain n ms → AreMembersPlain n (put key (string word) ms)
word_put n key word ms h = put_plain n key (string word) ms (string_plain n word) h

number_put : (n : ℕ) (key : List ℕ) (k : ℕ) (ms : Members) → AreMembersPlain n ms → AreMembersPlain n (put key (number_data k) ms)
number_put n key k ms h = put_plain n key (number_data k) ms (number_plain n k) h

-- a list, put at a key
list_put : (n : ℕ) (key : List ℕ) (ds : List Data) (ms : Members) → AreItemsPlain n ds → AreMembersPlain (suc n) ms → AreMembersPlain (suc n) (put key (list_data ds) ms)
list_put n key ds ms items h = put_plain (suc n) key (list_data ds) ms (list_plain n ds items) h

triples_plain : (n : ℕ) (terms : List Term) (ts : List Triple) → AreItemsPlain n (map (triple_data terms) ts)
triples_plain n terms ts = mapped_plain n (triple_data terms) (λ t. string_plain n (utf8_lossy (triple_text terms t))) ts

constraints_plain : (n : ℕ) (terms : List Term) (occs : List Occurrence) (numbers : List ℕ) → AreItemsPlain n (map (constraint_data terms occs) numbers)
constraints_plain n terms occs numbers = mapped_plain n (constraint_data terms occs) (λ i. string_plain n (utf8_lossy (constraint_text terms occs i))) numbers

why_plain : (d : ℕ) (s : Setting) (n : TermId) (e : ExprId) (why : Why) (ms : Members) → AreMembersPlain d ms → AreMembersPlain d (put_why s n e why ms)
why_plain d s n e (See k) ms h = number_put d (codes "see") k ms h
why_plain d s n e (Part part) ms h =
    text_put d (codes "text") (why_text s n e (Part part)) (put (codes "part") (string (part_word part)) ms) (word_put d (codes "part") (part_word part) ms h)

why_if_plain : (d : ℕ) (s : Setting) (n : TermId) (e : ExprId) (why : Option Why) (ms : Members) →
    AreMembersPlain d ms → AreMembersPlain d (put_why_if s n e why ms)
why_if_plain d s n e None ms h = h
why_if_plain d s n e (Some why) ms h = why_plain d s n e why ms h

misfit_plain : (s : Setting) (occs : List Occurrence) (m : Misfit) → IsPlain 1 (misfit_data s occs m)
misfit_plain s occs m =
    let named = text_put 0 (codes "constraint") (constraint_text s.terms.now occs m.constraint) no_members (none_plain 0) in
    let placed = text_put 0 (codes "node") (text_at s.terms.now m.node) (put (codes "constraint") (constraint_data s.terms.now occs m.constraint) no_members) named in
    object_plain 0 _ (why_plain 0 s m.node m.value m.why _ placed)

most_plain : (n : ℕ) (most : Option ℕ) (ms : Members) → AreMembersPlain n ms → AreMembersPlain n (put_most most ms)
most_plain n None ms h = h
most_plain n (Some most) ms h = number_put n (codes "most") most ms h

count_plain : (terms : List Term) (occs : List Occurrence) (i low : ℕ) (high : Option ℕ) → IsPlain 1 (count_data terms occs i low high)
count_plain terms occs i low high =
    object_plain 0 _ (most_plain 0 high _ (number_put 0 (codes "least") low _ (text_put 0 (codes "constraint") (constraint_text terms occs i) no_members (none_plain 0))))

counts_plain : (terms : List Term) (occs : List Occurrence) (high : List ℕ) (i : ℕ) (low : List ℕ) → AreItemsPlain 1 (counts_data terms occs high i low)
counts_plain terms occs high i [] = empty_plain 1
counts_plain terms occs high i (low ∷ more) =
    item_plain 1 (count_data terms occs i low (slice_get high i)) (counts_data terms occs high (suc i) more) (count_plain terms occs i low (slice_get high i))
    (counts_plain terms occs high (suc i) more)

offer_plain : (terms : List Term) (occs : List Occurrence) (o : Offer) → IsPlain 2 (offer_data terms occs o)
offer_plain terms occs o =
    object_plain 1 _ (put_plain 1 (codes "leftOver") _ _ (boolean_plain 1 (list_any is_rest o.places))
    (list_put 0 (codes "constraints") _ _ (constraints_plain 0 terms occs (flat_map constraint_at o.places))
    (text_put 1 (codes "triple") (triple_text terms o.triple) no_members (none_plain 1))))

kind_plain : (n : ℕ) (kind : List ℕ) → AreMembersPlain n (put_kind kind no_members)
kind_plain n kind = word_put n (codes "kind") kind no_members (none_plain n)

bound_plain : (terms : List Term) (occs : List Occurrence) (key : List ℕ) (bound : ℕ) (own : List ℕ) (found : List Triple) (ms : Members) →
    AreMembersPlain 3 ms → AreMembersPlain 3 (put_bound terms occs key bound own found ms)
bound_plain terms occs key bound own found ms h =
    list_put 2 (codes "found") _ _ (triples_plain 2 terms found)
    (number_put 3 key bound _ (list_put 2 (codes "constraints") _ ms (constraints_plain 2 terms occs own) h))

told_plain : (s : Setting) (occs : List Occurrence) (misfits : List Misfit) (offers : List Offer) (r : Reason) →
    AreMembersPlain 3 (put_told s occs misfits offers r no_members)
told_plain s occs misfits offers (Reasons.Forbidden t) = text_put 3 (codes "triple") (triple_text s.terms.now t) _ (kind_plain 3 (codes "closed"))
told_plain s occs misfits offers (Reasons.Unmatched t) =
    list_put 2 (codes "causes") _ _ (mapped_plain 2 (misfit_data s occs) (λ m. deeper 1 2 (misfit_data s occs m) (omega arith) (misfit_plain s occs m)) misfits)
    (text_put 3 (codes "triple") (triple_text s.terms.now t) _ (kind_plain 3 (codes "unmatched")))
told_plain s occs misfits offers (Reasons.TooFew own least found) = bound_plain s.terms.now occs (codes "least") least own found _ (kind_plain 3 (codes "tooFew"))
told_plain s occs misfits offers (Reasons.TooMany own most found) = bound_plain s.terms.now occs (codes "most") most own found _ (kind_plain 3 (codes "tooMany"))
told_plain s occs misfits offers (Reasons.NoMatchingCounts low high) =
    members_deeper 2 3 _ (omega arith) (list_put 1 (codes "counts") _ _ (counts_plain s.terms.now occs high 0 low) (kind_plain 2 (codes "noMatchingNumbers")))
told_plain s occs misfits offers Reasons.NoMatchingPlaces =
    list_put 2 (codes "triples") _ _ (mapped_plain 2 (offer_data s.terms.now occs) (offer_plain s.terms.now occs) offers) (kind_plain 3 (codes "noWay"))

reason_plain : (s : Setting) (occs : List Occurrence) (told : ToldReason) → IsPlain 4 (reason_data s occs told)
reason_plain s occs told = object_plain 3 _ (told_plain s occs told.misfits told.offers told.reason)

member_plain : (d : ℕ) (s : Setting) (n : TermId) (e : ExprId) (why : Option Why) (ms : Members) →
    AreMembersPlain d ms → AreMembersPlain d (put_member s n e why ms)
member_plain d s n e why ms h = why_if_plain d s n e why _ (text_put d (codes "expression") (called s e (entry s.schema.now e)) ms h)

members_plain : (s : Setting) (n : TermId) (whys : List Why) (i : ℕ) (es : List ExprId) → AreItemsPlain 1 (members_data s n whys i es)
members_plain s n whys i [] = empty_plain 1
members_plain s n whys i (e ∷ es) =
    item_plain 1 _ (members_data s n whys (suc i) es) (object_plain 0 _ (member_plain 0 s n e (slice_get whys i) no_members (none_plain 0)))
    (members_plain s n whys (suc i) es)

cause_plain : (s : Setting) (n : TermId) (members : List Why) (c : Cause) → AreMembersPlain 3 (put_cause s n members c no_members)
cause_plain s n members (Causes.Member e) = member_plain 3 s n e (slice_get members 0) _ (kind_plain 3 (codes "and"))
cause_plain s n members (Causes.NoMember es) =
    members_deeper 2 3 _ (omega arith) (list_put 1 (codes "members") _ _ (members_plain s n members 0 es) (kind_plain 2 (codes "or")))
cause_plain s n members (Causes.Negated e) = text_put 3 (codes "expression") (called s e (entry s.schema.now e)) _ (kind_plain 3 (codes "not"))
cause_plain s n members (Causes.FailedPart part) = none_plain 3
cause_plain s n members (Causes.Lacks i) = none_plain 3

told_cause_plain : (s : Setting) (n : TermId) (told : ToldCause) → IsPlain 4 (cause_data s n told)
told_cause_plain s n told = object_plain 3 _ (cause_plain s n told.members told.cause)

subject_plain : (d : ℕ) (s : Setting) (k : ℕ) (n : TermId) → AreMembersPlain d (put_subject s k n no_members)
subject_plain d s k n = text_put d (codes "node") (text_at s.terms.now n) _ (number_put d (codes "number") k no_members (none_plain d))

block_plain : (s : Setting) (k : ℕ) (b : Block) → AreMembersPlain 5 (put_block s k b no_members)
block_plain s k (Blocks.Reasons p told) =
    list_put 4 (codes "reasons") _ _
    (mapped_plain 4 (reason_data s (occs_of (shape_at s.schema.now p.shape))) (reason_plain s (occs_of (shape_at s.schema.now p.shape))) (shown_reasons told))
    (text_put 5 (codes "shape") (shape_name s.names.now p.shape) _ (subject_plain 5 s k p.node))
block_plain s k (Blocks.Causes n e told) =
    list_put 4 (codes "causes") _ _ (mapped_plain 4 (cause_data s n) (told_cause_plain s n) told)
    (text_put 5 (codes "expression") (expr_name s.names.now e) _ (subject_plain 5 s k n))

blocks_plain : (s : Setting) (k i : ℕ) (blocks : List Block) → AreItemsPlain 6 (blocks_data s k i blocks)
blocks_plain s k i [] = empty_plain 6
blocks_plain s k i (b ∷ bs) = item_plain 6 _ (blocks_data s k (suc i) bs) (object_plain 5 _ (block_plain s (k + i) b)) (blocks_plain s k (suc i) bs)

tree_plain : (s : Setting) (k : ℕ) (n : TermId) (e : ExprId) (why : Why) (blocks : List Block) → IsPlain 8 (tree_data s k n e why blocks)
tree_plain s k n e why blocks = object_plain 7 _ (list_put 6 (codes "blocks") _ _ (blocks_plain s k 0 blocks) (why_plain 7 s n e why no_members (none_plain 7)))

tree_put : (s : Setting) (k : ℕ) (a : Association) (why : Option Why) (blocks : List Block) (ms : Members) →
    AreMembersPlain 8 ms → AreMembersPlain 8 (put_tree s k a why blocks ms)
tree_put s k a None blocks ms h = h
tree_put s k a (Some why) blocks ms h = put_plain 8 (codes "appInfo") _ ms (tree_plain s (k + 1) a.node a.expr why blocks) h

reason_if : (none : Bool) (reason : List ℕ) (ms : Members) → AreMembersPlain 8 ms → AreMembersPlain 8 (if none then ms else put (codes "reason") (text_data reason) ms)
reason_if true reason ms h = h
reason_if false reason ms h = text_put 8 (codes "reason") reason ms h

answer_plain : (s : Setting) (n : ℕ) (a : Association) (t : Told) → IsPlain 9 (answer_data s n a t)
answer_plain s n a t =
    let reason = below_text s n a t.why t.blocks in
    object_plain 8 _ (tree_put s n a t.why t.blocks _ (reason_if (length reason == 0) reason _ (word_put 8 (codes "status") (status_word t.verdict) _
    (word_put 8 (codes "shape") (target_text a.target) _ (text_put 8 (codes "node") (text_at s.terms.now a.node) no_members (none_plain 8))))))

joined : (s : Setting) (n : ℕ) (a : Option Association) (t : Told) (rest : List Data) → AreItemsPlain 9 rest → AreItemsPlain 9 (told_data s n a t ++ rest)
joined s n None t rest h = h
joined s n (Some a) t rest h = item_plain 9 (answer_data s n a t) rest (answer_plain s n a t) h

answers_plain : (s : Setting) (asked : List Association) (i n : ℕ) (answers : List Told) → AreItemsPlain 9 (answers_data s asked i n answers)
answers_plain s asked i n [] = empty_plain 9
answers_plain s asked i n (t ∷ answers) =
    joined s n (slice_get asked i) t (answers_data s asked (suc i) (n + length t.blocks) answers) (answers_plain s asked (suc i) (n + length t.blocks) answers)

explanation_fine : (s : Setting) (asked : List Association) (answers : List Told) → IsPlain 10 (explanation_data s asked answers)
explanation_fine s asked answers = list_plain 9 (answers_data s asked 0 0 answers) (answers_plain s asked 0 0 answers)

pub explanation_plain : (s : Setting) (asked : List Association) (answers : List Told) → has_float (explanation_data s asked answers) ≡ false
explanation_plain s asked answers = (explanation_fine s asked answers).whole

pub explanation_flat : (s : Setting) (asked : List Association) (answers : List Told) → depth (explanation_data s asked answers) ≤ max_depth
explanation_flat s asked answers = let flat = (explanation_fine s asked answers).flat in omega (arith, flat)
