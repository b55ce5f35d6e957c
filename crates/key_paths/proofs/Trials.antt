-- What the answer of the reader to a changed document says.
use Rattle.std.proofs.Common.{◌≡◌, ◌≢◌, ◌⊎◌, inl, inr, ℕ, [], List, Bool, true, false, not, Some, None, MatchBool, MatchOption, IfSome, Option, ◌≤◌, arith, refl, sym, subst}
use Rattle.std.specs.Bool.{OnTrue}
use Rattle.std.specs.Str.{IsUtf8}
use Rattle.serde_json.specs.Data.{Data, array, boolean, depth, item, no_items, null, number, object, string}
use Rattle.serde_json.specs.Read.{read}
use Rattle.schema_documents.specs.Tree.{Document}
use Rattle.schema_documents.specs.declared.error.SchemaError.{SchemaError}
use Rattle.schema_documents.specs.declared.error.SchemaError.TheVariants as Errors
use Rattle.shexj_reader.specs.Bytes.{HasFault, IsCause, IsDocumentText}
use Rattle.shexj_reader.specs.DocumentFaults.{DocumentFault}
use Rattle.shexj_reader.specs.Documents.{SpellsDocument}
use Rattle.shexj_reader.specs.Faults.{Because}
use Rattle.json_paths.specs.Paths.{inside, value_at, with_at, with_step}
use Rattle.json_paths.specs.declared.steps.Step.{Step}
use Rattle.json_paths.specs.declared.steps.Step.TheVariants.{Index}
use Rattle.key_paths.specs.Refusals.{IsDocumentData, IsOther, IsRefused, IsRefusedFor, otherwise, same_error}
use Rattle.key_paths.specs.Causes.{EndsAtCause, IsChanged, IsMendedBy, IsResponsible, LeadsToCause}

one_value : (bytes : List ℕ) (c d : Data) → read bytes ≡ Some c → read bytes ≡ Some d → c ≡ d
one_value bytes c d e f = cc

-- a text of the value that is one of a document
pub document_there : (doc : Document) (bytes : List ℕ) (d : Data) → read bytes ≡ Some d → IsDocumentText doc bytes → IsDocumentData d
document_there doc bytes d is t = record {
  document = doc;
  is = record {
    spelled = subst (SpellsDocument doc) (one_value bytes t.value d t.json is) t.spelled;
    within = t.within;
  };
}

of_fault : (bytes : List ℕ) (d : Data) (e : SchemaError) → read bytes ≡ Some d → e ≢ Errors.Memory → HasFault bytes e → IsRefusedFor e d
of_fault bytes d e is known h = record {
  known = known;
  fault = subst (λ d. Because (λ f. DocumentFault f d) e) (one_value bytes h.value d h.json is) h.fault;
}

not_read : (bytes : List ℕ) (d : Data) → read bytes ≡ Some d → read bytes ≡ None → ⊥
not_read bytes d e f = cc

-- a text of the value that is refused
pub fault_there : (bytes : List ℕ) (d : Data) (e : SchemaError) → read bytes ≡ Some d → IsUtf8 bytes → e ≢ Errors.Memory → IsCause bytes e → IsRefusedFor e d
fault_there bytes d Errors.NotUtf8 is utf8 known cause = absurd (cause utf8)
fault_there bytes d Errors.Json is utf8 known cause = absurd (not_read bytes d is cause.1)
fault_there bytes d Errors.Memory is utf8 known cause = absurd (known refl)
fault_there bytes d (Errors.Syntax at) is utf8 known cause = absurd cause
fault_there bytes d (Errors.Prefix at) is utf8 known cause = absurd cause
fault_there bytes d Errors.External is utf8 known cause = of_fault bytes d _ is known cause
fault_there bytes d Errors.Deep is utf8 known cause = of_fault bytes d _ is known cause
fault_there bytes d (Errors.Key name) is utf8 known cause = of_fault bytes d _ is known cause
fault_there bytes d (Errors.Form name) is utf8 known cause = of_fault bytes d _ is known cause
fault_there bytes d Errors.Action is utf8 known cause = of_fault bytes d _ is known cause
fault_there bytes d Errors.FloatFacet is utf8 known cause = of_fault bytes d _ is known cause
fault_there bytes d Errors.FacetNumber is utf8 known cause = of_fault bytes d _ is known cause
fault_there bytes d (Errors.Pattern e) is utf8 known cause = of_fault bytes d _ is known cause

-- the comparison of two errors tells whether the value is refused for the one
pub told : (b : Bool) (found error : SchemaError) (d : Data) → same_error found error ≡ b → IsRefusedFor found d → MatchBool b (IsRefused error d) (IsOther error d)
told true found error d e h = record { found = found; alike = e; refused = h }
told false found error d e h = otherwise found e h

-- where the changed document is not refused, the change mends it
pub mended : (b : Bool) (error : SchemaError) (document : Data) (path : List Step) (step : Step) (outer changed : Data) → IsChanged step outer changed
    → MatchBool b (IsRefused error (with_at path changed document)) (IsOther error (with_at path changed document)) → OnTrue (not b) (IsMendedBy error document path step outer)
mended true error document path step outer changed change h = tt
mended false error document path step outer changed change h = record { changed = changed; change = change; other = h }

-- an array with a text as its only item nests no deeper than before
pub text_alone : (s : List ℕ) (d : Data) → depth (with_step (Index 0) (string s) d) ≤ depth d
text_alone s null = omega arith
text_alone s (boolean b) = omega arith
text_alone s (number n) = omega arith
text_alone s (string t) = omega arith
text_alone s (array no_items) = omega arith
text_alone s (array (item d ds)) = omega arith
text_alone s (object ms) = omega arith

pub first_alone : (b : Bool) (P Q : Type 0) → MatchBool b P Q → OnTrue b P
first_alone true P Q h = h
first_alone false P Q h = tt

-- what is refused where it stands, and not where it is changed, is responsible
pub responsible : (b : Bool) (error : SchemaError) (document : Data) (path : List Step) (step : Step) (outer inner : Data) → value_at path document ≡ Some outer → inside step outer ≡ Some inner
    → IsRefused error (with_at path (with_step step inner outer) document) → OnTrue b (IsMendedBy error document path step outer) → OnTrue b (IsResponsible error document path step)
responsible true error document path step outer inner found there refused mended = record {
  outer = outer;
  found = found;
  inner = inner;
  there = there;
  refused = refused;
  mended = mended;
}
responsible false error document path step outer inner found there refused mended = tt

-- a path that is made of the steps
pub leads : (o : Option (List Step)) (steps : List Step) (error : SchemaError) (bytes : List ℕ) (d : Data) → (steps ≡ [] → ⊥) →
    MatchOption o (steps ≡ []) (λ p. p ≡ steps) → read bytes ≡ Some d → IsRefused error d
    → (steps ≡ []) ⊎ EndsAtCause error d steps → IfSome o (LeadsToCause error bytes)
leads None steps error bytes d some is json refused ends = tt
leads (Some p) steps error bytes d some is json refused (inl e) = absurd (some e)
leads (Some p) steps error bytes d some is json refused (inr h) = record { document = d; json = json; refused = refused; ends = subst (EndsAtCause error d) (sym is) h }
