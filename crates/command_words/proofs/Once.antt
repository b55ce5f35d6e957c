-- A request has one list of imports and one first fault, and none where it passes.
use Rattle.std.proofs.Common.{◌≡◌, ◌∙◌, ◌++◌, inl, inr, Bool, List, [], ◌∷◌, true, false, true≢false, refl, sym, ap, subst}
use Rattle.std.specs.Prelude.{Option, Some}
use Rattle.std.proofs.lemmas.List.{append_cancel_left}
use Rattle.clap.specs.Words.{Text}
use Rattle.iri_resolve.specs.Text.{Lacks, until_last}
use Rattle.iri_resolve.proofs.Places.{until_last-append}
use Rattle.input_names.specs.Names.{Import, is_among, is_schema_name}
use Rattle.command_words.specs.Requests.{Given, Request, proof_of, to_of}
use Rattle.command_words.specs.Checks.{AreImports, Divides, Fault, HasImports, IsApart, IsGivenFault, IsImport, IsImportFault, IsRequestFault, IsWordFault, Passes, PassesBases, again, data_base, data_ending, file, form, import_words, inputs_by, names_with_proof, of_given, other_names, same, same_name, same_to, schema_base, schema_ending}

pub apart : {b : Bool} → b ≡ true → b ≡ false → ⊥
apart yes_it no_it = true≢false (sym yes_it ∙ no_it)

some_once : {o : Option Text} (x y : Text) → o ≡ Some x → o ≡ Some y → x ≡ y
some_once x y p q = let e : Some x ≡ Some y = sym p ∙ q in cc

-- the last `=` is one
pub one_split : (xs ys us vs : Text) → Lacks 61 ys → Lacks 61 vs → xs ++ (61 ∷ ys) ≡ us ++ (61 ∷ vs) → (xs ≡ us) × (ys ≡ vs)
one_split xs ys us vs p q e = (same_front, same_back)
  where
    same_front : xs ≡ us
    same_front = sym (until_last-append 61 xs ys p) ∙ ap (until_last 61) e ∙ until_last-append 61 us vs q

    same_back : ys ≡ vs
    same_back =
        let whole : xs ++ (61 ∷ ys) ≡ xs ++ (61 ∷ vs) = e ∙ ap (λ t. t ++ (61 ∷ vs)) (sym same_front) in
        let rest : (61 ∷ ys) ≡ (61 ∷ vs) = append_cancel_left xs (61 ∷ ys) (61 ∷ vs) whole in
        cc

one_import : (word : Text) (i j : Import) → Divides word i → Divides word j → i ≡ j
one_import word i j p q =
    let parts : (i.iri ≡ j.iri) × (i.file ≡ j.file) = one_split i.iri i.file j.iri j.file p.last q.last (sym p.whole ∙ q.whole) in
    λ k. record { iri = parts.0 k; file = parts.1 k }

-- a word that gives an import is not at fault
no_word_fault : (earlier : List Text) (word : Text) (i : Import) (f : Fault) → IsImport earlier word i → IsWordFault earlier word f → ⊥
no_word_fault earlier word i _ h (form none) = none i h.divides
no_word_fault earlier word i _ h (again j d given) = apart given (subst (λ (x : Import). is_among x.iri earlier ≡ false) (one_import word i j h.divides d) h.first)
no_word_fault earlier word i _ h (file j d first bad) = apart (subst (λ (x : Import). is_schema_name x.file ≡ true) (one_import word i j h.divides d) h.schema) bad

one_word_fault : (earlier : List Text) (word : Text) (f g : Fault) → IsWordFault earlier word f → IsWordFault earlier word g → f ≡ g
one_word_fault earlier word _ _ (form none) (form more) = refl
one_word_fault earlier word _ _ (form none) (again j d given) = refl
one_word_fault earlier word _ _ (form none) (file j d first bad) = absurd (none j d)
one_word_fault earlier word _ _ (again i d given) (form none) = refl
one_word_fault earlier word _ _ (again i d given) (again j e other) = refl
one_word_fault earlier word _ _ (again i d given) (file j e first bad) = absurd (apart (subst (λ (x : Import). is_among x.iri earlier ≡ true) (one_import word i j d e) given) first)
one_word_fault earlier word _ _ (file i d first bad) (form none) = absurd (none i d)
one_word_fault earlier word _ _ (file i d first bad) (again j e given) = absurd (apart (subst (λ (x : Import). is_among x.iri earlier ≡ true) (one_import word j i e d) given) first)
one_word_fault earlier word _ _ (file i d first bad) (file j e other worse) = ap (λ (x : Import). Fault.ending x.file) (one_import word i j d e)

-- words that give imports are not at fault
pub no_import_fault : (earlier ws : List Text) (imports : List Import) (f : Fault) → AreImports earlier ws imports → IsImportFault earlier ws f → ⊥
no_import_fault earlier [] imports f a h = h
no_import_fault earlier (w ∷ ws) [] f a h = a
no_import_fault earlier (w ∷ ws) (i ∷ imports) f (one, more) (inl h) = no_word_fault earlier w i f one h
no_import_fault earlier (w ∷ ws) (i ∷ imports) f (one, more) (inr (j, other, h)) =
    no_import_fault (earlier ++ i.iri ∷ []) ws imports f more
    (subst (λ (x : Import). IsImportFault (earlier ++ x.iri ∷ []) ws f) (one_import w j i other.divides one.divides) h)

pub one_import_fault : (earlier ws : List Text) (f g : Fault) → IsImportFault earlier ws f → IsImportFault earlier ws g → f ≡ g
one_import_fault earlier [] f g h k = absurd h
one_import_fault earlier (w ∷ ws) f g (inl h) (inl k) = one_word_fault earlier w f g h k
one_import_fault earlier (w ∷ ws) f g (inl h) (inr (j, one, k)) = absurd (no_word_fault earlier w j f one h)
one_import_fault earlier (w ∷ ws) f g (inr (i, one, h)) (inl k) = absurd (no_word_fault earlier w i g one k)
one_import_fault earlier (w ∷ ws) f g (inr (i, one, h)) (inr (j, other, k)) =
    one_import_fault (earlier ++ i.iri ∷ []) ws f g h
    (subst (λ (x : Import). IsImportFault (earlier ++ x.iri ∷ []) ws g) (one_import w j i other.divides one.divides) k)

-- words give one list of imports
pub one_list : (earlier ws : List Text) (imports others : List Import) → AreImports earlier ws imports → AreImports earlier ws others → imports ≡ others
one_list earlier [] [] [] a b = refl
one_list earlier [] [] (j ∷ others) a b = absurd b
one_list earlier [] (i ∷ imports) others a b = absurd a
one_list earlier (w ∷ ws) [] others a b = absurd a
one_list earlier (w ∷ ws) (i ∷ imports) [] a b = absurd b
one_list earlier (w ∷ ws) (i ∷ imports) (j ∷ others) (one, more) (other, rest) =
    let same_one : i ≡ j = one_import w i j one.divides other.divides in
    let same_more : imports ≡ others = one_list (earlier ++ i.iri ∷ []) ws imports others more
    (subst (λ (x : Import). AreImports (earlier ++ x.iri ∷ []) ws others) (sym same_one) rest) in
    λ k. same_one k ∷ same_more k

-- a name that is none of some names is none of them by whichever imports are given
still_apart : (g : Given) (imports others : List Import) → HasImports g imports → HasImports g others
    → (names : List Import → List Text) (o : Option Text) → IsApart o (names imports) → (name : Text) → o ≡ Some name → is_among name (names others) ≡ true → ⊥
still_apart g imports others a b names o none name e among =
    apart among (subst (λ (is : List Import). is_among name (names is) ≡ false) (one_list [] g.import_words imports others a.imports_given b.imports_given) (none name e))

-- what is given fails one check first
pub one_given_fault : (g : Given) (f h : Fault) → IsGivenFault g f → IsGivenFault g h → f ≡ h
one_given_fault g _ _ (schema_ending x1) (schema_ending y1) = refl
one_given_fault g _ _ (schema_ending x1) (data_ending y1 y2) = absurd (apart (y1) (x1))
one_given_fault g _ _ (schema_ending x1) (import_words _ y1 y2) = absurd (apart (y1.schema) (x1))
one_given_fault g _ _ (schema_ending x1) (schema_base yi y1 y2) = absurd (apart (y1.endings.schema) (x1))
one_given_fault g _ _ (schema_ending x1) (data_base yi y1 y2 y3) = absurd (apart (y1.endings.schema) (x1))
one_given_fault g _ _ (data_ending x1 x2) (schema_ending y1) = absurd (apart (x1) (y1))
one_given_fault g _ _ (data_ending x1 x2) (data_ending y1 y2) = refl
one_given_fault g _ _ (data_ending x1 x2) (import_words _ y1 y2) = absurd (apart (y1.data_file) (x2))
one_given_fault g _ _ (data_ending x1 x2) (schema_base yi y1 y2) = absurd (apart (y1.endings.data_file) (x2))
one_given_fault g _ _ (data_ending x1 x2) (data_base yi y1 y2 y3) = absurd (apart (y1.endings.data_file) (x2))
one_given_fault g _ _ (import_words _ x1 x2) (schema_ending y1) = absurd (apart (x1.schema) (y1))
one_given_fault g _ _ (import_words _ x1 x2) (data_ending y1 y2) = absurd (apart (x1.data_file) (y2))
one_given_fault g _ _ (import_words _ x1 x2) (import_words _ y1 y2) = one_import_fault [] g.import_words _ _ x2 y2
one_given_fault g _ _ (import_words _ x1 x2) (schema_base yi y1 y2) = absurd (no_import_fault [] g.import_words _ _ (y1.imports_given) (x2))
one_given_fault g _ _ (import_words _ x1 x2) (data_base yi y1 y2 y3) = absurd (no_import_fault [] g.import_words _ _ (y1.imports_given) (x2))
one_given_fault g _ _ (schema_base xi x1 x2) (schema_ending y1) = absurd (apart (x1.endings.schema) (y1))
one_given_fault g _ _ (schema_base xi x1 x2) (data_ending y1 y2) = absurd (apart (x1.endings.data_file) (y2))
one_given_fault g _ _ (schema_base xi x1 x2) (import_words _ y1 y2) = absurd (no_import_fault [] g.import_words _ _ (x1.imports_given) (y2))
one_given_fault g _ _ (schema_base xi x1 x2) (schema_base yi y1 y2) = refl
one_given_fault g _ _ (schema_base xi x1 x2) (data_base yi y1 y2 y3) = absurd (apart (y2) (x2))
one_given_fault g _ _ (data_base xi x1 x2 x3) (schema_ending y1) = absurd (apart (x1.endings.schema) (y1))
one_given_fault g _ _ (data_base xi x1 x2 x3) (data_ending y1 y2) = absurd (apart (x1.endings.data_file) (y2))
one_given_fault g _ _ (data_base xi x1 x2 x3) (import_words _ y1 y2) = absurd (no_import_fault [] g.import_words _ _ (x1.imports_given) (y2))
one_given_fault g _ _ (data_base xi x1 x2 x3) (schema_base yi y1 y2) = absurd (apart (x2) (y2))
one_given_fault g _ _ (data_base xi x1 x2 x3) (data_base yi y1 y2 y3) = refl

-- and none where it passes
pub no_given_fault : (g : Given) (imports : List Import) (f : Fault) → PassesBases g imports → IsGivenFault g f → ⊥
no_given_fault g imports _ p (schema_ending x1) = apart (p.inputs.endings.schema) (x1)
no_given_fault g imports _ p (data_ending x1 x2) = apart (p.inputs.endings.data_file) (x2)
no_given_fault g imports _ p (import_words _ x1 x2) = no_import_fault [] g.import_words imports _ (p.inputs.imports_given) x2
no_given_fault g imports _ p (schema_base xi x1 x2) = apart (p.schema) (x2)
no_given_fault g imports _ p (data_base xi x1 x2 x3) = apart (p.data_file) (x3)

abbrev others_of : Request → List Import → List Text
others_of r imports = other_names (inputs_by r.given imports) r.task

abbrev with_proof : Request → List Import → List Text
with_proof r imports = names_with_proof (inputs_by r.given imports) r.task

-- a request has one first fault
pub one_request_fault : (r : Request) (f g : Fault) → IsRequestFault r f → IsRequestFault r g → f ≡ g
one_request_fault r f g (of_given _ h) (of_given _ k) = one_given_fault r.given f g h k
one_request_fault r f _ (of_given _ h) (same_name yi y1 yn y2 y3) = absurd (no_given_fault r.given yi f y1 h)
one_request_fault r f _ (of_given _ h) (same_to yi y1 y2 yn y3 y4) = absurd (no_given_fault r.given yi f y1 h)
one_request_fault r _ g (same_name xi x1 xn x2 x3) (of_given _ k) = absurd (no_given_fault r.given xi g x1 k)
one_request_fault r _ _ (same_name xi x1 xn x2 x3) (same_name yi y1 yn y2 y3) = ap same (some_once xn yn (x2) (y2))
one_request_fault r _ _ (same_name xi x1 xn x2 x3) (same_to yi y1 y2 yn y3 y4) = absurd (still_apart r.given yi xi y1.inputs x1.inputs (others_of r) (proof_of r.task) y2 xn x2 x3)
one_request_fault r _ g (same_to xi x1 x2 xn x3 x4) (of_given _ k) = absurd (no_given_fault r.given xi g x1 k)
one_request_fault r _ _ (same_to xi x1 x2 xn x3 x4) (same_name yi y1 yn y2 y3) = absurd (still_apart r.given xi yi x1.inputs y1.inputs (others_of r) (proof_of r.task) x2 yn y2 y3)
one_request_fault r _ _ (same_to xi x1 x2 xn x3 x4) (same_to yi y1 y2 yn y3 y4) = ap same (some_once xn yn (x3) (y3))

-- and none where it passes
pub no_request_fault : (r : Request) (imports : List Import) (f : Fault) → Passes r imports → IsRequestFault r f → ⊥
no_request_fault r imports f p (of_given _ h) = no_given_fault r.given imports f p.bases h
no_request_fault r imports _ p (same_name xi x1 xn x2 x3) = still_apart r.given imports xi p.bases.inputs x1.inputs (others_of r) (proof_of r.task) p.apart xn x2 x3
no_request_fault r imports _ p (same_to xi x1 x2 xn x3 x4) = still_apart r.given imports xi p.bases.inputs x1.inputs (with_proof r) (to_of r.task) p.to_apart xn x3 x4
