-- A walk over the tokens of a text, up to a use of a label.
use Rattle.std.proofs.Common.{◌≡◌, ◌∙◌, ap, sym, subst, refl, ℕ, Bool, true, false, List, [], ◌∷◌, ◌++◌}
use Rattle.std.specs.Prelude.{◌||◌, Result, Ok, Err, String, not, string_bytes}
use Rattle.std.proofs.lemmas.List.{append_assoc}
use Rattle.std.specs.Str.{IsUtf8}
use Rattle.std.specs.declared.alloc.Global.{Global}
use Rattle.rdf_cursor.proofs.Locality.{prepend-append}
use Rattle.rdf_cursor.proofs.Places.{first_at}
use Rattle.rdf_cursor.specs.Ahead.{Ahead, token, prepend}
use Rattle.rdf_cursor.specs.Lent.{Stands, behind_next}
use Rattle.rdf_cursor.specs.Stops.{Answers}
use Rattle.rdf_cursor.specs.Streams.{stream_from}
use Rattle.rdf_cursor.specs.declared.stops.Fault.{Fault}
use Rattle.rdf_cursor.specs.declared.stops.Stop.{Stop}
use Rattle.rdf_lex.specs.declared.kinds.Mode.TheVariants.{Schema}
use Rattle.rdf_lex.specs.Tokens.{Spelled}
use Rattle.schema_documents.specs.declared.label.Label.{Label}
use Rattle.label_tokens.specs.Places.{HasRead, HasUse, IsUse, IsUseAt}
use Rattle.label_tokens.specs.Scenes.{Scene, first_scene, next_scene, scene_behind}
use Rattle.label_tokens.specs.declared.spots.Usage.{Usage}

-- what is read of a token is what it stands for
pub answered : (r : Result (String Global) Stop) (a : Result (List ℕ) Fault) (text : List ℕ) → Answers string_bytes r a → HasRead r text → a ≡ Ok text
answered (Ok found) a text is same = is ∙ ap Ok same
answered (Err stop) a text is same = absurd same

-- behind one token more
scene_more : (s : Scene) (front : List Spelled) (t : Spelled) → scene_behind s (front ++ (t ∷ [])) ≡ next_scene (scene_behind s front) t
scene_more s [] t = refl
scene_more s (u ∷ front) t = scene_more (next_scene s u) front t

module _ (usage : Usage) (again : Bool) (base : List ℕ) (label : Label) (source : List ℕ) where
  -- some tokens were passed, this lies ahead of them, and with both flags the label is so used among them
  pub record IsPassed (scene : Scene) (met : Bool) (rest : Ahead Spelled) : Type 0 where
    pub front : List Spelled
    pub parts : stream_from Schema source 0 ≡ prepend front rest
    pub stands : scene ≡ scene_behind (first_scene base) front
    pub before : met ≡ true → again ≡ true → HasUse usage base label front

  -- at the beginning
  pub begun : (scene : Scene) (met : Bool) (rest : Ahead Spelled) → scene ≡ first_scene base → rest ≡ stream_from Schema source 0 → met ≡ not again → IsPassed scene met rest
  begun scene met rest first is flag = record { front = []; parts = sym is; stands = first; before = λ e f. absurd (apart f (sym flag ∙ e)) }
    where
      apart : again ≡ true → not again ≡ true → ⊥
      apart f n = absurd cc

  -- a use among tokens is one among more
  has_more : (front : List Spelled) (u : Spelled) → HasUse usage base label front → HasUse usage base label (front ++ (u ∷ []))
  has_more front u h = record {
    front = h.front;
    t = h.t;
    more = h.more ++ (u ∷ []);
    is = ap (λ ts. ts ++ (u ∷ [])) h.is ∙ append_assoc h.front (h.t ∷ h.more) (u ∷ []);
    use_there = h.use_there;
  }

  -- behind the next token
  pub onward : (scene next : Scene) (met here later : Bool) (rest after : Ahead Spelled) (t : Spelled) (more : Ahead Spelled) → rest ≡ token t more → after ≡ behind_next rest
      → next ≡ next_scene scene t → later ≡ (met || here) → (here ≡ true → IsUse usage label scene t) → IsPassed scene met rest → IsPassed next later after
  onward scene next met here later rest after t more is behind next_is flag uses p =
      let there : after ≡ more = behind ∙ ap behind_next is in
      record {
        front = p.front ++ (t ∷ []);
        parts = p.parts ∙ ap (prepend p.front) is ∙ sym (prepend-append p.front (t ∷ []) more) ∙ ap (prepend (p.front ++ (t ∷ []))) (sym there);
        stands = next_is ∙ ap (λ s. next_scene s t) p.stands ∙ sym (scene_more (first_scene base) p.front t);
        before = λ e f. by met here (sym flag ∙ e) f p.before uses;
      }
    where
      by : (met here : Bool) → (met || here) ≡ true → again ≡ true → (met ≡ true → again ≡ true → HasUse usage base label p.front) → (here ≡ true → IsUse usage label scene t)
          → HasUse usage base label (p.front ++ (t ∷ []))
      by true here e f before uses = has_more p.front t (before refl f)
      by false true e f before uses = record { front = p.front; t = t; more = []; is = refl; use_there = subst (λ s. IsUse usage label s t) p.stands (uses refl) }
      by false false e f before uses = absurd cc

  -- the next token is a use of the label
  pub used_here : (scene : Scene) (met : Bool) (rest : Ahead Spelled) (t : Spelled) (more : Ahead Spelled) (at : ℕ) → IsUtf8 source → rest ≡ token t more → IsPassed scene met rest
      → Stands Schema source rest at → IsUse usage label scene t → met ≡ true → IsUseAt usage again base source label at
  used_here scene met rest t more at u is p stands use_there flag =
      let here : stream_from Schema source 0 ≡ prepend p.front (token t more) = p.parts ∙ ap (prepend p.front) is in
      let f = first_at Schema source u t more at p.front here (subst (λ r. Stands Schema source r at) is stands) in
      record {
        front = p.front;
        from = f.0;
        t = t;
        passed = f.1;
        first = f.2;
        use_there = subst (λ s. IsUse usage label s t) p.stands use_there;
        before = p.before flag;
      }
