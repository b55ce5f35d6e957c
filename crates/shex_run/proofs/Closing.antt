-- What the ways to end say of the status.
use Rattle.std.proofs.Common.{◌≡◌, ◌∙◌, ap, sym, subst, refl, List, ℕ, [], ◌++◌, ◌⊎◌, inl, inr, ◌<◌, arith, append-nil, length, map, Bool, true, false}
use Rattle.std.specs.Prelude.{Option, Some, None, if◌then◌else◌, nat_lt}
use Rattle.std.proofs.lemmas.List.{length-map}
use Rattle.input_names.specs.Names.{Text}
use Rattle.lists.specs.Distinct.{AreDistinct}
use Rattle.rdf_terms.specs.declared.terms.Term.{Term}
use Rattle.schema_tree.specs.declared.schema.Answer.{Answer}
use Rattle.shex_io.specs.Faults.{Rose}
use Rattle.shex_io.specs.Files.{Holds, HoldsPart, KeepsOthers, Told}
use Rattle.shex_io.specs.declared.files.Act.TheVariants.{Fetch}
use Rattle.shex_io.specs.Sinks.{Gains, GainsPrefix}
use Rattle.shape_map.specs.declared.resolve.Association.{Association}
use Rattle.typing_refiner.specs.declared.building.WidePair.{WidePair}
use Rattle.proof_checker.specs.declared.checking.CheckError.{CheckError}
use Rattle.proof_checker.specs.Checks.{IsFullFor}
use Rattle.command_words.specs.Asked.{Command, IsAsked}
use Rattle.command_words.specs.Checks.{Fault}
use Rattle.command_words.specs.Drills.{Drill, IsDrill, IsFault}
use Rattle.command_words.specs.Laws.{AnswersAreOne}
use Rattle.command_words.specs.Requests.{default_budget, Task, checking, proof_of, upgrading, validation}
use Rattle.shex_inputs.specs.declared.error.Refusal.{Refusal}
use Rattle.shex_inputs.specs.Asked.{IsAskedOf, Question}
use Rattle.shex_inputs.specs.Held.{Held}
use Rattle.program_ends.specs.Printing.{IsCut, PrintsBoth, PrintsTo, SinkSeen}
use Rattle.shex_run.specs.declared.stop.File.{File}
use Rattle.shex_run.specs.Checking.{IsFull, IsGiven, IsRejected, Rejects}
use Rattle.shex_run.specs.Drills.{AreDrillAnswers, IsDrilled}
use Rattle.program_ends.specs.Ends.{FilesSeen}
use Rattle.shex_run.specs.Endings.{Ends, IsAnswered, IsConfirmed, IsDrillWhollyStored, IsFailedDrill, IsFailedFile, IsPartlyStored, IsPrintedInPart, IsRefusalLine, IsRefusedBy, IsRejectedBy, IsRespondedTo, IsResponse, IsUnprinted, IsWhollyStored, IsWhollyUpgraded, IsWordsLine, KeepsTold, MayPrintInPart, answer_in_part, answered, failed, faulty, line_in_part, notes_in_part, refused, rejected, wanting}
use Rattle.shex_run.specs.Outcomes.{AreTaken, IsAbsent, IsRefused, TakesFor}
use Rattle.shex_run.specs.Proofs.{Accepted, IsStoredProofOf, Stores}
use Rattle.shex_run.specs.Statuses.{Concludes, IsAnswering, IsInterrupted, are_wanted, status_by}
use Rattle.shex_run.specs.Storing.{IsDueStore, IsUpgradeOf}
use Rattle.shex_run.specs.Texts.{notes_by}
use Rattle.wide_pairs.specs.Lines.{wide_lines}
use Rattle.shex_run.specs.Tasks.{IsToStore, IsToValidate, checked_of, inputs_of, stored_of}
use Rattle.shex_run.proofs.Checked.{concludes, no_both}
use Rattle.shex_run.proofs.Exclusive.{AreOne, asked_not_absent, asked_not_refused, check_not_refused, full_not_absent, full_not_wish, given_not_absent, one_given, refused_not_absent}
use Rattle.shex_run.proofs.Settled.{accepted_not_full, accepted_not_rejected, rejected_not_full}

-- what is printed has the status that is wanted, or printing was interrupted
pub wanted_or : (sink : SinkSeen) (text : List ℕ) (wanted status : ℕ) → PrintsTo sink text wanted status → (status ≡ wanted) ⊎ IsInterrupted status
wanted_or sink text wanted status (inl h) = inl h.0
wanted_or sink text wanted status (inr (inl h)) = inr (inr (inl h.0))
wanted_or sink text wanted status (inr (inr h)) = inr (inr (inr h.0))

or_interrupted : (P : Type 0) (wanted status : ℕ) → ((status ≡ wanted) → P) → (status ≡ wanted) ⊎ IsInterrupted status → P ⊎ IsInterrupted status
or_interrupted P wanted status to (inl h) = inl (to h)
or_interrupted P wanted status to (inr h) = inr h

-- a failed call interrupts
pub five_interrupts : (status : ℕ) → (status ≡ 5) ⊎ IsInterrupted status → IsInterrupted status
five_interrupts status (inl h) = inl h
five_interrupts status (inr h) = h

-- what is cut off interrupts
cut_interrupts : (sink : SinkSeen) (text : List ℕ) (status : ℕ) → IsCut sink.got sink.got_after sink.faults sink.faults_after text status → IsInterrupted status
cut_interrupts sink text status (inl h) = inr (inl h.0)
cut_interrupts sink text status (inr h) = inr (inr h.0)

pub wanted_both : (out err : SinkSeen) (text notes : List ℕ) (wanted status : ℕ) → PrintsBoth out err text notes wanted status → (status ≡ wanted) ⊎ IsInterrupted status
wanted_both out err text notes wanted status (inl h) = wanted_or err notes wanted status h.2
wanted_both out err text notes wanted status (inr h) = inr (cut_interrupts out text status h.0)

-- the status of answers
pub answering : (status wanted : ℕ) → IsAnswering wanted → (status ≡ wanted) → IsAnswering status
answering status wanted low h = subst IsAnswering (sym h) low

module _ (words : List Text) (c : Command) (is_asked : IsAsked words c) (law : AnswersAreOne) where
  -- what is said of the words is said of what they ask
  responded : (told after : Told) (status : ℕ) (text notes : List ℕ) → IsRespondedTo told after words status text notes → IsResponse told after c status text notes
  responded told after status text notes (inl r) = subst (λ a. IsResponse told after a status text notes) (law.commands words r.command c r.is_asked is_asked) r.response
  responded told after status text notes (inr (d, is_drill, drilled)) = absurd (law.drill_apart words c d is_asked is_drill)

  -- a file of the inputs is refused, or the table is full
  abbrev IsLeft : Told → Type 0
  IsLeft told = ((refusal : Refusal) × IsRefused told c refusal) ⊎ IsFull told c

  refusal_of : (told : Told) (line : List ℕ) → IsRefusedBy told words line → IsLeft told
  refusal_of told line by = elim (subst (λ a. IsRefusalLine told a line) (law.commands words by.command c by.is_asked is_asked) by.refused) [
    | inl r ↦ inl (r.0, r.1)
    | inr full ↦ inr full.0
  ]

  rejection_of : (told : Told) (line : List ℕ) (by : IsRejectedBy told words line) → IsRejected told c by.rejection
  rejection_of told line by = subst (λ a. IsRejected told a by.rejection) (law.commands words by.command c by.is_asked is_asked) by.rejected

  not_faulty : (line : List ℕ) → IsWordsLine words line → ⊥
  not_faulty line (f, is, e) = law.apart words c f is_asked is.first

  module _ (files : FilesSeen) (out err : SinkSeen) (status : ℕ) (contents : List ℕ → Option (List ℕ)) (told : files.told ≡ Some contents) (one : AreOne files.told c) where
    -- where the inputs are taken, the command concludes unless the call is interrupted
    pub taken_ends : AreTaken files.told c → Ends words files out err status → Concludes c.task status ⊎ IsInterrupted status
    taken_ends taken (faulty line by left quiet prints) = absurd (not_faulty line by)
    taken_ends taken (answered text notes wanted low r same prints) = elim (responded files.told files.told_after wanted text notes r) [
      | inl a ↦ or_interrupted (Concludes c.task status) wanted status (λ h. subst (λ t. Concludes t status) (sym a.task) (answering status wanted low h))
          (wanted_both out err text notes wanted status prints)
      | inr k ↦ or_interrupted (Concludes c.task status) wanted status (λ h. concludes c.task k.checked.given.name k.checked.given.task status (inl (h
          ∙ k.status_is))) (wanted_both out err text notes wanted status prints)
    ]
    taken_ends taken (refused line by left quiet prints) =
        or_interrupted (Concludes c.task status) 3 status (λ h. go (refusal_of files.told line by) c.task refl taken h) (wanted_or err line 3 status prints)
      where
        go : IsLeft files.told → (t : Task) → c.task ≡ t → TakesFor files.told c t → status ≡ 3 → Concludes c.task status
        go (inl (refusal, cause)) (validation m p n) is (q, asked) h = absurd (asked_not_refused files.told contents told c one q asked refusal cause)
        go (inl (refusal, cause)) (checking name) is (k, held) h = absurd (check_not_refused files.told contents told c one k name held (ap checked_of is) refusal cause)
        go (inl (refusal, cause)) (upgrading name to) is (k, held) h = absurd (check_not_refused files.told contents told c one k name held (ap checked_of is) refusal cause)
        go (inr (k, bytes, given, full)) t is taken h = concludes c.task given.name given.task status (inr (inl h))
    taken_ends taken (rejected line by left quiet prints) =
        let (k, bytes, given, rejects) = rejection_of files.told line by in
        or_interrupted (Concludes c.task status) 6 status (λ h. concludes c.task given.name given.task status (inr (inr h))) (wanted_or err line 6 status prints)
    taken_ends taken (failed line by have quiet prints) = inr (five_interrupts status (wanted_or err line 5 status prints))
    taken_ends taken (wanting stored same quiet also h) = inr (inr (inr h))

    -- the proof that is asked for, under this name
    module _ (map name : Text) (budget : ℕ) (to : IsToValidate c map (Some name) budget) where
      same_proof : (m : Text) (p : Option Text) (n : ℕ) → validation m p n ≡ validation map (Some name) budget → p ≡ Some name
      same_proof m p n h = ap proof_of h

      whole : (text notes : List ℕ) (wanted : ℕ) → IsResponse files.told files.told_after c wanted text notes → IsWhollyStored files.told files.told_after c name
      whole text notes wanted (inl a) = go a.proof_name (same_proof a.map_name a.proof_name a.budget (sym a.task ∙ to)) a.task a.stored
        where
          go : (p : Option Text) → p ≡ Some name → IsToValidate c a.map_name p a.budget →
              Stores files.told files.told_after p (IsStoredProofOf a.question a.budget a.answers) → IsWhollyStored files.told files.told_after c name
          go None e task stored = absurd cc
          go (Some other) e task (x, proof, held, others) =
              let same : other ≡ name = cc in (
                x,
                record {
                  map_name = a.map_name;
                  budget = a.budget;
                  task = subst (λ z. IsToValidate c a.map_name (Some z) a.budget) same task;
                  question = a.question;
                  answers = a.answers;
                  are_answers = a.are_answers;
                  proof = proof;
                },
                subst (λ z. Holds files.told_after z (Some x)) same held,
                subst (λ z. KeepsOthers files.told files.told_after z) same others,
              )
      whole text notes wanted (inr k) = absurd (no_both map (Some name) budget c.task k.checked.given.name to k.checked.given.task)

      taken : AreTaken files.told c → (q : Question) × IsAskedOf files.told (inputs_of c) q
      taken h = subst (λ t. TakesFor files.told c t) to h

      -- where its inputs are taken and a sink alone failed, it is stored whole
      pub whole_ends : AreTaken files.told c → Ends words files out err status → status ≡ 7 → ¬ Rose files.faults files.faults_after → IsWhollyStored files.told files.told_after c name
      whole_ends h (faulty line by left quiet prints) at still = absurd (not_faulty line by)
      whole_ends h (answered text notes wanted low r same prints) at still = whole text notes wanted (responded files.told files.told_after wanted text notes r)
      whole_ends h (refused line by left quiet prints) at still = go (refusal_of files.told line by)
        where
          go : IsLeft files.told → IsWhollyStored files.told files.told_after c name
          go (inl (refusal, cause)) = let (q, asked) = taken h in absurd (asked_not_refused files.told contents told c one q asked refusal cause)
          go (inr full) = absurd (full_not_wish files.told contents told c one map (Some name) budget to full)
      whole_ends h (rejected line by left quiet prints) at still =
          let (k, x, given, rejects) = rejection_of files.told line by in
          absurd (no_both map (Some name) budget c.task given.name to given.task)
      whole_ends h (failed line by have quiet prints) at still = absurd (still by.rose)
      whole_ends h (wanting stored same quiet also e) at still = absurd (omega (arith, e, at))

    module _ (b : Held) (bytes : List ℕ) (given : IsGiven files.told c b bytes) where
      distinct : AreDistinct b.terms
      distinct = given.taken.holding.distinct

      -- what is given elsewhere is the same
      same_accepted : (k : Held) (x : List ℕ) (terms : List Term) (answers : List Answer) → IsGiven files.told c k x → Accepted k x terms answers → Accepted b bytes terms answers
      same_accepted k x terms answers also h =
          subst (λ y. Accepted b y terms answers) (one_given files.told contents told c one k b x bytes also given)
          (subst (λ z. Accepted z x terms answers) (one.held k b also.taken given.taken) h)

      same_rejects : (k : Held) (x : List ℕ) (r : CheckError) → IsGiven files.told c k x → Rejects k x r → Rejects b bytes r
      same_rejects k x r also h =
          subst (λ y. Rejects b y r) (one_given files.told contents told c one k b x bytes also given)
          (subst (λ z. Rejects z x r) (one.held k b also.taken given.taken) h)

      same_full : IsFull files.told c → IsFullFor b.schema b.files b.terms bytes
      same_full (k, x, also, h) =
          subst (λ y. IsFullFor b.schema b.files b.terms y) (one_given files.told contents told c one k b x bytes also given)
          (subst (λ z. IsFullFor z.schema z.files z.terms x) (one.held k b also.taken given.taken) h)

      -- what is refused is the proof
      refused_full : IsLeft files.told → IsFullFor b.schema b.files b.terms bytes
      refused_full (inl (refusal, cause)) = absurd (check_not_refused files.told contents told c one b given.name given.taken given.task refusal cause)
      refused_full (inr full) = same_full full

      no_wish : (text notes : List ℕ) (wanted : ℕ) → IsAnswered files.told files.told_after c wanted text notes → ⊥
      no_wish text notes wanted a = no_both a.map_name a.proof_name a.budget c.task given.name a.task given.task

      -- a proof that is accepted is said to be
      pub accepted_ends : (terms : List Term) (answers : List Answer) → Accepted b bytes terms answers → Ends words files out err status → (status ≡ 0) ⊎ IsInterrupted status
      accepted_ends terms answers a (faulty line by left quiet prints) = absurd (not_faulty line by)
      accepted_ends terms answers a (answered text notes wanted low r same prints) = elim (responded files.told files.told_after wanted text notes r) [
        | inl x ↦ absurd (no_wish text notes wanted x)
        | inr k ↦ or_interrupted (status ≡ 0) wanted status (λ h. h ∙ k.status_is) (wanted_both out err text notes wanted status prints)
      ]
      accepted_ends terms answers a (refused line by left quiet prints) =
          absurd (accepted_not_full b distinct bytes terms answers a (refused_full (refusal_of files.told line by)))
      accepted_ends terms answers a (rejected line by left quiet prints) =
          let (k, x, also, rejects) = rejection_of files.told line by in
          absurd (accepted_not_rejected b distinct bytes terms answers by.rejection a (same_rejects k x by.rejection also rejects))
      accepted_ends terms answers a (failed line by have quiet prints) = inr (five_interrupts status (wanted_or err line 5 status prints))
      accepted_ends terms answers a (wanting stored same quiet also h) = inr (inr (inr h))

      -- and where it is to be stored and a sink alone failed, it is stored whole
      module _ (name : Text) (to : IsToStore c name) where
        whole_upgrade : (text notes : List ℕ) (wanted : ℕ) → IsConfirmed files.told files.told_after c wanted text notes → IsWhollyUpgraded files.told files.told_after c name
        whole_upgrade text notes wanted k =
            let (new, upgrade, held, others) =
            subst (λ o. Stores files.told files.told_after o (IsUpgradeOf k.checked.held k.checked.confirmed.accepted.found.found.proof k.checked.bytes)) to k.stored in (
              new,
              record { task = to; held = k.checked.held; old = k.checked.bytes; given = k.checked.given; text = text; upgrades = record { confirmed = k.checked.confirmed; upgrade = upgrade } },
              held,
              others,
            )

        pub upgraded_ends : (terms : List Term) (answers : List Answer) → Accepted b bytes terms answers → Ends words files out err status → status ≡ 7 →
            ¬ Rose files.faults files.faults_after → IsWhollyUpgraded files.told files.told_after c name
        upgraded_ends terms answers a (faulty line by left quiet prints) at still = absurd (not_faulty line by)
        upgraded_ends terms answers a (answered text notes wanted low r same prints) at still = elim (responded files.told files.told_after wanted text notes r) [
          | inl x ↦ absurd (no_wish text notes wanted x)
          | inr k ↦ whole_upgrade text notes wanted k
        ]
        upgraded_ends terms answers a (refused line by left quiet prints) at still =
            absurd (accepted_not_full b distinct bytes terms answers a (refused_full (refusal_of files.told line by)))
        upgraded_ends terms answers a (rejected line by left quiet prints) at still =
            let (k, x, also, rejects) = rejection_of files.told line by in
            absurd (accepted_not_rejected b distinct bytes terms answers by.rejection a (same_rejects k x by.rejection also rejects))
        upgraded_ends terms answers a (failed line by have quiet prints) at still = absurd (still by.rose)
        upgraded_ends terms answers a (wanting stored same quiet also e) at still = absurd (omega (arith, e, at))

      -- and one that is rejected too
      rejected_ends_so : (rejection : CheckError) → Rejects b bytes rejection → Ends words files out err status → (status ≡ 6) ⊎ IsInterrupted status
      rejected_ends_so rejection is (faulty line by left quiet prints) = absurd (not_faulty line by)
      rejected_ends_so rejection is (answered text notes wanted low r same prints) = elim (responded files.told files.told_after wanted text notes r) [
        | inl x ↦ absurd (no_wish text notes wanted x)
        | inr k ↦ absurd (accepted_not_rejected b distinct bytes k.checked.confirmed.terms k.checked.confirmed.answers rejection
            (same_accepted k.checked.held k.checked.bytes k.checked.confirmed.terms k.checked.confirmed.answers k.checked.given k.checked.confirmed.accepted) is)
      ]
      rejected_ends_so rejection is (refused line by left quiet prints) =
          absurd (rejected_not_full b distinct bytes rejection is (refused_full (refusal_of files.told line by)))
      rejected_ends_so rejection is (rejected line by left quiet prints) = wanted_or err line 6 status prints
      rejected_ends_so rejection is (failed line by have quiet prints) = inr (five_interrupts status (wanted_or err line 5 status prints))
      rejected_ends_so rejection is (wanting stored same quiet also h) = inr (inr (inr h))

      -- a table that is full is said to be
      full_ends : IsFullFor b.schema b.files b.terms bytes → Ends words files out err status → (status ≡ 3) ⊎ IsInterrupted status
      full_ends full (faulty line by left quiet prints) = absurd (not_faulty line by)
      full_ends full (answered text notes wanted low r same prints) = elim (responded files.told files.told_after wanted text notes r) [
        | inl x ↦ absurd (no_wish text notes wanted x)
        | inr k ↦ absurd (accepted_not_full b distinct bytes k.checked.confirmed.terms k.checked.confirmed.answers
            (same_accepted k.checked.held k.checked.bytes k.checked.confirmed.terms k.checked.confirmed.answers k.checked.given k.checked.confirmed.accepted) full)
      ]
      full_ends full (refused line by left quiet prints) = wanted_or err line 3 status prints
      full_ends full (rejected line by left quiet prints) =
          let (k, x, also, rejects) = rejection_of files.told line by in
          absurd (rejected_not_full b distinct bytes by.rejection (same_rejects k x by.rejection also rejects) full)
      full_ends full (failed line by have quiet prints) = inr (five_interrupts status (wanted_or err line 5 status prints))
      full_ends full (wanting stored same quiet also h) = inr (inr (inr h))

    pub rejected_ends : (rejection : CheckError) → IsRejected files.told c rejection → Ends words files out err status → (status ≡ 6) ⊎ IsInterrupted status
    rejected_ends rejection (b, bytes, given, is) ends = rejected_ends_so b bytes given rejection is ends

    -- where a file is refused, the refusal is said
    pub filled_ends : IsFull files.told c → Ends words files out err status → (status ≡ 3) ⊎ IsInterrupted status
    filled_ends (b, bytes, given, full) ends = full_ends b bytes given full ends

    pub refused_ends : (refusal : Refusal) → IsRefused files.told c refusal → Ends words files out err status → (status ≡ 3) ⊎ IsInterrupted status
    refused_ends refusal cause (faulty line by left quiet prints) = absurd (not_faulty line by)
    refused_ends refusal cause (answered text notes wanted low r same prints) = elim (responded files.told files.told_after wanted text notes r) [
      | inl x ↦ absurd (asked_not_refused files.told contents told c one x.question x.are_answers.asked refusal cause)
      | inr k ↦ absurd (check_not_refused files.told contents told c one k.checked.held k.checked.given.name k.checked.given.taken k.checked.given.task refusal cause)
    ]
    refused_ends refusal cause (refused line by left quiet prints) = wanted_or err line 3 status prints
    refused_ends refusal cause (rejected line by left quiet prints) =
        let (b, x, given, rejects) = rejection_of files.told line by in
        absurd (check_not_refused files.told contents told c one b given.name given.taken given.task refusal cause)
    refused_ends refusal cause (failed line by have quiet prints) = inr (five_interrupts status (wanted_or err line 5 status prints))
    refused_ends refusal cause (wanting stored same quiet also h) = inr (inr (inr h))

    -- where a file is absent, the call is interrupted
    pub absent_ends : (file : File) → IsAbsent files.told c file → Ends words files out err status → IsInterrupted status
    absent_ends file absent (faulty line by left quiet prints) = absurd (not_faulty line by)
    absent_ends file absent (answered text notes wanted low r same prints) = elim (responded files.told files.told_after wanted text notes r) [
      | inl x ↦ absurd (asked_not_absent files.told contents told c one x.map_name x.proof_name x.budget x.task x.question x.are_answers.asked file absent)
      | inr k ↦ absurd (given_not_absent files.told contents told c one k.checked.held k.checked.bytes file k.checked.given absent)
    ]
    absent_ends file absent (refused line by left quiet prints) = go (refusal_of files.told line by)
      where
        go : IsLeft files.told → IsInterrupted status
        go (inl (refusal, cause)) = absurd (refused_not_absent files.told contents told c one refusal file cause absent)
        go (inr full) = absurd (full_not_absent files.told contents told c one file full absent)
    absent_ends file absent (rejected line by left quiet prints) =
        let (b, x, given, rejects) = rejection_of files.told line by in
        absurd (given_not_absent files.told contents told c one b x file given absent)
    absent_ends file absent (failed line by have quiet prints) = five_interrupts status (wanted_or err line 5 status prints)
    absent_ends file absent (wanting stored same quiet also h) = inr (inr h)

-- a call that is interrupted by no fault wants memory
pub unfaulted : (status : ℕ) (C F O E : Type 0) → (status ≡ 5 → F) → (status ≡ 7 → O ⊎ E) → ¬ F → ¬ O → ¬ E → C ⊎ IsInterrupted status → C ⊎ (status ≡ 8)
unfaulted status C F O E five seven f o e (inl h) = inl h
unfaulted status C F O E five seven f o e (inr (inl h)) = absurd (f (five h))
unfaulted status C F O E five seven f o e (inr (inr (inl h))) = elim (seven h) [ inl x ↦ absurd (o x) | inr x ↦ absurd (e x) ]
unfaulted status C F O E five seven f o e (inr (inr (inr h))) = inr h

-- printing that was interrupted left a prefix
prefix_of : (sink : SinkSeen) (text : List ℕ) (wanted status : ℕ) → wanted < 7 → PrintsTo sink text wanted status → (status ≡ 7) ⊎ (status ≡ 8) → GainsPrefix sink.got sink.got_after text
prefix_of sink text wanted status low (inl h) (inl at) = let e : status ≡ wanted = h.0 in absurd (omega (arith, e, at))
prefix_of sink text wanted status low (inl h) (inr at) = let e : status ≡ wanted = h.0 in absurd (omega (arith, e, at))
prefix_of sink text wanted status low (inr (inl h)) at = h.1
prefix_of sink text wanted status low (inr (inr h)) at = h.1

prefix_of_cut : (sink : SinkSeen) (text : List ℕ) (status : ℕ) → IsCut sink.got sink.got_after sink.faults sink.faults_after text status → GainsPrefix sink.got sink.got_after text
prefix_of_cut sink text status (inl h) = h.1
prefix_of_cut sink text status (inr h) = h.1

-- the status of a response is low
pub low_wanted : (wanted : ℕ) → IsAnswering wanted → wanted < 5
low_wanted wanted (inl e) = omega (arith, e)
low_wanted wanted (inr (inl e)) = omega (arith, e)
low_wanted wanted (inr (inr e)) = omega (arith, e)

-- what is printed where a call is interrupted by a sink or by want of memory
partly_printed : (words : List Text) (files : FilesSeen) (out err : SinkSeen) (status : ℕ) → Ends words files out err status → (status ≡ 7) ⊎ (status ≡ 8) →
    IsPrintedInPart words files out err ⊎ ((status ≡ 8) × IsUnprinted words files out err)
partly_printed words files out err status (faulty line by left quiet prints) at = inl (line_in_part line (inl (inl by, left)) quiet (prefix_of err line 2 status (omega arith) prints at))
partly_printed words files out err status (answered text notes wanted low r same prints) at =
    let under = low_wanted wanted low in
    inl (both_in_part text notes wanted r same (omega (arith, under)) prints)
  where
    both_in_part : (text notes : List ℕ) (wanted : ℕ) → IsRespondedTo files.told files.told_after words wanted text notes → files.faults_after ≡ files.faults →
        wanted < 7 → PrintsBoth out err text notes wanted status → IsPrintedInPart words files out err
    both_in_part text notes wanted r same under (inl h) = notes_in_part text notes wanted r same h.0 (prefix_of err notes wanted status under h.2 at)
    both_in_part text notes wanted r same under (inr (cut, quiet)) = answer_in_part text notes wanted r same (prefix_of_cut out text status cut) quiet
partly_printed words files out err status (refused line by left quiet prints) at = inl (line_in_part line (inl (inr (inl by), left)) quiet (prefix_of err line 3 status (omega arith) prints at))
partly_printed words files out err status (rejected line by left quiet prints) at = inl (line_in_part line (inl (inr (inr by), left)) quiet (prefix_of err line 6 status (omega arith) prints at))
partly_printed words files out err status (failed line by have quiet prints) at = inl (line_in_part line (inr (by, have)) quiet (prefix_of err line 5 status (omega arith) prints at))
partly_printed words files out err status (wanting stored same quiet also h) at = inr (h, record { stored = stored; faults_same = same; out_quiet = quiet; err_quiet = also })

-- by a sink
pub in_part : (words : List Text) (files : FilesSeen) (out err : SinkSeen) (status : ℕ) → Ends words files out err status → status ≡ 7 → IsPrintedInPart words files out err
in_part words files out err status ends at = elim (partly_printed words files out err status ends (inl at)) [
  | inl p ↦ p
  | inr u ↦ absurd (let e : status ≡ 8 = u.0 in omega (arith, e, at))
]

-- by want of memory
pub unprinted : (words : List Text) (files : FilesSeen) (out err : SinkSeen) (status : ℕ) → Ends words files out err status → status ≡ 8 → MayPrintInPart words files out err
unprinted words files out err status ends at = elim (partly_printed words files out err status ends (inr at)) [
  | inl p ↦ inl p
  | inr u ↦ inr u.1
]

-- a status that is not wanted is 7 or 8
pub other_status : (sink : SinkSeen) (text : List ℕ) (wanted status other : ℕ) → ¬ (wanted ≡ other) → other < 7 → PrintsTo sink text wanted status → status ≡ other → ⊥
other_status sink text wanted status other differs low (inl h) at = differs (sym h.0 ∙ at)
other_status sink text wanted status other differs low (inr (inl h)) at = let e : status ≡ 7 = h.0 in absurd (omega (arith, e, at, low))
other_status sink text wanted status other differs low (inr (inr h)) at = let e : status ≡ 8 = h.0 in absurd (omega (arith, e, at, low))

pub other_cut : (sink : SinkSeen) (text : List ℕ) (status other : ℕ) → other < 7 → IsCut sink.got sink.got_after sink.faults sink.faults_after text status → status ≡ other → ⊥
other_cut sink text status other low (inl h) at = let e : status ≡ 7 = h.0 in absurd (omega (arith, e, at, low))
other_cut sink text status other low (inr h) at = let e : status ≡ 8 = h.0 in absurd (omega (arith, e, at, low))

pub other_both : (out err : SinkSeen) (text notes : List ℕ) (wanted status other : ℕ) → ¬ (wanted ≡ other) → other < 7 → PrintsBoth out err text notes wanted status → status ≡ other → ⊥
other_both out err text notes wanted status other differs low (inl h) at = other_status err notes wanted status other differs low h.2 at
other_both out err text notes wanted status other differs low (inr h) at = other_cut out text status other low h.0 at

-- 5 comes only where a fault of the files rose
pub five_rose : (words : List Text) (files : FilesSeen) (out err : SinkSeen) (status : ℕ) → Ends words files out err status → status ≡ 5 → Rose files.faults files.faults_after
five_rose words files out err status (faulty line by left quiet prints) at = absurd (other_status err line 2 status 5 (λ e. absurd (omega (arith, e))) (omega arith) prints at)
five_rose words files out err status (answered text notes wanted low r same prints) at =
    let under = low_wanted wanted low in
    absurd (other_both out err text notes wanted status 5 (λ e. absurd (omega (arith, e, under))) (omega arith) prints at)
five_rose words files out err status (refused line by left quiet prints) at = absurd (other_status err line 3 status 5 (λ e. absurd (omega (arith, e))) (omega arith) prints at)
five_rose words files out err status (rejected line by left quiet prints) at = absurd (other_status err line 6 status 5 (λ e. absurd (omega (arith, e))) (omega arith) prints at)
five_rose words files out err status (failed line by have quiet prints) at = by.rose
five_rose words files out err status (wanting stored same quiet also h) at = absurd (omega (arith, h, at))

-- and where that was a fetch, nothing is stored
pub five_unfetched : (words : List Text) (files : FilesSeen) (out err : SinkSeen) (status : ℕ) → Ends words files out err status → status ≡ 5 → files.act ≡ Fetch → files.told_after ≡ files.told
five_unfetched words files out err status (faulty line by left quiet prints) at act = left.told_same
five_unfetched words files out err status (answered text notes wanted low r same prints) at act =
    let under = low_wanted wanted low in
    absurd (other_both out err text notes wanted status 5 (λ e. absurd (omega (arith, e, under))) (omega arith) prints at)
five_unfetched words files out err status (refused line by left quiet prints) at act = left.told_same
five_unfetched words files out err status (rejected line by left quiet prints) at act = left.told_same
five_unfetched words files out err status (failed line by have quiet prints) at act = have.unfetched act
five_unfetched words files out err status (wanting stored same quiet also h) at act = absurd (omega (arith, h, at))

-- 7 comes only where a fault of a sink rose
seven_of : (sink : SinkSeen) (text : List ℕ) (wanted status : ℕ) → wanted < 7 → PrintsTo sink text wanted status → status ≡ 7 → Rose sink.faults sink.faults_after
seven_of sink text wanted status low (inl h) at = let e : status ≡ wanted = h.0 in absurd (omega (arith, e, at))
seven_of sink text wanted status low (inr (inl h)) at = h.2
seven_of sink text wanted status low (inr (inr h)) at = let e : status ≡ 8 = h.0 in absurd (omega (arith, e, at))

seven_both : (out err : SinkSeen) (text notes : List ℕ) (wanted status : ℕ) → wanted < 7 → PrintsBoth out err text notes wanted status → status ≡ 7 →
    Rose out.faults out.faults_after ⊎ Rose err.faults err.faults_after
seven_both out err text notes wanted status low (inl h) at = inr (seven_of err notes wanted status low h.2 at)
seven_both out err text notes wanted status low (inr (inl cut, quiet)) at = inl cut.2
seven_both out err text notes wanted status low (inr (inr cut, quiet)) at = let e : status ≡ 8 = cut.0 in absurd (omega (arith, e, at))

pub seven_rose : (words : List Text) (files : FilesSeen) (out err : SinkSeen) (status : ℕ) → Ends words files out err status → status ≡ 7 →
    Rose out.faults out.faults_after ⊎ Rose err.faults err.faults_after
seven_rose words files out err status (faulty line by left quiet prints) at = inr (seven_of err line 2 status (omega arith) prints at)
seven_rose words files out err status (answered text notes wanted low r same prints) at =
    let under = low_wanted wanted low in
    seven_both out err text notes wanted status (omega (arith, under)) prints at
seven_rose words files out err status (refused line by left quiet prints) at = inr (seven_of err line 3 status (omega arith) prints at)
seven_rose words files out err status (rejected line by left quiet prints) at = inr (seven_of err line 6 status (omega arith) prints at)
seven_rose words files out err status (failed line by have quiet prints) at = inr (seven_of err line 5 status (omega arith) prints at)
seven_rose words files out err status (wanting stored same quiet also h) at = absurd (omega (arith, h, at))

-- ---- what is stored

-- bytes that are held are held in part
held_part : (told after : Told) (name bytes : List ℕ) → Holds after name (Some bytes) → KeepsOthers told after name → HoldsPart told after name bytes
held_part None None name bytes held others = tt
held_part None (Some new) name bytes held others = others
held_part (Some old) None name bytes held others = others
held_part (Some old) (Some new) name bytes held others = inr (bytes, ([], sym (append-nil bytes)), held)

module _ (told after : Told) (words : List Text) where
  stored_partly : (status : ℕ) (text notes : List ℕ) (c : Command) → IsAsked words c → (a : IsAnswered told after c status text notes) → (name : Option Text) →
      a.proof_name ≡ name → Stores told after name (IsStoredProofOf a.question a.budget a.answers) → IsPartlyStored told after words
  stored_partly status text notes c is_asked a None is same = inl same
  stored_partly status text notes c is_asked a (Some name) is (bytes, proof, held, others) = inr (inl (
    c,
    is_asked,
    record {
      name = name;
      bytes = bytes;
      due = inl (record {
        map_name = a.map_name;
        budget = a.budget;
        task = subst (λ n. IsToValidate c a.map_name n a.budget) is a.task;
        question = a.question;
        answers = a.answers;
        are_answers = a.are_answers;
        proof = proof;
      });
      part = held_part told after name bytes held others;
      others = others;
    },
  ))

  upgraded_partly : (status : ℕ) (text notes : List ℕ) (c : Command) → IsAsked words c → (k : IsConfirmed told after c status text notes) → (name : Option Text) → stored_of c.task ≡ name →
      Stores told after name (IsUpgradeOf k.checked.held k.checked.confirmed.accepted.found.found.proof k.checked.bytes) → IsPartlyStored told after words
  upgraded_partly status text notes c is_asked k None is same = inl same
  upgraded_partly status text notes c is_asked k (Some name) is (new, upgrade, held, others) = inr (inl (
    c,
    is_asked,
    record {
      name = name;
      bytes = new;
      due = inr (record { task = is; held = k.checked.held; old = k.checked.bytes; given = k.checked.given; text = text; upgrades = record { confirmed = k.checked.confirmed; upgrade = upgrade } });
      part = held_part told after name new held others;
      others = others;
    },
  ))

  drilled_partly : (d : Drill) → IsDrill words d → (q : Question) (answers : List Answer) → AreDrillAnswers d.items q answers → (name : Option Text) →
      d.proof ≡ name → Stores told after name (IsStoredProofOf q default_budget answers) → IsPartlyStored told after words
  drilled_partly d is_drill q answers are None is same = inl same
  drilled_partly d is_drill q answers are (Some name) is (bytes, proof, held, others) = inr (inr (
    d,
    is_drill,
    record {
      name = name;
      named = is;
      bytes = bytes;
      due = record { question = q; answers = answers; are_answers = are; proof = proof };
      part = held_part told after name bytes held others;
      others = others;
    },
  ))

  responded_partly : (status : ℕ) (text notes : List ℕ) → IsRespondedTo told after words status text notes → IsPartlyStored told after words
  responded_partly status text notes (inr (d, is_drill, x)) = drilled_partly d is_drill x.question x.answers x.are_answers d.proof refl x.stored
  responded_partly status text notes (inl r) = go r.response
    where
      go : IsResponse told after r.command status text notes → IsPartlyStored told after words
      go (inl a) = stored_partly status text notes r.command r.is_asked a a.proof_name refl a.stored
      go (inr k) = upgraded_partly status text notes r.command r.is_asked k (stored_of r.command.task) refl k.stored

  -- what is due is asked for under its name
  to_store : (c : Command) (name bytes : List ℕ) → IsDueStore told c name bytes → IsToStore c name
  to_store c name bytes (inl due) = ap stored_of due.task
  to_store c name bytes (inr due) = due.task

  partly_kept : IsPartlyStored told after words → KeepsTold told after words
  partly_kept (inl same) = inl same
  partly_kept (inr (inl (c, is_asked, cut))) = inr (inl (c, is_asked, (cut.name, to_store c cut.name cut.bytes cut.due, cut.others)))
  partly_kept (inr (inr (d, is_drill, cut))) = inr (inr (d, is_drill, (cut.name, cut.named, cut.others)))

-- however a call ends, no more than the proof is stored
pub ends_partly : (words : List Text) (files : FilesSeen) (out err : SinkSeen) (status : ℕ) → Ends words files out err status → IsPartlyStored files.told files.told_after words
ends_partly words files out err status (faulty line by left quiet prints) = inl left.told_same
ends_partly words files out err status (answered text notes wanted low r same prints) = responded_partly files.told files.told_after words wanted text notes r
ends_partly words files out err status (refused line by left quiet prints) = inl left.told_same
ends_partly words files out err status (rejected line by left quiet prints) = inl left.told_same
ends_partly words files out err status (failed line by have quiet prints) = have.stored
ends_partly words files out err status (wanting stored same quiet also h) = stored

pub ends_kept : (words : List Text) (files : FilesSeen) (out err : SinkSeen) (status : ℕ) → Ends words files out err status → KeepsTold files.told files.told_after words
ends_kept words files out err status ends = partly_kept files.told files.told_after words (ends_partly words files out err status ends)

-- ---- words that are refused

two_or : (sink : SinkSeen) (text : List ℕ) (status : ℕ) → PrintsTo sink text 2 status → (status ≡ 2) ⊎ ((status ≡ 7) ⊎ (status ≡ 8))
two_or sink text status (inl h) = inl h.0
two_or sink text status (inr (inl h)) = inr (inl h.0)
two_or sink text status (inr (inr h)) = inr (inr h.0)

-- where the words are at fault, they are refused
pub faulty_ends : (words : List Text) (files : FilesSeen) (out err : SinkSeen) (status : ℕ) → AnswersAreOne → (f : Fault) → IsFault words f →
    Ends words files out err status → (status ≡ 2) ⊎ ((status ≡ 7) ⊎ (status ≡ 8))
faulty_ends words files out err status law f is (faulty line by left quiet prints) = two_or err line status prints
faulty_ends words files out err status law f is (answered text notes wanted low (inl r) same prints) = absurd (law.apart words r.command f r.is_asked is.first)
faulty_ends words files out err status law f is (answered text notes wanted low (inr (d, is_drill, x)) same prints) = absurd (is.no_drill d is_drill)
faulty_ends words files out err status law f is (refused line by left quiet prints) = absurd (law.apart words by.command f by.is_asked is.first)
faulty_ends words files out err status law f is (rejected line by left quiet prints) = absurd (law.apart words by.command f by.is_asked is.first)
faulty_ends words files out err status law f is (failed line by have quiet prints) = go by.failed
  where
    go : IsFailedFile files words ⊎ IsFailedDrill files words → (status ≡ 2) ⊎ ((status ≡ 7) ⊎ (status ≡ 8))
    go (inl x) = absurd (law.apart words x.command f x.is_asked is.first)
    go (inr x) = absurd (is.no_drill x.drill x.is_drill)
faulty_ends words files out err status law f is (wanting stored same quiet also h) = inr (inr h)

-- ---- drills

module _ (words : List Text) (d : Drill) (is_drill : IsDrill words d) (law : AnswersAreOne) (files : FilesSeen) (out err : SinkSeen) (status : ℕ) where
  -- a drill is answered, unless the call is interrupted
  pub drill_ends : Ends words files out err status → (status ≡ 0) ⊎ IsInterrupted status
  drill_ends (faulty line (f, is, e) left quiet prints) = absurd (is.no_drill d is_drill)
  drill_ends (answered text notes wanted low (inl r) same prints) = absurd (law.drill_apart words r.command d r.is_asked is_drill)
  drill_ends (answered text notes wanted low (inr (e, is, x)) same prints) = or_interrupted (status ≡ 0) wanted status (λ h. h ∙ x.status_is) (wanted_both out err text notes wanted status prints)
  drill_ends (refused line by left quiet prints) = absurd (law.drill_apart words by.command d by.is_asked is_drill)
  drill_ends (rejected line by left quiet prints) = absurd (law.drill_apart words by.command d by.is_asked is_drill)
  drill_ends (failed line by have quiet prints) = inr (five_interrupts status (wanted_or err line 5 status prints))
  drill_ends (wanting stored same quiet also h) = inr (inr (inr h))

  drill_whole : (name : Text) → d.proof ≡ Some name → (e : Drill) → e ≡ d → (text notes : List ℕ) (wanted : ℕ) →
      IsDrilled files.told files.told_after e wanted text notes → IsDrillWhollyStored files.told files.told_after d name
  drill_whole name named e same text notes wanted x =
      let (bytes, proof, held, others) = subst (λ o. Stores files.told files.told_after o (IsStoredProofOf x.question default_budget x.answers))
      (ap (λ (z : Drill). z.proof) same ∙ named) x.stored in (
        bytes,
        record {
          question = x.question;
          answers = x.answers;
          are_answers = subst (λ n. AreDrillAnswers n x.question x.answers) (ap (λ (z : Drill). z.items) same) x.are_answers;
          proof = proof;
        },
        held,
        others,
      )

  -- and where a sink alone failed, its proof is stored whole
  pub drill_stored : (name : Text) → d.proof ≡ Some name → Ends words files out err status → status ≡ 7 → ¬ Rose files.faults files.faults_after →
      IsDrillWhollyStored files.told files.told_after d name
  drill_stored name named (faulty line (f, is, e) left quiet prints) at still = absurd (is.no_drill d is_drill)
  drill_stored name named (answered text notes wanted low (inl r) same prints) at still = absurd (law.drill_apart words r.command d r.is_asked is_drill)
  drill_stored name named (answered text notes wanted low (inr (e, is, x)) same prints) at still = drill_whole name named e (law.drills words e d is is_drill) text notes wanted x
  drill_stored name named (refused line by left quiet prints) at still = absurd (law.drill_apart words by.command d by.is_asked is_drill)
  drill_stored name named (rejected line by left quiet prints) at still = absurd (law.drill_apart words by.command d by.is_asked is_drill)
  drill_stored name named (failed line by have quiet prints) at still = absurd (still by.rose)
  drill_stored name named (wanting stored same quiet also e) at still = absurd (omega (arith, e, at))

-- ---- nothing is noted

-- what is no 4 has answers to all
enough : (wants : List Bool) (answers : List Answer) → ¬ (status_by wants answers ≡ 4) → nat_lt (length answers) (length wants) ≡ false
unfolding status_by
enough wants answers other = go (nat_lt (length answers) (length wants)) other
  where
    go : (b : Bool) → ¬ (◌≡◌ {A = ℕ} (if b then 4 else if are_wanted wants answers then 0 else 1) 4) → b ≡ false
    go true h = absurd (h refl)
    go false h = refl

none_noted : (terms : List Term) (asked budget : ℕ) (answers : List Answer) (wide : List WidePair) → nat_lt (length answers) asked ≡ false → notes_by terms asked budget answers wide ≡ []
unfolding notes_by
none_noted terms asked budget answers wide enough_given = ap (λ b. if b then wide_lines terms budget wide else []) enough_given

low_status : (status : ℕ) → (status ≡ 0) ⊎ (status ≡ 1) → ¬ (status ≡ 4)
low_status status (inl e) h = absurd (omega (arith, e, h))
low_status status (inr e) h = absurd (omega (arith, e, h))

-- with 0 and 1 nothing is noted
unnoted : (told after : Told) (words : List Text) (wanted : ℕ) (text notes : List ℕ) → (wanted ≡ 0) ⊎ (wanted ≡ 1) → IsRespondedTo told after words wanted text notes → notes ≡ []
unnoted told after words wanted text notes low (inr (d, is_drill, x)) = x.notes_are
unnoted told after words wanted text notes low (inl r) = go r.response
  where
    go : IsResponse told after r.command wanted text notes → notes ≡ []
    go (inr k) = k.notes_are
    go (inl a) =
        a.notes_are
        ∙ none_noted a.question.terms (length a.question.associations) a.budget a.answers a.wide
        (ap (λ n. nat_lt (length a.answers) n) (sym (length-map a.question.associations (λ (z : Association). z.want)))
        ∙ enough (map (λ (z : Association). z.want) a.question.associations) a.answers (λ e. low_status wanted low (a.status_is ∙ e)))

gains_none : (before after : Option (List ℕ)) (notes : List ℕ) → notes ≡ [] → Gains before after notes → after ≡ before
gains_none None None notes none gains = refl
gains_none None (Some new) notes none gains = absurd gains
gains_none (Some old) None notes none gains = absurd gains
gains_none (Some old) (Some new) notes none gains = ap (λ z. Some z) (gains ∙ ap (λ n. old ++ n) none ∙ append-nil old)

quiet_status : (sink : SinkSeen) (text : List ℕ) (wanted status : ℕ) → 1 < wanted → wanted < 7 → PrintsTo sink text wanted status → (status ≡ 0) ⊎ (status ≡ 1) → ⊥
quiet_status sink text wanted status above below prints (inl e) = other_status sink text wanted status 0 (λ h. absurd (omega (arith, above, h))) (omega arith) prints e
quiet_status sink text wanted status above below prints (inr e) = other_status sink text wanted status 1 (λ h. absurd (omega (arith, above, h))) (omega arith) prints e

cut_high : (sink : SinkSeen) (text : List ℕ) (status : ℕ) → IsCut sink.got sink.got_after sink.faults sink.faults_after text status → (status ≡ 0) ⊎ (status ≡ 1) → ⊥
cut_high sink text status cut (inl e) = other_cut sink text status 0 (omega arith) cut e
cut_high sink text status cut (inr e) = other_cut sink text status 1 (omega arith) cut e

pub ends_quietly : (words : List Text) (files : FilesSeen) (out err : SinkSeen) (status : ℕ) → Ends words files out err status → (status ≡ 0) ⊎ (status ≡ 1) → err.got_after ≡ err.got
ends_quietly words files out err status (faulty line by left quiet prints) low = absurd (quiet_status err line 2 status (omega arith) (omega arith) prints low)
ends_quietly words files out err status (answered text notes wanted how r same prints) low = go prints
  where
    go : PrintsBoth out err text notes wanted status → err.got_after ≡ err.got
    go (inl (gains, still, inl (is, noted, more))) = gains_none err.got err.got_after notes (unnoted files.told files.told_after words wanted text notes (at_wanted low) r) noted
      where
        at_wanted : (status ≡ 0) ⊎ (status ≡ 1) → (wanted ≡ 0) ⊎ (wanted ≡ 1)
        at_wanted (inl e) = inl (sym is ∙ e)
        at_wanted (inr e) = inr (sym is ∙ e)
    go (inl (gains, still, inr cut)) = absurd (cut_high err notes status cut low)
    go (inr (cut, quiet)) = quiet.got_same
ends_quietly words files out err status (refused line by left quiet prints) low = absurd (quiet_status err line 3 status (omega arith) (omega arith) prints low)
ends_quietly words files out err status (rejected line by left quiet prints) low = absurd (quiet_status err line 6 status (omega arith) (omega arith) prints low)
ends_quietly words files out err status (failed line by have quiet prints) low = absurd (quiet_status err line 5 status (omega arith) (omega arith) prints low)
ends_quietly words files out err status (wanting stored same quiet also h) low = also.got_same
