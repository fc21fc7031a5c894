-- What the clauses of the top call say of an answer that is given, once it is written or its writing failed.
use Rattle.std.proofs.Common.{ℕ, ◌≡◌, ◌≢◌, List, [], Option, Some, None, IfSome, IsSomeAnd, Result, Ok, Err, OnOk, OnErr, sym, subst, ◌∙◌}
use Rattle.std.specs.Option.{option_map}
use Rattle.tptp_include.specs.Gathering.{Refusal}
use Rattle.tptp_include.specs.Outcomes.{refusal_of}
use Rattle.tptp_include.specs.declared.refusal.GatherRefusal.{GatherRefusal}
use Rattle.tptp_include.specs.declared.refusal.GatherRefusal.TheVariants as gather
use Rattle.zenon_modulo.specs.declared.outcome.Outcome.{Outcome}
use Rattle.zenon_modulo.specs.declared.outcome.Outcome.TheVariants.{Proved, Falsified, Unknown, Refused, Usage, ReadFault, LibraryFault, WriteFault, Memory}
use Rattle.zenon_modulo.specs.declared.outcome.InputRefusal.TheVariants.{Gather, Typing, TooLarge, NotBuilt}
use Rattle.zenon_modulo.specs.Answer.{Explanation, Answer}
use Rattle.zenon_modulo.specs.Outcome.{answer_of, explanation_of, RefusesInput, IfProved, IfFalsified, IfUnknown, IfSearched, IfRefused, IfTooLarge, IfUsage, IfReadFault, IfLibraryFault, IfWriteFault, IfRead, IfWritten}
use Rattle.zenon_modulo.specs.Claims.{Call, IsProved, IsFalsified, IsUnknown, TakesFirst, IsRefused, IsMisused, HasReadFault, IsOperandRead, IsOperandCut}
use Rattle.zm_base.specs.Outside.{Rose}
use Rattle.zenon_modulo.specs.Text.{diag_text}
use Rattle.zenon_modulo.specs.Writing.{IsAnswer, Gain, Gains, GainsFront, IsWritten, IsCutShort}
use Rattle.zenon_modulo.specs.Stages.{Gives}

-- a fact of the answer and of WriteFault is one of the answer in the end
pub finish : {A B : Type 0} (P : Outcome → Type 0) (o f r : Outcome) (w : Result A B) → P o → P WriteFault → r ≡ f
    → OnOk w (f ≡ o) → OnErr w (f ≡ WriteFault) → P r
finish P o f r (Ok x) p q e ok err = subst P (sym (e ∙ ok)) p
finish P o f r (Err x) p q e ok err = subst P (sym (e ∙ err)) q

pub no_memory : WriteFault ≡ Memory → ⊥
no_memory e = cc

module _ (c : Call) where
  pub proved_of : (o : Outcome) (text : List ℕ) → Gives c o text → IfProved o (IsProved c.words c.left c.files)
  proved_of (Proved t) text g = (g.problem, g.claims.0.0)
  proved_of (Falsified v t) text g = tt
  proved_of (Unknown y t) text g = tt
  proved_of (Refused x) text g = tt
  proved_of (Usage x) text g = tt
  proved_of ReadFault text g = tt
  proved_of LibraryFault text g = tt
  proved_of WriteFault text g = tt
  proved_of Memory text g = tt

  pub falsified_of : (o : Outcome) (text : List ℕ) → Gives c o text → IfFalsified o (IsFalsified c.words c.left c.files)
  falsified_of (Proved t) text g = tt
  falsified_of (Falsified v t) text g = (g.problem, g.claims.0.0)
  falsified_of (Unknown y t) text g = tt
  falsified_of (Refused x) text g = tt
  falsified_of (Usage x) text g = tt
  falsified_of ReadFault text g = tt
  falsified_of LibraryFault text g = tt
  falsified_of WriteFault text g = tt
  falsified_of Memory text g = tt

  pub unknown_of : (o : Outcome) (text : List ℕ) → Gives c o text → IfUnknown o (IsUnknown c.words c.left c.files)
  unknown_of (Proved t) text g = tt
  unknown_of (Falsified v t) text g = tt
  unknown_of (Unknown y t) text g = (g.problem, g.claims.0.0)
  unknown_of (Refused x) text g = tt
  unknown_of (Usage x) text g = tt
  unknown_of ReadFault text g = tt
  unknown_of LibraryFault text g = tt
  unknown_of WriteFault text g = tt
  unknown_of Memory text g = tt

  pub picks_of : (o : Outcome) (text : List ℕ) → Gives c o text → IfSearched o TakesFirst
  picks_of (Proved t) text g = g.claims.1
  picks_of (Falsified v t) text g = g.claims.1
  picks_of (Unknown y t) text g = g.claims.1
  picks_of (Refused x) text g = tt
  picks_of (Usage x) text g = tt
  picks_of ReadFault text g = tt
  picks_of LibraryFault text g = tt
  picks_of WriteFault text g = tt
  picks_of Memory text g = tt

  refused_at : (text : List ℕ) (x : Option Explanation) → IsSomeAnd (option_map Answer.refused x) (λ a. IsAnswer c a text)
      → IsSomeAnd x (IsRefused c.words c.left c.files)
  refused_at text None g = absurd g
  refused_at text (Some e) g = g.claims.0

  pub refused_of : (o : Outcome) (text : List ℕ) → Gives c o text → IfRefused o (IsRefused c.words c.left c.files)
  refused_of (Proved t) text g = tt
  refused_of (Falsified v t) text g = tt
  refused_of (Unknown y t) text g = tt
  refused_of (Refused x) text g = refused_at text (explanation_of x) g
  refused_of (Usage x) text g = tt
  refused_of ReadFault text g = tt
  refused_of LibraryFault text g = tt
  refused_of WriteFault text g = tt
  refused_of Memory text g = tt

  gather_of : (g : GatherRefusal) (text : List ℕ) → Gives c (Refused (Gather g)) text → RefusesInput (Refused (Gather g))
  gather_of (gather.Syntax place) text g = tt
  gather_of (gather.TooDeep place) text g = tt
  gather_of (gather.Unsupported form place) text g = tt
  gather_of (gather.IncludeDepth file) text g = tt
  gather_of (gather.Cycle file) text g = tt
  gather_of (gather.Missing file) text g = tt
  gather_of gather.LibraryFault text g = g
  gather_of gather.TooLarge text g = tt
  gather_of (gather.NoSuchFormula file) text g = tt
  gather_of gather.Memory text g = g

  pub refuses_input_of : (o : Outcome) (text : List ℕ) → Gives c o text → RefusesInput o
  refuses_input_of (Proved t) text g = tt
  refuses_input_of (Falsified v t) text g = tt
  refuses_input_of (Unknown y t) text g = tt
  refuses_input_of (Refused (Gather x)) text g = gather_of x text g
  refuses_input_of (Refused (Typing x)) text g = tt
  refuses_input_of (Refused TooLarge) text g = tt
  refuses_input_of (Refused NotBuilt) text g = tt
  refuses_input_of (Usage x) text g = tt
  refuses_input_of ReadFault text g = tt
  refuses_input_of LibraryFault text g = tt
  refuses_input_of WriteFault text g = tt
  refuses_input_of Memory text g = tt

  pub usage_of : (o : Outcome) (text : List ℕ) → Gives c o text → IfUsage o (IsMisused c.words)
  usage_of (Proved t) text g = tt
  usage_of (Falsified v t) text g = tt
  usage_of (Unknown y t) text g = tt
  usage_of (Refused x) text g = tt
  usage_of (Usage x) text g = g.claims.0
  usage_of ReadFault text g = tt
  usage_of LibraryFault text g = tt
  usage_of WriteFault text g = tt
  usage_of Memory text g = tt

  pub untouched_of : (o : Outcome) (text : List ℕ) → Gives c o text → IfUsage o (λ misuse. c.left_now ≡ c.left)
  untouched_of (Proved t) text g = tt
  untouched_of (Falsified v t) text g = tt
  untouched_of (Unknown y t) text g = tt
  untouched_of (Refused x) text g = tt
  untouched_of (Usage x) text g = g.claims.1
  untouched_of ReadFault text g = tt
  untouched_of LibraryFault text g = tt
  untouched_of WriteFault text g = tt
  untouched_of Memory text g = tt

  pub no_words_of : (o : Outcome) (text : List ℕ) → Gives c o text → c.words ≡ [] → o ≢ Memory
  no_words_of o text g e d = at_memory (subst (λ y. Gives c y text) d g) e
    where
      at_memory : Gives c Memory text → c.words ≡ [] → ⊥
      at_memory g e = g.claims e

  pub read_fault_of : (o : Outcome) (text : List ℕ) → Gives c o text → IfReadFault o (HasReadFault c.words c.source_faults c.source_faults_now)
  read_fault_of (Proved t) text g = tt
  read_fault_of (Falsified v t) text g = tt
  read_fault_of (Unknown y t) text g = tt
  read_fault_of (Refused x) text g = tt
  read_fault_of (Usage x) text g = tt
  read_fault_of ReadFault text g = g.claims
  read_fault_of LibraryFault text g = tt
  read_fault_of WriteFault text g = tt
  read_fault_of Memory text g = tt

  pub library_fault_of : (o : Outcome) (text : List ℕ) → Gives c o text → IfLibraryFault o (Rose c.library_faults c.library_faults_now)
  library_fault_of (Proved t) text g = tt
  library_fault_of (Falsified v t) text g = tt
  library_fault_of (Unknown y t) text g = tt
  library_fault_of (Refused x) text g = tt
  library_fault_of (Usage x) text g = tt
  library_fault_of ReadFault text g = tt
  library_fault_of LibraryFault text g = g.claims.0
  library_fault_of WriteFault text g = tt
  library_fault_of Memory text g = tt

  gather_read : (text : List ℕ) (x : Option Refusal)
      → IsSomeAnd (option_map Answer.refused (option_map Explanation.ungathered x)) (λ a. IsAnswer c a text)
      → IsOperandRead c.words c.left c.left_now
  gather_read text None g = absurd g
  gather_read text (Some r) g = g.claims.1

  pub taken_of : (o : Outcome) (text : List ℕ) → Gives c o text → IfRead o (IsOperandRead c.words c.left c.left_now)
  taken_of (Proved t) text g = g.claims.0.1
  taken_of (Falsified v t) text g = g.claims.0.1
  taken_of (Unknown y t) text g = g.claims.0.1
  taken_of (Refused (Gather x)) text g = gather_read text (refusal_of x) g
  taken_of (Refused (Typing x)) text g = g.claims.1
  taken_of (Refused TooLarge) text g = tt
  taken_of (Refused NotBuilt) text g = g.claims.1
  taken_of (Usage x) text g = tt
  taken_of ReadFault text g = tt
  taken_of LibraryFault text g = g.claims.1
  taken_of WriteFault text g = tt
  taken_of Memory text g = tt

  pub cut_of : (o : Outcome) (text : List ℕ) → Gives c o text → IfTooLarge o (IsOperandCut c.words c.left c.left_now)
  cut_of (Proved t) text g = tt
  cut_of (Falsified v t) text g = tt
  cut_of (Unknown y t) text g = tt
  cut_of (Refused (Gather x)) text g = tt
  cut_of (Refused (Typing x)) text g = tt
  cut_of (Refused TooLarge) text g = g.claims.1
  cut_of (Refused NotBuilt) text g = tt
  cut_of (Usage x) text g = tt
  cut_of ReadFault text g = tt
  cut_of LibraryFault text g = tt
  cut_of WriteFault text g = tt
  cut_of Memory text g = tt

  -- nothing fails before it is written
  pub before_writing : (P : Type 0) (o : Outcome) (text : List ℕ) → Gives c o text → IfWriteFault o P
  before_writing P (Proved t) text g = tt
  before_writing P (Falsified v t) text g = tt
  before_writing P (Unknown y t) text g = tt
  before_writing P (Refused x) text g = tt
  before_writing P (Usage x) text g = tt
  before_writing P ReadFault text g = tt
  before_writing P LibraryFault text g = tt
  before_writing P WriteFault text g = absurd g.claims
  before_writing P Memory text g = tt

  if_written : (o : Outcome) (P : Answer → Type 0) → IsSomeAnd (answer_of o) P → IfWritten o P
  if_written (Proved t) P h = h
  if_written (Falsified v t) P h = h
  if_written (Unknown y t) P h = h
  if_written (Refused x) P h = h
  if_written (Usage x) P h = h
  if_written ReadFault P h = h
  if_written LibraryFault P h = h
  if_written WriteFault P h = tt
  if_written Memory P h = h

  module _ (text shown : List ℕ) (out diag : Gain) where
    gained : (q : Option Answer) → IsSomeAnd q (λ a. IsAnswer c a text) → IfSome q (λ a. shown ≡ diag_text a)
        → Gains text out → Gains shown diag → IsSomeAnd q (IsWritten c out diag)
    gained None g d k l = absurd g
    gained (Some a) g d k l = record { text = text; is_answer = g; out_gains = k; diag_gains = subst (λ x. Gains x diag) d l }

    cut_off : (q : Option Answer) → IsSomeAnd q (λ a. IsAnswer c a text) → IfSome q (λ a. shown ≡ diag_text a)
        → GainsFront text out → GainsFront shown diag → IsCutShort c out diag
    cut_off None g d k l = absurd g
    cut_off (Some a) g d k l = record {
      answer = a;
      text = text;
      is_answer = g;
      out_gains = k;
      diag_gains = subst (λ x. GainsFront x diag) d l;
    }

    pub written_of : {A B : Type 0} (o f r : Outcome) (w : Result A B) → Gives c o text → IfSome (answer_of o) (λ a. shown ≡ diag_text a)
        → OnOk w (Gains text out) → OnOk w (Gains shown diag) → r ≡ f → OnOk w (f ≡ o) → OnErr w (f ≡ WriteFault)
        → IfWritten r (IsWritten c out diag)
    written_of o f r (Ok x) g d k l e ok err =
        subst (λ y. IfWritten y (IsWritten c out diag)) (sym (e ∙ ok)) (if_written o (IsWritten c out diag) (gained (answer_of o) g d k l))
    written_of o f r (Err x) g d k l e ok err = subst (λ y. IfWritten y (IsWritten c out diag)) (sym (e ∙ err)) tt

    pub cut_short_of : {A B : Type 0} (o f r : Outcome) (w : Result A B) → Gives c o text → IfSome (answer_of o) (λ a. shown ≡ diag_text a)
        → OnErr w (GainsFront text out) → OnErr w (GainsFront shown diag) → r ≡ f → OnOk w (f ≡ o) → OnErr w (f ≡ WriteFault)
        → IfWriteFault r (IsCutShort c out diag)
    cut_short_of o f r (Ok x) g d k l e ok err =
        subst (λ y. IfWriteFault y (IsCutShort c out diag)) (sym (e ∙ ok)) (before_writing (IsCutShort c out diag) o text g)
    cut_short_of o f r (Err x) g d k l e ok err =
        subst (λ y. IfWriteFault y (IsCutShort c out diag)) (sym (e ∙ err)) (cut_off (answer_of o) g d k l)

  pub write_fault_of : {A B : Type 0} (P : Type 0) (o f r : Outcome) (w : Result A B) (text : List ℕ) → Gives c o text → OnErr w P
      → r ≡ f → OnOk w (f ≡ o) → OnErr w (f ≡ WriteFault) → IfWriteFault r P
  write_fault_of P o f r (Ok x) text g p e ok err = subst (λ y. IfWriteFault y P) (sym (e ∙ ok)) (before_writing P o text g)
  write_fault_of P o f r (Err x) text g p e ok err = subst (λ y. IfWriteFault y P) (sym (e ∙ err)) p
