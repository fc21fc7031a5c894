-- What a search shows is an answer to each call that asks for the problem.
use Rattle.std.proofs.Common.{ℕ, ◌≡◌, ◌≢◌, true, List, [], map, Vec, sym, subst, ap, ◌∙◌}
use Rattle.std.specs.declared.alloc.Global.{Global}
use Rattle.zm_logic.specs.Tree.{Problem}
use Rattle.branch.specs.Stopping.{Cause}
use Rattle.branch.specs.State.{State, tree}
use Rattle.branch.specs.Causes.{cause_of}
use Rattle.branch.specs.declared.why.Why.{Why}
use Rattle.valuation.specs.declared.valued.Valued as code
use Rattle.valuation.specs.View.{valued_tree}
use Rattle.zenon_modulo.specs.declared.outcome.Outcome.{Outcome}
use Rattle.zenon_modulo.specs.declared.outcome.Outcome.TheVariants.{Proved, Falsified, Unknown, Refused, Usage, ReadFault, LibraryFault, WriteFault, Memory}
use Rattle.zenon_modulo.specs.Fragments.{is_quantifier_free}
use Rattle.zenon_modulo.specs.Answer.{Answer}
use Rattle.zenon_modulo.specs.Claims.{Call, Asks, Claims, TakesFirst, IsProof, IsCountermodel, IsUndecided}
use Rattle.zenon_modulo.specs.Text.{out_text, proved_text, falsified_text, unknown_text}
use Rattle.zenon_modulo.specs.Writing.{IsAnswer}
use Rattle.zenon_modulo.specs.Stages.{Gives, AsksFor, GivesFor, IsStopped, HasTableau, IsPlain, IsMessage}
use Rattle.zenon_modulo.proofs.Found.{undecided}
use Rattle.zenon_modulo.proofs.Answered.{has_words, memory_given}

-- a claim of the Steps that the call allows
asks : (c : Call) (p : Problem) (steps : ℕ) (claim : ℕ → Type 0) → AsksFor c p steps → claim steps → Asks c p claim
asks c p steps claim a h = (
  record {
    operand = a.0.operand;
    steps = a.0.steps;
    is_command = a.0.is_command;
    holds = (a.0.holds.0, subst claim (sym a.0.holds.1) h);
  },
  a.1,
)

abbrev pub items : Vec ℕ Global → List ℕ
items v = v.items

module _ (p : Problem) (steps : ℕ) where
  of_problem : (c : Call) (a : Answer) (text : List ℕ) → Claims c p a → text ≡ out_text p a → IsAnswer c a text
  of_problem c a text k w = record { problem = p; claims = k; written = w }

  pub proved_given : (t : State) (o : Outcome) (text shown : Vec ℕ Global) → IsProof steps p (tree t) → TakesFirst (tree t)
      → shown.items ≡ proved_text p (tree t) → o ≡ Proved t → text ≡ shown → GivesFor p steps o text.items
  proved_given t o text shown proof first w e same = λ c a.
      subst (λ x. Gives c x text.items) (sym e)
      (of_problem c (Answer.proved (tree t)) text.items (asks c p steps (λ n. IsProof n p (tree t)) a proof, first) (ap items same ∙ w))

  pub falsified_given : (t : State) (v : List code.Valued) (o : Outcome) (text shown : Vec ℕ Global)
      → IsCountermodel steps p (map valued_tree v) (tree t) → TakesFirst (tree t)
      → shown.items ≡ falsified_text p (map valued_tree v) → o ≡ Falsified v t → text ≡ shown → GivesFor p steps o text.items
  falsified_given t v o text shown m first w e same = λ c a.
      subst (λ x. Gives c x text.items) (sym e)
      (of_problem c (Answer.falsified (map valued_tree v) (tree t)) text.items
      (asks c p steps (λ n. IsCountermodel n p (map valued_tree v) (tree t)) a m, first) (ap items same ∙ w))

  pub unknown_given : (t : State) (why : Why) (o : Outcome) (text shown : Vec ℕ Global) → IsStopped steps p (cause_of why) t
      → (is_quantifier_free p ≡ true → cause_of why ≢ Cause.saturated) → shown.items ≡ unknown_text (cause_of why) (tree t)
      → o ≡ Unknown why t → text ≡ shown → GivesFor p steps o text.items
  unknown_given t why o text shown s u w e same = λ c a.
      subst (λ x. Gives c x text.items) (sym e)
      (of_problem c (Answer.unknown (cause_of why) (tree t)) text.items
      (asks c p steps (λ n. IsUndecided n p (cause_of why) (tree t)) a (undecided p steps t (cause_of why) s u), s.grown.picked) (ap items same ∙ w))

  pub memory_for : (o : Outcome) (text : List ℕ) → o ≡ Memory → text ≡ [] → GivesFor p steps o text
  memory_for o text e t = λ c a. memory_given c o text e t (has_words c.words a.0.operand a.0.steps a.0.is_command)

-- an answer that has a tableau is no refusal and no fault
pub tableau_message : (o : Outcome) (m : List ℕ) → HasTableau o → IsMessage o m
tableau_message (Proved t) m h = tt
tableau_message (Falsified v t) m h = tt
tableau_message (Unknown y t) m h = tt
tableau_message (Refused x) m h = absurd h
tableau_message (Usage x) m h = absurd h
tableau_message ReadFault m h = absurd h
tableau_message LibraryFault m h = absurd h
tableau_message WriteFault m h = absurd h
tableau_message Memory m h = absurd h

pub tableau_no_fault : (o : Outcome) → HasTableau o → o ≢ LibraryFault
tableau_no_fault o h = λ e. subst HasTableau e h

pub plain_message : (o x : Outcome) (m : List ℕ) → o ≡ x → IsPlain x → IsMessage o m
plain_message o x m e h = subst (λ y. IsMessage y m) (sym e) (go x h)
  where
    go : (x : Outcome) → IsPlain x → IsMessage x m
    go (Proved t) h = tt
    go (Falsified v t) h = tt
    go (Unknown y t) h = tt
    go (Refused x) h = absurd h
    go (Usage x) h = tt
    go ReadFault h = tt
    go LibraryFault h = tt
    go WriteFault h = tt
    go Memory h = tt
