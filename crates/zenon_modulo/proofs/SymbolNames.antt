-- The names of a problem's symbols.
use Rattle.std.proofs.Common.{ℕ, ◌≡◌, List, [], ◌∷◌, ◌++◌, map, codes, Option, Some, None, IfSome, Result, Ok, Err, OnOk, refl, ap, sym, subst, append_assoc, ◌∙◌}
use Rattle.std.specs.Option.{option_map}
use Rattle.zm_logic.specs.declared.problem.Symbol.{Symbol}
use Rattle.zm_logic.specs.declared.problem.Problem.{Problem}
use Rattle.zm_logic.specs.View.{symbol_tree, problem_tree}
use Rattle.zm_logic.specs.Truth.{Valued}
use Rattle.tptp_include.specs.Gathering.{Refusal}
use Rattle.tptp_include.specs.Outcomes.{refusal_of}
use Rattle.tptp_include.specs.declared.refusal.GatherRefusal.{GatherRefusal}
use Rattle.tff_typing.specs.Fault.{Fault}
use Rattle.tff_typing.specs.View.{fault_tree}
use Rattle.tff_typing.specs.declared.typed.TypeRefusal.{TypeRefusal}
use Rattle.zenon_modulo.specs.declared.outcome.InputRefusal.{InputRefusal}
use Rattle.zenon_modulo.specs.declared.outcome.InputRefusal.TheVariants.{Gather}
use Rattle.zenon_modulo.specs.Answer.{Explanation}
use Rattle.zenon_modulo.specs.Outcome.{untyped_of, explanation_of}
use Rattle.zenon_modulo.specs.Message.{place_text, gather_text, fault_text, mismatch_text, untyped_text, explanation_text}
use Rattle.zenon_modulo.specs.Text.{valuation_text, falsified_text}

pub names_same : (ss : List Symbol) → map (λ s. s.name) (map symbol_tree ss) ≡ map (λ s. s.name) ss
names_same [] = refl
names_same (s ∷ ss) = ap (λ ns. s.name ∷ ns) (names_same ss)

pub text_same : (p q : Problem) (symbols : List Symbol) (v w : List Valued) (text : List ℕ) → q ≡ p → symbols ≡ q.symbols → w ≡ v
    → text ≡ codes "falsified\n" ++ valuation_text (map (λ s. s.name) symbols) w → text ≡ falsified_text (problem_tree p) v
text_same p q symbols v w text same e d h =
    h ∙ ap (λ ss. codes "falsified\n" ++ valuation_text (map (λ s. s.name) ss) w) (e ∙ ap listed same)
    ∙ ap (λ x. codes "falsified\n" ++ valuation_text (map (λ s. s.name) p.symbols) x) d
    ∙ ap (λ ns. codes "falsified\n" ++ valuation_text ns v) (sym (names_same p.symbols))
  where
    listed : Problem → List Symbol
    listed p = p.symbols

-- what is told of a statement without a typing
module _ {A B : Type 0} where
  pub typing_told : (r : TypeRefusal) (old middle new cause : List ℕ) (symbols : List Symbol) (w : Result A B) → symbols ≡ r.symbols
      → cause ≡ fault_text (fault_tree r.fault) → middle ≡ old ++ (cause ++ place_text r.place.file r.place.at)
      → OnOk w (new ≡ middle ++ mismatch_text (map (λ s. s.name) symbols) (fault_tree r.fault)) → OnOk w (new ≡ old ++ untyped_text (untyped_of r))
  typing_told r old middle new cause symbols (Ok x) s k m h =
      let place : List ℕ = place_text r.place.file r.place.at in
      let fault : Fault = fault_tree r.fault in
      h ∙ ap (λ t. t ++ mismatch_text (map (λ s. s.name) symbols) fault) m
      ∙ ap (λ c. (old ++ (c ++ place)) ++ mismatch_text (map (λ s. s.name) symbols) fault) k
      ∙ ap (λ l. (old ++ (fault_text fault ++ place)) ++ mismatch_text l fault) (ap (map (λ s. s.name)) s ∙ sym (names_same r.symbols))
      ∙ append_assoc old (fault_text fault ++ place) (mismatch_text (map (λ s. s.name) (map symbol_tree r.symbols)) fault)
  typing_told r old middle new cause symbols (Err x) s k m h = tt

  -- what is told of a refusal of gathering
  pub gather_told : (r : InputRefusal) (g : GatherRefusal) (old new : List ℕ) (w : Result A B) → r ≡ Gather g
      → OnOk w (IfSome (refusal_of g) (λ x. new ≡ old ++ gather_text x)) → OnOk w (IfSome (explanation_of r) (λ e. new ≡ old ++ explanation_text e))
  gather_told r g old new w e h = subst (λ q. OnOk w (IfSome (explanation_of q) (λ e. new ≡ old ++ explanation_text e))) (sym e) (on_ok w h)
    where
      go : (q : Option Refusal) → IfSome q (λ x. new ≡ old ++ gather_text x)
          → IfSome (option_map Explanation.ungathered q) (λ e. new ≡ old ++ explanation_text e)
      go None h = tt
      go (Some x) h = h

      on_ok : (w : Result A B) → OnOk w (IfSome (refusal_of g) (λ x. new ≡ old ++ gather_text x))
          → OnOk w (IfSome (explanation_of (Gather g)) (λ e. new ≡ old ++ explanation_text e))
      on_ok (Ok x) h = go (refusal_of g) h
      on_ok (Err x) h = tt
