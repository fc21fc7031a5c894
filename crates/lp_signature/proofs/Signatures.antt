-- What the signature of a problem holds, and what its rules do to translations.
use Rattle.std.proofs.Common.{◌≡◌, ℕ, ◌⊎◌, inl, inr, subst, List, [], ◌∷◌, ◌++◌, map, arith}
use Rattle.std.specs.List.{Contains}
use Rattle.lp_terms.specs.Signature.{Entry, Holds, Extends}
use Rattle.lp_terms.specs.Signature as sig
use Rattle.lp_terms.specs.Reduction.{Converts}
use Rattle.zm_logic.specs.Tree.{Form, Rule, Problem}
use Rattle.zm_logic.specs.Parameter.{EachIn}
use Rattle.zm_logic.specs.Typing.{WellTyped}
use Rattle.zm_logic.specs.Problem.{IsTypedProblem}
use Rattle.zm_logic.specs.Rewriting.{Congruent}
use Rattle.zm_logic.specs.Innermost.{Innermost}
use Rattle.zm_logic.specs.Laws.{AreWithoutParameters}
use Rattle.zm_logic.proofs.Sames.{Contains-cases}
use Rattle.rule_select.specs.Selection.{Selection, IsSelection, kept_premises}
use Rattle.rule_select.specs.Laws.{SelectedRulesAreSound, StepsKeepTyping}
use Rattle.lp_signature.specs.Prelude.{prelude}
use Rattle.lp_signature.specs.Translation.{Scope, form_of}
use Rattle.lp_signature.specs.Problem.{symbol_entries, rule_entry, premise_entries, signature}
use Rattle.lp_signature.specs.Scoped.{CarriesClosed, CarriesTypes, Declared}
use Rattle.lp_signature.proofs.Logic.{extends_append}
use Rattle.lp_signature.proofs.TypedTrees.{behind}
use Rattle.lp_signature.proofs.TypedEntries.{declared_by}
use Rattle.lp_signature.proofs.Congruence.{congruent_converts}
use Rattle.lp_signature.proofs.Carried.{normal_carries}

-- the entry of each rule of a list
map_held : (e : Rule → Entry) (rules : List Rule) (r : Rule) → Contains rules r → Holds (map e rules) (e r)
map_held e [] r (i, l, h) = absurd (omega arith)
map_held e (q ∷ rules) r h = go (Contains-cases q rules r h) (λ k. map_held e rules r k)
  where
    go : (q ≡ r) ⊎ Contains rules r → (Contains rules r → Holds (map e rules) (e r)) → Holds (map e (q ∷ rules)) (e r)
    go (inl same) later = subst (λ x. Holds (map e (q ∷ rules)) (e x)) same sig.Holds.first
    go (inr k) later = sig.Holds.later (later k)

-- four lists in a row hold each of them
module _ (a b c d : List Entry) where
  first_held : Extends a (a ++ b ++ c ++ d)
  first_held e h = extends_append (a ++ b ++ c) d e (extends_append (a ++ b) c e (extends_append a b e h))

  second_held : Extends b (a ++ b ++ c ++ d)
  second_held e h = extends_append (a ++ b ++ c) d e (extends_append (a ++ b) c e (behind a h))

  third_held : Extends c (a ++ b ++ c ++ d)
  third_held e h = extends_append (a ++ b ++ c) d e (behind (a ++ b) h)

  fourth_held : Extends d (a ++ b ++ c ++ d)
  fourth_held e h = behind (a ++ b ++ c) h

module _ (p : Problem) (s : Selection) where
  -- the signature holds the prelude, and the entries of symbols, rules and kept premises
  pub prelude_held : Extends prelude (signature p s)
  prelude_held =
      first_held prelude (symbol_entries p.symbols s.rules 1 p.symbols) (map (rule_entry p.symbols) s.rules) (premise_entries p.symbols 0 (kept_premises p s))

  pub symbols_held : Extends (symbol_entries p.symbols s.rules 1 p.symbols) (signature p s)
  symbols_held =
      second_held prelude (symbol_entries p.symbols s.rules 1 p.symbols) (map (rule_entry p.symbols) s.rules) (premise_entries p.symbols 0 (kept_premises p s))

  rules_held : Extends (map (rule_entry p.symbols) s.rules) (signature p s)
  rules_held =
      third_held prelude (symbol_entries p.symbols s.rules 1 p.symbols) (map (rule_entry p.symbols) s.rules) (premise_entries p.symbols 0 (kept_premises p s))

  pub rule_held : (r : Rule) → Contains s.rules r → Holds (signature p s) (rule_entry p.symbols r)
  rule_held r h = rules_held (rule_entry p.symbols r) (map_held (rule_entry p.symbols) s.rules r h)

  pub premises_held : Extends (premise_entries p.symbols 0 (kept_premises p s)) (signature p s)
  premises_held =
      fourth_held prelude (symbol_entries p.symbols s.rules 1 p.symbols) (map (rule_entry p.symbols) s.rules) (premise_entries p.symbols 0 (kept_premises p s))

  module _ (typed : IsTypedProblem p) where
    -- it declares the symbols
    pub symbols_declared : Declared (signature p s) p.symbols p.symbols
    symbols_declared = declared_by p.symbols typed.signature s.rules (signature p s) prelude_held symbols_held

    module _ (selects : IsSelection p s) (sound : SelectedRulesAreSound) where
      without_parameters : AreWithoutParameters s.rules
      without_parameters r h = let x = sound p s r typed selects h in (x.left_parameters, x.right_parameters)

      -- formulas that are congruent by the selected rules have convertible translations
      pub selected_converts : {f g : Form} (scope : Scope) → CarriesTypes p.symbols scope
          → Congruent p.symbols s.rules f g
          → Converts (signature p s) (form_of p.symbols scope f) (form_of p.symbols scope g)
      selected_converts scope c h =
          congruent_converts (signature p s) p.symbols typed.signature s.rules without_parameters rule_held scope c h

      -- normal forms by the selected rules keep closed what parameters carry
      pub selected_carries : StepsKeepTyping → {f g : Form} {n : ℕ} → Innermost s.rules f n g → WellTyped p.symbols f
          → EachIn CarriesClosed f
          → EachIn CarriesClosed g
      selected_carries keep h w e =
          normal_carries p.symbols typed.signature s.rules without_parameters (λ r k. (sound p s r typed selects k).bound)
          (λ f g step v. (keep p s f g typed selects v step).0) h w e
