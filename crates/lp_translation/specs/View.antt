-- What the code's values stand for.
use Rattle.std.specs.Prelude.{ℕ, List, [], ◌∷◌, Option, Some, None}
use Rattle.lp_terms.specs.Term.{Lp}
use Rattle.zm_logic.specs.Tree as tree
use Rattle.zm_logic.specs.View.{form_tree}
use Rattle.lp_signature.specs.Names.{premise_name}
use Rattle.lp_signature.specs.Translation.{Scope, form_of, term_of}
use Rattle.sequent_proof.specs.Rules.{RuleName}
use Rattle.sequent_proof.specs.Tree.{DTree}
use Rattle.lp_translation.specs.declared.hypotheses.Proof.{Proof}
use Rattle.lp_translation.specs.declared.hypotheses.Proof.TheVariants as proofs
use Rattle.lp_translation.specs.declared.hypotheses.Fact.{Fact}
use Rattle.lp_translation.specs.declared.hypotheses.Fact.TheVariants as facts
use Rattle.lp_translation.specs.ProofOf.{Hypotheses, also, rule_term, proof}

-- what proves a formula
abbrev pub proof_of : Proof → Lp
proof_of (proofs.Premise k) = Lp.const (premise_name k)
proof_of (proofs.Variable n) = Lp.free n

-- the proof that was found
abbrev pub found_proof : Option Proof → Lp
found_proof (Some p) = proof_of p
found_proof None = Lp.sort

-- the hypotheses with one fact more
abbrev pub with_fact : Hypotheses → Fact → Hypotheses
with_fact hs (facts.Proved f p) = Hypotheses.more (form_tree f.now ∷ []) (proof_of p) hs
with_fact hs (facts.Converted f g) = also (form_tree f.now) (form_tree g.now) hs

-- with several more, in order
abbrev pub with_facts : Hypotheses → List Fact → Hypotheses
with_facts hs [] = hs
with_facts hs (f ∷ fs) = with_facts (with_fact hs f) fs

-- the hypotheses that a list of facts stands for, the last one last
abbrev pub hypotheses_of : List Fact → Hypotheses
hypotheses_of fs = with_facts Hypotheses.none fs

-- the terms of rules and of derivations where formulas and terms are translated
module _ (symbols : List tree.Symbol) where
  abbrev pub plain_rule : ℕ → Scope → Hypotheses → RuleName → tree.Form → Option tree.Form → Option tree.Opening → List Lp → Lp
  plain_rule d s hs name a b w rs = rule_term symbols (form_of symbols) (term_of symbols) d s hs name a b w rs

  abbrev pub plain_proof : ℕ → Scope → Hypotheses → DTree → Lp
  plain_proof d s hs t = proof symbols (form_of symbols) (term_of symbols) d s hs t
