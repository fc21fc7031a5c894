-- What closes a branch is a rule of the calculus without upper sequents.
use Rattle.std.proofs.Common.{◌≡◌, true, false, sym, subst, List, [], ◌∷◌, inl, inr, Contains, None, Some}
use Rattle.std.specs.Option.{option_to_list}
use Rattle.std.proofs.lemmas.Option.{same_Some}
use Rattle.std.proofs.lemmas.Bool.{and_parts}
use Rattle.zm_logic.specs.Tree.{Term, Form, differ}
use Rattle.zm_logic.specs.Same.{same}
use Rattle.zm_logic.proofs.Sames.{Contains-here, Contains-there, same-true, same_type-true, same_term-true}
use Rattle.branch.specs.Setting.{Setting}
use Rattle.branch.specs.Branch.{Closing, closes_alone, closing_of, is_swapped, pair_of}
use Rattle.branch.proofs.Lists.{cond-cases}
use Rattle.branch.proofs.Branches.{Closes}
use Rattle.branch.proofs.Closings.{IsWithin}
use Rattle.sequent_proof.specs.Rules.{RuleName, Applies}
use Rattle.pruning.specs.Steps.{alone_rule, closing_rule}

module _ (s : Setting) (gamma : List Form) where
  -- the closing is a rule of the sequent
  abbrev pub Closed : Closing → Type 0
  Closed c = Applies s.symbols s.rules gamma (closing_rule c) c.first c.second None []

  abbrev pub IsUsed : Closing → Type 0
  IsUsed c = IsWithin (c.first ∷ option_to_list c.second) gamma

  alone_applies : (f : Form) → Contains gamma f → closes_alone f ≡ true → Applies s.symbols s.rules gamma (alone_rule f) f None None []
  alone_applies Form.falsity h e = Applies.falsity h
  alone_applies (Form.negation Form.truth) h e = Applies.not_truth h
  alone_applies (Form.negation (Form.equal t a b)) h e =
      let P : Term → Type 0 = λ x. Contains gamma (differ t a x) → Applies s.symbols s.rules gamma RuleName.reflexive (differ t a x) None None [] in
      subst P (same_term-true a b e) (λ m. Applies.reflexive t a m) h
  alone_applies f h e = cc

  closes_applies : (g f : Form) → f ≡ Form.negation g → IsWithin (g ∷ f ∷ []) gamma → Applies s.symbols s.rules gamma RuleName.closes g (Some f) None []
  closes_applies g f e w =
      let P : Form → Type 0 = λ x. Contains gamma x → Applies s.symbols s.rules gamma RuleName.closes g (Some x) None [] in
      subst P (sym e) (λ m. Applies.closes g (w g (Contains-here g (f ∷ []))) m) (w f (Contains-there g (f ∷ []) f (Contains-here f [])))

  swapped_applies : (g f : Form) → is_swapped g f ≡ true → IsWithin (g ∷ f ∷ []) gamma → Applies s.symbols s.rules gamma RuleName.symmetric g (Some f) None []
  swapped_applies (Form.equal t a b) (Form.negation (Form.equal u c d)) e w =
      let p = and_parts _ _ e in let q = and_parts _ _ p.1 in
      let eq : differ u c d ≡ differ t b a =
      let i = same_type-true t u p.0 in let j = same_term-true a d q.0 in let k = same_term-true b c q.1 in cc in
      let P : Form → Type 0 = λ x. Contains gamma x → Applies s.symbols s.rules gamma RuleName.symmetric (Form.equal t a b) (Some x) None [] in
      subst P (sym eq) (λ m. Applies.symmetric t a b (w (Form.equal t a b) (Contains-here (Form.equal t a b) (differ u c d ∷ []))) m)
      (w (differ u c d) (Contains-there (Form.equal t a b) (differ u c d ∷ []) (differ u c d) (Contains-here (differ u c d) [])))
  swapped_applies g f e w = cc

  -- two formulas that close a branch together
  pair_applies : (g f : Form) (c : Closing) → closing_of g f ≡ Some c → IsUsed c → Closed c
  pair_applies g f c e =
      let P : Closing → Type 0 = λ d. IsUsed d → Closed d in
      elim (cond-cases (same f (Form.negation g)) _ _ _ e) [
        | inl a ↦ subst P (same_Some (pair_of g f false) c a.1) (closes_applies g f (same-true f (Form.negation g) a.0))
        | inr a ↦ elim (cond-cases (same g (Form.negation f)) _ _ _ a.1) [
          | inl b ↦ subst P (same_Some (pair_of f g false) c b.1) (closes_applies f g (same-true g (Form.negation f) b.0))
          | inr b ↦ elim (cond-cases (is_swapped g f) _ _ _ b.1) [
            | inl d ↦ subst P (same_Some (pair_of g f true) c d.1) (swapped_applies g f d.0)
            | inr d ↦ elim (cond-cases (is_swapped f g) _ _ _ d.1) [
              | inl i ↦ subst P (same_Some (pair_of f g true) c i.1) (swapped_applies f g i.0)
              | inr i ↦ absurd (let q = i.1 in cc)
            ]
          ]
        ]
      ]

  pub closing_applies : (b : List Form) (c : Closing) → IsUsed c → Closes b c → Closed c
  closing_applies b c w (inl (f, h, p, q)) =
      let P : Closing → Type 0 = λ d. IsUsed d → Closed d in
      subst P q (λ v. alone_applies f (v f (Contains-here f [])) p) w
  closing_applies b c w (inr (g, f, hg, hf, p)) = pair_applies g f c p w
