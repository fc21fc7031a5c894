-- Arguments replaced one after the other, one further.
use Rattle.std.proofs.Common.{ℕ, suc, ◌≡◌, ◌+◌, ◌<◌, ◌≤◌, List, [], ◌∷◌, ◌++◌, length, take, drop, get_or, refl, ap, ap₂, sym, ◌∙◌, arith}
use Rattle.std.proofs.lemmas.List.{take_more, drop_more, drop_all}
use Rattle.lp_terms.specs.Term.{Lp}
use Rattle.lp_terms.specs.View.{term_of, terms_of}
use Rattle.lp_terms.specs.declared.term.Lp as code
use Rattle.zm_logic.specs.Tree as tree
use Rattle.zm_logic.specs.View.{type_tree, types_tree, term_tree, terms_tree}
use Rattle.zm_logic.specs.declared.tree.Ty.{Ty}
use Rattle.lp_signature.specs.Names.{constant}
use Rattle.zm_logic.specs.declared.tree.Term.{Term, Bound}
use Rattle.sequent_proof.specs.declared.tree.DTree.{DTree}
use Rattle.sequent_proof.specs.View.{tree_of, trees_of}
use Rattle.lp_translation.specs.declared.place.Place.{Place}
use Rattle.std.specs.Prelude.{Option}
use Rattle.zm_logic.specs.Typing.{HaveTypes, argument_types}
use Rattle.zm_logic.specs.Calculus.{differ_each}
use Rattle.lp_signature.specs.Prelude.{eq_of}
use Rattle.lp_signature.specs.ProofTerms as by
use Rattle.lp_signature.specs.Translation.{form_of, apply_types}
use Rattle.lp_signature.specs.Translation as translation
use Rattle.sequent_proof.specs.Rules.{RuleName, Applies, each_alone}
use Rattle.sequent_proof.specs.Tree.{DTrees, AreAbove}
use Rattle.lp_translation.specs.ProofOf.{chain, types_of}
use Rattle.lp_translation.specs.ViewPlace.{symbols_at, scope_at, written_term, written_type, rule_at}
use Rattle.lp_translation.specs.ViewRules.{negated, proved, second_proved, head, spine, next_function, next_proof, chain_by, equal_arguments_by, equal_values_by}
use Rattle.lp_translation.specs.ViewArguments.{first_negated, term_count, HasArguments, HasValues, equality_in, equalities_in}

spine_push : (p : Place) (f : Lp) (us : List Term) (u : Term)
    → spine p f (terms_tree (us ++ u ∷ [])) ≡ Lp.app (spine p f (terms_tree us)) (written_term p (term_tree u))
spine_push p f [] u = refl
spine_push p f (x ∷ xs) u = spine_push p (Lp.app f (written_term p (term_tree x))) xs u

-- one term further
pub spine_more : (p : Place) (f g a : Lp) (us : List Term) (i : ℕ) (d : Term) → i < length us
    → g ≡ spine p f (terms_tree (take i us)) → a ≡ written_term p (term_tree (get_or us i d))
    → Lp.app g a ≡ spine p f (terms_tree (take (i + 1) us))
spine_more p f g a us i d h e w = rw (take_more us i d h, spine_push p f (take i us) (get_or us i d), e, w)

head_push : (p : Place) (f : Lp) (ts : List Ty) (t : Ty)
    → apply_types (symbols_at p) (scope_at p) 0 f (types_tree (ts ++ t ∷ []))
    ≡ Lp.app (apply_types (symbols_at p) (scope_at p) 0 f (types_tree ts)) (written_type p (type_tree t))
head_push p f [] t = refl
head_push p f (x ∷ xs) t = head_push p (Lp.app f (written_type p (type_tree x))) xs t

-- one type further
pub head_more : (p : Place) (c : ℕ) (g a : Lp) (ts : List Ty) (i : ℕ) (d : Ty) → i < length ts
    → g ≡ head p c (types_tree (take i ts)) → a ≡ written_type p (type_tree (get_or ts i d))
    → Lp.app g a ≡ head p c (types_tree (take (i + 1) ts))
head_more p c g a ts i d h e w =
    rw (take_more ts i d h, head_push p (Lp.const (constant (symbols_at p) c)) (take i ts) (get_or ts i d), e, w)

-- one child further
pub chain_more : (p : Place) (wrap : Lp → Lp) (f h : Lp) (ts : List DTree) (us : List Term) (rs : List code.Lp) (i : ℕ) (d : DTree) (u : Term) (r : code.Lp)
    → i < length ts → length us ≡ length ts → length rs ≡ length ts
    → chain_by p wrap f h (equalities_in (trees_of (drop i ts))) (terms_tree (drop i us)) (terms_of (drop i rs))
    ≡ chain_by p wrap (next_function p (equality_in (tree_of (get_or ts i d))) f)
    (next_proof p wrap (equality_in (tree_of (get_or ts i d))) f h (terms_tree (drop (i + 1) us)) (term_of (get_or rs i r)))
    (equalities_in (trees_of (drop (i + 1) ts))) (terms_tree (drop (i + 1) us)) (terms_of (drop (i + 1) rs))
chain_more p wrap f h ts us rs i d u r l m n =
    let k : i < length us = omega (arith, m) in
    let j : i < length rs = omega (arith, n) in
    rw (drop_more ts i d l, drop_more us i u k, drop_more rs i r j)

-- the same, from what the link became
pub chain_back : (p : Place) (wrap : Lp → Lp) (f h g k e : Lp) (ts : List DTree) (us : List Term) (rs : List code.Lp) (i : ℕ) (d : DTree) (r : code.Lp)
    → i < length ts → length us ≡ length ts → length rs ≡ length ts → d ≡ get_or ts i d → r ≡ get_or rs i r
    → g ≡ next_function p (equality_in (tree_of d)) f
    → k ≡ next_proof p wrap (equality_in (tree_of d)) f h (terms_tree (drop (i + 1) us)) (term_of r)
    → chain_by p wrap f h (equalities_in (trees_of (drop i ts))) (terms_tree (drop i us)) (terms_of (drop i rs)) ≡ e
    → chain_by p wrap g k (equalities_in (trees_of (drop (i + 1) ts))) (terms_tree (drop (i + 1) us)) (terms_of (drop (i + 1) rs)) ≡ e
chain_back p wrap f h g k e ts us rs i d r l m n it ir eg ek found =
    let es = equalities_in (trees_of (drop (i + 1) ts)) in
    let vs = terms_tree (drop (i + 1) us) in
    let qs = terms_of (drop (i + 1) rs) in
    ap₂ (λ (x y : Lp). chain_by p wrap x y es vs qs) eg ek
    ∙ ap₂ (λ (x : DTree) (y : code.Lp). chain_by p wrap (next_function p (equality_in (tree_of x)) f)
    (next_proof p wrap (equality_in (tree_of x)) f h vs (term_of y)) es vs qs) it ir
    ∙ sym (chain_more p wrap f h ts us rs i d (Bound 0) r l m n)
    ∙ found

-- no child is left
pub chain_end : (p : Place) (wrap : Lp → Lp) (f h : Lp) (ts : List DTree) (us : List Term) (rs : List code.Lp) (i : ℕ)
    → length ts ≤ i → chain_by p wrap f h (equalities_in (trees_of (drop i ts))) (terms_tree (drop i us)) (terms_of (drop i rs)) ≡ h
chain_end p wrap f h ts us rs i l = rw (drop_all i ts l)

pub term_count_is : (us : List Term) → term_count (terms_tree us) ≡ length us
term_count_is [] = refl
term_count_is (u ∷ us) = ap suc (term_count_is us)

module _ (p : Place) (rules : List tree.Rule) (gamma : List tree.Form) where
  -- the types of the arguments, and the two lists of arguments, are read off the children
  chain_is : (wrap : Lp → Lp) (tys : tree.Tys) (us vs : tree.Terms) (ts : DTrees) (f h : Lp) (rs : List Lp)
      → HaveTypes (symbols_at p) us tys → HaveTypes (symbols_at p) vs tys
      → AreAbove (symbols_at p) rules gamma (each_alone (differ_each tys us vs)) ts
      → chain (symbols_at p) (form_of (symbols_at p)) (translation.term_of (symbols_at p)) p.next (scope_at p) wrap f h tys us vs rs
      ≡ chain_by p wrap f h (equalities_in ts) us rs
  chain_is wrap tree.Tys.none tree.Terms.none tree.Terms.none DTrees.none f h rs u v above = refl
  chain_is wrap tree.Tys.none tree.Terms.none tree.Terms.none (DTrees.more c ts) f h rs u v above = absurd above
  chain_is wrap tree.Tys.none tree.Terms.none (tree.Terms.more b vs) ts f h rs u v above = absurd v
  chain_is wrap tree.Tys.none (tree.Terms.more a us) vs ts f h rs u v above = absurd u
  chain_is wrap (tree.Tys.more t tys) tree.Terms.none vs ts f h rs u v above = absurd u
  chain_is wrap (tree.Tys.more t tys) (tree.Terms.more a us) tree.Terms.none ts f h rs u v above = absurd v
  chain_is wrap (tree.Tys.more t tys) (tree.Terms.more a us) (tree.Terms.more b vs) DTrees.none f h rs u v above = absurd above
  chain_is wrap (tree.Tys.more t tys) (tree.Terms.more a us) (tree.Terms.more b vs) (DTrees.more c ts) f h [] u v above = refl
  chain_is wrap (tree.Tys.more t tys) (tree.Terms.more a us) (tree.Terms.more b vs) (DTrees.more c ts) f h (r ∷ rs) u v above =
      chain_is wrap tys us vs ts (next_function p (tree.Form.equal t a b) f) (next_proof p wrap (tree.Form.equal t a b) f h us r) rs u.1 v.1 above.2
      ∙ sym (ap (λ (e : tree.Form). chain_by p wrap (next_function p e f) (next_proof p wrap e f h us r) (equalities_in ts) us rs)
      (ap first_negated above.0))

  -- one child for each argument
  arguments_count : (tys : tree.Tys) (us vs : tree.Terms) → HaveTypes (symbols_at p) us tys → HaveTypes (symbols_at p) vs tys
      → term_count us ≡ length (each_alone (differ_each tys us vs))
  arguments_count tree.Tys.none tree.Terms.none vs u v = refl
  arguments_count tree.Tys.none (tree.Terms.more a us) vs u v = absurd u
  arguments_count (tree.Tys.more t tys) tree.Terms.none vs u v = absurd u
  arguments_count (tree.Tys.more t tys) (tree.Terms.more a us) tree.Terms.none u v = absurd v
  arguments_count (tree.Tys.more t tys) (tree.Terms.more a us) (tree.Terms.more b vs) u v = ap suc (arguments_count tys us vs u.1 v.1)

  pub equal_arguments_count : (a : tree.Form) (b : Option tree.Form) (w : Option tree.Opening) (upper : List (List tree.Form)) (n : ℕ)
      → Applies (symbols_at p) rules gamma RuleName.equal_arguments a b w upper → n ≡ length upper → HasArguments n a
  equal_arguments_count _ _ _ _ n (Applies.equal_arguments q d tys us vs is tu tv c e) k =
      arguments_count (argument_types d tys) us vs tu tv ∙ sym k

  pub equal_values_count : (a : tree.Form) (b : Option tree.Form) (w : Option tree.Opening) (upper : List (List tree.Form)) (n : ℕ)
      → Applies (symbols_at p) rules gamma RuleName.equal_values a b w upper → n ≡ length upper → HasValues n (negated a)
  equal_values_count _ _ _ _ n (Applies.equal_values t f d tys us vs is tu tv c) k =
      arguments_count (argument_types d tys) us vs tu tv ∙ sym k

  pub equal_arguments_is : (a : tree.Form) (b : Option tree.Form) (w : Option tree.Opening) (upper : List (List tree.Form)) (ts : DTrees) (rs : List Lp)
      → Applies (symbols_at p) rules gamma RuleName.equal_arguments a b w upper → AreAbove (symbols_at p) rules gamma upper ts
      → rule_at p RuleName.equal_arguments a b w rs ≡ equal_arguments_by p (proved p a) (second_proved p b) a (equalities_in ts) rs
  equal_arguments_is _ _ _ _ ts rs (Applies.equal_arguments q d tys us vs is tu tv c e) above =
      let f = head p q tys in
      let h = proved p (tree.Form.atom q tys us) in
      ap (λ (x : Option tree.Symbol). Lp.app (proved p (tree.Form.negation (tree.Form.atom q tys vs)))
      (chain (symbols_at p) (form_of (symbols_at p)) (translation.term_of (symbols_at p)) p.next (scope_at p) (λ g. g) f h (types_of x tys) us vs rs)) is
      ∙ ap (Lp.app (proved p (tree.Form.negation (tree.Form.atom q tys vs)))) (chain_is (λ g. g) (argument_types d tys) us vs ts f h rs tu tv above)

  pub equal_values_is : (a : tree.Form) (b : Option tree.Form) (w : Option tree.Opening) (upper : List (List tree.Form)) (ts : DTrees) (rs : List Lp)
      → Applies (symbols_at p) rules gamma RuleName.equal_values a b w upper → AreAbove (symbols_at p) rules gamma upper ts
      → rule_at p RuleName.equal_values a b w rs ≡ equal_values_by p (proved p a) (negated a) (equalities_in ts) rs
  equal_values_is _ _ _ _ ts rs (Applies.equal_values t g d tys us vs is tu tv c) above =
      let f = head p g tys in
      let k = proved p (tree.differ t (tree.Term.app g tys us) (tree.Term.app g tys vs)) in
      let left = written_term p (tree.Term.app g tys us) in
      let h = by.reflexive (written_type p t) left in
      let wrap = eq_of (written_type p t) left in
      ap (λ (x : Option tree.Symbol). Lp.app k
      (chain (symbols_at p) (form_of (symbols_at p)) (translation.term_of (symbols_at p)) p.next (scope_at p) wrap f h (types_of x tys) us vs rs)) is
      ∙ ap (Lp.app k) (chain_is wrap (argument_types d tys) us vs ts f h rs tu tv above)
