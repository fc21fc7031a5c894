-- Opening and closing as one: what the calls of a walk leave.
use Rattle.std.proofs.Common.{ℕ, zero, suc, ◌≡◌, ◌+◌, ◌<◌, ◌≤◌, ◌==◌, if◌then◌else◌, Bool, true, false, cond, Some, nat_eq, List, [], ◌∷◌, ◌++◌, length, get_or, take, refl, ap, sym, subst, ◌∙◌, true≢false, arith}
use Rattle.std.proofs.lemmas.Bool.{eqb-true, and_parts}
use Rattle.std.proofs.lemmas.List.{take_more}
use Rattle.indexmap.specs.IndexMap.{IndexMap, get, Updates}
use Rattle.zm_logic.specs.Tree as tree
use Rattle.zm_logic.specs.Measure.{type_depth, types_depth, term_depth, terms_depth}
use Rattle.zm_logic.specs.Opening as opening
use Rattle.zm_logic.proofs.Lists.{with_type, with_term, open_with_type, open_with_term, close_with_type, close_with_term}
use Rattle.term_store.specs.declared.change.Change.{Change}
use Rattle.term_store.specs.declared.change.Change.TheVariants.{Opens, Closes}
use Rattle.term_store.specs.declared.opening.Opening.TheVariants.{OfTerm, OfType}
use Rattle.term_store.specs.declared.memo.Place.{Place}
use Rattle.term_store.specs.declared.memo.Memo.{Memo}
use Rattle.term_store.specs.declared.ids.TyId.{TyId}
use Rattle.term_store.specs.declared.ids.TermId.{TermId}
use Rattle.term_store.specs.declared.ids.FormId.{FormId}
use Rattle.term_store.specs.Memo.{same_place}
use Rattle.term_store.specs.Node.{type_at, types_at, term_at, terms_at, TypesBelow, TermsBelow}
use Rattle.term_store.specs.Trees.{Tables, all_trees, HasType, HasTerm, HasForm, type_of, term_of, form_of, Extends}
use Rattle.term_store.specs.Change.{TreeChange, changed_type, changed_types, changed_term, changed_terms, changed_form, HasChange, change_of, is_closed, type_put, term_put, IsTypeId, IsTermId, IsFormId, KnowTypes, KnowTerms, KnowForms, Knows}
use Rattle.term_store.proofs.Kept.{still_type, still_term, still_form, still_part, kept_part, kept_type, kept_term, kept_form, kept_types, kept_terms}
use Rattle.term_store.proofs.Stays.{type_id_stays, term_id_stays, form_id_stays}

-- in a later store
module _ (s t : Tables) (e : Extends s t) where
  pub change_stays : (c : Change) → HasChange s c → HasChange t c
  change_stays (Opens w) h = still_part s t e w h
  change_stays (Closes n) h = tt

  pub change_kept : (c : Change) → HasChange s c → change_of t c ≡ change_of s c
  change_kept (Opens w) h = ap TreeChange.opens (kept_part s t e w h)
  change_kept (Closes n) h = refl

  module _ (c : Change) (h : HasChange s c) (k : ℕ) where
    -- the trees that are asked for are the same
    pub type_goal : (i : TyId) → HasType s i → changed_type k (change_of t c) (type_of t i) ≡ changed_type k (change_of s c) (type_of s i)
    type_goal i l = let x = change_kept c h in let y = kept_type s t e i l in cc

    pub term_goal : (i : TermId) → HasTerm s i → changed_term k (change_of t c) (term_of t i) ≡ changed_term k (change_of s c) (term_of s i)
    term_goal i l = let x = change_kept c h in let y = kept_term s t e i l in cc

    pub form_goal : (i : FormId) → HasForm s i → changed_form k (change_of t c) (form_of t i) ≡ changed_form k (change_of s c) (form_of s i)
    form_goal i l = let x = change_kept c h in let y = kept_form s t e i l in cc

    pub types_goal : (is : List TyId) → TypesBelow (length s.types) is
        → changed_types k (change_of t c) (types_at (all_trees t).types is) ≡ changed_types k (change_of s c) (types_at (all_trees s).types is)
    types_goal is l = let x = change_kept c h in let y = kept_types s t e is l in cc

    pub terms_goal : (is : List TermId) → TermsBelow (length s.terms) is
        → changed_terms k (change_of t c) (terms_at (all_trees t).terms is) ≡ changed_terms k (change_of s c) (terms_at (all_trees s).terms is)
    terms_goal is l = let x = change_kept c h in let y = kept_terms s t e is l in cc

  -- what was noted
  pub knows_stays : (c : Change) → HasChange s c → (m : Memo) → Knows s c m → Knows t c m
  knows_stays c h m k = record {
    types = λ p r g. (let i : TyId = record { 0 = p.tree } in let j : TyId = record { 0 = r } in let w = k.types p r g in
        (still_type s t e i w.0, subst (λ x. IsTypeId t x j) (sym (type_goal c h p.binders i w.0)) (type_id_stays s t e (changed_type p.binders (change_of s c) (type_of s i)) j w.1)));
    terms = λ p r g. (let i : TermId = record { 0 = p.tree } in let j : TermId = record { 0 = r } in let w = k.terms p r g in
        (still_term s t e i w.0, subst (λ x. IsTermId t x j) (sym (term_goal c h p.binders i w.0)) (term_id_stays s t e (changed_term p.binders (change_of s c) (term_of s i)) j w.1)));
    forms = λ p r g. (let i : FormId = record { 0 = p.tree } in let j : FormId = record { 0 = r } in let w = k.forms p r g in
        (still_form s t e i w.0, subst (λ x. IsFormId t x j) (sym (form_goal c h p.binders i w.0)) (form_id_stays s t e (changed_form p.binders (change_of s c) (form_of s i)) j w.1)));
  }

-- one more tree is noted
one_place : (p q : Place) → same_place p q ≡ true → p ≡ q
one_place p q e =
    let h = and_parts (nat_eq p.tree q.tree) (nat_eq p.binders q.binders) e in
    let make : ℕ → ℕ → Place = λ a b. record { tree = a; binders = b } in
    let x = eqb-true p.tree q.tree h.0 in let y = eqb-true p.binders q.binders h.1 in
    ap (λ a. make a p.binders) x ∙ ap (make q.tree) y

module _ {S : Type 0} (m n : IndexMap Place ℕ S) (p : Place) (r : ℕ) (u : Updates same_place m n p (Some r)) where
  -- what is found is what was noted, or was there before
  noted : (P : Place → ℕ → Type 0) → ((q : Place) (i : ℕ) → get same_place m q ≡ Some i → P q i) → P p r → (q : Place) (i : ℕ) → get same_place n q ≡ Some i → P q i
  noted P old new q i g = by (same_place p q) refl
    where
      by : (b : Bool) → same_place p q ≡ b → P q i
      by true e =
          let z : get same_place n q ≡ Some r = u.0 q ∙ ap (λ b. cond b (Some r) (get same_place m q)) e in
          let y : Some r ≡ Some i = sym z ∙ g in
          let x : r ≡ i = cc in
          subst (λ k. P q k) x (subst (λ a. P a r) (one_place p q e) new)
      by false e = old q i (sym (u.0 q ∙ ap (λ b. cond b (Some r) (get same_place m q)) e) ∙ g)

  module _ (s : Tables) (c : Change) where
    pub types_noted : KnowTypes s c m → (p.tree < length s.types) × IsTypeId s (changed_type p.binders (change_of s c) (type_of s (record { 0 = p.tree }))) (record { 0 = r }) → KnowTypes s c n
    types_noted old new = noted (λ q i. (q.tree < length s.types) × IsTypeId s (changed_type q.binders (change_of s c) (type_of s (record { 0 = q.tree }))) (record { 0 = i })) old new

    pub terms_noted : KnowTerms s c m → (p.tree < length s.terms) × IsTermId s (changed_term p.binders (change_of s c) (term_of s (record { 0 = p.tree }))) (record { 0 = r }) → KnowTerms s c n
    terms_noted old new = noted (λ q i. (q.tree < length s.terms) × IsTermId s (changed_term q.binders (change_of s c) (term_of s (record { 0 = q.tree }))) (record { 0 = i })) old new

    pub forms_noted : KnowForms s c m → (p.tree < length s.forms) × IsFormId s (changed_form p.binders (change_of s c) (form_of s (record { 0 = p.tree }))) (record { 0 = r }) → KnowForms s c n
    forms_noted old new = noted (λ q i. (q.tree < length s.forms) × IsFormId s (changed_form q.binders (change_of s c) (form_of s (record { 0 = q.tree }))) (record { 0 = i })) old new

-- what stands for an index
pub type_put_made : (s : Tables) (c : Change) (id : TyId) (i k : ℕ) → HasChange s c → HasType s id → type_of s id ≡ tree.Ty.bound i
    → IsTypeId s (changed_type k (change_of s c) (tree.Ty.bound i)) (type_put id i k c)
type_put_made s (Opens (OfTerm u)) id i k h g e = (g, e)
type_put_made s (Opens (OfType t)) id i k h g e = by (i == k) refl
  where
    by : (b : Bool) → (i == k) ≡ b → IsTypeId s (if (i == k) then type_of s t else tree.Ty.bound i) (if (i == k) then t else id)
    by true w = subst (λ b. IsTypeId s (if b then type_of s t else tree.Ty.bound i) (if b then t else id)) (sym w) (h, refl)
    by false w = subst (λ b. IsTypeId s (if b then type_of s t else tree.Ty.bound i) (if b then t else id)) (sym w) (g, e)
type_put_made s (Closes n) id i k h g e = (g, e)

pub term_put_made : (s : Tables) (c : Change) (id : TermId) (i k : ℕ) → HasChange s c → HasTerm s id → term_of s id ≡ tree.Term.bound i
    → IsTermId s (changed_term k (change_of s c) (tree.Term.bound i)) (term_put id i k c)
term_put_made s (Opens (OfType t)) id i k h g e = (g, e)
term_put_made s (Opens (OfTerm u)) id i k h g e = by (i == k) refl
  where
    by : (b : Bool) → (i == k) ≡ b → IsTermId s (if (i == k) then term_of s u else tree.Term.bound i) (if (i == k) then u else id)
    by true w = subst (λ b. IsTermId s (if b then term_of s u else tree.Term.bound i) (if b then u else id)) (sym w) (h, refl)
    by false w = subst (λ b. IsTermId s (if b then term_of s u else tree.Term.bound i) (if b then u else id)) (sym w) (g, e)
term_put_made s (Closes n) id i k h g e = (g, e)

-- a number that is closed, and one that is not
pub param_closed : (s : Tables) (c : Change) (n k : ℕ) → is_closed c n ≡ true → changed_type k (change_of s c) (tree.Ty.param n) ≡ tree.Ty.bound k
param_closed s (Opens w) n k e = absurd (true≢false (sym e))
param_closed s (Closes m) n k e = ap (λ b. if b then tree.Ty.bound k else tree.Ty.param n) e

pub param_stays : (s : Tables) (c : Change) (n k : ℕ) → is_closed c n ≡ false → changed_type k (change_of s c) (tree.Ty.param n) ≡ tree.Ty.param n
param_stays s (Opens w) n k e = refl
param_stays s (Closes m) n k e = ap (λ b. if b then tree.Ty.bound k else tree.Ty.param n) e

pub eps_closed : (s : Tables) (c : Change) (n k : ℕ) (t : tree.Ty) → is_closed c n ≡ true → changed_term k (change_of s c) (tree.Term.eps n t) ≡ tree.Term.bound k
eps_closed s (Opens w) n k t e = absurd (true≢false (sym e))
eps_closed s (Closes m) n k t e = ap (λ b. if b then tree.Term.bound k else tree.Term.eps n (opening.close_type k m t)) e

pub eps_stays : (s : Tables) (c : Change) (n k : ℕ) (t : tree.Ty) → is_closed c n ≡ false
    → changed_term k (change_of s c) (tree.Term.eps n t) ≡ tree.Term.eps n (changed_type k (change_of s c) t)
eps_stays s (Opens w) n k t e = refl
eps_stays s (Closes m) n k t e = ap (λ b. if b then tree.Term.bound k else tree.Term.eps n (opening.close_type k m t)) e

-- under one constructor
module _ (k : ℕ) where
  pub changed_meta_type : (c : TreeChange) (n : ℕ) → changed_type k c (tree.Ty.meta n) ≡ tree.Ty.meta n
  changed_meta_type (TreeChange.opens o) n = refl
  changed_meta_type (TreeChange.closes m) n = refl

  pub changed_con : (c : TreeChange) (f : ℕ) (ts : tree.Tys) → changed_type k c (tree.Ty.con f ts) ≡ tree.Ty.con f (changed_types k c ts)
  changed_con (TreeChange.opens o) f ts = refl
  changed_con (TreeChange.closes m) f ts = refl

  pub changed_meta : (c : TreeChange) (n : ℕ) (t : tree.Ty) → changed_term k c (tree.Term.meta n t) ≡ tree.Term.meta n (changed_type k c t)
  changed_meta (TreeChange.opens o) n t = refl
  changed_meta (TreeChange.closes m) n t = refl

  pub changed_app : (c : TreeChange) (f : ℕ) (ts : tree.Tys) (us : tree.Terms) → changed_term k c (tree.Term.app f ts us) ≡ tree.Term.app f (changed_types k c ts) (changed_terms k c us)
  changed_app (TreeChange.opens o) f ts us = refl
  changed_app (TreeChange.closes m) f ts us = refl

  pub changed_no_types : (c : TreeChange) → changed_types k c tree.Tys.none ≡ tree.Tys.none
  changed_no_types (TreeChange.opens o) = refl
  changed_no_types (TreeChange.closes m) = refl

  pub changed_no_terms : (c : TreeChange) → changed_terms k c tree.Terms.none ≡ tree.Terms.none
  changed_no_terms (TreeChange.opens o) = refl
  changed_no_terms (TreeChange.closes m) = refl

  pub changed_truth : (c : TreeChange) → changed_form k c tree.Form.truth ≡ tree.Form.truth
  changed_truth (TreeChange.opens o) = refl
  changed_truth (TreeChange.closes m) = refl

  pub changed_falsity : (c : TreeChange) → changed_form k c tree.Form.falsity ≡ tree.Form.falsity
  changed_falsity (TreeChange.opens o) = refl
  changed_falsity (TreeChange.closes m) = refl

  pub changed_atom : (c : TreeChange) (p : ℕ) (ts : tree.Tys) (us : tree.Terms) → changed_form k c (tree.Form.atom p ts us) ≡ tree.Form.atom p (changed_types k c ts) (changed_terms k c us)
  changed_atom (TreeChange.opens o) p ts us = refl
  changed_atom (TreeChange.closes m) p ts us = refl

  pub changed_equal : (c : TreeChange) (t : tree.Ty) (a b : tree.Term) → changed_form k c (tree.Form.equal t a b) ≡ tree.Form.equal (changed_type k c t) (changed_term k c a) (changed_term k c b)
  changed_equal (TreeChange.opens o) t a b = refl
  changed_equal (TreeChange.closes m) t a b = refl

  pub changed_negation : (c : TreeChange) (f : tree.Form) → changed_form k c (tree.Form.negation f) ≡ tree.Form.negation (changed_form k c f)
  changed_negation (TreeChange.opens o) f = refl
  changed_negation (TreeChange.closes m) f = refl

  pub changed_binary : (c : TreeChange) (d : tree.Connective) (f g : tree.Form) → changed_form k c (tree.Form.binary d f g) ≡ tree.Form.binary d (changed_form k c f) (changed_form k c g)
  changed_binary (TreeChange.opens o) d f g = refl
  changed_binary (TreeChange.closes m) d f g = refl

  pub changed_quantified : (c : TreeChange) (q : tree.Quantifier) (t : tree.Ty) (f : tree.Form)
      → changed_form k c (tree.Form.quantified q t f) ≡ tree.Form.quantified q (changed_type k c t) (changed_form (k + 1) c f)
  changed_quantified (TreeChange.opens o) q t f = refl
  changed_quantified (TreeChange.closes m) q t f = refl

  pub changed_quantified_types : (c : TreeChange) (q : tree.Quantifier) (f : tree.Form)
      → changed_form k c (tree.Form.quantified_types q f) ≡ tree.Form.quantified_types q (changed_form (k + 1) c f)
  changed_quantified_types (TreeChange.opens o) q f = refl
  changed_quantified_types (TreeChange.closes m) q f = refl

  -- lists, one further
  changed_with_type : (c : TreeChange) (ts : tree.Tys) (t : tree.Ty) → changed_types k c (with_type ts t) ≡ with_type (changed_types k c ts) (changed_type k c t)
  changed_with_type (TreeChange.opens o) ts t = open_with_type k o ts t
  changed_with_type (TreeChange.closes m) ts t = close_with_type k m ts t

  changed_with_term : (c : TreeChange) (us : tree.Terms) (u : tree.Term) → changed_terms k c (with_term us u) ≡ with_term (changed_terms k c us) (changed_term k c u)
  changed_with_term (TreeChange.opens o) us u = open_with_term k o us u
  changed_with_term (TreeChange.closes m) us u = close_with_term k m us u

  types_at_last : (T : List tree.Ty) (is : List TyId) (i : TyId) → types_at T (is ++ i ∷ []) ≡ with_type (types_at T is) (type_at T i)
  types_at_last T [] i = refl
  types_at_last T (x ∷ xs) i = ap (tree.Tys.more (type_at T x)) (types_at_last T xs i)

  terms_at_last : (U : List tree.Term) (is : List TermId) (i : TermId) → terms_at U (is ++ i ∷ []) ≡ with_term (terms_at U is) (term_at U i)
  terms_at_last U [] i = refl
  terms_at_last U (x ∷ xs) i = ap (tree.Terms.more (term_at U x)) (terms_at_last U xs i)

  pub changed_types_more : (c : TreeChange) (T : List tree.Ty) (is : List TyId) (j : ℕ) (d : TyId) → j < length is
      → with_type (changed_types k c (types_at T (take j is))) (changed_type k c (type_at T (get_or is j d))) ≡ changed_types k c (types_at T (take (j + 1) is))
  changed_types_more c T is j d l =
      let more = ap (λ xs. changed_types k c (types_at T xs)) (take_more is j d l) in
      let last = ap (changed_types k c) (types_at_last T (take j is) (get_or is j d)) in
      sym (more ∙ last ∙ changed_with_type c (types_at T (take j is)) (type_at T (get_or is j d)))

  pub changed_terms_more : (c : TreeChange) (U : List tree.Term) (is : List TermId) (j : ℕ) (d : TermId) → j < length is
      → with_term (changed_terms k c (terms_at U (take j is))) (changed_term k c (term_at U (get_or is j d))) ≡ changed_terms k c (terms_at U (take (j + 1) is))
  changed_terms_more c U is j d l =
      let more = ap (λ xs. changed_terms k c (terms_at U xs)) (take_more is j d l) in
      let last = ap (changed_terms k c) (terms_at_last U (take j is) (get_or is j d)) in
      sym (more ∙ last ∙ changed_with_term c (terms_at U (take j is)) (term_at U (get_or is j d)))

  -- a changed tree is no deeper than its changed list
  pub changed_type_within : (c : TreeChange) (T : List tree.Ty) (is : List TyId) (j : ℕ) (d : TyId) → j < length is
      → type_depth (changed_type k c (type_at T (get_or is j d))) ≤ types_depth (changed_types k c (types_at T is))
  changed_type_within c T [] j d l = absurd (omega arith)
  changed_type_within (TreeChange.opens o) T (i ∷ is) zero d l = omega arith
  changed_type_within (TreeChange.closes m) T (i ∷ is) zero d l = omega arith
  changed_type_within (TreeChange.opens o) T (i ∷ is) (suc j) d l = omega (arith, changed_type_within (TreeChange.opens o) T is j d (omega arith))
  changed_type_within (TreeChange.closes m) T (i ∷ is) (suc j) d l = omega (arith, changed_type_within (TreeChange.closes m) T is j d (omega arith))

  pub changed_term_within : (c : TreeChange) (U : List tree.Term) (is : List TermId) (j : ℕ) (d : TermId) → j < length is
      → term_depth (changed_term k c (term_at U (get_or is j d))) ≤ terms_depth (changed_terms k c (terms_at U is))
  changed_term_within c U [] j d l = absurd (omega arith)
  changed_term_within (TreeChange.opens o) U (i ∷ is) zero d l = omega arith
  changed_term_within (TreeChange.closes m) U (i ∷ is) zero d l = omega arith
  changed_term_within (TreeChange.opens o) U (i ∷ is) (suc j) d l = omega (arith, changed_term_within (TreeChange.opens o) U is j d (omega arith))
  changed_term_within (TreeChange.closes m) U (i ∷ is) (suc j) d l = omega (arith, changed_term_within (TreeChange.closes m) U is j d (omega arith))
