-- Steps of the parts are steps of the whole, so a term may be made normal part after part.
use Rattle.std.proofs.Common.{ℕ, zero, suc, ◌≡◌, ◌≤◌, ◌<◌, ◌+◌, ◌↔◌, List, [], ◌∷◌, ◌++◌, length, Option, Some, None, IfSome, Bool, true, false, cond, ◌==◌, refl, sym, ap, ap₂, ◌∙◌, subst, arith}
use Rattle.lp_terms.specs.Term.{Lp, opened, open_at, closed}
use Rattle.lp_terms.specs.Signature.{Entry, SignatureHasNoFree}
use Rattle.lp_terms.specs.Reduction.{instance_at}
use Rattle.std.specs.Option.{option_map, option_or}
use Rattle.lp_reduce.specs.Scope.{IsScoped, IsScopedSignature}
use Rattle.lp_reduce.specs.Step.{next_step, root_step}
use Rattle.lp_reduce.specs.Normal.{Leads}
use Rattle.lp_reduce.specs.Normal as nf
use Rattle.lp_reduce.proofs.Scoped.{scoped_closed, open_closing, instance_app, instance_abs, instance_prod, instance_const, instance_sort, instance_free}
use Rattle.lp_reduce.proofs.Steps.{next_goes, Goes}

-- each is a free variable
abbrev pub AreVariables : List Lp → Type 0
AreVariables [] = Unit {0}
AreVariables (u ∷ us) = ((m : ℕ) × (Lp.free m ≡ u)) × AreVariables us

abbrev pub IsLeaf : Lp → Type 0
IsLeaf (Lp.free m) = Unit {0}
IsLeaf (Lp.index i) = Unit {0}
IsLeaf _ = ⊥

chosen_leaf : (m i : ℕ) (b : Bool) → IsLeaf (cond b (Lp.free m) (Lp.index i))
chosen_leaf m i true = tt
chosen_leaf m i false = tt

open_leaf : (k m : ℕ) (t : Lp) → IsLeaf t → IsLeaf (open_at k (Lp.free m) t)
open_leaf k m (Lp.free n) h = tt
open_leaf k m (Lp.index i) h = chosen_leaf m i (i == k)
open_leaf k m _ h = absurd h

pub instance_leaf : (k : ℕ) (us : List Lp) (i : ℕ) → AreVariables us → IsLeaf (instance_at k us (Lp.index i))
instance_leaf k [] i a = tt
instance_leaf k (u ∷ us) i a = subst (λ v. IsLeaf (open_at k v (instance_at (suc k) us (Lp.index i)))) a.0.1 (open_leaf k a.0.0 (instance_at (suc k) us (Lp.index i)) (instance_leaf (suc k) us i a.1))

leaf_next : (sigma : List Entry) (n : ℕ) (vs : List Lp) (t : Lp) → IsLeaf t → next_step sigma n vs t ≡ None
leaf_next sigma n vs (Lp.free m) h = refl
leaf_next sigma n vs (Lp.index i) h = refl
leaf_next sigma n vs _ h = absurd h

instance_append : (k j : ℕ) (vs us : List Lp) (t : Lp) → j ≡ k + length vs → instance_at k (vs ++ us) t ≡ instance_at k vs (instance_at j us t)
instance_append k j [] us t e = ap (λ i. instance_at i us t) (let f : k ≡ j = omega arith in f)
instance_append k j (v ∷ vs) us t e = ap (open_at k v) (instance_append (suc k) j vs us t (omega arith))

module _ (sigma : List Entry) where
  -- the next step of an application and of a binder, from those of the parts
  abbrev of_app : Lp → Lp → Option Lp → Option Lp → Option Lp
  of_app f a x y = option_or (option_map (λ g. Lp.app g a) x) (option_or (option_map (λ b. Lp.app f b) y) (root_step sigma (Lp.app f a)))

  abbrev of_abs : ℕ → Lp → Lp → Option Lp → Option Lp → Option Lp
  of_abs n a t x y = option_or (option_map (λ b. Lp.abs b t) x) (option_map (λ u. Lp.abs a (closed n u)) y)

  abbrev of_prod : ℕ → Lp → Lp → Option Lp → Option Lp → Option Lp
  of_prod n a t x y = option_or (option_map (λ b. Lp.prod b t) x) (option_map (λ u. Lp.prod a (closed n u)) y)

  next_within : (n : ℕ) (vs us : List Lp) (j : ℕ) (t : Lp) → AreVariables us → j ≡ length vs → next_step sigma n (vs ++ us) t ≡ next_step sigma n vs (instance_at j us t)
  next_within n vs us j Lp.sort a e = ap (next_step sigma n vs) (sym (instance_sort j us))
  next_within n vs us j (Lp.const name) a e = ap (next_step sigma n vs) (sym (instance_const j us name))
  next_within n vs us j (Lp.free m) a e = ap (next_step sigma n vs) (sym (instance_free j us m))
  next_within n vs us j (Lp.index i) a e = sym (leaf_next sigma n vs (instance_at j us (Lp.index i)) (instance_leaf j us i a))
  next_within n vs us j (Lp.app f b) a e =
      ap₂ (λ F B. of_app F B (next_step sigma n (vs ++ us) f) (next_step sigma n (vs ++ us) b)) (instance_append 0 j vs us f (omega arith)) (instance_append 0 j vs us b (omega arith))
      ∙ ap₂ (λ x y. of_app (instance_at 0 vs (instance_at j us f)) (instance_at 0 vs (instance_at j us b)) x y) (next_within n vs us j f a e) (next_within n vs us j b a e)
      ∙ ap (next_step sigma n vs) (sym (instance_app j us f b))
  next_within n vs us j (Lp.abs d t) a e =
      ap₂ (λ D T. of_abs n D T (next_step sigma n (vs ++ us) d) (next_step sigma (suc n) (Lp.free n ∷ (vs ++ us)) t)) (instance_append 0 j vs us d (omega arith)) (instance_append 1 (suc j) vs us t (omega arith))
      ∙ ap₂ (λ x y. of_abs n (instance_at 0 vs (instance_at j us d)) (instance_at 1 vs (instance_at (suc j) us t)) x y) (next_within n vs us j d a e) (next_within (suc n) (Lp.free n ∷ vs) us (suc j) t a (ap suc e))
      ∙ ap (next_step sigma n vs) (sym (instance_abs j us d t))
  next_within n vs us j (Lp.prod d t) a e =
      ap₂ (λ D T. of_prod n D T (next_step sigma n (vs ++ us) d) (next_step sigma (suc n) (Lp.free n ∷ (vs ++ us)) t)) (instance_append 0 j vs us d (omega arith)) (instance_append 1 (suc j) vs us t (omega arith))
      ∙ ap₂ (λ x y. of_prod n (instance_at 0 vs (instance_at j us d)) (instance_at 1 vs (instance_at (suc j) us t)) x y) (next_within n vs us j d a e) (next_within (suc n) (Lp.free n ∷ vs) us (suc j) t a (ap suc e))
      ∙ ap (next_step sigma n vs) (sym (instance_prod j us d t))

  -- a body's next step is that of the opened body
  pub next_opened : (n : ℕ) (us : List Lp) (t : Lp) → AreVariables us → next_step sigma n us t ≡ next_step sigma n [] (instance_at 0 us t)
  next_opened n us t a = next_within n [] us 0 t a refl

  pub body_next : (n : ℕ) (t : Lp) → next_step sigma (suc n) (Lp.free n ∷ []) t ≡ next_step sigma (suc n) [] (opened t (Lp.free n))
  body_next n t = next_opened (suc n) (Lp.free n ∷ []) t ((n, refl), tt)

  -- one list of steps after another
  pub leads_join : {n i j : ℕ} {t u v : Lp} → Leads sigma n i t u → Leads sigma n j u v → (k : ℕ) → k ≡ i + j → Leads sigma n k t v
  leads_join {n} {j = j} {t = t} {v = v} nf.Leads.none q k e = subst (λ c. Leads sigma n c t v) (let f : j ≡ k = omega arith in f) q
  leads_join {n} {j = j} {t = t} {v = v} (nf.Leads.more {count = i} {u = w} s p) q k e =
      subst (λ c. Leads sigma n c t v) (let f : suc (i + j) ≡ k = omega arith in f) (nf.Leads.more s (leads_join p q (i + j) refl))

  -- steps of the parts, the earlier parts being normal
  pub leads_function : {n k : ℕ} {f g : Lp} (a : Lp) → Leads sigma n k f g → Leads sigma n k (Lp.app f a) (Lp.app g a)
  leads_function a nf.Leads.none = nf.Leads.none
  leads_function {n} {f = f} a (nf.Leads.more e p) = nf.Leads.more (ap (λ x. of_app f a x (next_step sigma n [] a)) e) (leads_function a p)

  pub leads_argument : {n k : ℕ} {a b : Lp} (f : Lp) → next_step sigma n [] f ≡ None → Leads sigma n k a b → Leads sigma n k (Lp.app f a) (Lp.app f b)
  leads_argument f h nf.Leads.none = nf.Leads.none
  leads_argument {a = a} f h (nf.Leads.more e p) = nf.Leads.more (ap₂ (λ x y. of_app f a x y) h e) (leads_argument f h p)

  pub leads_root : {n : ℕ} {f a u : Lp} → next_step sigma n [] f ≡ None → next_step sigma n [] a ≡ None → root_step sigma (Lp.app f a) ≡ Some u → Leads sigma n 1 (Lp.app f a) u
  leads_root {f = f} {a = a} h i e = nf.Leads.more (ap₂ (λ x y. of_app f a x y) h i ∙ e) nf.Leads.none

  pub normal_app : (n : ℕ) (f a : Lp) → next_step sigma n [] f ≡ None → next_step sigma n [] a ≡ None → root_step sigma (Lp.app f a) ≡ None → next_step sigma n [] (Lp.app f a) ≡ None
  normal_app n f a h i e = ap₂ (λ x y. of_app f a x y) h i ∙ e

  pub leads_abs_domain : {n k : ℕ} {a b : Lp} (t : Lp) → Leads sigma n k a b → Leads sigma n k (Lp.abs a t) (Lp.abs b t)
  leads_abs_domain t nf.Leads.none = nf.Leads.none
  leads_abs_domain {n} {a = a} t (nf.Leads.more e p) = nf.Leads.more (ap (λ x. of_abs n a t x (next_step sigma (suc n) (Lp.free n ∷ []) t)) e) (leads_abs_domain t p)

  pub leads_prod_domain : {n k : ℕ} {a b : Lp} (t : Lp) → Leads sigma n k a b → Leads sigma n k (Lp.prod a t) (Lp.prod b t)
  leads_prod_domain t nf.Leads.none = nf.Leads.none
  leads_prod_domain {n} {a = a} t (nf.Leads.more e p) = nf.Leads.more (ap (λ x. of_prod n a t x (next_step sigma (suc n) (Lp.free n ∷ []) t)) e) (leads_prod_domain t p)

  pub normal_abs : (n : ℕ) (a t : Lp) → next_step sigma n [] a ≡ None → next_step sigma (suc n) [] (opened t (Lp.free n)) ≡ None → next_step sigma n [] (Lp.abs a t) ≡ None
  normal_abs n a t h i = ap₂ (λ x y. of_abs n a t x y) h (body_next n t ∙ i)

  pub normal_prod : (n : ℕ) (a t : Lp) → next_step sigma n [] a ≡ None → next_step sigma (suc n) [] (opened t (Lp.free n)) ≡ None → next_step sigma n [] (Lp.prod a t) ≡ None
  normal_prod n a t h i = ap₂ (λ x y. of_prod n a t x y) h (body_next n t ∙ i)

  module _ (z : SignatureHasNoFree sigma) (w : IsScopedSignature sigma) where
    scoped_next : (n : ℕ) (t u : Lp) (o : Option Lp) → o ≡ Some u → IfSome o (Goes sigma z w n t) → IsScoped n 0 u
    scoped_next n t u o e p = (subst (λ x. IfSome x (Goes sigma z w n t)) e p).1

    -- steps under a binder are those of the opened body
    pub leads_abs_body : {n k : ℕ} {u v : Lp} (a : Lp) → next_step sigma n [] a ≡ None → IsScoped (suc n) 0 u → Leads sigma (suc n) k u v → Leads sigma n k (Lp.abs a (closed n u)) (Lp.abs a (closed n v))
    leads_abs_body a h s nf.Leads.none = nf.Leads.none
    leads_abs_body {n} {u = u} a h s (nf.Leads.more {u = x} e p) =
        nf.Leads.more (ap₂ (λ x y. of_abs n a (closed n u) x y) h (body_next n (closed n u) ∙ ap (next_step sigma (suc n) []) (open_closing n (scoped_closed s)) ∙ e))
        (leads_abs_body a h (scoped_next (suc n) u x (next_step sigma (suc n) [] u) e (next_goes sigma z w (suc n) [] u s)) p)

    pub leads_prod_body : {n k : ℕ} {u v : Lp} (a : Lp) → next_step sigma n [] a ≡ None → IsScoped (suc n) 0 u → Leads sigma (suc n) k u v → Leads sigma n k (Lp.prod a (closed n u)) (Lp.prod a (closed n v))
    leads_prod_body a h s nf.Leads.none = nf.Leads.none
    leads_prod_body {n} {u = u} a h s (nf.Leads.more {u = x} e p) =
        nf.Leads.more (ap₂ (λ x y. of_prod n a (closed n u) x y) h (body_next n (closed n u) ∙ ap (next_step sigma (suc n) []) (open_closing n (scoped_closed s)) ∙ e))
        (leads_prod_body a h (scoped_next (suc n) u x (next_step sigma (suc n) [] u) e (next_goes sigma z w (suc n) [] u s)) p)
