-- The next step is a reduction and keeps a term scoped.
use Rattle.std.proofs.Common.{ℕ, zero, suc, ◌≡◌, ◌≤◌, ◌<◌, ◌+◌, List, [], ◌∷◌, length, Bool, true, false, cond, ◌&&◌, ◌==◌, Option, Some, None, IfSome, refl, sym, ap, ap₂, ◌∙◌, subst, subst₂, arith}
use Rattle.lp_terms.specs.Term.{Lp, opened, open_at, closed, close_at, IsClosed, IsFresh}
use Rattle.lp_terms.specs.Signature.{Entry, Holds, SignatureHasNoFree}
use Rattle.lp_terms.specs.Signature as sig
use Rattle.lp_terms.specs.Reduction.{instance_at, AreClosed, Reduces, Converts}
use Rattle.lp_terms.specs.Reduction as red
use Rattle.lp_terms.specs.Same.{same}
use Rattle.std.specs.Option.{option_map, option_or}
use Rattle.lp_reduce.specs.Scope.{IsScoped, IsScopedSignature, IsScopedEntry}
use Rattle.lp_reduce.specs.Scope as sc
use Rattle.lp_reduce.specs.Put.{put}
use Rattle.lp_reduce.specs.Step.{part_at, with_first, parts, rule_at, entry_step, first_entry_step, beta_step, root_step, next_step}
use Rattle.lp_reduce.specs.Normal.{Normal, one_step_more, after_step, normal}
use Rattle.lp_terms.proofs.Terms.{same_of_test}
use Rattle.lp_terms.proofs.Sames.{same-true}
use Rattle.lp_reduce.proofs.Puts.{put_instance}
use Rattle.lp_terms.proofs.Binders.{renaming, only_closed}
use Rattle.lp_reduce.proofs.Scoped.{scoped_closed, scoped_fresh, scoped_more, scoped_open, scoped_close, AreTerms, terms_closed, scoped_instance, instance_app, instance_abs, instance_prod, instance_const, open_closing}
use Rattle.lp_terms.proofs.PlainReadings.{move_reduces}

-- what holds of an answer
pub on_first : {A : Type 0} (P : A → Type 0) (a b : Option A) → IfSome a P → IfSome b P → IfSome (option_or a b) P
on_first P (Some x) b p q = p
on_first P None b p q = q

pub on_mapped : {A B : Type 0} (P : B → Type 0) (f : A → B) (a : Option A) → IfSome a (λ x. P (f x)) → IfSome (option_map f a) P
on_mapped P f (Some x) p = p
on_mapped P f None p = tt

pub on_each : {A : Type 0} (P Q : A → Type 0) (a : Option A) → ((x : A) → P x → Q x) → IfSome a P → IfSome a Q
on_each P Q (Some x) f p = f x p
on_each P Q None f p = tt

pub on_test : {A : Type 0} (P : A → Type 0) (b : Bool) (x : A) → (b ≡ true → P x) → IfSome (cond b (Some x) None) P
on_test P true x f = f refl
on_test P false x f = tt

-- the parts found are terms
part_scoped : (n i : ℕ) (p t : Lp) → IsScoped n 0 t → IfSome (part_at i p t) (λ u. IsScoped n 0 u)
part_scoped n i (Lp.index j) t s = on_test (λ u. IsScoped n 0 u) (j == i) t (λ e. s)
part_scoped n i (Lp.app p q) (Lp.app f a) (sc.IsScoped.app s r) =
    on_first (λ u. IsScoped n 0 u) (part_at i p f) (part_at i q a) (part_scoped n i p f s) (part_scoped n i q a r)
part_scoped _ _ _ _ s = tt

added_scoped : (n : ℕ) (c : List Lp) (a : Option Lp) (b : Option (List Lp)) → IfSome a (λ u. IsScoped n 0 u) →
    IfSome b (λ us. AreTerms n us × (length us ≡ length c)) → IfSome (with_first a b) (λ us. AreTerms n us × (length us ≡ suc (length c)))
added_scoped n c (Some u) (Some us) s r = ((s, r.0), ap suc r.1)
added_scoped n c (Some u) None s r = tt
added_scoped n c None (Some us) s r = tt
added_scoped n c None None s r = tt

parts_scoped : (n : ℕ) (context : List Lp) (i : ℕ) (p t : Lp) → IsScoped n 0 t → IfSome (parts context i p t) (λ us. AreTerms n us × (length us ≡ length context))
parts_scoped n [] i p t s = (tt, refl)
parts_scoped n (type ∷ context) i p t s =
    added_scoped n context (part_at i p t) (parts context (suc i) p t) (part_scoped n i p t s) (parts_scoped n context (suc i) p t s)

module _ (sigma : List Entry) (z : SignatureHasNoFree sigma) (w : IsScopedSignature sigma) where
  -- a reduction to a term that is scoped too
  abbrev pub Goes : ℕ → Lp → Lp → Type 0
  Goes n t u = Reduces sigma t u × IsScoped n 0 u

  parts_go : (n : ℕ) (context : List Lp) (left right t : Lp) (us : Option (List Lp)) → Holds sigma (Entry.rule context left right) →
      IfSome us (λ vs. AreTerms n vs × (length vs ≡ length context)) → IfSome (rule_at left right t us) (Goes n t)
  parts_go n context left right t None h p = tt
  parts_go n context left right t (Some us) h p =
      let c : AreClosed us = terms_closed n us p.0 in
      let r : put 0 us right ≡ instance_at 0 us right = put_instance us c 0 right in
      on_test (Goes n t) (same (put 0 us left) t) (put 0 us right) (λ e. (
        subst₂ (Reduces sigma) (sym (put_instance us c 0 left) ∙ same-true (put 0 us left) t e) (sym r) (red.Reduces.by_rule us h p.1 c),
        subst (IsScoped n 0) (sym r) (scoped_instance n 0 us right (scoped_more n (0 + length us) (omega arith) (omega arith) (w _ h).2) p.0),
      ))

  entry_goes : (n : ℕ) (e : Entry) (t : Lp) → Holds sigma e → IsScoped n 0 t → IfSome (entry_step e t) (Goes n t)
  entry_goes n (Entry.declare name definable type) t h s = tt
  entry_goes n (Entry.rule context left right) t h s =
      parts_go n context left right t (parts context 0 left t) h (parts_scoped n context 0 left t s)
  entry_goes n (Entry.define name type body) t h s = on_test (Goes n t) (same (Lp.const name) t) body (λ e. (
    subst (λ v. Reduces sigma v body) (same-true (Lp.const name) t e) (red.Reduces.by_definition h),
    scoped_more n 0 (omega arith) (omega arith) (w _ h).1,
  ))

  entries_go : (n : ℕ) (entries : List Entry) (t : Lp) → ((e : Entry) → Holds entries e → Holds sigma e) → IsScoped n 0 t → IfSome (first_entry_step entries t) (Goes n t)
  entries_go n [] t h s = tt
  entries_go n (e ∷ entries) t h s = on_first (Goes n t) (entry_step e t) (first_entry_step entries t)
      (entry_goes n e t (h e sig.Holds.first) s) (entries_go n entries t (λ d i. h d (sig.Holds.later i)) s)

  beta_goes : (n : ℕ) (t : Lp) → IsScoped n 0 t → IfSome (beta_step t) (Goes n t)
  beta_goes n (Lp.app (Lp.abs a t) u) (sc.IsScoped.app (sc.IsScoped.abs s r) q) = (red.Reduces.beta (scoped_closed q), scoped_open u r q)
  beta_goes n _ s = tt

  root_goes : (n : ℕ) (t : Lp) → IsScoped n 0 t → IfSome (root_step sigma t) (Goes n t)
  root_goes n t s = on_first (Goes n t) (beta_step t) (first_entry_step sigma t) (beta_goes n t s) (entries_go n sigma t (λ e h. h) s)

  -- a reduction of the opened body is one of the body
  body_goes : (n : ℕ) (t u : Lp) → IsScoped n 1 t → Goes (suc n) (opened t (Lp.free n)) u →
      ((m : ℕ) → 0 ≤ m → Reduces sigma (opened t (Lp.free m)) (opened (closed n u) (Lp.free m)))
  body_goes n t u s g m le = move_reduces sigma z n m t (closed n u) (scoped_fresh n (omega arith) s) (scoped_fresh n (omega arith) (scoped_close n 0 u g.1))
      (subst (λ v. Reduces sigma (opened t (Lp.free n)) v) (sym (open_closing n (scoped_closed g.1))) g.0)

  app_goes : (n : ℕ) (f a : Lp) (nf na root : Option Lp) → IsScoped n 0 (Lp.app f a) → IfSome nf (Goes n f) → IfSome na (Goes n a) → IfSome root (Goes n (Lp.app f a)) →
      IfSome (option_or (option_map (λ g. Lp.app g a) nf) (option_or (option_map (λ b. Lp.app f b) na) root)) (Goes n (Lp.app f a))
  app_goes n f a nf na root (sc.IsScoped.app s r) p q o =
      on_first (Goes n (Lp.app f a)) (option_map (λ g. Lp.app g a) nf) (option_or (option_map (λ b. Lp.app f b) na) root)
      (on_mapped (Goes n (Lp.app f a)) (λ g. Lp.app g a) nf (on_each (Goes n f) (λ g. Goes n (Lp.app f a) (Lp.app g a)) nf (λ g i. (red.Reduces.in_function i.0, sc.IsScoped.app i.1 r)) p))
      (on_first (Goes n (Lp.app f a)) (option_map (λ b. Lp.app f b) na) root
      (on_mapped (Goes n (Lp.app f a)) (λ b. Lp.app f b) na (on_each (Goes n a) (λ b. Goes n (Lp.app f a) (Lp.app f b)) na (λ b i. (red.Reduces.in_argument i.0, sc.IsScoped.app s i.1)) q))
      o)

  abs_goes : (n : ℕ) (a t : Lp) (na nt : Option Lp) → IsScoped n 0 (Lp.abs a t) → IfSome na (Goes n a) → IfSome nt (Goes (suc n) (opened t (Lp.free n))) →
      IfSome (option_or (option_map (λ b. Lp.abs b t) na) (option_map (λ u. Lp.abs a (closed n u)) nt)) (Goes n (Lp.abs a t))
  abs_goes n a t na nt (sc.IsScoped.abs s r) p q =
      on_first (Goes n (Lp.abs a t)) (option_map (λ b. Lp.abs b t) na) (option_map (λ u. Lp.abs a (closed n u)) nt)
      (on_mapped (Goes n (Lp.abs a t)) (λ b. Lp.abs b t) na (on_each (Goes n a) (λ b. Goes n (Lp.abs a t) (Lp.abs b t)) na (λ b i. (red.Reduces.in_abs_domain i.0, sc.IsScoped.abs i.1 r)) p))
      (on_mapped (Goes n (Lp.abs a t)) (λ u. Lp.abs a (closed n u)) nt (on_each (Goes (suc n) (opened t (Lp.free n))) (λ u. Goes n (Lp.abs a t) (Lp.abs a (closed n u))) nt
      (λ u i. (red.Reduces.in_abs_body 0 (body_goes n t u r i), sc.IsScoped.abs s (scoped_close n 0 u i.1))) q))

  prod_goes : (n : ℕ) (a t : Lp) (na nt : Option Lp) → IsScoped n 0 (Lp.prod a t) → IfSome na (Goes n a) → IfSome nt (Goes (suc n) (opened t (Lp.free n))) →
      IfSome (option_or (option_map (λ b. Lp.prod b t) na) (option_map (λ u. Lp.prod a (closed n u)) nt)) (Goes n (Lp.prod a t))
  prod_goes n a t na nt (sc.IsScoped.prod s r) p q =
      on_first (Goes n (Lp.prod a t)) (option_map (λ b. Lp.prod b t) na) (option_map (λ u. Lp.prod a (closed n u)) nt)
      (on_mapped (Goes n (Lp.prod a t)) (λ b. Lp.prod b t) na (on_each (Goes n a) (λ b. Goes n (Lp.prod a t) (Lp.prod b t)) na (λ b i. (red.Reduces.in_prod_domain i.0, sc.IsScoped.prod i.1 r)) p))
      (on_mapped (Goes n (Lp.prod a t)) (λ u. Lp.prod a (closed n u)) nt (on_each (Goes (suc n) (opened t (Lp.free n))) (λ u. Goes n (Lp.prod a t) (Lp.prod a (closed n u))) nt
      (λ u i. (red.Reduces.in_prod_codomain 0 (body_goes n t u r i), sc.IsScoped.prod s (scoped_close n 0 u i.1))) q))

  left_of : {n k : ℕ} {f a : Lp} → IsScoped n k (Lp.app f a) → IsScoped n k f
  left_of (sc.IsScoped.app s r) = s

  right_of : {n k : ℕ} {f a : Lp} → IsScoped n k (Lp.app f a) → IsScoped n k a
  right_of (sc.IsScoped.app s r) = r

  abs_domain : {n k : ℕ} {f a : Lp} → IsScoped n k (Lp.abs f a) → IsScoped n k f
  abs_domain (sc.IsScoped.abs s r) = s

  abs_body : {n : ℕ} {f a : Lp} → IsScoped n 0 (Lp.abs f a) → IsScoped (suc n) 0 (opened a (Lp.free n))
  abs_body {n} (sc.IsScoped.abs s r) = scoped_open (Lp.free n) (scoped_more (suc n) 1 (omega arith) (omega arith) r) (sc.IsScoped.free (omega arith))

  prod_domain : {n k : ℕ} {f a : Lp} → IsScoped n k (Lp.prod f a) → IsScoped n k f
  prod_domain (sc.IsScoped.prod s r) = s

  prod_body : {n : ℕ} {f a : Lp} → IsScoped n 0 (Lp.prod f a) → IsScoped (suc n) 0 (opened a (Lp.free n))
  prod_body {n} (sc.IsScoped.prod s r) = scoped_open (Lp.free n) (scoped_more (suc n) 1 (omega arith) (omega arith) r) (sc.IsScoped.free (omega arith))

  -- the next step is a reduction
  pub next_goes : (n : ℕ) (us : List Lp) (t : Lp) → IsScoped n 0 (instance_at 0 us t) → IfSome (next_step sigma n us t) (Goes n (instance_at 0 us t))
  next_goes n us Lp.sort s = tt
  next_goes n us (Lp.const name) s =
      subst (λ v. IfSome (root_step sigma (Lp.const name)) (Goes n v)) (sym (instance_const 0 us name)) (root_goes n (Lp.const name) sc.IsScoped.const)
  next_goes n us (Lp.free m) s = tt
  next_goes n us (Lp.index i) s = tt
  next_goes n us (Lp.app f a) s =
      let r : IsScoped n 0 (Lp.app (instance_at 0 us f) (instance_at 0 us a)) = subst (λ v. IsScoped n 0 v) (instance_app 0 us f a) s in
      subst (λ v. IfSome (next_step sigma n us (Lp.app f a)) (Goes n v)) (sym (instance_app 0 us f a))
      (app_goes n (instance_at 0 us f) (instance_at 0 us a) (next_step sigma n us f) (next_step sigma n us a) (root_step sigma (Lp.app (instance_at 0 us f) (instance_at 0 us a))) r
      (next_goes n us f (left_of r)) (next_goes n us a (right_of r)) (root_goes n (Lp.app (instance_at 0 us f) (instance_at 0 us a)) r))
  next_goes n us (Lp.abs a t) s =
      let r : IsScoped n 0 (Lp.abs (instance_at 0 us a) (instance_at 1 us t)) = subst (λ v. IsScoped n 0 v) (instance_abs 0 us a t) s in
      subst (λ v. IfSome (next_step sigma n us (Lp.abs a t)) (Goes n v)) (sym (instance_abs 0 us a t))
      (abs_goes n (instance_at 0 us a) (instance_at 1 us t) (next_step sigma n us a) (next_step sigma (suc n) (Lp.free n ∷ us) t) r
      (next_goes n us a (abs_domain r)) (next_goes (suc n) (Lp.free n ∷ us) t (abs_body r)))
  next_goes n us (Lp.prod a t) s =
      let r : IsScoped n 0 (Lp.prod (instance_at 0 us a) (instance_at 1 us t)) = subst (λ v. IsScoped n 0 v) (instance_prod 0 us a t) s in
      subst (λ v. IfSome (next_step sigma n us (Lp.prod a t)) (Goes n v)) (sym (instance_prod 0 us a t))
      (prod_goes n (instance_at 0 us a) (instance_at 1 us t) (next_step sigma n us a) (next_step sigma (suc n) (Lp.free n ∷ us) t) r
      (next_goes n us a (prod_domain r)) (next_goes (suc n) (Lp.free n ∷ us) t (prod_body r)))

  -- the normal form converts to the term, and is scoped too
  abbrev pub Reaches : ℕ → Lp → Lp → Type 0
  Reaches n t u = Converts sigma t u × IsScoped n 0 u

  counted_reaches : (n : ℕ) (t u : Lp) (m : Option Normal) → Goes n t u → IfSome m (λ r. Reaches n u r.form) → IfSome (option_map one_step_more m) (λ r. Reaches n t r.form)
  counted_reaches n t u (Some m) g p = (red.Converts.forth g.0 p.0, p.1)
  counted_reaches n t u None g p = tt

  after_reaches : (n : ℕ) (t : Lp) (o : Option Lp) (more : Lp → Option Normal) → IsScoped n 0 t → IfSome o (Goes n t) →
      ((u : Lp) → IsScoped n 0 u → IfSome (more u) (λ r. Reaches n u r.form)) → IfSome (after_step t o more) (λ r. Reaches n t r.form)
  after_reaches n t None more s g f = (red.Converts.same, s)
  after_reaches n t (Some u) more s g f = counted_reaches n t u (more u) g (f u g.1)

  pub normal_reaches : (n limit : ℕ) (t : Lp) → IsScoped n 0 t → IfSome (normal sigma n limit t) (λ r. Reaches n t r.form)
  normal_reaches n zero t s = after_reaches n t (next_step sigma n [] t) (λ u. None) s (next_goes n [] t s) (λ u h. tt)
  normal_reaches n (suc limit) t s = after_reaches n t (next_step sigma n [] t) (λ u. normal sigma n limit u) s (next_goes n [] t s) (λ u h. normal_reaches n limit u h)
