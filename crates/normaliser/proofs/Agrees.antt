-- The next step is the leftmost innermost step of the relation, and there is none exactly in normal form.
use Rattle.std.proofs.Common.{ℕ, ◌≡◌, ◌+◌, ◌≤◌, max, zero, suc, refl, ap, sym, ◌∙◌, subst, arith, List, [], ◌∷◌, Option, Some, None}
use Rattle.std.specs.List.{Contains}
use Rattle.zm_logic.specs.Tree.{Ty, Term, Terms, Form, Opening, Side, Rule}
use Rattle.zm_logic.specs.Opening.{open_at, at_term, at_type, close}
use Rattle.zm_logic.specs.Parameter.{IsFresh}
use Rattle.zm_logic.specs.Index.{IsClosedTerm, AreClosedTerms, IsClosed}
use Rattle.zm_logic.specs.Rewriting.{Rewrites, RewritesBySome, TermStep, TermsStep, Step}
use Rattle.zm_logic.specs.Innermost.{FirstRewrites, IsNormalTerm, AreNormalTerms, IsNormal, HasNormalParts, InnermostTermStep, InnermostTermsStep, InnermostStep}
use Rattle.zm_logic.proofs.Each.{some_fresh, some_fresh_both}
use Rattle.zm_logic.proofs.Opened.{by_eps, by_param, close_at_eps, close_at_param}
use Rattle.zm_logic.proofs.Innermost.{innermost_step}
use Rattle.rule_index.specs.Instance.{put}
use Rattle.rule_index.specs.Matching.{match_side, put_some, rewrite, or_else, first_rewrite}
use Rattle.normaliser.specs.NextStep.{under, as_term, as_form, root_term, root_form, next_term, next_terms, next_step}
use Rattle.rule_index.specs.Usable.{AreSides, IsUsable, AreUsable}
use Rattle.rule_index.proofs.Matched.{match_is_sound}
use Rattle.normaliser.proofs.Fresh.{next_step_opened}
use Rattle.normaliser.proofs.KeepsFresh.{step_is_fresh}
use Rattle.rule_index.proofs.Redex.{rewrites_is, first_is, is_first}
use Rattle.rule_index.proofs.Scope.{IsScoped, IsScopedType, scoped_is_closed, scoped_type_is_closed, scoped_at_eps, scoped_at_param}

-- the number of formulas on the longest way down, which opening leaves alone
abbrev pub height : Form → ℕ
height Form.truth = 1
height Form.falsity = 1
height (Form.atom p ts us) = 1
height (Form.equal t a b) = 1
height (Form.negation f) = 1 + height f
height (Form.binary c f g) = 1 + max (height f) (height g)
height (Form.quantified q t f) = 1 + height f
height (Form.quantified_types q f) = 1 + height f

pub height_opened : (k : ℕ) (o : Opening) (f : Form) → height (open_at k o f) ≡ height f
height_opened k o Form.truth = refl
height_opened k o Form.falsity = refl
height_opened k o (Form.atom p ts us) = refl
height_opened k o (Form.equal t a b) = refl
height_opened k o (Form.negation f) = cc (height_opened k o f)
height_opened k o (Form.binary c f g) = cc (height_opened k o f, height_opened k o g)
height_opened k o (Form.quantified q t f) = cc (height_opened (k + 1) o f)
height_opened k o (Form.quantified_types q f) = cc (height_opened (k + 1) o f)

pub positive : (f : Form) → height f ≤ zero → ⊥
positive Form.truth l = omega arith
positive Form.falsity l = omega arith
positive (Form.atom p ts us) l = omega arith
positive (Form.equal t a b) l = omega arith
positive (Form.negation f) l = omega arith
positive (Form.binary c f g) l = omega arith
positive (Form.quantified q t f) l = omega arith
positive (Form.quantified_types q f) l = omega arith

abbrev IsSomething : {A : Type 0} → Option A → Type 0
IsSomething None = ⊥
IsSomething (Some a) = Unit {0}

-- some rule at the place: the first that fits makes something of it, of the same sort
some_fits : (rules : List Rule) → AreUsable rules → (x y : Side) (r : Rule) → Contains rules r → Rewrites r x y → IsSomething (first_rewrite rules x)
some_fits [] ok x y r (k, l, e) w = absurd (omega arith)
some_fits (s ∷ rules) ok x y r (zero, l, e) w = let z = rewrites_is s ok.0 x y (subst (λ q. Rewrites q x y) (sym e) w) in rw z tt
some_fits (s ∷ rules) ok x y r (suc k, l, e) w = go (rewrite s x) (some_fits rules ok.1 x y r (k, omega arith, e) w)
  where
    go : (m : Option Side) → IsSomething (first_rewrite rules x) → IsSomething (or_else m (first_rewrite rules x))
    go None h = h
    go (Some z) h = tt

-- what becomes of a side is of its sort, and a term is an application
abbrev IsSort : Side → Side → Type 0
IsSort (Side.of_term (Term.app f ts us)) (Side.of_term b) = Unit {0}
IsSort (Side.of_form f) (Side.of_form g) = Unit {0}
IsSort _ _ = ⊥

sort_of : (left right x y : Side) (os : List Opening) → AreSides left right → put os left ≡ x → put os right ≡ y → IsSort x y
sort_of (Side.of_term (Term.app f ts us)) (Side.of_term b) x y os h e d = subst (λ z. IsSort z y) e (subst (IsSort (put os (Side.of_term (Term.app f ts us)))) d tt)
sort_of (Side.of_form f) (Side.of_form g) x y os h e d = subst (λ z. IsSort z y) e (subst (IsSort (put os (Side.of_form f))) d tt)
sort_of (Side.of_term (Term.bound i)) y' x y os h e d = absurd h
sort_of (Side.of_term (Term.eps n t)) y' x y os h e d = absurd h
sort_of (Side.of_term (Term.meta n t)) y' x y os h e d = absurd h
sort_of (Side.of_term (Term.app f ts us)) (Side.of_form g) x y os h e d = absurd h
sort_of (Side.of_form f) (Side.of_term g) x y os h e d = absurd h

rewrite_sort : (r : Rule) → IsUsable r → (x y : Side) → rewrite r x ≡ Some y → IsSort x y
rewrite_sort r ok x y e = go (match_side r.binders r.left x) refl e
  where
    go : (m : Option (List Opening)) → match_side r.binders r.left x ≡ m → put_some r.right m ≡ Some y → IsSort x y
    go None d e = cc
    go (Some os) d e = let is : put os r.right ≡ y = cc in sort_of r.left r.right x y os ok.sides (match_is_sound r.binders r.left x os d).instance is

first_sort : (rules : List Rule) → AreUsable rules → (x y : Side) → first_rewrite rules x ≡ Some y → IsSort x y
first_sort [] ok x y e = cc
first_sort (r ∷ rules) ok x y e = go (λ e. first_sort rules ok.1 x y e) (rewrite r x) refl e
  where
    go : (first_rewrite rules x ≡ Some y → IsSort x y) → (m : Option Side) → rewrite r x ≡ m → or_else m (first_rewrite rules x) ≡ Some y → IsSort x y
    go ih None d e = ih e
    go ih (Some z) d e = rewrite_sort r ok.0 x y (d ∙ e)

first_is_some : {rules : List Rule} {x y : Side} → FirstRewrites rules x y → RewritesBySome rules x y
first_is_some (FirstRewrites.first {r = r} h) = (r, (0, omega arith, refl), h)
first_is_some (FirstRewrites.later n h) = let x = first_is_some h in (x.0, (suc x.1.0, omega arith, x.1.2), x.2)

module _ (rules : List Rule) (ok : AreUsable rules) where
  root_term_is : (a b : Term) → root_term rules a ≡ Some b → first_rewrite rules (Side.of_term a) ≡ Some (Side.of_term b)
  root_term_is a b e = go (first_rewrite rules (Side.of_term a)) e
    where
      go : (m : Option Side) → as_term m ≡ Some b → m ≡ Some (Side.of_term b)
      go None e = cc
      go (Some (Side.of_term c)) e = cc
      go (Some (Side.of_form c)) e = cc

  root_form_is : (f g : Form) → root_form rules f ≡ Some g → first_rewrite rules (Side.of_form f) ≡ Some (Side.of_form g)
  root_form_is f g e = go (first_rewrite rules (Side.of_form f)) e
    where
      go : (m : Option Side) → as_form m ≡ Some g → m ≡ Some (Side.of_form g)
      go None e = cc
      go (Some (Side.of_term c)) e = cc
      go (Some (Side.of_form c)) e = cc

  -- where some rule fits, there is a next step
  root_of_term : (a : Term) → IsSomething (first_rewrite rules (Side.of_term a)) → IsSomething (next_term rules a)
  root_of_term a h = go a (first_rewrite rules (Side.of_term a)) refl h
    where
      go : (a : Term) (m : Option Side) → first_rewrite rules (Side.of_term a) ≡ m → IsSomething m → IsSomething (next_term rules a)
      go a None e h = absurd h
      go a (Some (Side.of_form g)) e h = absurd (wrong a g (first_sort rules ok (Side.of_term a) (Side.of_form g) e))
        where
          wrong : (a : Term) (g : Form) → IsSort (Side.of_term a) (Side.of_form g) → ⊥
          wrong (Term.bound i) g h = h
          wrong (Term.eps n t) g h = h
          wrong (Term.meta n t) g h = h
          wrong (Term.app f ts us) g h = h
      go (Term.bound i) (Some (Side.of_term b)) e h = absurd (first_sort rules ok (Side.of_term (Term.bound i)) (Side.of_term b) e)
      go (Term.eps n t) (Some (Side.of_term b)) e h = absurd (first_sort rules ok (Side.of_term (Term.eps n t)) (Side.of_term b) e)
      go (Term.meta n t) (Some (Side.of_term b)) e h = absurd (first_sort rules ok (Side.of_term (Term.meta n t)) (Side.of_term b) e)
      go (Term.app f ts us) (Some (Side.of_term b)) e h = rw e (inner (next_terms rules us))
        where
          inner : (m : Option Terms) → IsSomething (or_else (under (Term.app f ts) m) (Some b))
          inner None = tt
          inner (Some vs) = tt

  later : {A : Type 0} (m : Option A) (y : Option A) → IsSomething y → IsSomething (or_else m y)
  later None y h = h
  later (Some a) y h = tt

  earlier : {A : Type 0} (m : Option A) (y : Option A) → IsSomething m → IsSomething (or_else m y)
  earlier None y h = absurd h
  earlier (Some a) y h = tt

  inside : {A B : Type 0} (g : A → B) (m : Option A) → IsSomething m → IsSomething (under g m)
  inside g None h = absurd h
  inside g (Some a) h = tt

  outside : {A B : Type 0} (g : A → B) (m : Option A) → IsSomething (under g m) → IsSomething m
  outside g None h = absurd h
  outside g (Some a) h = tt

  root_of_form : (f : Form) → IsSomething (first_rewrite rules (Side.of_form f)) → IsSomething (root_form rules f)
  root_of_form f h = go (first_rewrite rules (Side.of_form f)) refl h
    where
      go : (m : Option Side) → first_rewrite rules (Side.of_form f) ≡ m → IsSomething m → IsSomething (as_form m)
      go None e h = absurd h
      go (Some (Side.of_term b)) e h = absurd (first_sort rules ok (Side.of_form f) (Side.of_term b) e)
      go (Some (Side.of_form g)) e h = tt

  at_root : (f : Form) → IsSomething (root_form rules f) → IsSomething (next_step rules f)
  at_root Form.truth h = h
  at_root Form.falsity h = h
  at_root (Form.atom p ts us) h = later (under (Form.atom p ts) (next_terms rules us)) (root_form rules (Form.atom p ts us)) h
  at_root (Form.equal t a b) h =
      later (under (λ c. Form.equal t c b) (next_term rules a)) (or_else (under (Form.equal t a) (next_term rules b)) (root_form rules (Form.equal t a b)))
      (later (under (Form.equal t a) (next_term rules b)) (root_form rules (Form.equal t a b)) h)
  at_root (Form.negation f) h = later (under Form.negation (next_step rules f)) (root_form rules (Form.negation f)) h
  at_root (Form.binary c f g) h =
      later (under (λ k. Form.binary c k g) (next_step rules f)) (or_else (under (Form.binary c f) (next_step rules g)) (root_form rules (Form.binary c f g)))
      (later (under (Form.binary c f) (next_step rules g)) (root_form rules (Form.binary c f g)) h)
  at_root (Form.quantified q t f) h = later (under (Form.quantified q t) (next_step rules f)) (root_form rules (Form.quantified q t f)) h
  at_root (Form.quantified_types q f) h = later (under (Form.quantified_types q) (next_step rules f)) (root_form rules (Form.quantified_types q f)) h

  -- where a step leads on, there is a next step
  mutual
    term_has_next : {a b : Term} → TermStep rules a b → IsSomething (next_term rules a)
    term_has_next (TermStep.here {t = t} {u = u} (r, has, w)) = root_of_term t (some_fits rules ok (Side.of_term t) (Side.of_term u) r has w)
    term_has_next (TermStep.argument {f = f} {ts = ts} {us = us} h) =
        earlier (under (Term.app f ts) (next_terms rules us)) (root_term rules (Term.app f ts us)) (inside (Term.app f ts) (next_terms rules us) (terms_have_next h))

    terms_have_next : {us vs : Terms} → TermsStep rules us vs → IsSomething (next_terms rules us)
    terms_have_next (TermsStep.first {t = t} {us = us} h) =
        earlier (under (λ v. Terms.more v us) (next_term rules t)) (under (Terms.more t) (next_terms rules us)) (inside (λ v. Terms.more v us) (next_term rules t) (term_has_next h))
    terms_have_next (TermsStep.later {t = t} {us = us} h) =
        later (under (λ v. Terms.more v us) (next_term rules t)) (under (Terms.more t) (next_terms rules us)) (inside (Terms.more t) (next_terms rules us) (terms_have_next h))

  opened_eps : (n : ℕ) (t : Ty) (f : Form) → IsFresh n f → IsScopedType [] t → next_step rules (at_term f (Term.eps n t)) ≡ under (λ g. at_term g (Term.eps n t)) (next_step rules f)
  opened_eps n t f fresh c = next_step_opened n (Opening.of_term (Term.eps n t)) (scoped_type_is_closed t c) (by_eps n t) tt rules ok 0 f fresh

  opened_param : (n : ℕ) (f : Form) → IsFresh n f → next_step rules (at_type f (Ty.param n)) ≡ under (λ g. at_type g (Ty.param n)) (next_step rules f)
  opened_param n f fresh = next_step_opened n (Opening.of_type (Ty.param n)) tt (by_param n) tt rules ok 0 f fresh

  has_next : {f g : Form} → Step rules f g → IsScoped [] f → IsSomething (next_step rules f)
  has_next (Step.here {f = f} {g = g} (r, has, w)) c = at_root f (root_of_form f (some_fits rules ok (Side.of_form f) (Side.of_form g) r has w))
  has_next (Step.atom {p = p} {ts = ts} {us = us} h) c =
      earlier (under (Form.atom p ts) (next_terms rules us)) (root_form rules (Form.atom p ts us)) (inside (Form.atom p ts) (next_terms rules us) (terms_have_next h))
  has_next (Step.equal_left {t = t} {a = a} {c = b} h) c =
      earlier (under (λ x. Form.equal t x b) (next_term rules a)) (or_else (under (Form.equal t a) (next_term rules b)) (root_form rules (Form.equal t a b)))
      (inside (λ x. Form.equal t x b) (next_term rules a) (term_has_next h))
  has_next (Step.equal_right {t = t} {a = a} {b = b} h) c =
      later (under (λ x. Form.equal t x b) (next_term rules a)) (or_else (under (Form.equal t a) (next_term rules b)) (root_form rules (Form.equal t a b)))
      (earlier (under (Form.equal t a) (next_term rules b)) (root_form rules (Form.equal t a b)) (inside (Form.equal t a) (next_term rules b) (term_has_next h)))
  has_next (Step.negation {f = f} h) c = earlier (under Form.negation (next_step rules f)) (root_form rules (Form.negation f)) (inside Form.negation (next_step rules f) (has_next h c))
  has_next (Step.binary_left {c = x} {f = f} {h = g} h) c =
      earlier (under (λ k. Form.binary x k g) (next_step rules f)) (or_else (under (Form.binary x f) (next_step rules g)) (root_form rules (Form.binary x f g)))
      (inside (λ k. Form.binary x k g) (next_step rules f) (has_next h c.0))
  has_next (Step.binary_right {c = x} {f = f} {g = g} h) c =
      later (under (λ k. Form.binary x k g) (next_step rules f)) (or_else (under (Form.binary x f) (next_step rules g)) (root_form rules (Form.binary x f g)))
      (earlier (under (Form.binary x f) (next_step rules g)) (root_form rules (Form.binary x f g)) (inside (Form.binary x f) (next_step rules g) (has_next h c.1)))
  has_next (Step.quantified {q = q} {t = t} {f = f} n x y h) c =
      earlier (under (Form.quantified q t) (next_step rules f)) (root_form rules (Form.quantified q t f))
      (inside (Form.quantified q t) (next_step rules f)
      (outside (λ g. at_term g (Term.eps n t)) (next_step rules f) (subst IsSomething (opened_eps n t f x.1 c.0) (has_next h (scoped_at_eps n t f c.0 c.1)))))
  has_next (Step.quantified_types {q = q} {f = f} n x y h) c =
      earlier (under (Form.quantified_types q) (next_step rules f)) (root_form rules (Form.quantified_types q f))
      (inside (Form.quantified_types q) (next_step rules f)
      (outside (λ g. at_type g (Ty.param n)) (next_step rules f) (subst IsSomething (opened_param n f x) (has_next h (scoped_at_param n f c)))))

  pub none_is_normal : (f : Form) → IsScoped [] f → next_step rules f ≡ None → IsNormal rules f
  none_is_normal f c e g h = subst IsSomething e (has_next h c)

  none_is_normal_term : (a : Term) → next_term rules a ≡ None → IsNormalTerm rules a
  none_is_normal_term a e b h = subst IsSomething e (term_has_next h)

  none_are_normal : (us : Terms) → next_terms rules us ≡ None → AreNormalTerms rules us
  none_are_normal us e vs h = subst IsSomething e (terms_have_next h)

  -- the two answers of a pair of places
  module _ {A B : Type 0} (g : A → B) (P : Type 0) (b : B) where
    two : (m : Option A) (y : Option B) → ((a : A) → m ≡ Some a → g a ≡ b → P) → (m ≡ None → y ≡ Some b → P) → or_else (under g m) y ≡ Some b → P
    two None y f h e = h refl e
    two (Some a) y f h e = f a refl cc

    last : (m : Option A) → ((a : A) → m ≡ Some a → g a ≡ b → P) → under g m ≡ Some b → P
    last None f e = cc
    last (Some a) f e = f a refl cc

  mutual
    pub next_term_is : (a b : Term) → IsClosedTerm 0 a → next_term rules a ≡ Some b → InnermostTermStep rules a b
    next_term_is (Term.bound i) b c e = cc
    next_term_is (Term.eps n t) b c e = cc
    next_term_is (Term.meta n t) b c e = cc
    next_term_is (Term.app f ts us) b c e =
        two (Term.app f ts) (InnermostTermStep rules (Term.app f ts us) b) b (next_terms rules us) (root_term rules (Term.app f ts us))
        (λ vs m is. subst (InnermostTermStep rules (Term.app f ts us)) is (InnermostTermStep.argument (next_terms_are us vs c.1 m)))
        (λ m r. InnermostTermStep.here (none_are_normal us m) (first_is rules ok (Side.of_term (Term.app f ts us)) (Side.of_term b) c (root_term_is (Term.app f ts us) b r))) e

    next_terms_are : (us vs : Terms) → AreClosedTerms 0 us → next_terms rules us ≡ Some vs → InnermostTermsStep rules us vs
    next_terms_are Terms.none vs c e = cc
    next_terms_are (Terms.more a us) vs c e =
        two (λ v. Terms.more v us) (InnermostTermsStep rules (Terms.more a us) vs) vs (next_term rules a) (under (Terms.more a) (next_terms rules us))
        (λ v m is. subst (InnermostTermsStep rules (Terms.more a us)) is (InnermostTermsStep.first (next_term_is a v c.0 m)))
        (λ m r. last (Terms.more a) (InnermostTermsStep rules (Terms.more a us) vs) vs (next_terms rules us)
        (λ ws w is. subst (InnermostTermsStep rules (Terms.more a us)) is (InnermostTermsStep.later (none_is_normal_term a m) (next_terms_are us ws c.1 w))) r) e

  -- the number of formulas on the longest way down, which opening leaves alone
  pub next_is : (h : ℕ) (f g : Form) → height f ≤ h → IsScoped [] f → next_step rules f ≡ Some g → InnermostStep rules f g
  next_is zero f g l c e = absurd (positive f l)
  next_is (suc h) Form.truth g l c e = InnermostStep.here tt (first_is rules ok (Side.of_form Form.truth) (Side.of_form g) tt (root_form_is Form.truth g e))
  next_is (suc h) Form.falsity g l c e = InnermostStep.here tt (first_is rules ok (Side.of_form Form.falsity) (Side.of_form g) tt (root_form_is Form.falsity g e))
  next_is (suc h) (Form.atom p ts us) g l c e =
      let x : Form = Form.atom p ts us in
      let k : IsClosed 0 (Form.atom p ts us) = scoped_is_closed x c in
      two (Form.atom p ts) (InnermostStep rules (Form.atom p ts us) g) g (next_terms rules us) (root_form rules x)
      (λ vs m is. subst (InnermostStep rules (Form.atom p ts us)) is (InnermostStep.atom (next_terms_are us vs k.1 m)))
      (λ m r. InnermostStep.here (none_are_normal us m) (first_is rules ok (Side.of_form x) (Side.of_form g) k (root_form_is x g r))) e
  next_is (suc h) (Form.equal t a b) g l c e =
      let x : Form = Form.equal t a b in
      let k : IsClosed 0 (Form.equal t a b) = scoped_is_closed x c in
      two (λ z. Form.equal t z b) (InnermostStep rules (Form.equal t a b) g) g (next_term rules a) (or_else (under (Form.equal t a) (next_term rules b)) (root_form rules x))
      (λ v m is. subst (InnermostStep rules (Form.equal t a b)) is (InnermostStep.equal_left (next_term_is a v k.1 m)))
      (λ m r. two (Form.equal t a) (InnermostStep rules (Form.equal t a b) g) g (next_term rules b) (root_form rules x)
      (λ v n is. subst (InnermostStep rules (Form.equal t a b)) is (InnermostStep.equal_right (none_is_normal_term a m) (next_term_is b v k.2 n)))
      (λ n s. InnermostStep.here (none_is_normal_term a m, none_is_normal_term b n) (first_is rules ok (Side.of_form x) (Side.of_form g) k (root_form_is x g s))) r) e
  next_is (suc h) (Form.negation f) g l c e =
      let x : Form = Form.negation f in
      two Form.negation (InnermostStep rules (Form.negation f) g) g (next_step rules f) (root_form rules x)
      (λ v m is. subst (InnermostStep rules (Form.negation f)) is (InnermostStep.negation (next_is h f v (omega arith) c m)))
      (λ m r. InnermostStep.here (none_is_normal f c m) (first_is rules ok (Side.of_form x) (Side.of_form g) (scoped_is_closed x c) (root_form_is x g r))) e
  next_is (suc h) (Form.binary o a b) g l c e =
      let x : Form = Form.binary o a b in
      two (λ z. Form.binary o z b) (InnermostStep rules (Form.binary o a b) g) g (next_step rules a) (or_else (under (Form.binary o a) (next_step rules b)) (root_form rules x))
      (λ v m is. subst (InnermostStep rules (Form.binary o a b)) is (InnermostStep.binary_left (next_is h a v (omega arith) c.0 m)))
      (λ m r. two (Form.binary o a) (InnermostStep rules (Form.binary o a b) g) g (next_step rules b) (root_form rules x)
      (λ v n is. subst (InnermostStep rules (Form.binary o a b)) is (InnermostStep.binary_right (none_is_normal a c.0 m) (next_is h b v (omega arith) c.1 n)))
      (λ n s. InnermostStep.here (none_is_normal a c.0 m, none_is_normal b c.1 n) (first_is rules ok (Side.of_form x) (Side.of_form g) (scoped_is_closed x c) (root_form_is x g s))) r) e
  next_is (suc h) (Form.quantified q t f) g l c e =
      let x : Form = Form.quantified q t f in
      two (Form.quantified q t) (InnermostStep rules (Form.quantified q t f) g) g (next_step rules f) (root_form rules x)
      (λ v m is.
      let n = some_fresh_both (Form.quantified q t f) (Form.quantified q t v) in
      let ih = next_is h (at_term f (Term.eps n.0 t)) (at_term v (Term.eps n.0 t)) (let y : height (at_term f (Term.eps n.0 t)) ≡ height f = height_opened 0 (Opening.of_term (Term.eps n.0 t)) f in omega arith)
      (scoped_at_eps n.0 t f c.0 c.1) (opened_eps n.0 t f n.1.1 c.0 ∙ ap (under (λ g. at_term g (Term.eps n.0 t))) m) in
      subst (InnermostStep rules (Form.quantified q t f)) is (InnermostStep.quantified n.0 n.1 n.2 ih))
      (λ m r. InnermostStep.here (λ n fresh. none_is_normal (at_term f (Term.eps n t)) (scoped_at_eps n t f c.0 c.1) (opened_eps n t f fresh.1 c.0 ∙ ap (under (λ g. at_term g (Term.eps n t))) m))
      (first_is rules ok (Side.of_form x) (Side.of_form g) (scoped_is_closed x c) (root_form_is x g r))) e
  next_is (suc h) (Form.quantified_types q f) g l c e =
      let x : Form = (Form.quantified_types q) f in
      two (Form.quantified_types q) (InnermostStep rules (Form.quantified_types q f) g) g (next_step rules f) (root_form rules x)
      (λ v m is.
      let n = some_fresh_both (Form.quantified_types q f) (Form.quantified_types q v) in
      let ih = next_is h (at_type f (Ty.param n.0)) (at_type v (Ty.param n.0)) (let y : height (at_type f (Ty.param n.0)) ≡ height f = height_opened 0 (Opening.of_type (Ty.param n.0)) f in omega arith)
      (scoped_at_param n.0 f c) (opened_param n.0 f n.1 ∙ ap (under (λ g. at_type g (Ty.param n.0))) m) in
      subst (InnermostStep rules (Form.quantified_types q f)) is (InnermostStep.quantified_types n.0 n.1 n.2 ih))
      (λ m r. InnermostStep.here (λ n fresh. none_is_normal (at_type f (Ty.param n)) (scoped_at_param n f c) (opened_param n f fresh ∙ ap (under (λ g. at_type g (Ty.param n))) m))
      (first_is rules ok (Side.of_form x) (Side.of_form g) (scoped_is_closed x c) (root_form_is x g r))) e

  pub next_step_is : (f g : Form) → IsScoped [] f → next_step rules f ≡ Some g → InnermostStep rules f g
  next_step_is f g c e = next_is (height f) f g (omega arith) c e

  pub normal_is_none : (f : Form) → IsScoped [] f → IsNormal rules f → next_step rules f ≡ None
  normal_is_none f c h = go (next_step rules f) refl
    where
      go : (m : Option Form) → next_step rules f ≡ m → next_step rules f ≡ None
      go None e = e
      go (Some g) e = absurd (h g (innermost_step rules (next_step_is f g c e)))

  mutual
    step_of_term : {a b : Term} → InnermostTermStep rules a b → TermStep rules a b
    step_of_term (InnermostTermStep.here {f = f} {ts = ts} {us = us} {v = v} n h) = TermStep.here (first_is_some h)
    step_of_term (InnermostTermStep.argument h) = TermStep.argument (step_of_terms h)

    step_of_terms : {us vs : Terms} → InnermostTermsStep rules us vs → TermsStep rules us vs
    step_of_terms (InnermostTermsStep.first h) = TermsStep.first (step_of_term h)
    step_of_terms (InnermostTermsStep.later n h) = TermsStep.later (step_of_terms h)

  normal_term_is_none : (a : Term) → IsClosedTerm 0 a → IsNormalTerm rules a → next_term rules a ≡ None
  normal_term_is_none a c h = go (next_term rules a) refl
    where
      go : (m : Option Term) → next_term rules a ≡ m → next_term rules a ≡ None
      go None e = e
      go (Some b) e = absurd (h b (step_of_term (next_term_is a b c e)))

  normal_terms_are_none : (us : Terms) → AreClosedTerms 0 us → AreNormalTerms rules us → next_terms rules us ≡ None
  normal_terms_are_none us c h = go (next_terms rules us) refl
    where
      go : (m : Option Terms) → next_terms rules us ≡ m → next_terms rules us ≡ None
      go None e = e
      go (Some b) e = absurd (h b (step_of_terms (next_terms_are us b c e)))

  -- the step of the relation is the next step
  mutual
    term_step_is_next : {a b : Term} → InnermostTermStep rules a b → IsClosedTerm 0 a → next_term rules a ≡ Some b
    term_step_is_next (InnermostTermStep.here {f = f} {ts = ts} {us = us} {v = v} n h) c =
        rw (normal_terms_are_none us c.1 n) (ap as_term (is_first ok c h))
    term_step_is_next (InnermostTermStep.argument {us = us} h) c = rw (terms_step_is_next h c.1)

    terms_step_is_next : {us vs : Terms} → InnermostTermsStep rules us vs → AreClosedTerms 0 us → next_terms rules us ≡ Some vs
    terms_step_is_next (InnermostTermsStep.first h) c = rw (term_step_is_next h c.0)
    terms_step_is_next (InnermostTermsStep.later {t = t} n h) c = rw (normal_term_is_none t c.0 n, terms_step_is_next h c.1)

  -- under a quantifier: opened steps agree, so the bodies do
  same_body_eps : (n : ℕ) (t : Ty) (f g : Form) → IsFresh n f → IsFresh n g → IsScopedType [] t → next_step rules (at_term f (Term.eps n t)) ≡ Some (at_term g (Term.eps n t))
      → next_step rules f ≡ Some g
  same_body_eps n t f g x y c e = go (next_step rules f) refl (sym (opened_eps n t f x c) ∙ e)
    where
      go : (m : Option Form) → next_step rules f ≡ m → under (λ z. at_term z (Term.eps n t)) m ≡ Some (at_term g (Term.eps n t)) → next_step rules f ≡ Some g
      go None d e = cc
      go (Some v) d e =
          let same : at_term v (Term.eps n t) ≡ at_term g (Term.eps n t) = cc in
          d ∙ ap Some (sym (close_at_eps v n t (step_is_fresh n rules ok f v x d)) ∙ ap (λ z. close z n) same ∙ close_at_eps g n t y)

  same_body_param : (n : ℕ) (f g : Form) → IsFresh n f → IsFresh n g → next_step rules (at_type f (Ty.param n)) ≡ Some (at_type g (Ty.param n))
      → next_step rules f ≡ Some g
  same_body_param n f g x y e = go (next_step rules f) refl (sym (opened_param n f x) ∙ e)
    where
      go : (m : Option Form) → next_step rules f ≡ m → under (λ z. at_type z (Ty.param n)) m ≡ Some (at_type g (Ty.param n)) → next_step rules f ≡ Some g
      go None d e = cc
      go (Some v) d e =
          let same : at_type v (Ty.param n) ≡ at_type g (Ty.param n) = cc in
          d ∙ ap Some (sym (close_at_param v n (step_is_fresh n rules ok f v x d)) ∙ ap (λ z. close z n) same ∙ close_at_param g n y)

  normal_body_eps : (t : Ty) (f : Form) (n : ℕ) → IsFresh n f → IsScopedType [] t → IsNormal rules (at_term f (Term.eps n t)) → IsScoped [] (at_term f (Term.eps n t)) → next_step rules f ≡ None
  normal_body_eps t f n x c h k = go (next_step rules f) refl (sym (opened_eps n t f x c) ∙ normal_is_none (at_term f (Term.eps n t)) k h)
    where
      go : (m : Option Form) → next_step rules f ≡ m → under (λ z. at_term z (Term.eps n t)) m ≡ None → next_step rules f ≡ None
      go None d e = d
      go (Some v) d e = cc

  normal_body_param : (f : Form) (n : ℕ) → IsFresh n f → IsNormal rules (at_type f (Ty.param n)) → IsScoped [] (at_type f (Ty.param n)) → next_step rules f ≡ None
  normal_body_param f n x h k = go (next_step rules f) refl (sym (opened_param n f x) ∙ normal_is_none (at_type f (Ty.param n)) k h)
    where
      go : (m : Option Form) → next_step rules f ≡ m → under (λ z. at_type z (Ty.param n)) m ≡ None → next_step rules f ≡ None
      go None d e = d
      go (Some v) d e = cc

  root_is_next : (f g : Form) → IsScoped [] f → HasNormalParts rules f → FirstRewrites rules (Side.of_form f) (Side.of_form g) → next_step rules f ≡ Some g
  root_is_next f g c n h = go f c n (ap as_form (is_first ok (scoped_is_closed f c) h))
    where
      go : (f : Form) → IsScoped [] f → HasNormalParts rules f → root_form rules f ≡ Some g → next_step rules f ≡ Some g
      go Form.truth c n e = e
      go Form.falsity c n e = e
      go (Form.atom p ts us) c n e = let k : IsClosed 0 (Form.atom p ts us) = scoped_is_closed (Form.atom p ts us) c in rw (normal_terms_are_none us k.1 n) e
      go (Form.equal t a b) c n e =
          let k : IsClosed 0 (Form.equal t a b) = scoped_is_closed (Form.equal t a b) c in
          rw (normal_term_is_none a k.1 n.0, normal_term_is_none b k.2 n.1) e
      go (Form.negation f) c n e = rw (normal_is_none f c n) e
      go (Form.binary x f g) c n e = rw (normal_is_none f c.0 n.0, normal_is_none g c.1 n.1) e
      go (Form.quantified q t f) c n e =
          let m = some_fresh (Form.quantified q t f) in
          rw (normal_body_eps t f m.0 m.1.1 c.0 (n m.0 m.1) (scoped_at_eps m.0 t f c.0 c.1)) e
      go (Form.quantified_types q f) c n e =
          let m = some_fresh (Form.quantified_types q f) in
          rw (normal_body_param f m.0 m.1 (n m.0 m.1) (scoped_at_param m.0 f c)) e

  pub step_is_next : {f g : Form} → InnermostStep rules f g → IsScoped [] f → next_step rules f ≡ Some g
  step_is_next (InnermostStep.here {f = f} {g = g} n h) c = root_is_next f g c n h
  step_is_next (InnermostStep.atom {p = p} {ts = ts} {us = us} h) c = let k : IsClosed 0 (Form.atom p ts us) = scoped_is_closed (Form.atom p ts us) c in rw (terms_step_is_next h k.1)
  step_is_next (InnermostStep.equal_left {t = t} {a = a} {c = b} h) c =
      let k : IsClosed 0 (Form.equal t a b) = scoped_is_closed (Form.equal t a b) c in rw (term_step_is_next h k.1)
  step_is_next (InnermostStep.equal_right {t = t} {a = a} {b = b} n h) c =
      let k : IsClosed 0 (Form.equal t a b) = scoped_is_closed (Form.equal t a b) c in rw (normal_term_is_none a k.1 n, term_step_is_next h k.2)
  step_is_next (InnermostStep.negation h) c = rw (step_is_next h c)
  step_is_next (InnermostStep.binary_left h) c = rw (step_is_next h c.0)
  step_is_next (InnermostStep.binary_right {f = f} n h) c = rw (normal_is_none f c.0 n, step_is_next h c.1)
  step_is_next (InnermostStep.quantified {t = t} {f = f} {g = g} n x y h) c =
      rw (same_body_eps n t f g x.1 y.1 c.0 (step_is_next h (scoped_at_eps n t f c.0 c.1)))
  step_is_next (InnermostStep.quantified_types {q = q} {f = f} {g = g} n x y h) c =
      rw (same_body_param n f g x y (step_is_next h (scoped_at_param n f c)))
