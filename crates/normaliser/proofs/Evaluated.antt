-- The normal form by parts answers as the steps one by one do.
use Rattle.std.proofs.Common.{ℕ, zero, suc, ◌≡◌, ◌+◌, ◌-◌, ◌<◌, ◌≤◌, max, leb, Bool, true, false, if◌then◌else◌, refl, subst, arith, List, Option, Some, None}
use Rattle.std.proofs.lemmas.Bool.{leb-true, leb-false}
use Rattle.zm_logic.specs.Tree.{Term, Terms, Form, Rule}
use Rattle.zm_logic.specs.Measure.{type_depth, types_depth, term_depth, terms_depth, depth}
use Rattle.normaliser.specs.NextStep.{root_term, root_form, next_term, next_terms, next_step}
use Rattle.normaliser.specs.NormalForm.{Answer, Runs, Outcome, normal_form}
use Rattle.normaliser.specs.Evaluate.{Found, answer, after, continue, at_root, term_parts, terms_parts, term_form, terms_form, root, form_parts, form_form, by_parts}
use Rattle.normaliser.proofs.Outcomes.{run_ends, after_step, outcome_is_run, joined_runs, after_run, wider_run, IsEntry, entry_answers, run_of_whole, spent_of_whole, deep_of_whole}

-- what an answer with the greatest depth says
abbrev pub Says : {A : Type 0} → (A → Option A) → (A → ℕ) → ℕ → ℕ → A → Found A → Type 0
Says next deepness bound limit f (Found.reached g n m) = IsEntry next deepness f g n m × (n ≤ limit) × (m ≤ bound)
Says next deepness bound limit f Found.spent = Outcome next deepness bound limit f Answer.spent
Says next deepness bound limit f (Found.deep p) = Outcome next deepness bound limit f (Answer.deep p)

pub says_outcome : {A : Type 0} (next : A → Option A) (deepness : A → ℕ) (bound limit : ℕ) (f : A) (x : Found A) → Says next deepness bound limit f x
    → Outcome next deepness bound limit f (answer x)
says_outcome next deepness bound limit f (Found.reached g n m) s = entry_answers next deepness bound limit f g n m s.0 s.1 s.2
says_outcome next deepness bound limit f Found.spent s = s
says_outcome next deepness bound limit f (Found.deep p) s = s

pub says_after : {A : Type 0} (next : A → Option A) (deepness : A → ℕ) (bound limit : ℕ) {f g : A} {n m : ℕ} → Runs next deepness m f n g → n ≤ limit → m ≤ bound → (x : Found A)
    → Says next deepness bound (limit - n) g x → Says next deepness bound limit f (after n m x)
says_after next deepness bound limit {f} {g} {n} {m} r l b (Found.reached h k j) s = (
  record {
    runs = joined_runs next deepness (max m j) (wider_run next deepness m (max m j) (omega arith) r) (wider_run next deepness j (max m j) (omega arith) s.0.runs);
    normal = s.0.normal;
  },
  (let y = s.1 in omega arith),
  (let y = s.2 in omega arith),
)
says_after next deepness bound limit {f} {g} {n} {m} r l b Found.spent s = after_run next deepness bound (wider_run next deepness m bound b r) l s
says_after next deepness bound limit {f} {g} {n} {m} r l b (Found.deep p) s = after_run next deepness bound (wider_run next deepness m bound b r) l s

-- a part and its whole
module _ {A B : Type 0} (next : A → Option A) (deepness : A → ℕ) (bound : ℕ) (next_of : B → Option B) (deepness_of : B → ℕ) (bound_of : ℕ) (whole : A → B) (raise : ℕ → ℕ)
    (steps : (f g : A) → next f ≡ Some g → next_of (whole f) ≡ Some (whole g))
    (within : (m : ℕ) (f : A) → deepness f ≤ m → deepness_of (whole f) ≤ raise m)
    (raised : (m : ℕ) → m ≤ bound → raise m ≤ bound_of)
    (beyond : (f : A) → bound < deepness f → bound_of < deepness_of (whole f)) where
  into : (f : A) → deepness f ≤ bound → deepness_of (whole f) ≤ bound_of
  into f l = let x = within bound f l in let y = raised bound (omega arith) in omega arith

  pub says_continue : (limit : ℕ) (f : A) (x : Found A) (rest : A → ℕ → Found B) → Says next deepness bound limit f x
      → ((g : A) (left : ℕ) → left ≤ limit → next g ≡ None → deepness g ≤ bound → Says next_of deepness_of bound_of left (whole g) (rest g left))
      → Says next_of deepness_of bound_of limit (whole f) (continue limit whole raise x rest)
  says_continue limit f (Found.reached g n m) rest s k =
      says_after next_of deepness_of bound_of limit
      (run_of_whole next deepness m next_of deepness_of (raise m) whole steps (within m) s.0.runs) s.1 (raised m s.2) (rest g (limit - n))
      (k g (limit - n) (omega arith) s.0.normal (let y = run_ends next deepness m s.0.runs in let z = s.2 in omega arith))
  says_continue limit f Found.spent rest s k = spent_of_whole next deepness bound next_of deepness_of bound_of whole steps into limit f s
  says_continue limit f (Found.deep p) rest s k = deep_of_whole next deepness bound next_of deepness_of bound_of whole steps into limit f p beyond s

-- a tree with normal parts
pub says_at_root : {A : Type 0} (next : A → Option A) (deepness : A → ℕ) (again : ℕ → A → Found A) (bound limit : ℕ) (f : A) (m : Option A)
    → deepness f ≤ bound → next f ≡ m
    → ((left : ℕ) (g : A) → left < limit → deepness g ≤ bound → Says next deepness bound left g (again left g))
    → Says next deepness bound limit f (at_root deepness again bound limit f m)
says_at_root next deepness again bound limit f None l e k = (record { runs = Runs.done (omega arith); normal = e }, omega arith, l)
says_at_root next deepness again bound zero f (Some g) l e k = Outcome.spent (Runs.done l) e
says_at_root next deepness again bound (suc limit) f (Some g) l e k = test (leb (deepness g) bound) refl
  where
    once : deepness g ≤ bound → (x : Found _) → Says next deepness bound limit g x → Says next deepness bound (suc limit) f (after 1 (deepness f) x)
    once d (Found.reached h n m) s =
        let r = wider_run next deepness m (max (deepness f) m) (omega arith) s.0.runs in
        let one : suc n ≡ 1 + n = omega arith in (
          record { runs = subst (λ j. Runs next deepness (max (deepness f) m) f j h) one (Runs.step (omega arith) e r); normal = s.0.normal },
          (let y = s.1 in omega arith),
          (let y = s.2 in omega arith),
        )
    once d Found.spent s = after_step next deepness bound l e s
    once d (Found.deep p) s = after_step next deepness bound l e s

    test : (b : Bool) → leb (deepness g) bound ≡ b → Says next deepness bound (suc limit) f (if b then after 1 (deepness f) (again limit g) else Found.deep f)
    test true x = once (leb-true (deepness g) bound x) (again limit g) (k limit g (omega arith) (leb-true (deepness g) bound x))
    test false x = Outcome.deep (Runs.done l) (omega arith) e (leb-false (deepness g) bound x)

module _ (rules : List Rule) where
  -- the answers for what roots become, with fewer than so many steps left
  abbrev IsGoodTerm : ℕ → (ℕ → ℕ → Term → Found Term) → Type 0
  IsGoodTerm fuel again = (bound left : ℕ) (a : Term) → left < fuel → term_depth a ≤ bound → Says (next_term rules) term_depth bound left a (again bound left a)

  abbrev IsGoodForm : ℕ → (ℕ → ℕ → Form → Found Form) → Type 0
  IsGoodForm fuel again = (bound left : ℕ) (f : Form) → left < fuel → depth f ≤ bound → Says (next_step rules) depth bound left f (again bound left f)

  module _ (fuel : ℕ) (again : ℕ → ℕ → Term → Found Term) (good : IsGoodTerm fuel again) where
    mutual
      term_parts_say : (a : Term) (bound limit : ℕ) → limit ≤ fuel → term_depth a ≤ bound → Says (next_term rules) term_depth bound limit a (term_parts rules again a bound limit)
      term_parts_say (Term.bound i) bound limit k l = (record { runs = Runs.done (omega arith); normal = refl }, omega arith, l)
      term_parts_say (Term.eps n t) bound limit k l = (record { runs = Runs.done (omega arith); normal = refl }, omega arith, l)
      term_parts_say (Term.meta n t) bound limit k l = (record { runs = Runs.done (omega arith); normal = refl }, omega arith, l)
      term_parts_say (Term.app f ts us) bound limit k l =
          says_continue (next_terms rules) terms_depth (bound - 1) (next_term rules) term_depth bound (Term.app f ts) (λ m. 1 + max (types_depth ts) m)
          (λ x y e. rw e) (λ m x h. omega arith) (λ m h. omega arith) (λ x h. omega arith)
          limit us (terms_parts rules again us (bound - 1) limit) (λ vs left. at_root term_depth (again bound) bound left (Term.app f ts vs) (root_term rules (Term.app f ts vs)))
          (terms_parts_say us (bound - 1) limit k (omega arith))
          (λ vs left h e d. says_at_root (next_term rules) term_depth (again bound) bound left (Term.app f ts vs) (root_term rules (Term.app f ts vs)) (omega arith) (rw e)
          (λ j g i c. good bound j g (omega arith) c))

      terms_parts_say : (us : Terms) (bound limit : ℕ) → limit ≤ fuel → terms_depth us ≤ bound → Says (next_terms rules) terms_depth bound limit us (terms_parts rules again us bound limit)
      terms_parts_say Terms.none bound limit k l = (record { runs = Runs.done (omega arith); normal = refl }, omega arith, omega arith)
      terms_parts_say (Terms.more u us) bound limit k l =
          says_continue (next_term rules) term_depth bound (next_terms rules) terms_depth bound (λ v. Terms.more v us) (λ m. max m (terms_depth us))
          (λ x y e. rw e) (λ m x h. omega arith) (λ m h. omega arith) (λ x h. omega arith)
          limit u (term_parts rules again u bound limit)
          (λ v left. continue left (Terms.more v) (λ m. max (term_depth v) m) (terms_parts rules again us bound left)
          (λ vs rest. Found.reached (Terms.more v vs) 0 (max (term_depth v) (terms_depth vs))))
          (term_parts_say u bound limit k (omega arith))
          (λ v left h e d.
          says_continue (next_terms rules) terms_depth bound (next_terms rules) terms_depth bound (Terms.more v) (λ m. max (term_depth v) m)
          (λ x y w. rw (e, w)) (λ m x i. omega arith) (λ m i. omega arith) (λ x i. omega arith)
          left us (terms_parts rules again us bound left) (λ vs rest. Found.reached (Terms.more v vs) 0 (max (term_depth v) (terms_depth vs)))
          (terms_parts_say us bound left (omega arith) (omega arith))
          (λ vs rest i w c. (record { runs = Runs.done (omega arith); normal = rw (e, w) }, omega arith, omega arith)))

  pub term_form_says : (fuel : ℕ) (bound limit : ℕ) (a : Term) → limit ≤ fuel → term_depth a ≤ bound
      → Says (next_term rules) term_depth bound limit a (term_form rules fuel bound limit a)
  term_form_says zero bound limit a k l = term_parts_say zero (λ bound limit a. Found.spent) (λ b j x i c. absurd (omega arith)) a bound limit k l
  term_form_says (suc fuel) bound limit a k l =
      term_parts_say (suc fuel) (λ bound limit a. term_form rules fuel bound limit a) (λ b j x i c. term_form_says fuel b j x (omega arith) c) a bound limit k l

  pub terms_form_says : (fuel : ℕ) (bound limit : ℕ) (us : Terms) → limit ≤ fuel → terms_depth us ≤ bound
      → Says (next_terms rules) terms_depth bound limit us (terms_form rules fuel bound limit us)
  terms_form_says zero bound limit us k l = terms_parts_say zero (λ bound limit a. Found.spent) (λ b j x i c. absurd (omega arith)) us bound limit k l
  terms_form_says (suc fuel) bound limit us k l =
      terms_parts_say (suc fuel) (λ bound limit a. term_form rules fuel bound limit a) (λ b j x i c. term_form_says fuel b j x (omega arith) c) us bound limit k l

  module _ (fuel : ℕ) (term : ℕ → ℕ → Term → Found Term) (terms : ℕ → ℕ → Terms → Found Terms) (again : ℕ → ℕ → Form → Found Form)
      (good_term : (bound limit : ℕ) (a : Term) → limit ≤ fuel → term_depth a ≤ bound → Says (next_term rules) term_depth bound limit a (term bound limit a))
      (good_terms : (bound limit : ℕ) (us : Terms) → limit ≤ fuel → terms_depth us ≤ bound → Says (next_terms rules) terms_depth bound limit us (terms bound limit us))
      (good : IsGoodForm fuel again) where
    root_says : (bound limit : ℕ) (f : Form) → limit ≤ fuel → depth f ≤ bound → next_step rules f ≡ root_form rules f
        → Says (next_step rules) depth bound limit f (root rules term terms again bound limit f)
    root_says bound limit f k l e = says_at_root (next_step rules) depth (again bound) bound limit f (root_form rules f) l e (λ j g i c. good bound j g (omega arith) c)

    form_parts_say : (f : Form) (bound limit : ℕ) → limit ≤ fuel → depth f ≤ bound → Says (next_step rules) depth bound limit f (form_parts rules term terms again f bound limit)
    form_parts_say Form.truth bound limit k l = root_says bound limit Form.truth k l refl
    form_parts_say Form.falsity bound limit k l = root_says bound limit Form.falsity k l refl
    form_parts_say (Form.atom p ts us) bound limit k l =
        says_continue (next_terms rules) terms_depth (bound - 1) (next_step rules) depth bound (Form.atom p ts) (λ m. 1 + max (types_depth ts) m)
        (λ x y e. rw e) (λ m x h. omega arith) (λ m h. omega arith) (λ x h. omega arith)
        limit us (terms (bound - 1) limit us) (λ vs left. root rules term terms again bound left (Form.atom p ts vs))
        (good_terms (bound - 1) limit us k (omega arith))
        (λ vs left h e d. root_says bound left (Form.atom p ts vs) (omega arith) (omega arith) (rw e))
    form_parts_say (Form.equal t a b) bound limit k l =
        says_continue (next_term rules) term_depth (bound - 1) (next_step rules) depth bound (λ c. Form.equal t c b) (λ m. 1 + max (type_depth t) (max m (term_depth b)))
        (λ x y e. rw e) (λ m x h. omega arith) (λ m h. omega arith) (λ x h. omega arith)
        limit a (term (bound - 1) limit a)
        (λ c left. continue left (Form.equal t c) (λ m. 1 + max (type_depth t) (max (term_depth c) m)) (term (bound - 1) left b)
        (λ d rest. root rules term terms again bound rest (Form.equal t c d)))
        (good_term (bound - 1) limit a k (omega arith))
        (λ c left h e d.
        says_continue (next_term rules) term_depth (bound - 1) (next_step rules) depth bound (Form.equal t c) (λ m. 1 + max (type_depth t) (max (term_depth c) m))
        (λ x y w. rw (e, w)) (λ m x i. omega arith) (λ m i. omega arith) (λ x i. omega arith)
        left b (term (bound - 1) left b) (λ d rest. root rules term terms again bound rest (Form.equal t c d))
        (good_term (bound - 1) left b (omega arith) (omega arith))
        (λ y rest i w z. root_says bound rest (Form.equal t c y) (omega arith) (omega arith) (rw (e, w))))
    form_parts_say (Form.negation f) bound limit k l =
        says_continue (next_step rules) depth (bound - 1) (next_step rules) depth bound Form.negation (λ m. 1 + m)
        (λ x y e. rw e) (λ m x h. omega arith) (λ m h. omega arith) (λ x h. omega arith)
        limit f (form_parts rules term terms again f (bound - 1) limit) (λ g left. root rules term terms again bound left (Form.negation g))
        (form_parts_say f (bound - 1) limit k (omega arith))
        (λ g left h e d. root_says bound left (Form.negation g) (omega arith) (omega arith) (rw e))
    form_parts_say (Form.binary c f g) bound limit k l =
        says_continue (next_step rules) depth (bound - 1) (next_step rules) depth bound (λ h. Form.binary c h g) (λ m. 1 + max m (depth g))
        (λ x y e. rw e) (λ m x h. omega arith) (λ m h. omega arith) (λ x h. omega arith)
        limit f (form_parts rules term terms again f (bound - 1) limit)
        (λ h left. continue left (Form.binary c h) (λ m. 1 + max (depth h) m) (form_parts rules term terms again g (bound - 1) left)
        (λ j rest. root rules term terms again bound rest (Form.binary c h j)))
        (form_parts_say f (bound - 1) limit k (omega arith))
        (λ h left y e d.
        says_continue (next_step rules) depth (bound - 1) (next_step rules) depth bound (Form.binary c h) (λ m. 1 + max (depth h) m)
        (λ x y w. rw (e, w)) (λ m x i. omega arith) (λ m i. omega arith) (λ x i. omega arith)
        left g (form_parts rules term terms again g (bound - 1) left) (λ j rest. root rules term terms again bound rest (Form.binary c h j))
        (form_parts_say g (bound - 1) left (omega arith) (omega arith))
        (λ j rest i w z. root_says bound rest (Form.binary c h j) (omega arith) (omega arith) (rw (e, w))))
    form_parts_say (Form.quantified q t f) bound limit k l =
        says_continue (next_step rules) depth (bound - 1) (next_step rules) depth bound (Form.quantified q t) (λ m. 1 + max (type_depth t) m)
        (λ x y e. rw e) (λ m x h. omega arith) (λ m h. omega arith) (λ x h. omega arith)
        limit f (form_parts rules term terms again f (bound - 1) limit) (λ g left. root rules term terms again bound left (Form.quantified q t g))
        (form_parts_say f (bound - 1) limit k (omega arith))
        (λ g left h e d. root_says bound left (Form.quantified q t g) (omega arith) (omega arith) (rw e))
    form_parts_say (Form.quantified_types q f) bound limit k l =
        says_continue (next_step rules) depth (bound - 1) (next_step rules) depth bound (Form.quantified_types q) (λ m. 1 + m)
        (λ x y e. rw e) (λ m x h. omega arith) (λ m h. omega arith) (λ x h. omega arith)
        limit f (form_parts rules term terms again f (bound - 1) limit) (λ g left. root rules term terms again bound left (Form.quantified_types q g))
        (form_parts_say f (bound - 1) limit k (omega arith))
        (λ g left h e d. root_says bound left (Form.quantified_types q g) (omega arith) (omega arith) (rw e))

  pub form_form_says : (fuel : ℕ) (bound limit : ℕ) (f : Form) → limit ≤ fuel → depth f ≤ bound → Says (next_step rules) depth bound limit f (form_form rules fuel bound limit f)
  form_form_says zero bound limit f k l =
      form_parts_say zero (term_form rules zero) (terms_form rules zero) (λ bound limit f. Found.spent)
      (λ b j a i c. term_form_says zero b j a i c) (λ b j us i c. terms_form_says zero b j us i c) (λ b j x i c. absurd (omega arith)) f bound limit k l
  form_form_says (suc fuel) bound limit f k l =
      form_parts_say (suc fuel) (term_form rules (suc fuel)) (terms_form rules (suc fuel)) (λ bound limit f. form_form rules fuel bound limit f)
      (λ b j a i c. term_form_says (suc fuel) b j a i c) (λ b j us i c. terms_form_says (suc fuel) b j us i c)
      (λ b j x i c. form_form_says fuel b j x (omega arith) c) f bound limit k l

  -- by parts the answer is the one that the steps give one by one
  pub by_parts_is_normal_form : (limit : ℕ) (f : Form) → depth f ≤ 2000 → by_parts rules limit f ≡ normal_form rules limit f
  by_parts_is_normal_form limit f l =
      outcome_is_run (next_step rules) depth 2000 limit f
      (says_outcome (next_step rules) depth 2000 limit f (form_form rules limit 2000 limit f) (form_form_says limit 2000 limit f (omega arith) l))
