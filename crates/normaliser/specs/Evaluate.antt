-- The normal form by parts: the parts of a tree first, in order, then its root, then what it becomes, again.
use Rattle.std.specs.Prelude.{ℕ, zero, suc, ◌+◌, ◌-◌, max, leb, if◌then◌else◌, List, Option, Some, None}
use Rattle.zm_logic.specs.Tree.{Term, Terms, Form, Rule}
use Rattle.zm_logic.specs.Measure.{type_depth, types_depth, term_depth, terms_depth, depth}
use Rattle.normaliser.specs.NextStep.{root_term, root_form}
use Rattle.normaliser.specs.NormalForm.{Answer}

-- an answer with the greatest depth on the way
pub data Found (A : Type 0) : Type 0 where
  reached : (normal : A) (steps greatest : ℕ) → Found A
  spent : Found A
  deep : (at : A) → Found A

abbrev pub answer : {A : Type 0} → Found A → Answer A
answer (Found.reached g n m) = Answer.reached g n
answer Found.spent = Answer.spent
answer (Found.deep p) = Answer.deep p

-- after n steps, the deepest tree of which has depth m
abbrev pub after : {A : Type 0} → ℕ → ℕ → Found A → Found A
after n m (Found.reached g k j) = Found.reached g (n + k) (max m j)
after n m Found.spent = Found.spent
after n m (Found.deep p) = Found.deep p

-- the answer for a whole from that for a part: it goes on where the part has its normal form, with the steps left
abbrev pub continue : {A B : Type 0} → ℕ → (A → B) → (ℕ → ℕ) → Found A → (A → ℕ → Found B) → Found B
continue limit whole raise (Found.reached g n m) rest = after n (raise m) (rest g (limit - n))
continue limit whole raise Found.spent rest = Found.spent
continue limit whole raise (Found.deep p) rest = Found.deep (whole p)

-- the answer for a tree with normal parts, from what its root becomes
abbrev pub at_root : {A : Type 0} → (A → ℕ) → (ℕ → A → Found A) → ℕ → ℕ → A → Option A → Found A
at_root deepness again bound limit f None = Found.reached f 0 (deepness f)
at_root deepness again bound zero f (Some g) = Found.spent
at_root deepness again bound (suc limit) f (Some g) = if leb (deepness g) bound then after 1 (deepness f) (again limit g) else Found.deep f

module _ (rules : List Rule) where
  -- by the answers for what roots become
  module _ (again : ℕ → ℕ → Term → Found Term) where
    abbrev mutual
      pub term_parts : Term → ℕ → ℕ → Found Term
      term_parts (Term.bound i) bound limit = Found.reached (Term.bound i) 0 1
      term_parts (Term.eps n t) bound limit = Found.reached (Term.eps n t) 0 (1 + type_depth t)
      term_parts (Term.meta n t) bound limit = Found.reached (Term.meta n t) 0 (1 + type_depth t)
      term_parts (Term.app f ts us) bound limit =
          continue limit (Term.app f ts) (λ m. 1 + max (types_depth ts) m) (terms_parts us (bound - 1) limit)
          (λ vs left. at_root term_depth (again bound) bound left (Term.app f ts vs) (root_term rules (Term.app f ts vs)))

      pub terms_parts : Terms → ℕ → ℕ → Found Terms
      terms_parts Terms.none bound limit = Found.reached Terms.none 0 0
      terms_parts (Terms.more u us) bound limit =
          continue limit (λ v. Terms.more v us) (λ m. max m (terms_depth us)) (term_parts u bound limit)
          (λ v left. continue left (Terms.more v) (λ m. max (term_depth v) m) (terms_parts us bound left)
          (λ vs rest. Found.reached (Terms.more v vs) 0 (max (term_depth v) (terms_depth vs))))

  -- with fuel for as many steps as the limit has
  abbrev pub term_form : ℕ → ℕ → ℕ → Term → Found Term
  term_form zero bound limit a = term_parts (λ bound limit a. Found.spent) a bound limit
  term_form (suc fuel) bound limit a = term_parts (λ bound limit a. term_form fuel bound limit a) a bound limit

  abbrev pub terms_form : ℕ → ℕ → ℕ → Terms → Found Terms
  terms_form zero bound limit us = terms_parts (λ bound limit a. Found.spent) us bound limit
  terms_form (suc fuel) bound limit us = terms_parts (λ bound limit a. term_form fuel bound limit a) us bound limit

  module _ (term : ℕ → ℕ → Term → Found Term) (terms : ℕ → ℕ → Terms → Found Terms) (again : ℕ → ℕ → Form → Found Form) where
    abbrev pub root : ℕ → ℕ → Form → Found Form
    root bound left f = at_root depth (again bound) bound left f (root_form rules f)

    abbrev pub form_parts : Form → ℕ → ℕ → Found Form
    form_parts Form.truth bound limit = root bound limit Form.truth
    form_parts Form.falsity bound limit = root bound limit Form.falsity
    form_parts (Form.atom p ts us) bound limit =
        continue limit (Form.atom p ts) (λ m. 1 + max (types_depth ts) m) (terms (bound - 1) limit us) (λ vs left. root bound left (Form.atom p ts vs))
    form_parts (Form.equal t a b) bound limit =
        continue limit (λ c. Form.equal t c b) (λ m. 1 + max (type_depth t) (max m (term_depth b))) (term (bound - 1) limit a)
        (λ c left. continue left (Form.equal t c) (λ m. 1 + max (type_depth t) (max (term_depth c) m)) (term (bound - 1) left b)
        (λ d rest. root bound rest (Form.equal t c d)))
    form_parts (Form.negation f) bound limit =
        continue limit Form.negation (λ m. 1 + m) (form_parts f (bound - 1) limit) (λ g left. root bound left (Form.negation g))
    form_parts (Form.binary c f g) bound limit =
        continue limit (λ h. Form.binary c h g) (λ m. 1 + max m (depth g)) (form_parts f (bound - 1) limit)
        (λ h left. continue left (Form.binary c h) (λ m. 1 + max (depth h) m) (form_parts g (bound - 1) left)
        (λ k rest. root bound rest (Form.binary c h k)))
    form_parts (Form.quantified q t f) bound limit =
        continue limit (Form.quantified q t) (λ m. 1 + max (type_depth t) m) (form_parts f (bound - 1) limit) (λ g left. root bound left (Form.quantified q t g))
    form_parts (Form.quantified_types q f) bound limit =
        continue limit (Form.quantified_types q) (λ m. 1 + m) (form_parts f (bound - 1) limit) (λ g left. root bound left (Form.quantified_types q g))

  abbrev pub form_form : ℕ → ℕ → ℕ → Form → Found Form
  form_form zero bound limit f = form_parts (term_form zero) (terms_form zero) (λ bound limit f. Found.spent) f bound limit
  form_form (suc fuel) bound limit f = form_parts (term_form (suc fuel)) (terms_form (suc fuel)) (λ bound limit f. form_form fuel bound limit f) f bound limit

  -- the answer for a formula
  abbrev pub by_parts : ℕ → Form → Answer Form
  by_parts limit f = answer (form_form limit 2000 limit f)
