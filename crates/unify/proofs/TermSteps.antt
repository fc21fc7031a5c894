-- What a task on two terms comes to.
use Rattle.std.proofs.Common.{ℕ, ◌≡◌, ◌≢◌, List, [], ◌∷◌, ◌++◌, length, append-nil, append_assoc, refl, ap, sym, subst, ◌∙◌, arith}
use Rattle.zm_logic.specs.Tree.{Ty, Term, Terms}
use Rattle.zm_logic.specs.Measure.{term_depth}
use Rattle.term_store.specs.Node.{types_at, terms_at, TermsBelow}
use Rattle.term_store.specs.Trees.{Tables, all_trees, HasType, HasTerm, type_of, term_of}
use Rattle.term_store.specs.declared.ids.TyId.{TyId}
use Rattle.term_store.specs.declared.ids.TermId.{TermId}
use Rattle.unify.specs.Substitution.{Substitution, put_types, put_term, put_terms}
use Rattle.unify.specs.Equation.{Equation, TypeParts, TermParts}
use Rattle.unify.specs.Binding as trees
use Rattle.unify.specs.Binding.{solved_term, head_term}
use Rattle.unify.specs.Solution.{Agrees}
use Rattle.unify.specs.Unification.{LacksTermMeta, Binds, Splits, Unifies}
use Rattle.unify.specs.Pending.{Each, AllAsked, IsMarked}
use Rattle.unify.specs.View.{latest}
use Rattle.unify.specs.Occurs.{TermLacks}
use Rattle.unify.specs.Task.{type_tasks, term_tasks, marks, HasTask, equations, pending, AsksTask, GivesTask, IsState, GivesWay, MakesBinding, Clash, SplitsTerms, TermsDiffer}
use Rattle.unify.specs.declared.binding.Binding.{Binding}
use Rattle.unify.specs.declared.binding.Binding.TheVariants.{OfTerm}
use Rattle.unify.specs.declared.task.Task.{Task}
use Rattle.unify.specs.declared.task.Task.TheVariants as tasks
use Rattle.unify.specs.declared.task.Known.{Known}
use Rattle.unify.proofs.Solved.{head_solved_term, unbound_term, head_unbound_term}
use Rattle.unify.proofs.General.{put_head_term}
use Rattle.unify.proofs.Inverted.{no_outcome}
use Rattle.unify.proofs.TaskLists.{pending_more, marks_more}
use Rattle.unify.proofs.Waiting.{each_both, asked_first, asked_last}
use Rattle.unify.proofs.StepsAny.{goes_solved, goes_bound, goes_split}
use Rattle.unify.proofs.TypeSteps.{type_parts_of, type_tasks_marks, type_tasks_put, type_tasks_unmarked, type_tasks_have, unmarked, sides_of}

-- the tasks of two lists
pub term_parts_of : (s : Tables) (es : List Equation) (is js : List TermId) → length is ≡ length js
    → TermParts (terms_at (all_trees s).terms is) (terms_at (all_trees s).terms js) es (pending s es (term_tasks is js))
term_parts_of s es [] [] h = TermParts.none
term_parts_of s es [] (j ∷ js) h = absurd (omega arith)
term_parts_of s es (i ∷ is) [] h = absurd (omega arith)
term_parts_of s es (i ∷ is) (j ∷ js) h =
    subst (λ fs. TermParts (terms_at (all_trees s).terms (i ∷ is)) (terms_at (all_trees s).terms (j ∷ js)) es fs)
    (sym (pending_more s es (term_tasks is js) (tasks.Terms i j ∷ []))) (TermParts.more (term_parts_of s es is js (omega arith)))

pub term_tasks_marks : (is js : List TermId) → marks (term_tasks is js) ≡ 0
term_tasks_marks [] js = refl
term_tasks_marks (i ∷ is) [] = refl
term_tasks_marks (i ∷ is) (j ∷ js) = marks_more (term_tasks is js) (tasks.Terms i j ∷ []) ∙ omega (arith, term_tasks_marks is js)

-- two lists of equal trees have one length
pub term_parts_lengths : (s : Tables) {ss ts : Terms} {rest all : List Equation} → TermParts ss ts rest all → (is js : List TermId)
    → ss ≡ terms_at (all_trees s).terms is → ts ≡ terms_at (all_trees s).terms js → length is ≡ length js
term_parts_lengths s (TermParts.none) [] [] e f = refl
term_parts_lengths s (TermParts.none) [] (j ∷ js) e f = absurd (cc)
term_parts_lengths s (TermParts.none) (i ∷ is) js e f = absurd (cc)
term_parts_lengths s (TermParts.more p) [] js e f = absurd (cc)
term_parts_lengths s (TermParts.more p) (i ∷ is) [] e f = absurd (cc)
term_parts_lengths s (TermParts.more p) (i ∷ is) (j ∷ js) e f = let n = term_parts_lengths s p is js (cc) (cc) in omega (arith, n)

pub term_tasks_put : (s : Tables) (bs : List trees.Binding) (a : (x : Substitution) × Agrees x bs) (is js : List TermId) → length is ≡ length js
    → AllAsked (AsksTask s bs) (GivesTask s bs) a (term_tasks is js)
    → put_terms a.0 (terms_at (all_trees s).terms is) ≡ put_terms a.0 (terms_at (all_trees s).terms js)
term_tasks_put s bs a [] [] h k = refl
term_tasks_put s bs a [] (j ∷ js) h k = absurd (omega arith)
term_tasks_put s bs a (i ∷ is) [] h k = absurd (omega arith)
term_tasks_put s bs a (i ∷ is) (j ∷ js) h k =
    let A = AsksTask s bs in let G = GivesTask s bs in
    let p = (asked_last A G a (term_tasks is js) (tasks.Terms i j ∷ []) k).0 in
    let q = term_tasks_put s bs a is js (omega arith) (asked_first A G a (term_tasks is js) (tasks.Terms i j ∷ []) k) in cc

term_tasks_unmarked : (s : Tables) (bs : List trees.Binding) (is js : List TermId)
    → Each (λ z. (a : (x : Substitution) × Agrees x bs) → GivesTask s bs a z) (term_tasks is js)
term_tasks_unmarked s bs [] js = tt
term_tasks_unmarked s bs (i ∷ is) [] = tt
term_tasks_unmarked s bs (i ∷ is) (j ∷ js) =
    each_both (λ z. (a : (x : Substitution) × Agrees x bs) → GivesTask s bs a z) (term_tasks is js) (tasks.Terms i j ∷ []) (term_tasks_unmarked s bs is js) ((λ a. tt), tt)

pub term_tasks_have : (s : Tables) (is js : List TermId) → TermsBelow (length s.terms) is → TermsBelow (length s.terms) js → Each (HasTask s) (term_tasks is js)
term_tasks_have s [] js h k = tt
term_tasks_have s (i ∷ is) [] h k = tt
term_tasks_have s (i ∷ is) (j ∷ js) h k =
    each_both (HasTask s) (term_tasks is js) (tasks.Terms i j ∷ []) (term_tasks_have s is js h.1 k.1) ((h.0, k.0), tt)

module _ (s : Tables) (made : List Binding) (known : Known) (rest : List Task) (i j left right : TermId)
    (l : IsState s made known (rest ++ tasks.Terms i j ∷ [])) (p : term_of s left ≡ head_term (latest s made) (term_of s i))
    (q : term_of s right ≡ head_term (latest s made) (term_of s j)) where
  abbrev bs : List trees.Binding
  bs = latest s made

  abbrev e : Equation
  e = Equation.of_terms (term_of s i) (term_of s j)

  is : equations s (rest ++ tasks.Terms i j ∷ []) ≡ e ∷ equations s rest
  is = pending_more s [] rest (tasks.Terms i j ∷ [])

  left_is : solved_term bs (term_of s left) ≡ solved_term bs (term_of s i)
  left_is = ap (solved_term bs) p ∙ head_solved_term bs l.lawful (term_of s i)

  right_is : solved_term bs (term_of s right) ≡ solved_term bs (term_of s j)
  right_is = ap (solved_term bs) q ∙ head_solved_term bs l.lawful (term_of s j)

  pub terms_equal : solved_term bs (term_of s left) ≡ solved_term bs (term_of s right) → GivesWay s made (rest ++ tasks.Terms i j ∷ []) known rest
  terms_equal h = goes_solved s made known rest (tasks.Terms i j) e is refl l (λ a z. z) (sym left_is ∙ h ∙ right_is)

  pub terms_bind_left : (m : ℕ) (t : TyId) → HasType s t × HasTerm s right → term_of s left ≡ Term.meta m (type_of s t) → TermLacks s bs m (type_of s t) right
      → MakesBinding s made (rest ++ tasks.Terms i j ∷ []) (OfTerm m t right) known rest
  terms_bind_left m t has f o =
      let k = type_of s t in
      let x : head_term bs (term_of s i) ≡ Term.meta m k = sym p ∙ f in
      let o' : LacksTermMeta m k (solved_term bs (term_of s j)) = subst (LacksTermMeta m k) right_is o in
      goes_bound s made known rest (tasks.Terms i j) e is refl l (λ a z. z) (OfTerm m t right) has
      (λ y. subst (LacksTermMeta m k) (ap (solved_term bs) (q ∙ sym y ∙ x) ∙ unbound_term bs m k (head_unbound_term bs l.lawful (term_of s i) m k x)) o refl)
      (subst (λ u. Binds bs e (trees.Binding.of_term m k u)) (sym q) (Binds.left_term x o'))

  pub terms_bind_right : (m : ℕ) (t : TyId) → HasType s t × HasTerm s left → ((n : ℕ) (k : Ty) → term_of s left ≢ Term.meta n k) → term_of s right ≡ Term.meta m (type_of s t)
      → TermLacks s bs m (type_of s t) left → MakesBinding s made (rest ++ tasks.Terms i j ∷ []) (OfTerm m t left) known rest
  terms_bind_right m t has n f o =
      let k = type_of s t in
      let x : head_term bs (term_of s j) ≡ Term.meta m k = sym q ∙ f in
      let o' : LacksTermMeta m k (solved_term bs (term_of s i)) = subst (LacksTermMeta m k) left_is o in
      goes_bound s made known rest (tasks.Terms i j) e is refl l (λ a z. z) (OfTerm m t left) has
      (λ y. n m k (p ∙ y ∙ x))
      (subst (λ u. Binds bs e (trees.Binding.of_term m k u)) (sym p) (Binds.right_term (λ h g z. n h g (p ∙ z)) x o'))

  clash_by : term_of s left ≢ term_of s right → ((b : trees.Binding) → Binds bs e b → ⊥) → ((all : List Equation) → Splits bs e (equations s rest) all → ⊥)
      → Clash s made (rest ++ tasks.Terms i j ∷ [])
  clash_by d f g all u =
      no_outcome bs e (equations s rest) (λ y. d (p ∙ y ∙ sym q)) f g all (subst (λ fs. Unifies bs fs all) is u)

  pub terms_clash_left : (m : ℕ) (k : Ty) → term_of s left ≢ term_of s right → term_of s left ≡ Term.meta m k → (TermLacks s bs m k right → ⊥) → Clash s made (rest ++ tasks.Terms i j ∷ [])
  terms_clash_left m k d f o = clash_by d binds splits
    where
      binds : (b : trees.Binding) → Binds bs e b → ⊥
      binds b (Binds.left_term {m = n} {k = h} x z) =
          let y : Term.meta n h ≡ Term.meta m k = sym x ∙ sym p ∙ f in
          let u : n ≡ m = cc in let v : h ≡ k = cc in
          o (subst (LacksTermMeta m k) (sym right_is) (subst (λ g. LacksTermMeta m g (solved_term bs (term_of s j))) v (subst (λ g. LacksTermMeta g h (solved_term bs (term_of s j))) u z)))
      binds b (Binds.right_term n x z) = n m k (sym p ∙ f)

      splits : (all : List Equation) → Splits bs e (equations s rest) all → ⊥
      splits all (Splits.terms x y z w) = cc

  pub terms_clash_right : (m : ℕ) (k : Ty) → term_of s left ≢ term_of s right → ((n : ℕ) (h : Ty) → term_of s left ≢ Term.meta n h) → term_of s right ≡ Term.meta m k → (TermLacks s bs m k left → ⊥)
      → Clash s made (rest ++ tasks.Terms i j ∷ [])
  terms_clash_right m k d n f o = clash_by d binds splits
    where
      binds : (b : trees.Binding) → Binds bs e b → ⊥
      binds b (Binds.left_term {m = g} {k = h} x z) = n g h (p ∙ x)
      binds b (Binds.right_term {m = g} {k = h} w x z) =
          let y : Term.meta g h ≡ Term.meta m k = sym x ∙ sym q ∙ f in
          let u : g ≡ m = cc in let v : h ≡ k = cc in
          o (subst (LacksTermMeta m k) (sym left_is) (subst (λ c. LacksTermMeta m c (solved_term bs (term_of s i))) v (subst (λ c. LacksTermMeta c h (solved_term bs (term_of s i))) u z)))

      splits : (all : List Equation) → Splits bs e (equations s rest) all → ⊥
      splits all (Splits.terms x y z w) = cc

  pub terms_clash : term_of s left ≢ term_of s right → ((n : ℕ) (h : Ty) → term_of s left ≢ Term.meta n h) → ((n : ℕ) (h : Ty) → term_of s right ≢ Term.meta n h) → TermsDiffer s left right
      → Clash s made (rest ++ tasks.Terms i j ∷ [])
  terms_clash d n k o = clash_by d binds splits
    where
      binds : (b : trees.Binding) → Binds bs e b → ⊥
      binds b (Binds.left_term {m = g} {k = h} x z) = n g h (p ∙ x)
      binds b (Binds.right_term {m = g} {k = h} w x z) = k g h (q ∙ x)

      splits : (all : List Equation) → Splits bs e (equations s rest) all → ⊥
      splits all (Splits.terms {f = f} {ss = ss} {ts = ts} {us = us} {vs = vs} {middle = middle} x y z w) = o f ss ts us vs (equations s rest) middle all (p ∙ x) (q ∙ y) z w

  pub terms_split : (after : List Task) → term_of s left ≢ term_of s right → HasTerm s left → HasTerm s right → SplitsTerms s left right rest after
      → GivesWay s made (rest ++ tasks.Terms i j ∷ []) known after
  terms_split after d a b z =
      let ss = z.left_types in let ts = z.right_types in let us = z.left_parts in let vs = z.right_parts in
      let inner : List Task = term_tasks us vs ++ type_tasks ss ts in
      let more : List Task = tasks.TermsDone left right ∷ inner in
      let middle = pending s (equations s rest) (term_tasks us vs) in
      let q1 = term_parts_of s (equations s rest) us vs z.parts.terms in
      let q2 = subst (TypeParts (types_at (all_trees s).types ss) (types_at (all_trees s).types ts) middle) (sym (pending_more s (equations s rest) (term_tasks us vs) (type_tasks ss ts)))
      (type_parts_of s middle ss ts z.parts.types) in
      let A = AsksTask s bs in let G = GivesTask s bs in
      let equal = λ (x : (y : Substitution) × Agrees y bs) (k : AllAsked A G x inner).
      ap (put_term x.0) z.left_is
      ∙ ap (λ r. Term.app z.symbol r (put_terms x.0 (terms_at (all_trees s).terms us))) (type_tasks_put s bs x ss ts z.parts.types (asked_last A G x (term_tasks us vs) (type_tasks ss ts) k))
      ∙ ap (λ r. Term.app z.symbol (put_types x.0 (types_at (all_trees s).types ts)) r) (term_tasks_put s bs x us vs z.parts.terms (asked_first A G x (term_tasks us vs) (type_tasks ss ts) k))
      ∙ sym (ap (put_term x.0) z.right_is) in
      let left_depth = ap term_depth z.left_is in let right_depth = ap term_depth z.right_is in
      let marked = subst (IsMarked A G) (append-nil inner)
      (unmarked s bs inner [] (each_both (λ w. (x : (y : Substitution) × Agrees y bs) → GivesTask s bs x w) (term_tasks us vs) (type_tasks ss ts) (term_tasks_unmarked s bs us vs) (type_tasks_unmarked s bs ss ts)) tt) in
      goes_split s made known rest (tasks.Terms i j) e is refl l more after (z.parts.grown ∙ append_assoc rest (tasks.TermsDone left right ∷ []) inner) (λ y. d (p ∙ y ∙ sym q))
      (Splits.terms (sym p ∙ z.left_is) (sym q ∙ z.right_is) q1 q2)
      (let x = marks_more (term_tasks us vs) (type_tasks ss ts) in let y = term_tasks_marks us vs in let w = type_tasks_marks ss ts in omega (arith, x, y, w))
      (λ x k. sym (put_head_term x.0 bs l.lawful x.1 (term_of s i)) ∙ ap (put_term x.0) (sym p) ∙ equal x k.1 ∙ ap (put_term x.0) q ∙ put_head_term x.0 bs l.lawful x.1 (term_of s j))
      ((λ x k. equal x k), marked) (
        (a, b),
        each_both (HasTask s) (term_tasks us vs) (type_tasks ss ts) (term_tasks_have s us vs z.left_below z.right_below)
            (type_tasks_have s ss ts (sides_of s ss z.left_types_below (omega (arith, z.left_bounded, left_depth))) (sides_of s ts z.right_types_below (omega (arith, z.right_bounded, right_depth)))),
      )
