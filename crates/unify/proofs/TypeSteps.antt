-- What a task on two types comes to.
use Rattle.std.proofs.Common.{ℕ, ◌≡◌, ◌≢◌, ◌+◌, ◌<◌, List, [], ◌∷◌, ◌++◌, length, append-nil, refl, ap, sym, subst, ◌∙◌, arith}
use Rattle.zm_logic.specs.Tree.{Ty, Tys}
use Rattle.zm_logic.specs.Measure.{type_depth, types_depth}
use Rattle.term_store.specs.Node.{types_at, TypesBelow}
use Rattle.term_store.specs.Trees.{Tables, all_trees, type_of}
use Rattle.term_store.specs.declared.ids.TyId.{TyId}
use Rattle.unify.specs.Substitution.{Substitution, put_type, put_types}
use Rattle.unify.specs.Equation.{Equation, TypeParts}
use Rattle.unify.specs.Binding as trees
use Rattle.unify.specs.Binding.{solved_type, head_type}
use Rattle.unify.specs.Solution.{Agrees}
use Rattle.unify.specs.Unification.{LacksTypeMeta, Binds, Splits, Unifies}
use Rattle.unify.specs.Pending.{Each, AllAsked, IsMarked}
use Rattle.unify.specs.View.{latest}
use Rattle.unify.specs.Occurs.{TypeLacks}
use Rattle.unify.specs.Task.{type_tasks, marks, HasSide, HasTask, equations, pending, AsksTask, GivesTask, IsState, GivesWay, MakesBinding, Clash, SplitsTypes, TypesDiffer}
use Rattle.unify.specs.declared.binding.Binding.{Binding}
use Rattle.unify.specs.declared.binding.Binding.TheVariants.{OfType}
use Rattle.unify.specs.declared.task.Task.{Task}
use Rattle.unify.specs.declared.task.Task.TheVariants.{Types, TypesDone}
use Rattle.unify.specs.declared.task.Known.{Known}
use Rattle.unify.proofs.Solved.{head_solved_type, unbound_type, head_unbound_type}
use Rattle.unify.proofs.General.{put_head_type}
use Rattle.unify.proofs.Inverted.{no_outcome}
use Rattle.unify.proofs.TaskLists.{pending_more, marks_more}
use Rattle.unify.proofs.Waiting.{each_both, asked_first, asked_last}
use Rattle.unify.proofs.StepsAny.{goes_solved, goes_bound, goes_split}

-- the tasks of two lists
pub type_parts_of : (s : Tables) (es : List Equation) (is js : List TyId) → length is ≡ length js
    → TypeParts (types_at (all_trees s).types is) (types_at (all_trees s).types js) es (pending s es (type_tasks is js))
type_parts_of s es [] [] h = TypeParts.none
type_parts_of s es [] (j ∷ js) h = absurd (omega arith)
type_parts_of s es (i ∷ is) [] h = absurd (omega arith)
type_parts_of s es (i ∷ is) (j ∷ js) h =
    subst (λ fs. TypeParts (types_at (all_trees s).types (i ∷ is)) (types_at (all_trees s).types (j ∷ js)) es fs)
    (sym (pending_more s es (type_tasks is js) (Types i j ∷ []))) (TypeParts.more (type_parts_of s es is js (omega arith)))

pub type_tasks_marks : (is js : List TyId) → marks (type_tasks is js) ≡ 0
type_tasks_marks [] js = refl
type_tasks_marks (i ∷ is) [] = refl
type_tasks_marks (i ∷ is) (j ∷ js) = marks_more (type_tasks is js) (Types i j ∷ []) ∙ omega (arith, type_tasks_marks is js)

-- two lists of equal trees have one length
pub type_parts_lengths : (s : Tables) {ss ts : Tys} {rest all : List Equation} → TypeParts ss ts rest all → (is js : List TyId)
    → ss ≡ types_at (all_trees s).types is → ts ≡ types_at (all_trees s).types js → length is ≡ length js
type_parts_lengths s (TypeParts.none) [] [] e f = refl
type_parts_lengths s (TypeParts.none) [] (j ∷ js) e f = absurd (cc)
type_parts_lengths s (TypeParts.none) (i ∷ is) js e f = absurd (cc)
type_parts_lengths s (TypeParts.more p) [] js e f = absurd (cc)
type_parts_lengths s (TypeParts.more p) (i ∷ is) [] e f = absurd (cc)
type_parts_lengths s (TypeParts.more p) (i ∷ is) (j ∷ js) e f = let n = type_parts_lengths s p is js (cc) (cc) in omega (arith, n)

module _ (s : Tables) (bs : List trees.Binding) where
  pub type_tasks_put : (a : (x : Substitution) × Agrees x bs) (is js : List TyId) → length is ≡ length js
      → AllAsked (AsksTask s bs) (GivesTask s bs) a (type_tasks is js)
      → put_types a.0 (types_at (all_trees s).types is) ≡ put_types a.0 (types_at (all_trees s).types js)
  type_tasks_put a [] [] h k = refl
  type_tasks_put a [] (j ∷ js) h k = absurd (omega arith)
  type_tasks_put a (i ∷ is) [] h k = absurd (omega arith)
  type_tasks_put a (i ∷ is) (j ∷ js) h k =
      let A = AsksTask s bs in let G = GivesTask s bs in
      let p = (asked_last A G a (type_tasks is js) (Types i j ∷ []) k).0 in
      let q = type_tasks_put a is js (omega arith) (asked_first A G a (type_tasks is js) (Types i j ∷ []) k) in cc

-- tasks without marks are marked rightly
pub unmarked : (s : Tables) (bs : List trees.Binding) (xs ys : List Task) → Each (λ z. (a : (x : Substitution) × Agrees x bs) → GivesTask s bs a z) xs
    → IsMarked (AsksTask s bs) (GivesTask s bs) ys → IsMarked (AsksTask s bs) (GivesTask s bs) (xs ++ ys)
unmarked s bs [] ys h k = k
unmarked s bs (x ∷ xs) ys h k = ((λ a z. h.0 a), unmarked s bs xs ys h.1 k)

pub type_tasks_unmarked : (s : Tables) (bs : List trees.Binding) (is js : List TyId)
    → Each (λ z. (a : (x : Substitution) × Agrees x bs) → GivesTask s bs a z) (type_tasks is js)
type_tasks_unmarked s bs [] js = tt
type_tasks_unmarked s bs (i ∷ is) [] = tt
type_tasks_unmarked s bs (i ∷ is) (j ∷ js) =
    each_both (λ z. (a : (x : Substitution) × Agrees x bs) → GivesTask s bs a z) (type_tasks is js) (Types i j ∷ []) (type_tasks_unmarked s bs is js) ((λ a. tt), tt)

-- the depth of a list is that of its deepest member
pub sides_of : (s : Tables) (is : List TyId) → TypesBelow (length s.types) is → types_depth (types_at (all_trees s).types is) < 2000 → Each (HasSide s) is
sides_of s [] h d = tt
sides_of s (i ∷ is) h d = ((h.0, omega arith), sides_of s is h.1 (omega arith))

pub type_tasks_have : (s : Tables) (is js : List TyId) → Each (HasSide s) is → Each (HasSide s) js → Each (HasTask s) (type_tasks is js)
type_tasks_have s [] js h k = tt
type_tasks_have s (i ∷ is) [] h k = tt
type_tasks_have s (i ∷ is) (j ∷ js) h k =
    each_both (HasTask s) (type_tasks is js) (Types i j ∷ []) (type_tasks_have s is js h.1 k.1) ((h.0, k.0), tt)

module _ (s : Tables) (made : List Binding) (known : Known) (rest : List Task) (i j left right : TyId)
    (l : IsState s made known (rest ++ Types i j ∷ [])) (p : type_of s left ≡ head_type (latest s made) (type_of s i))
    (q : type_of s right ≡ head_type (latest s made) (type_of s j)) where
  abbrev bs : List trees.Binding
  bs = latest s made

  abbrev e : Equation
  e = Equation.of_types (type_of s i) (type_of s j)

  is : equations s (rest ++ Types i j ∷ []) ≡ e ∷ equations s rest
  is = pending_more s [] rest (Types i j ∷ [])

  left_is : solved_type bs (type_of s left) ≡ solved_type bs (type_of s i)
  left_is = ap (solved_type bs) p ∙ head_solved_type bs l.lawful (type_of s i)

  right_is : solved_type bs (type_of s right) ≡ solved_type bs (type_of s j)
  right_is = ap (solved_type bs) q ∙ head_solved_type bs l.lawful (type_of s j)

  pub types_equal : solved_type bs (type_of s left) ≡ solved_type bs (type_of s right) → GivesWay s made (rest ++ Types i j ∷ []) known rest
  types_equal h = goes_solved s made known rest (Types i j) e is refl l (λ a z. z) (sym left_is ∙ h ∙ right_is)

  pub types_bind_left : (m : ℕ) → HasSide s right → type_of s left ≡ Ty.meta m → TypeLacks s bs m right
      → MakesBinding s made (rest ++ Types i j ∷ []) (OfType m right) known rest
  types_bind_left m has f o =
      let x : head_type bs (type_of s i) ≡ Ty.meta m = sym p ∙ f in
      let o' : LacksTypeMeta m (solved_type bs (type_of s j)) = subst (LacksTypeMeta m) right_is o in
      goes_bound s made known rest (Types i j) e is refl l (λ a z. z) (OfType m right) has
      (λ y. subst (LacksTypeMeta m) (ap (solved_type bs) (q ∙ sym y ∙ x) ∙ unbound_type bs m (head_unbound_type bs l.lawful (type_of s i) m x)) o refl)
      (subst (λ t. Binds bs e (trees.Binding.of_type m t)) (sym q) (Binds.left_type x o'))

  pub types_bind_right : (m : ℕ) → HasSide s left → ((n : ℕ) → type_of s left ≢ Ty.meta n) → type_of s right ≡ Ty.meta m → TypeLacks s bs m left
      → MakesBinding s made (rest ++ Types i j ∷ []) (OfType m left) known rest
  types_bind_right m has n f o =
      let x : head_type bs (type_of s j) ≡ Ty.meta m = sym q ∙ f in
      let o' : LacksTypeMeta m (solved_type bs (type_of s i)) = subst (LacksTypeMeta m) left_is o in
      goes_bound s made known rest (Types i j) e is refl l (λ a z. z) (OfType m left) has
      (λ y. n m (p ∙ y ∙ x))
      (subst (λ t. Binds bs e (trees.Binding.of_type m t)) (sym p) (Binds.right_type (λ k z. n k (p ∙ z)) x o'))

  clash_by : type_of s left ≢ type_of s right → ((b : trees.Binding) → Binds bs e b → ⊥) → ((all : List Equation) → Splits bs e (equations s rest) all → ⊥)
      → Clash s made (rest ++ Types i j ∷ [])
  clash_by d f g all u =
      no_outcome bs e (equations s rest) (λ y. d (p ∙ y ∙ sym q)) f g all (subst (λ fs. Unifies bs fs all) is u)

  pub types_clash_left : (m : ℕ) → type_of s left ≢ type_of s right → type_of s left ≡ Ty.meta m → (TypeLacks s bs m right → ⊥) → Clash s made (rest ++ Types i j ∷ [])
  types_clash_left m d f o = clash_by d binds splits
    where
      binds : (b : trees.Binding) → Binds bs e b → ⊥
      binds b (Binds.left_type {m = n} x z) =
          let y : n ≡ m = cc in o (subst (LacksTypeMeta m) (sym right_is) (subst (λ k. LacksTypeMeta k (solved_type bs (type_of s j))) y z))
      binds b (Binds.right_type n x z) = n m (sym p ∙ f)

      splits : (all : List Equation) → Splits bs e (equations s rest) all → ⊥
      splits all (Splits.types x y z) = cc

  pub types_clash_right : (m : ℕ) → type_of s left ≢ type_of s right → ((n : ℕ) → type_of s left ≢ Ty.meta n) → type_of s right ≡ Ty.meta m → (TypeLacks s bs m left → ⊥)
      → Clash s made (rest ++ Types i j ∷ [])
  types_clash_right m d n f o = clash_by d binds splits
    where
      binds : (b : trees.Binding) → Binds bs e b → ⊥
      binds b (Binds.left_type {m = k} x z) = n k (p ∙ x)
      binds b (Binds.right_type {m = k} w x z) =
          let y : k ≡ m = cc in o (subst (LacksTypeMeta m) (sym left_is) (subst (λ h. LacksTypeMeta h (solved_type bs (type_of s i))) y z))

      splits : (all : List Equation) → Splits bs e (equations s rest) all → ⊥
      splits all (Splits.types x y z) = cc

  pub types_clash : type_of s left ≢ type_of s right → ((n : ℕ) → type_of s left ≢ Ty.meta n) → ((n : ℕ) → type_of s right ≢ Ty.meta n) → TypesDiffer s left right
      → Clash s made (rest ++ Types i j ∷ [])
  types_clash d n k o = clash_by d binds splits
    where
      binds : (b : trees.Binding) → Binds bs e b → ⊥
      binds b (Binds.left_type {m = m} x z) = n m (p ∙ x)
      binds b (Binds.right_type {m = m} w x z) = k m (q ∙ x)

      splits : (all : List Equation) → Splits bs e (equations s rest) all → ⊥
      splits all (Splits.types {c = c} {ss = ss} {ts = ts} x y z) = o c ss ts (equations s rest) all (p ∙ x) (q ∙ y) z

  pub types_split : (after : List Task) → type_of s left ≢ type_of s right → HasSide s left → HasSide s right → SplitsTypes s left right rest after
      → GivesWay s made (rest ++ Types i j ∷ []) known after
  types_split after d a b z =
      let is' = z.left_parts in let js = z.right_parts in
      let more : List Task = TypesDone left right ∷ type_tasks is' js in
      let parts = type_parts_of s (equations s rest) is' js z.lengths in
      let unmark = type_tasks_unmarked s bs is' js in
      let equal = λ (x : (y : Substitution) × Agrees y bs) (k : AllAsked (AsksTask s bs) (GivesTask s bs) x (type_tasks is' js)).
      ap (put_type x.0) z.left_is ∙ ap (Ty.con z.symbol) (type_tasks_put s bs x is' js z.lengths k) ∙ sym (ap (put_type x.0) z.right_is) in
      let left_depth = ap type_depth z.left_is in let right_depth = ap type_depth z.right_is in
      goes_split s made known rest (Types i j) e is refl l more after z.grown (λ y. d (p ∙ y ∙ sym q))
      (Splits.types (sym p ∙ z.left_is) (sym q ∙ z.right_is) parts)
      (ap (λ n. 1 + n) (type_tasks_marks is' js))
      (λ x k. sym (put_head_type x.0 bs l.lawful x.1 (type_of s i)) ∙ ap (put_type x.0) (sym p) ∙ equal x k.1 ∙ ap (put_type x.0) q ∙ put_head_type x.0 bs l.lawful x.1 (type_of s j))
      ((λ x k. equal x k), subst (IsMarked (AsksTask s bs) (GivesTask s bs)) (append-nil (type_tasks is' js)) (unmarked s bs (type_tasks is' js) [] unmark tt))
      ((a.0, b.0), type_tasks_have s is' js (sides_of s is' z.left_below (omega (arith, a.1, left_depth))) (sides_of s js z.right_below (omega (arith, b.1, right_depth))))
