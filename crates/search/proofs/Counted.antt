-- Weights and branches of a problem, counted up to a greatest number.
use Rattle.std.proofs.Common.{◌≡◌, ℕ, zero, suc, ◌+◌, ◌*◌, ◌≤◌, ◌<◌, Bool, ◌∙◌, min, refl, sym, ap, List, [], ◌∷◌, ◌++◌, ◌⊎◌, inl, inr, arith, map, length, take, get_or}
use Rattle.std.proofs.lemmas.Bool.{cases_lt}
use Rattle.std.proofs.lemmas.Nat.{mul-le}
use Rattle.std.proofs.Math.Nat.{mul_comm, mul_assoc}
use Rattle.std.proofs.lemmas.List.{take_more}
use Rattle.zm_logic.specs.Tree as tree
use Rattle.zm_logic.specs.Tree.{Form}
use Rattle.zm_logic.specs.View.{form_tree, premise_tree, step_of_form}
use Rattle.zm_logic.specs.declared.problem.Premise.{Premise}
use Rattle.zm_logic.specs.declared.tree.Form.{Form as Code, fold-roll-Form}
use Rattle.zm_logic.specs.declared.tree.Form.TheOpen as layer
use Rattle.zm_logic.specs.declared.tree.Form.TheVariants.{And, Or, Imp, Iff, rolls-And, rolls-Or, rolls-Imp, rolls-Iff}
use Rattle.search.specs.Need.{weight, leaves, leaves_as, weights, all_leaves}

abbrev formulas : List Premise → List Form
formulas ps = map (λ premise. form_tree premise.form) ps

weights_append : (fs : List Form) (g : Form) → weights (fs ++ g ∷ []) ≡ weights fs + weight g
weights_append [] g = omega arith
weights_append (f ∷ fs) g = omega (arith, weights_append fs g)

all_leaves_append : (fs : List Form) (g : Form) → all_leaves (fs ++ g ∷ []) ≡ all_leaves fs * leaves g
all_leaves_append [] g = omega arith
all_leaves_append (f ∷ fs) g = ap (λ n. leaves f * n) (all_leaves_append fs g) ∙ sym (mul_assoc (leaves f) (all_leaves fs) (leaves g))

formulas_append : (ps : List Premise) (p : Premise) → formulas (ps ++ p ∷ []) ≡ formulas ps ++ form_tree p.form ∷ []
formulas_append [] p = refl
formulas_append (q ∷ qs) p = ap (λ fs. form_tree q.form ∷ fs) (formulas_append qs p)

formulas_trees : (ps : List Premise) → map (λ premise. premise.form) (map premise_tree ps) ≡ formulas ps
formulas_trees [] = refl
formulas_trees (p ∷ ps) = ap (λ fs. form_tree p.form ∷ fs) (formulas_trees ps)

-- one premise more
pub weights_more : (ps : List Premise) (i : ℕ) (d : Premise) → i < length ps
    → weights (map (λ premise. form_tree premise.form) (take (i + 1) ps))
    ≡ weights (map (λ premise. form_tree premise.form) (take i ps)) + weight (form_tree (get_or ps i d).form)
weights_more ps i d h =
    rw (take_more ps i d h, formulas_append (take i ps) (get_or ps i d)) (weights_append (formulas (take i ps)) (form_tree (get_or ps i d).form))

pub leaves_more : (ps : List Premise) (i : ℕ) (d : Premise) → i < length ps
    → all_leaves (map (λ premise. form_tree premise.form) (take (i + 1) ps))
    ≡ all_leaves (map (λ premise. form_tree premise.form) (take i ps)) * leaves (form_tree (get_or ps i d).form)
leaves_more ps i d h =
    rw (take_more ps i d h, formulas_append (take i ps) (get_or ps i d)) (all_leaves_append (formulas (take i ps)) (form_tree (get_or ps i d).form))

-- the premises and one formula more
pub weights_with : (ps : List Premise) (g : Form)
    → weights (map (λ premise. premise.form) (map premise_tree ps) ++ g ∷ []) ≡ weights (map (λ premise. form_tree premise.form) ps) + weight g
weights_with ps g = ap (λ fs. weights (fs ++ g ∷ [])) (formulas_trees ps) ∙ weights_append (formulas ps) g

pub leaves_with : (ps : List Premise) (g : Form)
    → all_leaves (map (λ premise. premise.form) (map premise_tree ps) ++ g ∷ []) ≡ all_leaves (map (λ premise. form_tree premise.form) ps) * leaves g
leaves_with ps g = ap (λ fs. all_leaves (fs ++ g ∷ [])) (formulas_trees ps) ∙ all_leaves_append (formulas ps) g

-- a product at most a greatest number, of factors at most that number
zero_or_more : (n : ℕ) → (n ≡ 0) ⊎ (1 ≤ n)
zero_or_more zero = inl refl
zero_or_more (suc n) = inr (omega arith)

one_times : (m b : ℕ) → 1 ≤ b → m ≤ m * b
one_times m b h = let p : m * 1 ≤ m * b = mul-le m 1 m b (omega arith) h in omega arith

least : (a m : ℕ) → m ≤ a → min a m ≡ m
least a m h = omega arith

left_above : (a b m : ℕ) → m ≤ a → (b ≡ 0) ⊎ (1 ≤ b) → min (m * min b m) m ≡ min (a * b) m
left_above a b m h (inl e) = let z : min b m ≡ 0 = omega arith in rw (z, e) (omega arith)
left_above a b m h (inr k) = go (zero_or_more m)
  where
    over : m ≤ a * b
    over = let p = one_times m b k in let q : m * b ≤ a * b = mul-le m b a b h (omega arith) in omega arith

    go : (m ≡ 0) ⊎ (1 ≤ m) → min (m * min b m) m ≡ min (a * b) m
    go (inl e) = rw e (omega arith)
    go (inr l) = least (m * min b m) m (one_times m (min b m) (omega arith)) ∙ sym (least (a * b) m over)

pub times_least : (a b m : ℕ) → min (min a m * min b m) m ≡ min (a * b) m
times_least a b m = go (cases_lt a m) (cases_lt b m)
  where
    go : (a < m) ⊎ (m ≤ a) → (b < m) ⊎ (m ≤ b) → min (min a m * min b m) m ≡ min (a * b) m
    go (inr h) k = let e : min a m ≡ m = omega arith in rw e (left_above a b m h (zero_or_more b))
    go (inl h) (inl k) = let e : min a m ≡ a = omega arith in let d : min b m ≡ b = omega arith in rw (e, d) refl
    go (inl h) (inr k) =
        let e : min b m ≡ m = omega arith in
        rw e (ap (λ n. min n m) (mul_comm (min a m) m) ∙ left_above b a m k (zero_or_more a) ∙ ap (λ n. min n m) (mul_comm b a))

-- the product of numbers that are counted up to a greatest one
pub times_of : (r a b x y m : ℕ) → r ≡ min (a * b) m → a ≡ min x m → b ≡ min y m → r ≡ min (x * y) m
times_of r a b x y m p q s = p ∙ (rw (q, s) refl) ∙ times_least x y m

pub sum_of : (r a b x y m : ℕ) → r ≡ min (a + b) m → min a m ≡ min x m → min b m ≡ min y m → r ≡ min (x + y) m
sum_of r a b x y m p q s = omega arith

-- the branches of two formulas that a connective joins
pub and_tree : (x f g : Code) → x ≡ And f g → tree.both (form_tree f) (form_tree g) ≡ form_tree x
and_tree x f g e = sym (ap form_tree (e ∙ sym (rolls-And f g)) ∙ fold-roll-Form tree.Form step_of_form (layer.And f g))

pub or_tree : (x f g : Code) → x ≡ Or f g → tree.either (form_tree f) (form_tree g) ≡ form_tree x
or_tree x f g e = sym (ap form_tree (e ∙ sym (rolls-Or f g)) ∙ fold-roll-Form tree.Form step_of_form (layer.Or f g))

pub implies_tree : (x f g : Code) → x ≡ Imp f g → tree.implies (form_tree f) (form_tree g) ≡ form_tree x
implies_tree x f g e = sym (ap form_tree (e ∙ sym (rolls-Imp f g)) ∙ fold-roll-Form tree.Form step_of_form (layer.Imp f g))

pub iff_tree : (x f g : Code) → x ≡ Iff f g → tree.iff (form_tree f) (form_tree g) ≡ form_tree x
iff_tree x f g e = sym (ap form_tree (e ∙ sym (rolls-Iff f g)) ∙ fold-roll-Form tree.Form step_of_form (layer.Iff f g))

pub product_of : (v w : Bool) (f' f g' g : Code) (r a b m : ℕ) → f' ≡ f → g' ≡ g → r ≡ min (a * b) m
    → a ≡ min (leaves_as v (form_tree f')) m → b ≡ min (leaves_as w (form_tree g')) m → r ≡ min (leaves_as v (form_tree f) * leaves_as w (form_tree g)) m
product_of v w f' f g' g r a b m i j p q s =
    times_of r a b (leaves_as v (form_tree f')) (leaves_as w (form_tree g')) m p q s
    ∙ ap (λ y. min (leaves_as v (form_tree y) * leaves_as w (form_tree g')) m) i
    ∙ ap (λ y. min (leaves_as v (form_tree f) * leaves_as w (form_tree y)) m) j
