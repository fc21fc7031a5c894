-- A saturated branch falsifies the problem.
use Rattle.std.proofs.Common.{◌≡◌, ℕ, ◌+◌, Bool, true, false, not, cond, refl, ap, sym, subst, ◌∙◌, List, [], ◌∷◌, inl, inr, Contains, map, flat_map, Option, None, Some, All}
use Rattle.std.proofs.lemmas.List.Elements.{All-weaker, All-contains_itself, All-contains, Contains-append_left, Contains-append_right}
use Rattle.zm_logic.specs.Tree.{Form, Problem, Premise}
use Rattle.zm_logic.specs.Same.{same, has}
use Rattle.zm_logic.specs.Truth.{IsQuantifierFree, truth_of, connected, value_of, Falsifies, refuted}
use Rattle.zm_logic.specs.Problem.{IsTypedProblem}
use Rattle.branch.specs.Branch.{extend, closing}
use Rattle.branch.specs.Setting.{Setting}
use Rattle.branch.specs.Tableau.{Node, Children, Leaf, enter, enter_child, after, current, current_of, current_leaf, IsTableau}
use Rattle.branch.specs.Stopping.{IsRoot, Cause, StopsInside, Stopped}
use Rattle.branch.specs.QuantifierFree.{useful_splits}
use Rattle.branch.proofs.Lists.{or-cases}
use Rattle.branch.proofs.Splits.{map-there, offers_are, root_itself, no_root_fault}
use Rattle.branch.proofs.FreeBranches.{leaf_free}
use Rattle.branch.proofs.FreeRoots.{root_free}
use Rattle.valuation.specs.Valuation.{atoms, formulas, problem_atoms, value_on, valuation}
use Rattle.valuation.specs.Laws as laws
use Rattle.zm_logic.proofs.Sames.{Contains-here, Contains-cases, Contains-none, same-self, same-true}
use Rattle.branch.proofs.Branches.{extend-keeps, extend-has}
use Rattle.valuation.proofs.Saturated.{agrees}

abbrev pub branch_or : List Form → Option Leaf → List Form
branch_or b None = b
branch_or b (Some leaf) = leaf.branch

mutual
  -- what stands on a branch stands on each branch below
  pub current-keeps : (n : Node) (t b : List Form) (d : ℕ) (leaf : Leaf) (x : Form) → current t b d n ≡ Some leaf → Contains b x → Contains leaf.branch x
  current-keeps (Node.step k c a ns) t b d leaf x e h = current-keeps_of ns t b (d + 1) leaf x e h
  current-keeps (Node.closed c) t b d leaf x e h = absurd (let q = e in cc)
  current-keeps Node.opened t b d leaf x e h =
      let p : b ≡ leaf.branch = ap (λ o. branch_or b o) e in
      let P : List Form → Type 0 = λ y. Contains y x in subst P p h
  current-keeps Node.skipped t b d leaf x e h = absurd (let q = e in cc)

  pub current-keeps_of : (ns : Children) (t b : List Form) (d : ℕ) (leaf : Leaf) (x : Form) → current_of t b d ns ≡ Some leaf → Contains b x → Contains leaf.branch x
  current-keeps_of Children.none t b d leaf x e h = absurd (let q = e in cc)
  current-keeps_of (Children.more r f n ns) t b d leaf x e h =
      elim (or-cases (current (enter_child t f n) (extend b f) d n) (current_of (after (enter_child t f n) n) b d ns) leaf e) [
        | inl a ↦ current-keeps n (enter_child t f n) (extend b f) d leaf x a (extend-keeps b f x h)
        | inr a ↦ current-keeps_of ns (after (enter_child t f n) n) b d leaf x a h
      ]

pub value-listed : (b list : List Form) (a : Form) → Contains list a → value_of (map (value_on b) list) a ≡ has b a
value-listed b [] a h = absurd (Contains-none a h)
value-listed b (x ∷ list) a h = go (same x a) refl (value-listed b list a)
  where
    go : (v : Bool) → same x a ≡ v → (Contains list a → value_of (map (value_on b) list) a ≡ has b a) → cond v (has b x) (value_of (map (value_on b) list) a) ≡ has b a
    go true e rest = ap (has b) (same-true x a e)
    go false e rest = elim (Contains-cases x list a h) [
      | inl i ↦ absurd (let s : same x a ≡ true = rw (← i) (same-self x) in cc)
      | inr i ↦ rest i
    ]

pub truth-agrees : (v w : Form → Bool) (f : Form) → IsQuantifierFree f → ((a : Form) → Contains (atoms f) a → v a ≡ w a) → truth_of v f ≡ truth_of w f
truth-agrees v w Form.truth i h = refl
truth-agrees v w Form.falsity i h = refl
truth-agrees v w (Form.atom p ts us) i h = h (Form.atom p ts us) (Contains-here (Form.atom p ts us) [])
truth-agrees v w (Form.equal t a b) i h = refl
truth-agrees v w (Form.negation f) i h = ap not (truth-agrees v w f i h)
truth-agrees v w (Form.binary c f g) i h =
    let p = truth-agrees v w f i.0 (λ a k. h a (Contains-append_left (atoms f) (atoms g) a k)) in
    let q = truth-agrees v w g i.1 (λ a k. h a (Contains-append_right (atoms f) (atoms g) a k)) in
    ap (λ x. connected c x (truth_of v g)) p ∙ ap (λ x. connected c (truth_of w f) x) q
truth-agrees v w (Form.quantified q t f) i h = refl
truth-agrees v w (Form.quantified_types q f) i h = refl

pub flat-contains : (fs : List Form) (f a : Form) → Contains fs f → Contains (atoms f) a → Contains (flat_map atoms fs) a
flat-contains [] f a h k = absurd (Contains-none f h)
flat-contains (g ∷ fs) f a h k =
    let P : Form → Type 0 = λ x. Contains (atoms x) a in
    elim (Contains-cases g fs f h) [
      | inl e ↦ Contains-append_left (atoms g) (flat_map atoms fs) a (subst P (sym e) k)
      | inr i ↦ Contains-append_right (atoms g) (flat_map atoms fs) a (flat-contains fs f a i k)
    ]

-- a formula of the problem has the same truth by the valuation as by the branch
pub listed-truth : (b : List Form) (p : Problem) (f : Form) → IsQuantifierFree f → Contains (formulas p) f → truth_of (value_of (valuation b p)) f ≡ truth_of (has b) f
listed-truth b p f i h =
    truth-agrees (value_of (valuation b p)) (has b) f i
    (λ a k. value-listed b (problem_atoms p) a (extend-has [] (flat_map atoms (formulas p)) a (flat-contains (formulas p) f a h k)))

-- a branch with the root's formulas that isn't closed, and where no alpha or beta formula is useful
branch_falsifies : (p : Problem) (b : List Form) → ((x : Form) → Contains (refuted p) x → Contains b x) → closing b ≡ None → useful_splits b ≡ []
    → IsTypedProblem p → All IsQuantifierFree (refuted p) → Falsifies (valuation b p) p
branch_falsifies p b on u o typed free =
    let of : Premise → Form = λ premise. premise.form in
    let ps = map of p.premises in
    let c = p.conjecture in
    let T : Premise → Type 0 = λ premise. truth_of (value_of (valuation b p)) premise.form ≡ true in
    let each : (x : Form) → Contains (refuted p) x → IsQuantifierFree x = λ x h. All-contains IsQuantifierFree (refuted p) x free h in
    let there : (x : Premise) → Contains p.premises x → Contains (refuted p) x.form = λ x h. Contains-append_left ps (Form.negation c ∷ []) x.form (map-there of p.premises x h) in
    let last : Contains (refuted p) (Form.negation c) = Contains-append_right ps (Form.negation c ∷ []) (Form.negation c) (Contains-here (Form.negation c) []) in
    let denied : IsQuantifierFree c = each (Form.negation c) last in
    record {
      premises = All-weaker (Contains p.premises) T
          (λ x h. listed-truth b p x.form (each x.form (there x h)) (Contains-append_left ps (c ∷ []) x.form (map-there of p.premises x h))
          ∙ (agrees b x.form u o (each x.form (there x h))).yes (on x.form (there x h)))
          p.premises (All-contains_itself p.premises);
      conjecture = listed-truth b p c denied (Contains-append_right ps (c ∷ []) c (Contains-here c []))
          ∙ (agrees b c u o denied).no (on (Form.negation c) last);
    }

module _ (p : Problem) (s : Setting) (typed : IsTypedProblem p) (free : All IsQuantifierFree (refuted p)) (unruled : s.rules ≡ []) where
  on_root : (root : List Form) → IsRoot s (refuted p) root → (x : Form) → Contains (refuted p) x → Contains root x
  on_root root is x m = subst (λ b. Contains b x) (root_itself s unruled (refuted p) root is) (extend-has [] (refuted p) x m)

  stopped_falsifies : (root : List Form) (budget : ℕ) (tree : Node) → IsRoot s (refuted p) root → IsTableau s root tree
      → StopsInside s (refuted p) budget tree Cause.saturated → laws.FalsifiesAt p root tree
  stopped_falsifies root budget tree is t h =
      let same : h.root ≡ root = sym (root_itself s unruled (refuted p) h.root h.is_root) ∙ root_itself s unruled (refuted p) root is in
      let e : current_leaf root tree ≡ Some h.leaf = subst (λ b. current_leaf b tree ≡ Some h.leaf) same h.is_current in
      let q = root_free p s root typed free unruled is in
      let r = leaf_free s unruled root tree h.leaf q.0 q.1 t e in
      record {
        leaf = h.leaf;
        is_current = e;
        falsifies = branch_falsifies p h.leaf.branch
            (λ x m. current-keeps tree (enter [] root) root 0 h.leaf x e (on_root root is x m))
            h.unclosed (sym (offers_are s unruled h.leaf.table h.leaf.branch [] r.0 h.stops)) typed free;
      }

  pub saturated_falsifies : (root : List Form) (budget : ℕ) (tree : Node) (why : Cause) → why ≡ Cause.saturated → IsRoot s (refuted p) root → IsTableau s root tree
      → Stopped s (refuted p) budget tree why → laws.FalsifiesAt p root tree
  saturated_falsifies root budget tree why e is t (Stopped.inside h) =
      stopped_falsifies root budget tree is t (subst (StopsInside s (refuted p) budget tree) e h)
  saturated_falsifies root budget tree why e is t (Stopped.at_root before fault h q) = absurd (no_root_fault s unruled (refuted p) before fault h)

pub saturated_tableaux_falsify : laws.SaturatedTableauxFalsify
saturated_tableaux_falsify p s root budget tree typed free unruled is t h =
    saturated_falsifies p s typed free unruled root budget tree Cause.saturated refl is t h
