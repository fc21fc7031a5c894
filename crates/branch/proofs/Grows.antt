-- From a branch to the branch of a Step's child, and to a longer table.
use Rattle.std.proofs.Common.{◌≡◌, ℕ, zero, suc, ◌+◌, Bool, true, false, cond, not, refl, ap, sym, subst, ◌∙◌, List, [], ◌∷◌, ◌++◌, inl, inr, Contains, arith, Some, slice_get, filter}
use Rattle.std.proofs.lemmas.List.Elements.{Contains-append_left, Contains-append_right, Contains-append_cases}
use Rattle.zm_logic.specs.Tree.{Form}
use Rattle.zm_logic.specs.Parameter.{Parameter, number, EachIn, IsNot, IsFresh}
use Rattle.zm_logic.specs.Typing.{WellTyped}
use Rattle.zm_logic.specs.Same.{same, has}
use Rattle.zm_logic.proofs.Each.{each}
use Rattle.zm_logic.proofs.Sames.{Contains-here, Contains-there, Contains-cases, Contains-none, only, same-self, same-true}
use Rattle.param_store.specs.RawOffers.{Act, Quantified, quantified, is_quantified, own_part, number_of, at_part, on_with, one}
use Rattle.branch.specs.Branch.{add, extend}
use Rattle.branch.specs.Setting.{Setting}
use Rattle.branch.specs.Sound.{IsSound}
use Rattle.branch.specs.Normal.{Reaches}
use Rattle.branch.specs.BranchOffers.{Kind, opened_kind}
use Rattle.branch.specs.Tableau.{Node, Children, enter, enter_child, is_skipped, after, after_all}
use Rattle.branch.specs.Offered.{Offered}
use Rattle.branch.specs.Introduced.{Above, part_of, IsIntroduced}
use Rattle.branch.proofs.Lists.{get-contains, filter-has}
use Rattle.branch.proofs.Branches.{extend-cases, extend-keeps, extend-has}
use Rattle.branch.proofs.Made.{AreReached}
use Rattle.branch.proofs.Kept.{CarriesTypes, normal_keeps}
use Rattle.branch.proofs.Opened.{shape, quantified_is, binder_is_type, own_fits, part_typed, of_eps, of_meta}
use Rattle.branch.proofs.Sequent.{IsBranch}
use Rattle.branch.proofs.Children.{AllOf, AllIn, on_branch, offered_typed, offered_each}

-- The table.

-- each number keeps its formula
abbrev pub Keeps : List Form → List Form → Type 0
Keeps t u = (n : ℕ) (f : Form) → slice_get t n ≡ Some f → slice_get u n ≡ Some f

push_keeps : (t : List Form) (x : Form) → Keeps t (t ++ x ∷ [])
push_keeps [] x n f e = cc
push_keeps (y ∷ t) x zero f e = e
push_keeps (y ∷ t) x (suc n) f e = push_keeps t x n f e

add_keeps : (t : List Form) (x : Form) → Keeps t (add t x)
add_keeps t x n f e = go (has t x)
  where
    go : (v : Bool) → slice_get (cond v t (t ++ x ∷ [])) n ≡ Some f
    go true = e
    go false = push_keeps t x n f e

extend_keeps : (t fs : List Form) → Keeps t (extend t fs)
extend_keeps t [] n f e = e
extend_keeps t (x ∷ fs) n f e = extend_keeps (add t x) fs n f (add_keeps t x n f e)

pub enter_keeps : (t fs : List Form) → Keeps t (enter t fs)
enter_keeps t fs = extend_keeps t (filter is_quantified fs)

pub child_keeps : (t fs : List Form) (n : Node) → Keeps t (enter_child t fs n)
child_keeps t fs n = go (is_skipped n)
  where
    go : (v : Bool) → Keeps t (cond v t (enter t fs))
    go true = λ m f e. e
    go false = enter_keeps t fs

mutual
  pub after_keeps : (n : Node) (t : List Form) → Keeps t (after t n)
  after_keeps (Node.step k c a ns) t = after_all_keeps ns t
  after_keeps (Node.closed c) t = λ m f e. e
  after_keeps Node.opened t = λ m f e. e
  after_keeps Node.skipped t = λ m f e. e

  pub after_all_keeps : (ns : Children) (t : List Form) → Keeps t (after_all t ns)
  after_all_keeps Children.none t = λ m f e. e
  after_all_keeps (Children.more r f n ns) t =
      λ m g e. after_all_keeps ns (after (enter_child t f n) n) m g (after_keeps n (enter_child t f n) m g (child_keeps t f n m g e))

pub number_found : (t : List Form) (f : Form) → Contains t f → slice_get t (number_of t f) ≡ Some f
number_found [] f h = absurd (Contains-none f h)
number_found (g ∷ t) f h = go (same g f) refl (number_found t f)
  where
    go : (v : Bool) → same g f ≡ v → (Contains t f → slice_get t (number_of t f) ≡ Some f) → slice_get (g ∷ t) (cond (not v) (1 + number_of t f) 0) ≡ Some f
    go true e rest = ap Some (same-true g f e)
    go false e rest = elim (Contains-cases g t f h) [
      | inl i ↦ absurd (let j : same f f ≡ false = subst (λ x. same x f ≡ false) i e in let k = same-self f in cc)
      | inr i ↦ subst (λ n. slice_get (g ∷ t) n ≡ Some f) (let q : suc (number_of t f) ≡ 1 + number_of t f = omega arith in q) (rest i)
    ]

pub contains_kept : (t u : List Form) → Keeps t u → (f : Form) → Contains t f → Contains u f
contains_kept t u k f h = get-contains u (number_of t f) f (k (number_of t f) f (number_found t f h))

pub enter_has : (t fs : List Form) (f : Form) → Contains fs f → is_quantified f ≡ true → Contains (enter t fs) f
enter_has t fs f h e = extend-has t (filter is_quantified fs) f (filter-has is_quantified fs f h e)

-- Lists of facts.

pub all_of : (P : Form → Type 0) (fs : List Form) → AllOf P fs → (f : Form) → Contains fs f → P f
all_of P [] h f m = absurd (Contains-none f m)
all_of P (g ∷ fs) h f m = elim (Contains-cases g fs f m) [ inl i ↦ subst P i h.0 | inr i ↦ all_of P fs h.1 f i ]

pub all_in : (P : Form → Type 0) (cs : List (List Form)) → AllIn P cs → (c : List Form) → Contains cs c → AllOf P c
all_in P [] h c m = absurd (Contains-none c m)
all_in P (d ∷ cs) h c m = elim (Contains-cases d cs c m) [ inl i ↦ subst (AllOf P) i h.0 | inr i ↦ all_in P cs h.1 c i ]

-- what normal forms keep, all normal formulas have
pub reached_all : (s : Setting) (P : Form → Type 0) → ((f g : Form) → Reaches s f g → P f → P g) → (r f : List Form) → AreReached s r f → AllOf P r → AllOf P f
reached_all s P k [] [] h a = tt
reached_all s P k [] (g ∷ f) h a = absurd h
reached_all s P k (x ∷ r) [] h a = absurd h
reached_all s P k (x ∷ r) (g ∷ f) h a = (k x g h.0 a.0, reached_all s P k r f h.1 a.1)

pub reached_one : (s : Setting) (x : Form) (f : List Form) → AreReached s (one x) f → (g : Form) × (f ≡ one g) × Reaches s x g
reached_one s x [] h = absurd h
reached_one s x (g ∷ []) h = (g, refl, h.0)
reached_one s x (g ∷ e ∷ f) h = absurd h.1

-- Branches.

pub introduced_longer : (s : Setting) (t u : List Form) (xs ys : List Above) (b c : List Form) → Keeps t u → ((x : Above) → Contains xs x → Contains ys x)
    → ((f : Form) → Contains b f → Contains c f) → (p : Parameter) → IsIntroduced s t xs b p → IsIntroduced s u ys c p
introduced_longer s t u xs ys b c k w v p i = record {
  from = i.from;
  shape = i.shape;
  result = i.result;
  numbered = k (number p) i.from i.numbered;
  quantified = i.quantified;
  own = i.own;
  stands = v i.from i.stands;
  step = w (record { kind = opened_kind i.shape.kind; act = on_with i.from (part_of p) }) i.step;
  normal = i.normal;
  follows = v i.result i.follows;
}

pub carries_types : (s : Setting) (t : List Form) (xs : List Above) (b : List Form) → ((f : Form) → Contains b f → WellTyped s.symbols f) → CarriesTypes s (IsIntroduced s t xs b)
carries_types s t xs b w = record {
  of_eps = λ n r i. binder_is_type s.symbols (shape i.from i.shape i.quantified) (w i.from i.stands) r (of_eps i.shape.kind i.shape.binder n r i.own);
  of_meta = λ n r i. binder_is_type s.symbols (shape i.from i.shape i.quantified) (w i.from i.stands) r (of_meta i.shape.kind i.shape.binder n r i.own).1;
}

module _ (s : Setting) (sound : IsSound s) (table : List Form) (above : List Above) (b sequent : List Form) (is : IsBranch s table above b sequent) where
  -- a quantified formula of the branch opened with its own part is well typed
  pub own_typed : (f : Form) (q : Quantified) → Contains b f → quantified f ≡ Some q → WellTyped s.symbols (at_part q (own_part (number_of table f) q))
  own_typed f q m e =
      let w = on_branch s sound table above b sequent is f m in
      part_typed s.symbols sound.signature (shape f q e) (own_part (number_of table f) q) w (own_fits s.symbols (number_of table f) (shape f q e) w)

  -- the number of a delta offer doesn't occur
  pub fresh_number : (f : Form) (q : Quantified) → Contains b f → quantified f ≡ Some q
      → ((g : Form) → Reaches s (at_part q (own_part (number_of table f) q)) g → Contains b g → ⊥) → (h : Form) → Contains sequent h → IsFresh (number_of table f) h
  fresh_number f q m e absent h c =
      let n : ℕ = number_of table f in
      each (IsIntroduced s table above b) (IsNot n)
      (λ p i k.
      let at : slice_get table (number p) ≡ Some f = subst (λ x. slice_get table x ≡ Some f) (sym k) (number_found table f (is.numbered f m (quantified_is f q e))) in
      let from : i.from ≡ f = (let j = sym i.numbered ∙ at in cc) in
      let Q : Form → Type 0 = λ x. quantified x ≡ Some i.shape in
      let kind : i.shape ≡ q = (let j = sym (subst Q from i.quantified) ∙ e in cc) in
      let R : Quantified → Type 0 = λ x. own_part (number p) x ≡ part_of p in
      let own : own_part n q ≡ part_of p = subst (λ x. own_part x q ≡ part_of p) k (subst R kind i.own) in
      absent i.result (subst (λ x. Reaches s (at_part q x) i.result) (sym own) (subst (λ x. Reaches s (at_part x (part_of p)) i.result) kind i.normal)) i.follows)
      h (is.introduced h c)

  pub child_branch : (u : List Form) → Keeps table u → {k : Kind} {a : Act} {cs : List (List Form)} → Offered s table b k a cs → (r f : List Form) → Contains cs r → AreReached s r f
      → IsBranch s (enter u f) (record { kind = k; act = a } ∷ above) (extend b f) (f ++ (r ++ sequent))
  child_branch u keeps {k} {a} {cs} offered r f m reached = record { within = within; typed = typed; introduced = introduced; numbered = numbered }
    where
      t : List Form
      t = enter u f

      ys : List Above
      ys = record { kind = k; act = a } ∷ above

      P : Parameter → Type 0
      P = IsIntroduced s (enter u f) (record { kind = k; act = a } ∷ above) (extend b f)

      keeps_all : Keeps table (enter u f)
      keeps_all n x e = enter_keeps u f n x (keeps n x e)

      within : (x : Form) → Contains (extend b f) x → Contains (f ++ (r ++ sequent)) x
      within x h = elim (extend-cases b f x h) [
        | inl i ↦ Contains-append_right f (r ++ sequent) x (Contains-append_right r sequent x (is.within x i))
        | inr i ↦ Contains-append_left f (r ++ sequent) x i
      ]

      raw_typed : AllOf (WellTyped s.symbols) r
      raw_typed = all_in (WellTyped s.symbols) cs (offered_typed s sound table above b sequent is offered) r m

      typed : (x : Form) → Contains (f ++ (r ++ sequent)) x → WellTyped s.symbols x
      typed x h = elim (Contains-append_cases f (r ++ sequent) x h) [
        | inl i ↦ all_of (WellTyped s.symbols) f (reached_all s (WellTyped s.symbols) (λ v w e d. (normal_keeps s sound P v w e d).typed) r f reached raw_typed) x i
        | inr i ↦ elim (Contains-append_cases r sequent x i) [
          | inl j ↦ all_of (WellTyped s.symbols) r raw_typed x j
          | inr j ↦ is.typed x j
        ]
      ]

      carries : CarriesTypes s P
      carries = carries_types s (enter u f) (record { kind = k; act = a } ∷ above) (extend b f) (λ x h. typed x (within x h))

      old : (x : Form) → Contains sequent x → EachIn P x
      old x h =
          each (IsIntroduced s table above b) P
          (introduced_longer s table (enter u f) above (record { kind = k; act = a } ∷ above) b (extend b f) keeps_all (λ y i. Contains-there (record { kind = k; act = a }) above y i) (λ y i. extend-keeps b f y i))
          x (is.introduced x h)

      new : (g : Form) (q : Quantified) → Contains b g → quantified g ≡ Some q → opened_kind q.kind ≡ k → on_with g (own_part (number_of table g) q) ≡ a
          → one (at_part q (own_part (number_of table g) q)) ∷ [] ≡ cs → (p : Parameter) → number p ≡ number_of table g → part_of p ≡ own_part (number_of table g) q → P p
      new g q h e i j l p n w =
          let raw : one (at_part q (own_part (number_of table g) q)) ≡ r = only (one (at_part q (own_part (number_of table g) q))) r (subst (λ x. Contains x r) (sym l) m) in
          let x = reached_one s (at_part q (own_part (number_of table g) q)) f (subst (λ y. AreReached s y f) (sym raw) reached) in
          record {
            from = g;
            shape = q;
            result = x.0;
            numbered = keeps_all (number p) g (subst (λ y. slice_get table y ≡ Some g) (sym n) (number_found table g (is.numbered g h (quantified_is g q e))));
            quantified = e;
            own = ap (λ y. own_part y q) n ∙ sym w;
            stands = extend-keeps b f g h;
            step = subst (Contains (record { kind = k; act = a } ∷ above)) (step_is i j w) (Contains-here (record { kind = k; act = a }) above);
            normal = subst (λ y. Reaches s (at_part q y) x.0) (sym w) x.2;
            follows = extend-has b f x.0 (subst (λ y. Contains y x.0) (sym x.1) (Contains-here x.0 []));
          }
        where
          step_is : opened_kind q.kind ≡ k → on_with g (own_part (number_of table g) q) ≡ a → part_of p ≡ own_part (number_of table g) q
              → ◌≡◌ {A = Above} (record { kind = k; act = a }) (record { kind = opened_kind q.kind; act = on_with g (part_of p) })
          step_is i j w = rw w (rw i (rw j refl))

      raw_each : AllOf (EachIn P) r
      raw_each = all_in (EachIn P) cs (offered_each s sound table above b sequent is P carries (λ x h. old x (is.within x h)) offered new) r m

      introduced : (x : Form) → Contains (f ++ (r ++ sequent)) x → EachIn P x
      introduced x h = elim (Contains-append_cases f (r ++ sequent) x h) [
        | inl i ↦ (all_of (λ y. WellTyped s.symbols y × EachIn P y) f
            (reached_all s (λ y. WellTyped s.symbols y × EachIn P y) (λ v w e d. let x = normal_keeps s sound P v w e d.0 in (x.typed, x.each d.1)) r f reached (both r raw_typed raw_each)) x i).1
        | inr i ↦ elim (Contains-append_cases r sequent x i) [
          | inl j ↦ all_of (EachIn P) r raw_each x j
          | inr j ↦ old x j
        ]
      ]
        where
          both : (xs : List Form) → AllOf (WellTyped s.symbols) xs → AllOf (EachIn P) xs → AllOf (λ y. WellTyped s.symbols y × EachIn P y) xs
          both [] v w = tt
          both (z ∷ xs) v w = ((v.0, w.0), both xs v.1 w.1)

      numbered : (x : Form) → Contains (extend b f) x → is_quantified x ≡ true → Contains (enter u f) x
      numbered x h e = elim (extend-cases b f x h) [
        | inl i ↦ contains_kept table (enter u f) keeps_all x (is.numbered x i e)
        | inr i ↦ enter_has u f x i e
      ]
