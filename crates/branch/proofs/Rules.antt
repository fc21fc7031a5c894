-- An offer is a rule of the calculus: with a derivation for each child's raw formulas added, it gives one.
use Rattle.std.proofs.Common.{◌≡◌, ℕ, Bool, true, false, not, refl, sym, subst, ◌∙◌, List, [], ◌∷◌, ◌++◌, inl, inr, Contains, Some}
use Rattle.std.proofs.lemmas.List.Elements.{Contains-append_right}
use Rattle.std.proofs.lemmas.Bool.{and_from, or_left}
use Rattle.zm_logic.specs.Tree.{Tys, Term, Terms, Form, Connective, Symbol, differ}
use Rattle.zm_logic.specs.Parameter.{IsFresh, IsFreshForAll, Never}
use Rattle.zm_logic.specs.Typing.{HaveTypes, WellTyped, symbol_at, argument_types}
use Rattle.zm_logic.specs.Calculus.{Derives, DerivesEach, differ_each}
use Rattle.zm_logic.specs.Same.{has}
use Rattle.zm_logic.proofs.Sames.{Contains-here, Contains-there, Contains-cases, only, contains-has}
use Rattle.param_store.specs.RawOffers.{Act, one, split, number_of, own_part, at_part}
use Rattle.equality_rules.specs.Equality.{singles, unequal}
use Rattle.branch.specs.Setting.{Setting}
use Rattle.branch.specs.Sound.{IsSound}
use Rattle.branch.specs.Normal.{Reaches}
use Rattle.branch.specs.BranchOffers.{Kind}
use Rattle.branch.specs.Offers.{Child, Offer, has_all, has_some, normals, is_useful}
use Rattle.branch.specs.Tableau.{acted}
use Rattle.branch.specs.Offered.{Offered}
use Rattle.branch.specs.Introduced.{Above}
use Rattle.zm_logic.proofs.Inverted.{well_typed_negation, well_typed_atom, well_typed_left, well_typed_right}
use Rattle.branch.proofs.Made.{AreReached, AreMade, raws}
use Rattle.branch.proofs.Kept.{normal_keeps, one_normal}
use Rattle.branch.proofs.Opened.{shape, own_derives}
use Rattle.branch.proofs.Sequent.{IsBranch}
use Rattle.branch.proofs.Children.{AllOf, declared_once, on_branch, term_instance, type_instance}
use Rattle.branch.proofs.Grows.{own_typed, fresh_number, reached_one}
use Rattle.branch.proofs.Closings.{IsWithin}

abbrev pub Proves : Setting → List Form → Type 0
Proves s gamma = Derives s.symbols s.rules gamma

abbrev pub ProvesAll : Setting → List (List Form) → List Form → Type 0
ProvesAll s [] gamma = Unit {0}
ProvesAll s (c ∷ cs) gamma = Proves s (c ++ gamma) × ProvesAll s cs gamma

split_derives : (s : Setting) (gamma : List Form) (f : Form) → Contains gamma f → (split f ≡ [] → ⊥) → ProvesAll s (split f) gamma → Proves s gamma
split_derives s gamma (Form.negation (Form.negation a)) h n e = Derives.not_not a h e.0
split_derives s gamma (Form.binary Connective.conjunction a b) h n e = Derives.conjunction a b h e.0
split_derives s gamma (Form.negation (Form.binary Connective.disjunction a b)) h n e = Derives.not_or a b h e.0
split_derives s gamma (Form.negation (Form.binary Connective.implication a b)) h n e = Derives.not_implies a b h e.0
split_derives s gamma (Form.binary Connective.disjunction a b) h n e = Derives.disjunction a b h e.0 e.1.0
split_derives s gamma (Form.negation (Form.binary Connective.conjunction a b)) h n e = Derives.not_and a b h e.0 e.1.0
split_derives s gamma (Form.binary Connective.implication a b) h n e = Derives.implication a b h e.0 e.1.0
split_derives s gamma (Form.binary Connective.equivalence a b) h n e = Derives.equivalence a b h e.0 e.1.0
split_derives s gamma (Form.negation (Form.binary Connective.equivalence a b)) h n e = Derives.not_iff a b h e.0 e.1.0
split_derives s gamma f h n e = absurd (n refl)

singles_derive : (s : Setting) (gamma fs : List Form) → ProvesAll s (singles fs) gamma → DerivesEach s.symbols s.rules gamma fs
singles_derive s gamma [] d = DerivesEach.none
singles_derive s gamma (f ∷ fs) d = DerivesEach.more d.0 (singles_derive s gamma fs d.1)

unequal_derive : (s : Setting) (gamma : List Form) (p : ℕ) (x : Symbol) (ts : Tys) (us vs : Terms) → symbol_at s.symbols p ≡ Some x
    → ProvesAll s (unequal (symbol_at s.symbols p) ts us vs) gamma → DerivesEach s.symbols s.rules gamma (differ_each (argument_types x ts) us vs)
unequal_derive s gamma p x ts us vs e d =
    singles_derive s gamma (differ_each (argument_types x ts) us vs) (subst (λ z. ProvesAll s (unequal z ts us vs) gamma) e d)

pub fresh_for_all : (n : ℕ) (gamma : List Form) → ((f : Form) → Contains gamma f → IsFresh n f) → IsFreshForAll n gamma
fresh_for_all n [] h = tt
fresh_for_all n (f ∷ fs) h = (h f (Contains-here f fs), fresh_for_all n fs (λ g m. h g (Contains-there f fs g m)))

-- a child of one formula, whose normal form isn't on the branch
abbrev pub IsNew : Setting → List Form → List (List Form) → Type 0
IsNew s b cs = (x g : Form) → one x ∷ [] ≡ cs → WellTyped s.symbols x → Reaches s x g → Contains b g → ⊥

not_useful : (v : Bool) → v ≡ true → not v ≡ true → ⊥
not_useful true e h = cc
not_useful false e h = cc

pub useful_is_new : (s : Setting) → IsSound s → (b : List Form) (cs : List Child) → AreMade s cs → (o : Offer) → o.children ≡ cs → is_useful b o ≡ true → IsNew s b (raws cs)
useful_is_new s sound b ds made o same useful x g e w n h = go ds made (subst (λ y. not (has_some b (normals y)) ≡ true) same useful) e
  where
    go : (cs : List Child) → AreMade s cs → not (has_some b (normals cs)) ≡ true → one x ∷ [] ≡ raws cs → ⊥
    go [] m u e = cc
    go (c ∷ cs) m u e =
        let i : one x ≡ c.raw = cc in
        let r = reached_one s x c.normal (subst (λ y. AreReached s y c.normal) (sym i) m.0) in
        let j : g ≡ r.0 = one_normal s sound x g r.0 w n r.2 in
        let k : has_all b c.normal ≡ true = subst (λ y. has_all b y ≡ true) (sym r.1) (and_from (has b r.0) true (contains-has b r.0 (subst (Contains b) j h)) refl) in
        not_useful (has_some b (normals (c ∷ cs))) (or_left (has_all b c.normal) (has_some b (normals cs)) k) u

module _ (s : Setting) (sound : IsSound s) (table : List Form) (above : List Above) (b sequent : List Form) (is : IsBranch s table above b sequent) where
  pub offered_derives : (gamma : List Form) → IsWithin gamma sequent → {k : Kind} {a : Act} {cs : List (List Form)} → Offered s table b k a cs
      → IsWithin (acted a) gamma → IsNew s b cs → ProvesAll s cs gamma → Proves s gamma
  offered_derives gamma v (Offered.splits f h e n) w new d =
      split_derives s gamma f (w f (Contains-here f [])) (λ i. n (sym e ∙ i)) (subst (λ cs. ProvesAll s cs gamma) (sym e) d)
  offered_derives gamma v (Offered.opens f q h e) w new d =
      let n = number_of table f in
      own_derives s gamma n (shape f q e) (on_branch s sound table above b sequent is f h) (w f (Contains-here f []))
      (λ i. fresh_for_all n gamma (λ x m. fresh_number s sound table above b sequent is f q h e
      (λ g r c. new (at_part q (own_part n q)) g refl (own_typed s sound table above b sequent is f q h e) r c) x (v x m)))
      d.0
  offered_derives gamma v (Offered.at_term n t u f q made h m i e j) w new d =
      (term_instance s sound table above b sequent is n t u f q made h m i e j).derives gamma (w f (Contains-here f [])) d.0
  offered_derives gamma v (Offered.at_type n u f q made h m e j) w new d =
      (type_instance s sound table above b sequent is n u f q made h m e j).derives gamma (w f (Contains-here f [])) d.0
  offered_derives gamma v (Offered.values t f ts us vs h) w new d =
      let z = well_typed_negation s.symbols (on_branch s sound table above b sequent is (differ t (Term.app f ts us) (Term.app f ts vs)) h) in
      let x = well_typed_left s.symbols z in
      let y = well_typed_right s.symbols z in
      Derives.equal_values t f x.0 ts us vs x.2.0 x.5 (subst (λ c. HaveTypes s.symbols vs (argument_types c ts)) (declared_once s f x.0 y.0 x.2.0 y.2.0) y.5)
      (w (differ t (Term.app f ts us) (Term.app f ts vs)) (Contains-here (differ t (Term.app f ts us) (Term.app f ts vs)) []))
      (unequal_derive s gamma f x.0 ts us vs x.2.0 d)
  offered_derives gamma v (Offered.arguments p ts us vs h k) w new d =
      let x = well_typed_atom s.symbols (on_branch s sound table above b sequent is (Form.atom p ts us) h) in
      let y = well_typed_atom s.symbols (well_typed_negation s.symbols (on_branch s sound table above b sequent is (Form.negation (Form.atom p ts vs)) k)) in
      Derives.equal_arguments p x.0 ts us vs x.1.0 x.4 (subst (λ c. HaveTypes s.symbols vs (argument_types c ts)) (declared_once s p x.0 y.0 x.1.0 y.1.0) y.4)
      (w (Form.atom p ts us) (Contains-here (Form.atom p ts us) (Form.negation (Form.atom p ts vs) ∷ [])))
      (w (Form.negation (Form.atom p ts vs)) (Contains-there (Form.atom p ts us) (Form.negation (Form.atom p ts vs) ∷ []) (Form.negation (Form.atom p ts vs)) (Contains-here (Form.negation (Form.atom p ts vs)) [])))
      (unequal_derive s gamma p x.0 ts us vs x.1.0 d)
  offered_derives gamma v (Offered.first_sides t p q c e h k) w new d =
      Derives.transitive_first t p q c e (w (Form.equal t p q) (Contains-here (Form.equal t p q) (differ t c e ∷ [])))
      (w (differ t c e) (Contains-there (Form.equal t p q) (differ t c e ∷ []) (differ t c e) (Contains-here (differ t c e) []))) d.0 d.1.0
  offered_derives gamma v (Offered.second_sides t p q c e h k) w new d =
      Derives.transitive_second t p q c e (w (Form.equal t p q) (Contains-here (Form.equal t p q) (differ t c e ∷ [])))
      (w (differ t c e) (Contains-there (Form.equal t p q) (differ t c e ∷ []) (differ t c e) (Contains-here (differ t c e) []))) d.0 d.1.0

  alone_within : (f : Form) → Contains b f → IsWithin (f ∷ []) b
  alone_within f h x m = subst (Contains b) (only f x m) h

  both_within : (f g : Form) → Contains b f → Contains b g → IsWithin (f ∷ g ∷ []) b
  both_within f g h k x m = elim (Contains-cases f (g ∷ []) x m) [ inl i ↦ subst (Contains b) i h | inr i ↦ subst (Contains b) (only g x i) k ]

  -- what an offer acts on stands on the branch
  pub acted_within : {k : Kind} {a : Act} {cs : List (List Form)} → Offered s table b k a cs → IsWithin (acted a) b
  acted_within (Offered.splits f h e n) = alone_within f h
  acted_within (Offered.opens f q h e) = alone_within f h
  acted_within (Offered.at_term n t u f q made h m i e j) = alone_within f (term_instance s sound table above b sequent is n t u f q made h m i e j).stands
  acted_within (Offered.at_type n u f q made h m e j) = alone_within f (type_instance s sound table above b sequent is n u f q made h m e j).stands
  acted_within (Offered.values t f ts us vs h) = alone_within (differ t (Term.app f ts us) (Term.app f ts vs)) h
  acted_within (Offered.arguments p ts us vs h k) = both_within (Form.atom p ts us) (Form.negation (Form.atom p ts vs)) h k
  acted_within (Offered.first_sides t p q c e h k) = both_within (Form.equal t p q) (differ t c e) h k
  acted_within (Offered.second_sides t p q c e h k) = both_within (Form.equal t p q) (differ t c e) h k

-- raw formulas of a sequent, with their normal forms added
pub converted : (s : Setting) → IsSound s → (gamma r f : List Form) → AllOf (WellTyped s.symbols) r → AreReached s r f → IsWithin r gamma → Proves s (f ++ gamma) → Proves s gamma
converted s sound gamma [] [] t h w d = d
converted s sound gamma [] (g ∷ f) t h w d = absurd h
converted s sound gamma (x ∷ r) [] t h w d = absurd h
converted s sound gamma (x ∷ r) (g ∷ f) t h w d =
    converted s sound gamma r f t.1 h.1 (λ y m. w y (Contains-there x r y m))
    (Derives.conversion x g (Contains-append_right f gamma x (w x (Contains-here x r))) (normal_keeps s sound Never x g h.0 t.0).congruent d)
