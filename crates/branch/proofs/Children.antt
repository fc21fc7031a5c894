-- The raw formulas of an offer's children are well typed, and their parameters are those of the branch and the offer's own.
use Rattle.std.proofs.Common.{◌≡◌, ℕ, refl, sym, subst, ◌∙◌, List, [], ◌∷◌, Contains, Some, slice_get}
use Rattle.zm_logic.specs.Tree.{Ty, Tys, Term, Terms, Form, Connective, Opening, Symbol, differ}
use Rattle.zm_logic.specs.Parameter.{Parameter, number, Never, EachIn, EachInTypes, EachInTerms}
use Rattle.zm_logic.specs.Typing.{AreTypes, HasType, HaveTypes, WellTyped, IsSignature, symbol_at, how_many, argument_types}
use Rattle.zm_logic.specs.Calculus.{Derives, differ_each}
use Rattle.zm_logic.proofs.Each.{each_types}
use Rattle.zm_logic.proofs.Typed.{no_parameters}
use Rattle.param_store.specs.RawOffers.{Act, Quantified, quantified, on_with, one, split, own_part, number_of, at_part}
use Rattle.unify.specs.Binding.{Binding}
use Rattle.equality_rules.specs.Instances.{in_order}
use Rattle.equality_rules.specs.Equality.{singles, unequal}
use Rattle.branch.specs.Setting.{Setting}
use Rattle.branch.specs.Sound.{IsSound}
use Rattle.branch.specs.BranchOffers.{Kind, opened_kind}
use Rattle.branch.specs.Offered.{Solves, Offered}
use Rattle.branch.specs.Introduced.{Above, part_of, IsIntroduced}
use Rattle.zm_logic.proofs.Inverted.{well_typed_negation, first_part, second_part, well_typed_atom, well_typed_left, well_typed_right, well_typed_equality}
use Rattle.branch.proofs.Arguments.{argument_types_are}
use Rattle.branch.proofs.Kept.{CarriesTypes}
use Rattle.branch.proofs.Bound.{EachInBinding, PutsType, forms_each, terms_each, forms_put, terms_put}
use Rattle.branch.proofs.Opened.{shape, Fits, part_typed, own_fits, instance_derives, of_meta, of_type_meta, part_each, types_instance_each, own_each}
use Rattle.branch.proofs.Sequent.{IsBranch}

abbrev pub AllOf : (Form → Type 0) → List Form → Type 0
AllOf P [] = Unit {0}
AllOf P (f ∷ fs) = P f × AllOf P fs

abbrev pub AllIn : (Form → Type 0) → List (List Form) → Type 0
AllIn P [] = Unit {0}
AllIn P (c ∷ cs) = AllOf P c × AllIn P cs

pub all_singles : (P : Form → Type 0) (fs : List Form) → AllOf P fs → AllIn P (singles fs)
all_singles P [] h = tt
all_singles P (f ∷ fs) h = ((h.0, tt), all_singles P fs h.1)

-- a fact that a formula has exactly where its parts have it
pub record OfParts (P : Form → Type 0) : Type 0 where
  pub up : (f : Form) → P f → P (Form.negation f)
  pub down : (f : Form) → P (Form.negation f) → P f
  pub first : (c : Connective) (f g : Form) → P (Form.binary c f g) → P f
  pub second : (c : Connective) (f g : Form) → P (Form.binary c f g) → P g

pub split_all : (P : Form → Type 0) → OfParts P → (f : Form) → P f → AllIn P (split f)
split_all P o (Form.negation (Form.negation a)) h = ((o.down a (o.down (Form.negation a) h), tt), tt)
split_all P o (Form.binary Connective.conjunction a b) h = ((o.first Connective.conjunction a b h, (o.second Connective.conjunction a b h, tt)), tt)
split_all P o (Form.negation (Form.binary Connective.disjunction a b)) h =
    let i = o.down (Form.binary Connective.disjunction a b) h in
    ((o.up a (o.first Connective.disjunction a b i), (o.up b (o.second Connective.disjunction a b i), tt)), tt)
split_all P o (Form.negation (Form.binary Connective.implication a b)) h =
    let i = o.down (Form.binary Connective.implication a b) h in
    ((o.first Connective.implication a b i, (o.up b (o.second Connective.implication a b i), tt)), tt)
split_all P o (Form.binary Connective.disjunction a b) h =
    ((o.first Connective.disjunction a b h, tt), ((o.second Connective.disjunction a b h, tt), tt))
split_all P o (Form.negation (Form.binary Connective.conjunction a b)) h =
    let i = o.down (Form.binary Connective.conjunction a b) h in
    ((o.up a (o.first Connective.conjunction a b i), tt), ((o.up b (o.second Connective.conjunction a b i), tt), tt))
split_all P o (Form.binary Connective.implication a b) h =
    ((o.up a (o.first Connective.implication a b h), tt), ((o.second Connective.implication a b h, tt), tt))
split_all P o (Form.binary Connective.equivalence a b) h =
    let x = o.first Connective.equivalence a b h in let y = o.second Connective.equivalence a b h in
    ((x, (y, tt)), ((o.up a x, (o.up b y, tt)), tt))
split_all P o (Form.negation (Form.binary Connective.equivalence a b)) h =
    let i = o.down (Form.binary Connective.equivalence a b) h in
    let x = o.first Connective.equivalence a b i in let y = o.second Connective.equivalence a b i in
    ((x, (o.up b y, tt)), ((o.up a x, (y, tt)), tt))
split_all P o f h = rest f
  where
    rest : (f : Form) → AllIn P []
    rest f = tt

pub typed_parts : (s : Setting) → OfParts (WellTyped s.symbols)
typed_parts s = record {
  up = λ f h. WellTyped.negation h;
  down = λ f h. well_typed_negation s.symbols h;
  first = λ c f g h. first_part s.symbols h;
  second = λ c f g h. second_part s.symbols h;
}

pub each_parts : (P : Parameter → Type 0) → OfParts (EachIn P)
each_parts P = record { up = λ f h. h; down = λ f h. h; first = λ c f g h. h.0; second = λ c f g h. h.1 }

-- Equality.

differ_typed : (s : Setting) (ts : Tys) (us vs : Terms) → AreTypes s.symbols 0 ts → HaveTypes s.symbols us ts → HaveTypes s.symbols vs ts
    → AllOf (WellTyped s.symbols) (differ_each ts us vs)
differ_typed s Tys.none us vs w h k = tt
differ_typed s (Tys.more t ts) Terms.none vs w h k = tt
differ_typed s (Tys.more t ts) (Terms.more u us) Terms.none w h k = tt
differ_typed s (Tys.more t ts) (Terms.more u us) (Terms.more v vs) w h k =
    (WellTyped.negation (WellTyped.equal w.0 h.0 k.0), differ_typed s ts us vs w.1 h.1 k.1)

differ_all : (P : Parameter → Type 0) (ts : Tys) (us vs : Terms) → EachInTypes P ts → EachInTerms P us → EachInTerms P vs → AllOf (EachIn P) (differ_each ts us vs)
differ_all P Tys.none us vs w h k = tt
differ_all P (Tys.more t ts) Terms.none vs w h k = tt
differ_all P (Tys.more t ts) (Terms.more u us) Terms.none w h k = tt
differ_all P (Tys.more t ts) (Terms.more u us) (Terms.more v vs) w h k = ((w.0, h.0, k.0), differ_all P ts us vs w.1 h.1 k.1)

pub declared_once : (s : Setting) (p : ℕ) (d e : Symbol) → symbol_at s.symbols p ≡ Some d → symbol_at s.symbols p ≡ Some e → e ≡ d
declared_once s p d e h k = let i : Some d ≡ Some e = sym h ∙ k in cc

pub unequal_typed : (s : Setting) → IsSignature s.symbols → (p : ℕ) (d e : Symbol) (ts : Tys) (us vs : Terms)
    → symbol_at s.symbols p ≡ Some d → symbol_at s.symbols p ≡ Some e → d.types ≡ how_many ts → AreTypes s.symbols 0 ts
    → HaveTypes s.symbols us (argument_types d ts) → HaveTypes s.symbols vs (argument_types e ts)
    → AllIn (WellTyped s.symbols) (unequal (symbol_at s.symbols p) ts us vs)
unequal_typed s sig p d e ts us vs h k n w x y =
    subst (λ z. AllIn (WellTyped s.symbols) (unequal z ts us vs)) (sym h)
    (all_singles (WellTyped s.symbols) (differ_each (argument_types d ts) us vs)
    (differ_typed s (argument_types d ts) us vs (argument_types_are s.symbols sig p d ts h n w) x
    (subst (λ z. HaveTypes s.symbols vs (argument_types z ts)) (declared_once s p d e h k) y)))

pub unequal_each : (s : Setting) → IsSignature s.symbols → (P : Parameter → Type 0) → CarriesTypes s P → (p : ℕ) (d : Symbol) (ts : Tys) (us vs : Terms)
    → symbol_at s.symbols p ≡ Some d → EachInTypes P ts → EachInTerms P us → EachInTerms P vs → AllIn (EachIn P) (unequal (symbol_at s.symbols p) ts us vs)
unequal_each s sig P c p d ts us vs h w x y =
    subst (λ z. AllIn (EachIn P) (unequal z ts us vs)) (sym h)
    (all_singles (EachIn P) (differ_each (argument_types d ts) us vs)
    (differ_all P (argument_types d ts) us vs
    (types_instance_each s P c ts d.arguments w (each_types Never P (λ p v. absurd v) d.arguments (no_parameters s.symbols sig p d h).arguments)) x y))

-- Instances.

-- the facts of the bindings of sides on the branch
module _ (s : Setting) (b : List Form) (typed : (f : Form) → Contains b f → WellTyped s.symbols f) where
  pub solved_each : (P : Parameter → Type 0) → ((f : Form) → Contains b f → EachIn P f) → (made : List Binding) → Solves b made
      → (x : Binding) → Contains (in_order made) x → EachInBinding P x
  solved_each P e made (Solves.of_pair f g h k u) x m = forms_each P u (e f h) (e (Form.negation g) k) x m
  solved_each P e made (Solves.of_swapped f g h k u) x m = forms_each P u (e (Form.negation f) h) (e g k) x m
  solved_each P e made (Solves.of_sides t v w h u) x m = let d = e (differ t v w) h in terms_each P u d.1 d.2 x m

  pub solved_types : (made : List Binding) → Solves b made → (x : Binding) → Contains (in_order made) x → PutsType s.symbols x
  solved_types made (Solves.of_pair f g h k u) x m = forms_put s.symbols u (typed f h) (well_typed_negation s.symbols (typed (Form.negation g) k)) x m
  solved_types made (Solves.of_swapped f g h k u) x m = forms_put s.symbols u (well_typed_negation s.symbols (typed (Form.negation f) h)) (typed g k) x m
  solved_types made (Solves.of_sides t v w h u) x m =
      let d = well_typed_negation s.symbols (typed (differ t v w) h) in
      terms_put s.symbols t u (well_typed_left s.symbols d) (well_typed_right s.symbols d) x m

-- the formula of a number that stands on the branch, and a part that it may be opened with
pub record IsInstance (s : Setting) (b : List Form) (f : Form) (q : Quantified) (w : Opening) : Type 0 where
  pub stands : Contains b f
  pub fits : Fits s.symbols q.binder w
  pub derives : (gamma : List Form) → Contains gamma f → Derives s.symbols s.rules (at_part q w ∷ gamma) → Derives s.symbols s.rules gamma

-- what introduced the parameter is the quantified formula of its number
record IsNumbered (b : List Form) (f : Form) (q : Quantified) (p : Parameter) : Type 0 where
  stands : Contains b f
  own : own_part (number p) q ≡ part_of p

numbered_by : (s : Setting) (table : List Form) (above : List Above) (b : List Form) (p : Parameter) (f : Form) (q : Quantified)
    → IsIntroduced s table above b p → slice_get table (number p) ≡ Some f → quantified f ≡ Some q → IsNumbered b f q p
numbered_by s table above b p f q i e h =
    let j : i.from ≡ f = (let k = sym i.numbered ∙ e in cc) in
    let Q : Form → Type 0 = λ x. quantified x ≡ Some i.shape in
    let l : i.shape ≡ q = (let k = sym (subst Q j i.quantified) ∙ h in cc) in
    record { stands = subst (Contains b) j i.stands; own = subst (λ x. own_part (number p) x ≡ part_of p) l i.own }

module _ (s : Setting) (sound : IsSound s) (table : List Form) (above : List Above) (b sequent : List Form) (is : IsBranch s table above b sequent) where
  pub on_branch : (f : Form) → Contains b f → WellTyped s.symbols f
  on_branch f m = is.typed f (is.within f m)

  each_on_branch : (f : Form) → Contains b f → EachIn (IsIntroduced s table above b) f
  each_on_branch f m = is.introduced f (is.within f m)

  -- the formula of an instance is a gamma formula of the branch, and what is put for its metavariable fits
  pub term_instance : (n : ℕ) (t : Ty) (u : Term) (f : Form) (q : Quantified) (made : List Binding) → Solves b made → Contains (in_order made) (Binding.of_term n t u)
      → HasType s.symbols u t → slice_get table n ≡ Some f → quantified f ≡ Some q → IsInstance s b f q (Opening.of_term u)
  term_instance n t u f q made h m i e j =
      let x = solved_each s b on_branch (IsIntroduced s table above b) each_on_branch made h (Binding.of_term n t u) m in
      let y = numbered_by s table above b (Parameter.meta n t) f q x.0 e j in
      let z = of_meta q.kind q.binder n t y.own in
      let k = subst (λ c. Fits s.symbols c (Opening.of_term u)) (sym z.1) i in
      record { stands = y.stands; fits = k; derives = λ gamma. instance_derives s gamma (shape f q j) z.0 (Opening.of_term u) k }

  pub type_instance : (n : ℕ) (u : Ty) (f : Form) (q : Quantified) (made : List Binding) → Solves b made → Contains (in_order made) (Binding.of_type n u)
      → slice_get table n ≡ Some f → quantified f ≡ Some q → IsInstance s b f q (Opening.of_type u)
  type_instance n u f q made h m e j =
      let x = solved_each s b on_branch (IsIntroduced s table above b) each_on_branch made h (Binding.of_type n u) m in
      let y = numbered_by s table above b (Parameter.type_meta n) f q x.0 e j in
      let z = of_type_meta q.kind q.binder n y.own in
      let k = subst (λ c. Fits s.symbols c (Opening.of_type u)) (sym z.1) (solved_types s b on_branch made h (Binding.of_type n u) m) in
      record { stands = y.stands; fits = k; derives = λ gamma. instance_derives s gamma (shape f q j) z.0 (Opening.of_type u) k }

  opened_typed : (f : Form) (q : Quantified) (w : Opening) → Contains b f → quantified f ≡ Some q → Fits s.symbols q.binder w → WellTyped s.symbols (at_part q w)
  opened_typed f q w h e k = part_typed s.symbols sound.signature (shape f q e) w (on_branch f h) k

  pub offered_typed : {k : Kind} {a : Act} {cs : List (List Form)} → Offered s table b k a cs → AllIn (WellTyped s.symbols) cs
  offered_typed (Offered.splits f h e n) = subst (AllIn (WellTyped s.symbols)) e (split_all (WellTyped s.symbols) (typed_parts s) f (on_branch f h))
  offered_typed (Offered.opens f q h e) =
      let n = number_of table f in ((opened_typed f q (own_part n q) h e (own_fits s.symbols n (shape f q e) (on_branch f h)), tt), tt)
  offered_typed (Offered.at_term n t u f q made h m i e j) =
      let x = term_instance n t u f q made h m i e j in ((opened_typed f q (Opening.of_term u) x.stands j x.fits, tt), tt)
  offered_typed (Offered.at_type n u f q made h m e j) =
      let x = type_instance n u f q made h m e j in ((opened_typed f q (Opening.of_type u) x.stands j x.fits, tt), tt)
  offered_typed (Offered.values t f ts us vs h) =
      let w = well_typed_negation s.symbols (on_branch (differ t (Term.app f ts us) (Term.app f ts vs)) h) in
      let x = well_typed_left s.symbols w in
      let y = well_typed_right s.symbols w in
      unequal_typed s sound.signature f x.0 y.0 ts us vs x.2.0 y.2.0 x.2.1 x.4 x.5 y.5
  offered_typed (Offered.arguments p ts us vs h k) =
      let x = well_typed_atom s.symbols (on_branch (Form.atom p ts us) h) in
      let y = well_typed_atom s.symbols (well_typed_negation s.symbols (on_branch (Form.negation (Form.atom p ts vs)) k)) in
      unequal_typed s sound.signature p x.0 y.0 ts us vs x.1.0 y.1.0 x.1.1 x.3 x.4 y.4
  offered_typed (Offered.first_sides t u v w x h k) =
      let i = on_branch (Form.equal t u v) h in
      let j = well_typed_negation s.symbols (on_branch (differ t w x) k) in
      let it = well_typed_equality s.symbols i in (
        (WellTyped.negation (WellTyped.equal it (well_typed_left s.symbols j) (well_typed_left s.symbols i)), tt),
        ((WellTyped.negation (WellTyped.equal it (well_typed_right s.symbols i) (well_typed_right s.symbols j)), tt), tt),
      )
  offered_typed (Offered.second_sides t u v w x h k) =
      let i = on_branch (Form.equal t u v) h in
      let j = well_typed_negation s.symbols (on_branch (differ t w x) k) in
      let it = well_typed_equality s.symbols i in (
        (WellTyped.negation (WellTyped.equal it (well_typed_left s.symbols j) (well_typed_right s.symbols i)), tt),
        ((WellTyped.negation (WellTyped.equal it (well_typed_left s.symbols i) (well_typed_right s.symbols j)), tt), tt),
      )

  -- the parameters of the children, where P holds of those of the branch and of the one that the offer opens with
  pub offered_each : (P : Parameter → Type 0) → CarriesTypes s P → ((f : Form) → Contains b f → EachIn P f) → {k : Kind} {a : Act} {cs : List (List Form)}
      → Offered s table b k a cs
      → ((f : Form) (q : Quantified) → Contains b f → quantified f ≡ Some q → opened_kind q.kind ≡ k → on_with f (own_part (number_of table f) q) ≡ a
      → one (at_part q (own_part (number_of table f) q)) ∷ [] ≡ cs
      → (p : Parameter) → number p ≡ number_of table f → part_of p ≡ own_part (number_of table f) q → P p)
      → AllIn (EachIn P) cs
  offered_each P c d (Offered.splits f h e n) own = subst (AllIn (EachIn P)) e (split_all (EachIn P) (each_parts P) f (d f h))
  offered_each P c d (Offered.opens f q h e) own =
      let n = number_of table f in
      ((part_each s P c (shape f q e) (own_part n q) (d f h) (own_each P n (shape f q e) (d f h) (own f q h e refl refl refl)), tt), tt)
  offered_each P c d (Offered.at_term n t u f q made h m i e j) own =
      let x = term_instance n t u f q made h m i e j in
      ((part_each s P c (shape f q j) (Opening.of_term u) (d f x.stands) (solved_each s b on_branch P d made h (Binding.of_term n t u) m).1, tt), tt)
  offered_each P c d (Offered.at_type n u f q made h m e j) own =
      let x = type_instance n u f q made h m e j in
      ((part_each s P c (shape f q j) (Opening.of_type u) (d f x.stands) (solved_each s b on_branch P d made h (Binding.of_type n u) m).1, tt), tt)
  offered_each P c d (Offered.values t f ts us vs h) own =
      let w = well_typed_left s.symbols (well_typed_negation s.symbols (on_branch (differ t (Term.app f ts us) (Term.app f ts vs)) h)) in
      let x = d (differ t (Term.app f ts us) (Term.app f ts vs)) h in
      unequal_each s sound.signature P c f w.0 ts us vs w.2.0 x.1.0 x.1.1 x.2.1
  offered_each P c d (Offered.arguments p ts us vs h k) own =
      let w = well_typed_atom s.symbols (on_branch (Form.atom p ts us) h) in
      let x = d (Form.atom p ts us) h in
      let y = d (Form.negation (Form.atom p ts vs)) k in
      unequal_each s sound.signature P c p w.0 ts us vs w.1.0 x.0 x.1 y.1
  offered_each P c d (Offered.first_sides t u v w x h k) own =
      let i = d (Form.equal t u v) h in
      let j = d (differ t w x) k in
      (((i.0, j.1, i.1), tt), (((i.0, i.2, j.2), tt), tt))
  offered_each P c d (Offered.second_sides t u v w x h k) own =
      let i = d (Form.equal t u v) h in
      let j = d (differ t w x) k in
      (((i.0, j.1, i.2), tt), (((i.0, i.1, j.2), tt), tt))
