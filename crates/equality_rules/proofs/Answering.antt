-- From the instances of two forms or two terms to what formulas of a branch offer.
use Rattle.std.proofs.Common.{◌≡◌, ◌≢◌, ◌≤◌, Bool, true, false, cond, Option, None, Some, List, [], ◌++◌, option_map, append-nil, refl, ap, sym, subst, ◌∙◌, arith, Result, Ok, Err, IfOk, IfErr}
use Rattle.std.proofs.lemmas.Option.{none-some, same_Some, cond_some}
use Rattle.zm_logic.specs.Tree.{Ty, Term, Form, Side, Symbol, differ}
use Rattle.term_store.specs.Trees.{Tables}
use Rattle.param_store.specs.RawOffers.{Raw}
use Rattle.param_store.specs.Depth.{deepest}
use Rattle.param_store.specs.Fault.{IfDeepAt}
use Rattle.param_store.specs.View.{AreRaws}
use Rattle.param_store.specs.declared.offer.RawOffer.{RawOffer}
use Rattle.param_store.specs.declared.fault.OfferFault.{OfferFault}
use Rattle.param_store.specs.declared.fault.OfferFault.TheVariants as faults
use Rattle.unify.specs.Binding.{Binding}
use Rattle.unify.specs.Unification.{UnifiesForms, UnifiesTerms}
use Rattle.equality_rules.specs.Equality.{pair_steps, value_steps}
use Rattle.equality_rules.specs.Pairs.{Opposites, opposites, opposites_by, alike, denied_of, FormsDiffer, TermsDiffer, FormInstances, TermInstances, PairOffers, SingleOffers}
use Rattle.equality_rules.specs.Refused.{AreBounded, AreRefused, PairIsBounded, PairIsRefused, SingleIsBounded, SingleIsRefused}
use Rattle.equality_rules.specs.Offered.{IsRefused, sides}
use Rattle.equality_rules.proofs.Offers.{raws_none}

-- what a negation denies
pub denied_some : (f g : Form) → Some g ≡ denied_of f → f ≡ Form.negation g
denied_some Form.truth g e = absurd (none-some g (sym e))
denied_some Form.falsity g e = absurd (none-some g (sym e))
denied_some (Form.atom p ts us) g e = absurd (none-some g (sym e))
denied_some (Form.equal t a b) g e = absurd (none-some g (sym e))
denied_some (Form.negation f) g e = ap Form.negation (sym (same_Some g f e))
denied_some (Form.binary c f h) g e = absurd (none-some g (sym e))
denied_some (Form.quantified q t f) g e = absurd (none-some g (sym e))
denied_some (Form.quantified_types q f) g e = absurd (none-some g (sym e))

-- the opposites that two sides are of
pub sides_some : (x : Option Opposites) (p : Form × Form) → Some p ≡ option_map sides x → (o : Opposites) × (x ≡ Some o) × (sides o ≡ p)
sides_some None p e = absurd (none-some p (sym e))
sides_some (Some o) p e = (o, refl, sym (same_Some p (sides o) e))

pub sides_none : (x : Option Opposites) → None ≡ option_map sides x → x ≡ None
sides_none None e = refl
sides_none (Some o) e = absurd (none-some (sides o) e)

module _ (symbols : List Symbol) (table : List Form) (equality : Bool) (plain : equality ≡ false) where
  module _ (earlier later : Form) (o : Opposites) (e : opposites earlier later ≡ Some o) where
    abbrev pub Unifier : List Binding → Type 0
    Unifier = UnifiesForms o.left o.right

    abbrev pub Differ : Type 0
    Differ = FormsDiffer o.left o.right

    pub pair_bounded : ((made : List Binding) → Unifier made → AreBounded made) → PairIsBounded earlier later
    pair_bounded h p made k u =
        let same : o ≡ p = same_Some o p (sym e ∙ k) in
        h made (subst (λ q. UnifiesForms q.left q.right made) (sym same) u)

    pub pair_offers : (rs : List Raw) → FormInstances symbols table o.left o.right rs → PairOffers symbols table equality earlier later rs
    pair_offers rs h =
        subst (PairOffers symbols table equality earlier later) (ap (λ b. rs ++ cond b (pair_steps symbols o.plain o.denied) []) plain ∙ append-nil rs)
        (PairOffers.opposed o rs e h)

    pub pair_refused : (side : Side) → AreRefused symbols table Unifier Differ side → PairIsRefused symbols table equality earlier later side
    pair_refused side (AreRefused.binding made u h k) = PairIsRefused.binding o made u e h k
    pair_refused side (AreRefused.child rs f b i k) = PairIsRefused.child rs f (pair_bounded b) (pair_offers rs i) (k later)

  module _ (f : Form) (t : Ty) (u v : Term) (e : f ≡ differ t u v) where
    single_offers_at : (rs : List Raw) → TermInstances symbols table u v rs → SingleOffers symbols table equality (differ t u v) rs
    single_offers_at rs h =
        subst (SingleOffers symbols table equality (differ t u v)) (ap (λ b. rs ++ cond b (value_steps symbols (differ t u v) u v) []) plain ∙ append-nil rs)
        (SingleOffers.inequation t u v rs h)

    pub single_offers : (rs : List Raw) → TermInstances symbols table u v rs → SingleOffers symbols table equality f rs
    single_offers rs h = subst (λ g. SingleOffers symbols table equality g rs) (sym e) (single_offers_at rs h)

    pub single_bounded : ((made : List Binding) → UnifiesTerms u v made → AreBounded made) → SingleIsBounded f
    single_bounded h s a b made k w =
        let same : differ t u v ≡ differ s a b = sym e ∙ k in
        let left : u ≡ a = cc in
        let right : v ≡ b = cc in
        h made (subst (λ x. UnifiesTerms x v made) (sym left) (subst (λ y. UnifiesTerms a y made) (sym right) w))

    pub single_refused : (side : Side) → AreRefused symbols table (UnifiesTerms u v) (TermsDiffer u v) side → SingleIsRefused symbols table equality f side
    single_refused side (AreRefused.binding made w h k) = SingleIsRefused.binding t u v made w e h k
    single_refused side (AreRefused.child rs g b i k) = SingleIsRefused.child rs g (single_bounded b) (single_offers rs i) (k f)

-- a refused place, by another reason
pub refused_as : (s : Tables) (P Q : Side → Type 0) → ((side : Side) → P side → Q side) → (fault : OfferFault) → IfDeepAt (IsRefused s P) fault → IfDeepAt (IsRefused s Q) fault
refused_as s P Q to faults.Memory h = tt
refused_as s P Q to (faults.Deep at) h = (h.0, to _ h.1)

pub deep_as : (s : Tables) (P Q : Side → Type 0) → ((side : Side) → P side → Q side) → (r : Result (List RawOffer) OfferFault)
    → IfErr r (IfDeepAt (IsRefused s P)) → IfErr r (IfDeepAt (IsRefused s Q))
deep_as s P Q to (Ok rs) h = tt
deep_as s P Q to (Err x) h = refused_as s P Q to x h

-- opposites are alike
alike_by : (f g : Form) (d e : Option Form) (o : Opposites) → opposites_by f g d e ≡ Some o → alike o.left o.right ≡ true
alike_by f g None None o h = absurd (none-some o h)
alike_by f g None (Some b) o h =
    let c = cond_some (alike f b) (record { plain = f; denied = b; left = f; right = b }) o h in
    subst (λ x. alike x.left x.right ≡ true) c.1 c.0
alike_by f g (Some b) None o h =
    let c = cond_some (alike b g) (record { plain = g; denied = b; left = b; right = g }) o h in
    subst (λ x. alike x.left x.right ≡ true) c.1 c.0
alike_by f g (Some b) (Some c) o h = absurd (none-some o h)

pub sides_alike : (earlier later f g : Form) → Some (f, g) ≡ option_map sides (opposites earlier later) → alike f g ≡ true
sides_alike earlier later f g e =
    let x = sides_some (opposites earlier later) (f, g) e in
    subst (λ p. alike p.0 p.1 ≡ true) x.2 (alike_by earlier later (denied_of earlier) (denied_of later) x.0 x.1)

-- what a formula or two of a branch offer, from the instances of two forms or terms
module _ (symbols : List Symbol) (table : List Form) (equality : Bool) (plain : equality ≡ false) (u : Tables) (r : Result (List RawOffer) OfferFault) where
  module _ (earlier later f g : Form) (e : Some (f, g) ≡ option_map sides (opposites earlier later)) where
    found : (o : Opposites) × (opposites earlier later ≡ Some o) × (sides o ≡ (f, g))
    found = sides_some (opposites earlier later) (f, g) e

    pair_here : (rs : List Raw) → FormInstances symbols table f g rs → PairOffers symbols table equality earlier later rs
    pair_here rs h =
        pair_offers symbols table equality plain earlier later found.0 found.1 rs
        (subst (λ p. FormInstances symbols table p.0 p.1 rs) (sym found.2) h)

    refused_here : (side : Side) → AreRefused symbols table (UnifiesForms f g) (FormsDiffer f g) side → PairIsRefused symbols table equality earlier later side
    refused_here side h =
        pair_refused symbols table equality plain earlier later found.0 found.1 side
        (subst (λ p. AreRefused symbols table (UnifiesForms p.0 p.1) (FormsDiffer p.0 p.1) side) (sym found.2) h)

    pub pair_answer : IfOk r (λ rs. (os : List Raw) × FormInstances symbols table f g os × (deepest os ≤ 2000) × AreRaws u os rs)
        → IfOk r (λ rs. (os : List Raw) × PairOffers symbols table equality earlier later os × (deepest os ≤ 2000) × AreRaws u os rs)
    pair_answer h = pair_by r h
      where
        pair_by : (q : Result (List RawOffer) OfferFault) → IfOk q (λ rs. (os : List Raw) × FormInstances symbols table f g os × (deepest os ≤ 2000) × AreRaws u os rs)
            → IfOk q (λ rs. (os : List Raw) × PairOffers symbols table equality earlier later os × (deepest os ≤ 2000) × AreRaws u os rs)
        pair_by (Ok rs) k = (k.0, pair_here k.0 k.1, k.2, k.3)
        pair_by (Err x) k = tt

    pub pair_deep : IfErr r (IfDeepAt (IsRefused u (AreRefused symbols table (UnifiesForms f g) (FormsDiffer f g))))
        → IfErr r (IfDeepAt (IsRefused u (PairIsRefused symbols table equality earlier later)))
    pair_deep h = deep_as u (AreRefused symbols table (UnifiesForms f g) (FormsDiffer f g)) (PairIsRefused symbols table equality earlier later) refused_here r h

  module _ (f : Form) (t : Ty) (a b : Term) (e : f ≡ differ t a b) where
    pub single_answer : IfOk r (λ rs. (os : List Raw) × TermInstances symbols table a b os × (deepest os ≤ 2000) × AreRaws u os rs)
        → IfOk r (λ rs. (os : List Raw) × SingleOffers symbols table equality f os × (deepest os ≤ 2000) × AreRaws u os rs)
    single_answer h = single_by r h
      where
        single_by : (q : Result (List RawOffer) OfferFault) → IfOk q (λ rs. (os : List Raw) × TermInstances symbols table a b os × (deepest os ≤ 2000) × AreRaws u os rs)
            → IfOk q (λ rs. (os : List Raw) × SingleOffers symbols table equality f os × (deepest os ≤ 2000) × AreRaws u os rs)
        single_by (Ok rs) k = (k.0, single_offers symbols table equality plain f t a b e k.0 k.1, k.2, k.3)
        single_by (Err x) k = tt

    pub single_deep : IfErr r (IfDeepAt (IsRefused u (AreRefused symbols table (UnifiesTerms a b) (TermsDiffer a b))))
        → IfErr r (IfDeepAt (IsRefused u (SingleIsRefused symbols table equality f)))
    single_deep h =
        deep_as u (AreRefused symbols table (UnifiesTerms a b) (TermsDiffer a b)) (SingleIsRefused symbols table equality f)
        (single_refused symbols table equality plain f t a b e) r h

-- nothing is offered
module _ (symbols : List Symbol) (table : List Form) (equality : Bool) (t : Tables) (rs : List RawOffer) (empty : rs ≡ []) where
  pub no_pair : (earlier later : Form) → None ≡ option_map sides (opposites earlier later)
      → (os : List Raw) × PairOffers symbols table equality earlier later os × (deepest os ≤ 2000) × AreRaws t os rs
  no_pair earlier later e =
      ([], PairOffers.none (sides_none (opposites earlier later) e), omega arith, subst (AreRaws t []) (sym empty) (raws_none t))

  pub no_inequation : (f : Form) → ((s : Ty) (a b : Term) → f ≢ differ s a b)
      → (os : List Raw) × SingleOffers symbols table equality f os × (deepest os ≤ 2000) × AreRaws t os rs
  no_inequation f h = ([], SingleOffers.other h, omega arith, subst (AreRaws t []) (sym empty) (raws_none t))
