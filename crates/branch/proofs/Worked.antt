-- The worked examples, by their rules.
use Rattle.std.proofs.Common.{◌≡◌, ◌≤◌, ℕ, zero, suc, Bool, true, false, refl, subst, arith, List, [], ◌∷◌, None, Some, Option, filter}
use Rattle.std.specs.Prelude.{codes}
use Rattle.equality_rules.proofs.Unifying.{no_unifier, one_of_forms}
use Rattle.zm_logic.specs.Tree.{Ty, Form, Opening, Symbol, differ}
use Rattle.zm_logic.specs.Measure.{depth}
use Rattle.zm_logic.specs.Typing.{individual}
use Rattle.param_store.specs.RawOffers.{Act, on_with, one}
use Rattle.unify.specs.Equation.{Equation, TypeParts, TermParts, FormParts}
use Rattle.unify.specs.Binding.{Binding}
use Rattle.unify.specs.Unification.{Binds, Unifies, UnifiesForms}
use Rattle.equality_rules.specs.Refused.{AreBounded}
use Rattle.equality_rules.specs.Instances.{InstancesOf}
use Rattle.equality_rules.specs.Pairs.{FormsDiffer}
use Rattle.equality_rules.specs.Equality.{on_pair}
use Rattle.branch.specs.Setting.{Setting}
use Rattle.branch.specs.Normal.{Made, MakesAll}
use Rattle.branch.specs.BranchOffers.{Kind, Placed, Entry, BindingEntries, SingleEntries, PairEntries, PairsWith, EntriesFrom, AreRawOffers}
use Rattle.branch.specs.Offers.{Child, Offer, offer_of, MakesForm, MakesChild, MakesOffer, is_useful, IsOfferAt}
use Rattle.branch.specs.Worked as worked
use Rattle.branch.specs.Worked.{plain, unary, constant, type_predicate, p, some_p, no_p, e0, m1, q, all_q, not_q, a, b, a_is_b}
use Rattle.branch.proofs.NoRules.{itself}

-- an entry for an offer with one child of one formula
abbrev entry : Kind → Act → Form → Form → ℕ → Option ℕ → Placed
entry k a f blamed j i = record { kind = k; raw = record { act = a; children = one f ∷ [] }; blamed = blamed; later = j; earlier = i }

abbrev pub child : Form → List Child
child f = record { raw = one f; normal = one f } ∷ []

module _ (symbols : List Symbol) (n : ℕ) (v : Bool) where
  pub one_made : (k : Kind) (a : Act) (f blamed : Form) (j : ℕ) (i : Option ℕ) → depth f ≤ 2000
      → MakesOffer (plain symbols n v) (Entry.offer (entry k a f blamed j i)) (Made.made (offer_of (entry k a f blamed j i) (child f)))
  one_made k a f blamed j i d =
      MakesOffer.made (MakesAll.more (MakesChild.made (MakesAll.more (MakesForm.normal d (itself f n f)) MakesAll.none)) MakesAll.none)

-- the offer at place 0 of a branch, from its raw offers
module _ (symbols : List Symbol) (n : ℕ) (v : Bool) (table branch : List Form) where
  pub first_offer : (es : List Entry) (all listed : List Offer) (o : Offer) → AreRawOffers (plain symbols n v) table branch es
      → MakesAll (MakesOffer (plain symbols n v)) es (Made.made all) → filter (is_useful branch) all ≡ o ∷ listed
      → IsOfferAt (plain symbols n v) table branch 0 o.kind o.act o.children
  first_offer es all listed o raw made e = record {
    listed = o ∷ listed;
    offers = record { entries = es; raw = raw; all = all; made = made; useful = e };
    offer = o;
    at = refl;
    same_kind = refl;
    same_act = refl;
    same_children = refl;
  }

-- where one list of bindings is the unifier, and is bounded, every unifier is
one_bounded : (f g : Form) (made : List Binding) → UnifiesForms f g made → AreBounded made → (also : List Binding) → UnifiesForms f g also → AreBounded also
one_bounded f g made u h also v = subst AreBounded (one_of_forms f g made also u v) h

-- Over terms.

module _ (n : ℕ) (v : Bool) where
  abbrev s : Setting
  s = plain (unary ∷ []) n v

  abbrev table : List Form
  table = some_p ∷ no_p ∷ []

  abbrev delta : Placed
  delta = entry Kind.delta (on_with some_p (Opening.of_term e0)) (p e0) some_p 0 None

  abbrev gamma : Placed
  gamma = entry Kind.gamma (on_with no_p (Opening.of_term m1)) (Form.negation (p m1)) no_p 1 None

  abbrev instance : Placed
  instance = entry Kind.instance (on_with no_p (Opening.of_term e0)) (Form.negation (p e0)) no_p 3 (Some 2)

  -- the raw offers with what stands behind the first formulas
  behind : (fs : List Form) (es : List Entry) → EntriesFrom s table false (some_p ∷ no_p ∷ []) fs es
      → EntriesFrom s table false [] (some_p ∷ no_p ∷ fs) (Entry.offer delta ∷ Entry.offer gamma ∷ es)
  behind fs es h =
      EntriesFrom.more (SingleEntries.other (λ t x y e. cc)) PairsWith.none
      (EntriesFrom.more (SingleEntries.other (λ t x y e. cc)) (PairsWith.more (PairEntries.none refl) PairsWith.none) h)

  after_p : (fs : List Form) (es : List Entry) → EntriesFrom s table false (some_p ∷ no_p ∷ p e0 ∷ []) fs es
      → EntriesFrom s table false (some_p ∷ no_p ∷ []) (p e0 ∷ fs) es
  after_p fs es h =
      EntriesFrom.more (SingleEntries.other (λ t x y e. cc)) (PairsWith.more (PairEntries.none refl) (PairsWith.more (PairEntries.none refl) PairsWith.none)) h

  unified : UnifiesForms (p e0) (p m1) (Binding.of_term 1 individual e0 ∷ [])
  unified = (
    Equation.of_terms e0 m1 ∷ [],
    FormParts.atoms (TermParts.more TermParts.none) TypeParts.none,
    Unifies.binds (λ q. cc) (Binds.right_term (λ k j q. cc) refl tt) Unifies.done,
  )

  bounded : AreBounded (Binding.of_term 1 individual e0 ∷ [])
  bounded zero d h = omega arith
  bounded (suc i) d h = absurd (omega arith)

  with_p : PairEntries s table false 3 2 (p e0) (Form.negation (p m1)) (Entry.offer instance ∷ [])
  with_p =
      PairEntries.opposed (record { plain = p e0; denied = p m1; left = p e0; right = p m1 }) refl
      (BindingEntries.listed (one_bounded (p e0) (p m1) (Binding.of_term 1 individual e0 ∷ []) unified bounded) (InstancesOf.unified (Binding.of_term 1 individual e0 ∷ []) unified))

  after_not_p : EntriesFrom s table false (some_p ∷ no_p ∷ p e0 ∷ []) (Form.negation (p m1) ∷ []) (Entry.offer instance ∷ [])
  after_not_p =
      EntriesFrom.more (SingleEntries.other (λ t x y e. cc)) (PairsWith.more (PairEntries.none refl) (PairsWith.more (PairEntries.none refl) (PairsWith.more with_p PairsWith.none))) EntriesFrom.none

  abbrev first : Offer
  first = offer_of delta (child (p e0))

  abbrev second : Offer
  second = offer_of gamma (child (Form.negation (p m1)))

  abbrev third : Offer
  third = offer_of instance (child (Form.negation (p e0)))

  made_first : MakesOffer s (Entry.offer delta) (Made.made first)
  made_first = one_made (unary ∷ []) n v Kind.delta (on_with some_p (Opening.of_term e0)) (p e0) some_p 0 None (omega arith)

  made_second : MakesOffer s (Entry.offer gamma) (Made.made second)
  made_second = one_made (unary ∷ []) n v Kind.gamma (on_with no_p (Opening.of_term m1)) (Form.negation (p m1)) no_p 1 None (omega arith)

  made_third : MakesOffer s (Entry.offer instance) (Made.made third)
  made_third = one_made (unary ∷ []) n v Kind.instance (on_with no_p (Opening.of_term e0)) (Form.negation (p e0)) no_p 3 (Some 2) (omega arith)

  offered_first : IsOfferAt s table (some_p ∷ no_p ∷ []) 0 first.kind first.act first.children
  offered_first =
      first_offer (unary ∷ []) n v table (some_p ∷ no_p ∷ []) (Entry.offer delta ∷ Entry.offer gamma ∷ []) (first ∷ second ∷ []) (second ∷ []) first
      (behind [] [] EntriesFrom.none) (MakesAll.more made_first (MakesAll.more made_second MakesAll.none)) refl

  offered_second : IsOfferAt s table (some_p ∷ no_p ∷ p e0 ∷ []) 0 second.kind second.act second.children
  offered_second =
      first_offer (unary ∷ []) n v table (some_p ∷ no_p ∷ p e0 ∷ []) (Entry.offer delta ∷ Entry.offer gamma ∷ []) (first ∷ second ∷ []) [] second
      (behind (p e0 ∷ []) [] (after_p [] [] EntriesFrom.none)) (MakesAll.more made_first (MakesAll.more made_second MakesAll.none)) refl

  offered_third : IsOfferAt s table (some_p ∷ no_p ∷ p e0 ∷ Form.negation (p m1) ∷ []) 0 third.kind third.act third.children
  offered_third =
      first_offer (unary ∷ []) n v table (some_p ∷ no_p ∷ p e0 ∷ Form.negation (p m1) ∷ [])
      (Entry.offer delta ∷ Entry.offer gamma ∷ Entry.offer instance ∷ []) (first ∷ second ∷ third ∷ []) [] third
      (behind (p e0 ∷ Form.negation (p m1) ∷ []) (Entry.offer instance ∷ []) (after_p (Form.negation (p m1) ∷ []) (Entry.offer instance ∷ []) after_not_p))
      (MakesAll.more made_first (MakesAll.more made_second (MakesAll.more made_third MakesAll.none))) refl

pub instance_over_terms : worked.InstanceOverTerms
instance_over_terms n v = record {
  tableau = record {
    lawful =
        (refl, offered_first n v, (refl, (refl, offered_second n v, (refl, (refl, offered_third n v, (refl, refl, tt, λ z. refl)), tt, λ z. refl)), tt, λ z. refl));
    entered = refl;
    high = omega arith;
  };
  finished = refl;
  picked = refl;
}

-- Over types.

module _ (n : ℕ) (v : Bool) where
  abbrev types : Setting
  types = plain (type_predicate ∷ []) n v

  abbrev numbers : List Form
  numbers = all_q ∷ []

  abbrev opens : Placed
  opens = entry Kind.gamma (on_with all_q (Opening.of_type (Ty.meta 0))) (q (Ty.meta 0)) all_q 0 None

  abbrev at_type : Placed
  at_type = entry Kind.instance (on_with all_q (Opening.of_type individual)) (q individual) all_q 2 (Some 1)

  behind_types : (fs : List Form) (es : List Entry) → EntriesFrom types numbers false (all_q ∷ not_q ∷ []) fs es
      → EntriesFrom types numbers false [] (all_q ∷ not_q ∷ fs) (Entry.offer opens ∷ es)
  behind_types fs es h =
      EntriesFrom.more (SingleEntries.other (λ t x y e. cc)) PairsWith.none
      (EntriesFrom.more (SingleEntries.other (λ t x y e. cc)) (PairsWith.more (PairEntries.none refl) PairsWith.none) h)

  types_unified : UnifiesForms (q individual) (q (Ty.meta 0)) (Binding.of_type 0 individual ∷ [])
  types_unified = (
    Equation.of_types individual (Ty.meta 0) ∷ [],
    FormParts.atoms TermParts.none (TypeParts.more TypeParts.none),
    Unifies.binds (λ q. cc) (Binds.right_type (λ k q. cc) refl tt) Unifies.done,
  )

  types_bounded : AreBounded (Binding.of_type 0 individual ∷ [])
  types_bounded zero d h = omega arith
  types_bounded (suc i) d h = absurd (omega arith)

  with_not_q : PairEntries types numbers false 2 1 not_q (q (Ty.meta 0)) (Entry.offer at_type ∷ [])
  with_not_q =
      PairEntries.opposed (record { plain = q (Ty.meta 0); denied = q individual; left = q individual; right = q (Ty.meta 0) }) refl
      (BindingEntries.listed (one_bounded (q individual) (q (Ty.meta 0)) (Binding.of_type 0 individual ∷ []) types_unified types_bounded)
      (InstancesOf.unified (Binding.of_type 0 individual ∷ []) types_unified))

  after_q : EntriesFrom types numbers false (all_q ∷ not_q ∷ []) (q (Ty.meta 0) ∷ []) (Entry.offer at_type ∷ [])
  after_q =
      EntriesFrom.more (SingleEntries.other (λ t x y e. cc)) (PairsWith.more (PairEntries.none refl) (PairsWith.more with_not_q PairsWith.none)) EntriesFrom.none

  abbrev opened : Offer
  opened = offer_of opens (child (q (Ty.meta 0)))

  abbrev instanced : Offer
  instanced = offer_of at_type (child (q individual))

  made_opened : MakesOffer types (Entry.offer opens) (Made.made opened)
  made_opened = one_made (type_predicate ∷ []) n v Kind.gamma (on_with all_q (Opening.of_type (Ty.meta 0))) (q (Ty.meta 0)) all_q 0 None (omega arith)

  made_instanced : MakesOffer types (Entry.offer at_type) (Made.made instanced)
  made_instanced = one_made (type_predicate ∷ []) n v Kind.instance (on_with all_q (Opening.of_type individual)) (q individual) all_q 2 (Some 1) (omega arith)

  offered_opened : IsOfferAt types numbers (all_q ∷ not_q ∷ []) 0 opened.kind opened.act opened.children
  offered_opened =
      first_offer (type_predicate ∷ []) n v numbers (all_q ∷ not_q ∷ []) (Entry.offer opens ∷ []) (opened ∷ []) [] opened
      (behind_types [] [] EntriesFrom.none) (MakesAll.more made_opened MakesAll.none) refl

  offered_instanced : IsOfferAt types numbers (all_q ∷ not_q ∷ q (Ty.meta 0) ∷ []) 0 instanced.kind instanced.act instanced.children
  offered_instanced =
      first_offer (type_predicate ∷ []) n v numbers (all_q ∷ not_q ∷ q (Ty.meta 0) ∷ []) (Entry.offer opens ∷ Entry.offer at_type ∷ []) (opened ∷ instanced ∷ []) [] instanced
      (behind_types (q (Ty.meta 0) ∷ []) (Entry.offer at_type ∷ []) after_q) (MakesAll.more made_opened (MakesAll.more made_instanced MakesAll.none)) refl

pub instance_over_types : worked.InstanceOverTypes
instance_over_types n v = record {
  tableau = record {
    lawful = (refl, offered_opened n v, (refl, (refl, offered_instanced n v, (refl, refl, tt, λ z. refl)), tt, λ z. refl));
    entered = refl;
    high = omega arith;
  };
  finished = refl;
  picked = refl;
}

-- Equal arguments.

constants_differ : FormsDiffer (p a) (p b)
constants_differ s e = cc

module _ (n : ℕ) (v : Bool) where
  abbrev symbols : List Symbol
  symbols = unary ∷ constant ∷ record constant { name = codes "b" } ∷ []

  abbrev equal : Setting
  equal = plain symbols n v

  abbrev branch : List Form
  branch = p a ∷ a_is_b ∷ Form.negation (p b) ∷ []

  abbrev arguments : Placed
  arguments = entry Kind.equality (on_pair (p a) (p b) false) (differ individual a b) (Form.negation (p b)) 2 (Some 0)

  with_atom : PairEntries equal [] true 2 0 (p a) (Form.negation (p b)) (Entry.offer arguments ∷ [])
  with_atom =
      PairEntries.opposed (record { plain = p a; denied = p b; left = p a; right = p b }) refl
      (BindingEntries.listed (λ made u. absurd (no_unifier (p a) (p b) constants_differ made u)) (InstancesOf.apart constants_differ))

  equality_raw : AreRawOffers equal [] branch (Entry.offer arguments ∷ [])
  equality_raw =
      EntriesFrom.more (SingleEntries.other (λ t x y e. cc)) PairsWith.none
      (EntriesFrom.more (SingleEntries.other (λ t x y e. cc)) (PairsWith.more (PairEntries.none refl) PairsWith.none)
      (EntriesFrom.more (SingleEntries.other (λ t x y e. cc)) (PairsWith.more with_atom (PairsWith.more (PairEntries.none refl) PairsWith.none)) EntriesFrom.none))

  abbrev stepped : Offer
  stepped = offer_of arguments (child (differ individual a b))

  offered_equal : IsOfferAt equal [] branch 0 stepped.kind stepped.act stepped.children
  offered_equal =
      first_offer symbols n v [] branch (Entry.offer arguments ∷ []) (stepped ∷ []) [] stepped equality_raw
      (MakesAll.more (one_made symbols n v Kind.equality (on_pair (p a) (p b) false) (differ individual a b) (Form.negation (p b)) 2 (Some 0) (omega arith)) MakesAll.none) refl

pub equal_arguments : worked.EqualArguments
equal_arguments n v = record {
  tableau = record { lawful = (refl, offered_equal n v, (refl, refl, tt, λ z. refl)); entered = refl; high = omega arith };
  finished = refl;
  picked = refl;
}
