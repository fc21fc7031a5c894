-- A branch that isn't closed, and where no alpha or beta formula is useful, makes all its formulas true.
use Rattle.std.proofs.Common.{◌≡◌, Bool, true, false, ◌&&◌, ◌||◌, not, refl, ap, List, [], ◌∷◌, ◌⊎◌, inl, inr, Contains, None}
use Rattle.std.proofs.lemmas.Bool.{and_right, or_right, and_parts, or_cases}
use Rattle.zm_logic.specs.Tree.{Form, Connective, both, either, implies, iff}
use Rattle.zm_logic.specs.Same.{has}
use Rattle.zm_logic.specs.Truth.{truth_of, IsQuantifierFree}
use Rattle.param_store.specs.RawOffers.{one, two, split}
use Rattle.branch.specs.Branch.{closing}
use Rattle.branch.specs.Offers.{has_all}
use Rattle.branch.specs.QuantifierFree.{useful_splits}
use Rattle.branch.proofs.Splits.{settled_whole}
use Rattle.zm_logic.proofs.Sames.{has-contains, contains-has}
use Rattle.valuation.proofs.Unclosed.{unclosed-pair, unclosed-alone}

pub on_one : (b : List Form) (f : Form) → has_all b (one f) ≡ true → Contains b f
on_one b f e = has-contains b f (and_parts (has b f) true e).0

pub on_two : (b : List Form) (f g : Form) → has_all b (two f g) ≡ true → Contains b f × Contains b g
on_two b f g e = let p = and_parts (has b f) (has b g && true) e in (has-contains b f p.0, on_one b g p.1)

pub alpha : (b : List Form) (f : Form) (fs : List Form) → useful_splits b ≡ [] → Contains b f → split f ≡ fs ∷ [] → has_all b fs ≡ true
alpha b f fs e h p = elim (or_cases (has_all b fs) false (settled_whole b f fs [] e h p)) [ inl i ↦ i | inr i ↦ absurd (let q = i in cc) ]

pub beta : (b : List Form) (f : Form) (fs gs : List Form) → useful_splits b ≡ [] → Contains b f → split f ≡ fs ∷ gs ∷ [] → (has_all b fs ≡ true) ⊎ (has_all b gs ≡ true)
beta b f fs gs e h p =
    elim (or_cases (has_all b fs) (has_all b gs || false) (settled_whole b f fs (gs ∷ []) e h p)) [
      | inl i ↦ inl i
      | inr i ↦ elim (or_cases (has_all b gs) false i) [ inl j ↦ inr j | inr j ↦ absurd (let q = j in cc) ]
    ]

-- what the branch says of a formula is so, where exactly the atoms on the branch are true
pub record Agrees (b : List Form) (f : Form) : Type 0 where
  pub yes : Contains b f → truth_of (has b) f ≡ true
  pub no : Contains b (Form.negation f) → truth_of (has b) f ≡ false

pub agrees : (b : List Form) (f : Form) → closing b ≡ None → useful_splits b ≡ [] → IsQuantifierFree f → Agrees b f
agrees b Form.truth e o i = record { yes = λ h. refl; no = λ h. let q = unclosed-alone b (Form.negation Form.truth) e h in cc }
agrees b Form.falsity e o i = record { yes = λ h. let q = unclosed-alone b Form.falsity e h in cc; no = λ h. refl }
agrees b (Form.atom p ts xs) e o i =
    let a = Form.atom p ts xs in record {
      yes = λ h. contains-has b a h;
      no = λ h. go b a (has b a) refl (λ k. unclosed-pair b a e k h);
    }
  where
    go : (b : List Form) (a : Form) (v : Bool) → has b a ≡ v → (Contains b a → ⊥) → has b a ≡ false
    go b a true q r = absurd (r (has-contains b a q))
    go b a false q r = q
agrees b (Form.equal t x y) e o i = absurd i
agrees b (Form.negation f) e o i =
    let a = agrees b f e o i in record {
      yes = λ h. ap not (a.no h);
      no = λ h. ap not (a.yes (on_one b f (alpha b (Form.negation (Form.negation f)) (one f) o h refl)));
    }
agrees b (Form.binary Connective.conjunction f g) e o i =
    let p = agrees b f e o i.0 in let q = agrees b g e o i.1 in record {
      yes = λ h. let c = on_two b f g (alpha b (both f g) (two f g) o h refl) in rw (p.yes c.0, q.yes c.1) refl;
      no = λ h. elim (beta b (Form.negation (both f g)) (one (Form.negation f)) (one (Form.negation g)) o h refl) [
        | inl c ↦ rw (p.no (on_one b (Form.negation f) c)) refl
        | inr c ↦ let d = q.no (on_one b (Form.negation g) c) in and_right (truth_of (has b) f) (truth_of (has b) g) d
      ];
    }
agrees b (Form.binary Connective.disjunction f g) e o i =
    let p = agrees b f e o i.0 in let q = agrees b g e o i.1 in record {
      yes = λ h. elim (beta b (either f g) (one f) (one g) o h refl) [
        | inl c ↦ rw (p.yes (on_one b f c)) refl
        | inr c ↦ or_right (truth_of (has b) f) (truth_of (has b) g) (q.yes (on_one b g c))
      ];
      no = λ h. let c = on_two b (Form.negation f) (Form.negation g) (alpha b (Form.negation (either f g)) (two (Form.negation f) (Form.negation g)) o h refl) in rw (p.no c.0, q.no c.1) refl;
    }
agrees b (Form.binary Connective.implication f g) e o i =
    let p = agrees b f e o i.0 in let q = agrees b g e o i.1 in record {
      yes = λ h. elim (beta b (implies f g) (one (Form.negation f)) (one g) o h refl) [
        | inl c ↦ rw (p.no (on_one b (Form.negation f) c)) refl
        | inr c ↦ or_right (not (truth_of (has b) f)) (truth_of (has b) g) (q.yes (on_one b g c))
      ];
      no = λ h. let c = on_two b f (Form.negation g) (alpha b (Form.negation (implies f g)) (two f (Form.negation g)) o h refl) in rw (p.yes c.0, q.no c.1) refl;
    }
agrees b (Form.binary Connective.equivalence f g) e o i =
    let p = agrees b f e o i.0 in let q = agrees b g e o i.1 in record {
      yes = λ h. elim (beta b (iff f g) (two f g) (two (Form.negation f) (Form.negation g)) o h refl) [
        | inl c ↦ let d = on_two b f g c in rw (p.yes d.0, q.yes d.1) refl
        | inr c ↦ let d = on_two b (Form.negation f) (Form.negation g) c in rw (p.no d.0, q.no d.1) refl
      ];
      no = λ h. elim (beta b (Form.negation (iff f g)) (two f (Form.negation g)) (two (Form.negation f) g) o h refl) [
        | inl c ↦ let d = on_two b f (Form.negation g) c in rw (p.yes d.0, q.no d.1) refl
        | inr c ↦ let d = on_two b (Form.negation f) g c in rw (p.no d.0, q.yes d.1) refl
      ];
    }
agrees b (Form.quantified q t f) e o i = absurd i
agrees b (Form.quantified_types q f) e o i = absurd i
